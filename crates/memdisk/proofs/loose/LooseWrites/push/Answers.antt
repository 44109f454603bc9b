use Rattle.std.proofs.Common.{arith}
use Rattle.std.proofs.lemmas.List.{take_more_set}
use Rattle.memdisk.proofs.loose.LooseWrites.push.Goals as goal

pub returns : goal.returns
returns c =
    let l = c.args.self.now in
    take_more_set l.writes l.count c.args.write (omega arith)
