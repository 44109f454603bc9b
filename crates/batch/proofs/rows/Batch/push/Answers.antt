use Rattle.std.proofs.Common.{arith}
use Rattle.std.proofs.lemmas.List.{take_more_set, length-take-le}
use Rattle.batch.proofs.rows.Batch.push.Goals as goal

pub returns : goal.returns
returns c = let b = c.args.self.now in take_more_set b.rows b.count c.args.entry (omega (arith, c.requires, length-take-le b.count b.rows (omega (arith, b.few, b.full)), b.full))
