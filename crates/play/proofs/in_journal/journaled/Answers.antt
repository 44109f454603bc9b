use Rattle.journal.specs.Model.{model}
use Rattle.play.proofs.Keeping.{starts_running}
use Rattle.play.proofs.in_journal.journaled.Goals as goal

pub returns-clause-running : goal.returns-clause-running
returns-clause-running g c =
    let cold = c.recover_until.new.cold in
    starts_running cold.accepted c.recover_until.result (g.D.Disk.medium cold.disk) (model g.D.Disk.medium c.new.result) c.new.ensures c.recover_until.ensures.accepted c.recover_until.ensures.starts
