use Rattle.journal_law.proofs.Worked.{worked_run}
use Rattle.journal_law.proofs.laws.worked_run.Goals as goal

pub returns : goal.returns
returns c = worked_run
