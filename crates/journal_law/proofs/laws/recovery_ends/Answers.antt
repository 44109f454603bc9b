use Rattle.journal_law.proofs.Ends.{recovery_ends}
use Rattle.journal_law.proofs.laws.recovery_ends.Goals as goal

pub returns : goal.returns
returns c = recovery_ends
