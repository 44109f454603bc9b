use Rattle.journal_law.proofs.Ends.{recovery_idles}
use Rattle.journal_law.proofs.laws.recovery_idles.Goals as goal

pub returns : goal.returns
returns c = recovery_idles
