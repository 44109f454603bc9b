use Rattle.journal_law.proofs.Running.{lawful_runs}
use Rattle.journal_law.proofs.laws.runs_are_lawful.Goals as goal

pub returns : goal.returns
returns c = lawful_runs
