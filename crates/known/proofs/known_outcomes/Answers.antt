use mathlib.Core.Path.{refl}
use Rattle.ordered_law.proofs.Knowing.{known_ordered}
use Rattle.journal_law.proofs.Worked.{known_journal}
use Rattle.known.proofs.known_outcomes.Goals as goal

pub returns : goal.returns
returns c = record { four_bads = refl; none_stand = λ x y z. refl; first_stands = λ x y z. refl; second_stands = λ x y z. refl; both_stand = λ x y z. refl; ordered = known_ordered; journal = known_journal }
