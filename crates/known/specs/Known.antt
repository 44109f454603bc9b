-- Cases with known outcomes.
use Rattle.std.specs.Prelude.{◌≡◌, [], ◌∷◌, ℕ, get_or}
use Rattle.disk.specs.Medium.{Block, good, bad, Medium, current, cut}
use Rattle.retry.specs.Retried.{retried}
use Rattle.ordered_law.specs.Known.{KnownOrdered}
use Rattle.journal_law.specs.Known.{KnownJournal}

-- firm block a, and b and then c loose at its place
abbrev pub two_loose : Block → Block → Block → Medium
two_loose a b c = record { firm = a ∷ []; loose = record { place = 0; bytes = b } ∷ (record { place = 0; bytes = c } ∷ []); plan = [] }

-- what the place shows after a cut with this choice
abbrev pub shown_after : ℕ → Block → Block → Block → Block
shown_after choice a b c = get_or (current (cut choice (two_loose a b c))) 0 []

pub record KnownOutcomes : Type 0 where
  -- a plan of four bads, seen through one retry layer
  pub four_bads : retried (bad ∷ (bad ∷ (bad ∷ (bad ∷ [])))) ≡ bad ∷ (good ∷ [])
  pub none_stand : (a b c : Block) → shown_after 0 a b c ≡ a
  pub first_stands : (a b c : Block) → shown_after 1 a b c ≡ b
  pub second_stands : (a b c : Block) → shown_after 2 a b c ≡ c
  pub both_stand : (a b c : Block) → shown_after 3 a b c ≡ c
  -- precedences, and the last marks of the ordered cache
  pub ordered : KnownOrdered
  -- heads, byte for byte, and the last marks of the journaled cache
  pub journal : KnownJournal
