-- A disk of two blocks that never fails.
use Rattle.std.specs.Prelude.{ℕ, cond, is_none, ◌&&◌, List, [], ◌∷◌, replicate, ◌==◌, Some, None, Option}
use Rattle.disk.specs.Medium.{Write, Medium, Effect, join, settle}

abbrev pub loose_in : Option (List ℕ) → List Write
loose_in None = []
loose_in (Some bytes) = record { place = 0; bytes = bytes } ∷ []

abbrev pub mixed : List ℕ → List ℕ → Option (List ℕ) → Medium
mixed even odd loose = record { firm = even ∷ odd ∷ []; loose = loose_in loose; plan = [] }

-- only at place 0 a write joins, if none is loose
abbrev pub mixed_rule : Option (List ℕ) → Write → Effect
mixed_rule loose w = cond (w.place == 0 && is_none loose) join settle

-- two zero blocks
abbrev pub blank : Medium
blank = mixed (replicate 512 0) (replicate 512 0) None
