-- The scans for one row.
use Rattle.std.specs.Prelude.{◌≡◌, ℕ, ◌+◌, ◌<◌, ◌≤◌, Bool, true, false, cond, List, [], ◌∷◌, Some, None, Option, nat_lt, slice_index_or}
use Rattle.std.specs.List.{AllByRecursion}
use Rattle.precedence.specs.Stamps.{Precedence}
use Rattle.table.specs.declared.held.Version.{Version}
use Rattle.table.specs.declared.scan.Candidate.{Candidate}
use Rattle.table.specs.Versions.{capacity, ready, finished_in}
use Rattle.table.specs.Rows.{Row, in_rows}

-- a candidate is a row of the table
abbrev pub in_table : Option Candidate → Type 0
in_table None = Unit {0}
in_table (Some n) = n.row < capacity

-- of two candidates that of lower, or of higher, begin mark
abbrev pub lower_of : Option Candidate → Candidate → Option Candidate
lower_of None next = Some next
lower_of (Some old) next = cond (nat_lt old.begin next.begin) (Some old) (Some next)

abbrev pub higher_of : Option Candidate → Candidate → Option Candidate
higher_of None next = Some next
higher_of (Some old) next = cond (nat_lt old.begin next.begin) (Some next) (Some old)

abbrev pub candidate : ℕ → Version → Candidate
candidate i v = record { row = i; begin = v.stamp.begin }

-- the better of `best` and the rows that pass, the first of which is row i
abbrev pub best_from : (Option Candidate → Candidate → Option Candidate) → (Version → Bool) → ℕ → List Row → Option Candidate → Option Candidate
best_from better p i [] best = best
best_from better p i (None ∷ rows) best = best_from better p (i + 1) rows best
best_from better p i (Some v ∷ rows) best = best_from better p (i + 1) rows (cond (p v) (better best (candidate i v)) best)

-- the ready row of lowest begin mark
abbrev pub lowest_ready : Precedence → List Row → Option Candidate
lowest_ready precedes rows = best_from lower_of (ready precedes (in_rows rows)) 0 rows None

-- the row of the place's finished version of highest begin mark
abbrev pub newest_at : ℕ → List Row → Option Candidate
newest_at place rows = best_from higher_of (finished_in place) 0 rows None

-- What a scan for the lowest promises, whatever way it goes: the row found holds a version that passes, and none that
-- passes has a lower begin mark; it finds none exactly when none passes.
abbrev pub Lowest : (Version → Bool) → List Row → Option Candidate → Type 0
Lowest p rows None = AllByRecursion (λ v. p v ≡ false) (in_rows rows)
Lowest p rows (Some n) =
    (v : Version) × (slice_index_or rows n.row None ≡ Some v) × (n.begin ≡ v.stamp.begin) × (p v ≡ true)
    × AllByRecursion (λ u. p u ≡ true → v.stamp.begin ≤ u.stamp.begin) (in_rows rows)
