-- A mark in two blocks.
use Rattle.std.specs.Prelude.{◌≡◌, ℕ, ◌+◌, ◌*◌, ◌/◌, ◌%◌, Bool, true, false, cond, ◌&&◌, List, ◌∷◌, replicate, ◌==◌, slice_index}
use Rattle.mark.specs.declared.Side.{Side}
use Rattle.mark.specs.declared.Side.TheVariants.{Upstream, Downstream}
use Rattle.mark.specs.declared.Mark.{Mark}
use Rattle.mark.specs.declared.Verdict.{Verdict}
use Rattle.mark.specs.declared.Verdict.TheVariants.{Old, New, Torn}

abbrev pub side_bytes : Side → List ℕ
side_bytes Upstream = 1 ∷ replicate 511 0
side_bytes Downstream = replicate 512 0

abbrev pub distance_bytes : ℕ → List ℕ
distance_bytes n = n % 256 ∷ (n / 256 ∷ replicate 510 0)

abbrev pub side_of : ℕ → Side
side_of first = cond (first == 1) Upstream Downstream

-- the mark that two blocks show
abbrev pub mark_in : List ℕ → List ℕ → Mark
mark_in side distance = record { side = side_of (slice_index side 0); millimetres = slice_index distance 0 + 256 * slice_index distance 1 }

-- the blocks of a mark show that mark
abbrev pub ReadsBack : List ℕ → List ℕ → Mark → Type 0
ReadsBack side distance seen = (m : Mark) → side ≡ side_bytes m.side → distance ≡ distance_bytes m.millimetres → seen ≡ m

abbrev pub same_side : Side → Side → Bool
same_side Upstream Upstream = true
same_side Upstream Downstream = false
same_side Downstream Upstream = false
same_side Downstream Downstream = true

abbrev pub same_mark : Mark → Mark → Bool
same_mark m n = same_side m.side n.side && m.millimetres == n.millimetres

abbrev pub judged : Mark → Mark → Mark → Verdict
judged old new seen = cond (same_mark seen new) New (cond (same_mark seen old) Old Torn)
