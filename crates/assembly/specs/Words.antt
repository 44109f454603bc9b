-- Lines and words of a text.
use Rattle.std.specs.Prelude.{ℕ, suc, Bool, cond, not, ◌||◌, List, [], ◌∷◌, Some, None, Option, ◌==◌}
use Rattle.std.specs.List.{onto_first}

-- words stand between spaces, tabs and carriage returns
abbrev pub is_blank : ℕ → Bool
is_blank b = b == 32 || (b == 9 || b == 13)

abbrev pub is_dark : ℕ → Bool
is_dark b = not (is_blank b)

abbrev pub is_line_end : ℕ → Bool
is_line_end b = b == 10

abbrev pub is_comment : ℕ → Bool
is_comment b = b == 35

-- the index of the first byte that passes a test, or the length
abbrev pub first_at : (ℕ → Bool) → List ℕ → ℕ
first_at test [] = 0
first_at test (b ∷ bs) = cond (test b) 0 (suc (first_at test bs))

-- the parts that end at each byte that passes a test, the last one at the end
abbrev pub pieces : (ℕ → Bool) → List ℕ → List (List ℕ)
pieces test [] = []
pieces test (b ∷ bs) = cond (test b) ([] ∷ pieces test bs) (onto_first b (pieces test bs))

abbrev pub filled : List (List ℕ) → List (List ℕ)
filled [] = []
filled ([] ∷ ps) = filled ps
filled ((b ∷ bs) ∷ ps) = (b ∷ bs) ∷ filled ps

abbrev pub lines : List ℕ → List (List ℕ)
lines text = pieces is_line_end text

abbrev pub words : List ℕ → List (List ℕ)
words line = filled (pieces is_blank line)

-- a first word and those behind it
abbrev pub listed : Option (List ℕ × List ℕ) → List (List ℕ)
listed None = []
listed (Some p) = p.0 ∷ words p.1

abbrev pub only : List (List ℕ) → Option (List ℕ)
only [] = None
only (w ∷ []) = Some w
only (w ∷ (v ∷ ws)) = None
