-- The text of a listing.
use Rattle.std.specs.Prelude.{ℕ, List, [], ◌∷◌, ◌++◌, decimal}
use Rattle.listing.specs.declared.line.Line.{Line}

-- code, answer and value, with one space between
abbrev pub line_text : Line → List ℕ
line_text l = decimal l.code ++ (32 ∷ (decimal l.answer ++ (32 ∷ decimal l.value)))

-- each line ends in byte 10
abbrev pub listing : List Line → List ℕ
listing [] = []
listing (l ∷ ls) = line_text l ++ (10 ∷ listing ls)
