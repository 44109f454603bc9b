-- Numbers in base ten.
use Rattle.std.specs.Prelude.{ℕ, ◌+◌, ◌-◌, ◌*◌, cond, ◌&&◌, List, [], ◌∷◌, Some, None, Option, nat_le}
use Rattle.trace.specs.Format.{and_then}

-- a number with one digit more, if it has two bytes
abbrev pub with_digit : ℕ → ℕ → Option ℕ
with_digit n d = cond (nat_le 48 d && (nat_le d 57 && nat_le (10 * n + (d - 48)) 65535)) (Some (10 * n + (d - 48))) None

abbrev pub with_digits : ℕ → List ℕ → Option ℕ
with_digits n [] = Some n
with_digits n (d ∷ ds) = and_then (with_digit n d) (λ m. with_digits m ds)

-- digits and nothing else, at least one
abbrev pub number_of : List ℕ → Option ℕ
number_of [] = None
number_of (d ∷ ds) = with_digits 0 (d ∷ ds)

abbrev pub byte_of : List ℕ → Option ℕ
byte_of word = and_then (number_of word) (λ n. cond (nat_le n 255) (Some n) None)
