-- A number that is read digit by digit.
use Rattle.std.proofs.Common.{◌≡◌, ℕ, true, false, eqb, List, [], ◌∷◌, length, refl}
use Rattle.std.proofs.lemmas.Bool.{both_ways}
use Rattle.assembly.specs.Numbers.{with_digits, number_of}

pub number_some : (w : List ℕ) → eqb (length w) 0 ≡ false → with_digits 0 w ≡ number_of w
number_some [] e = absurd (both_ways true e refl)
number_some (d ∷ ds) e = refl
