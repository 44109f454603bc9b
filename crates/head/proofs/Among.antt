-- The tests on places are those of the library.
use Rattle.std.proofs.Common.{◌≡◌, ℕ, ◌-◌, ◌≤◌, Bool, true, false, cond, not, ◌&&◌, ◌||◌, eqb, ltb, List, [], ◌∷◌, length, get_or, take, drop, sym, refl, ap, ◌∙◌, arith}
use Rattle.std.proofs.lemmas.List.{take_rest}
use Rattle.std.specs.List.{list_any, list_all}
use Rattle.head.specs.Head.{holds, all_below, none_twice}

pub holds_any : (p : ℕ) (xs : List ℕ) → list_any (λ x. eqb x p) xs ≡ holds p xs
holds_any p [] = refl
holds_any p (x ∷ xs) = go (eqb x p) (holds_any p xs)
  where
    go : (t : Bool) → list_any (λ x. eqb x p) xs ≡ holds p xs → (t || list_any (λ x. eqb x p) xs) ≡ cond t true (holds p xs)
    go true e = refl
    go false e = e

pub below_all : (n : ℕ) (xs : List ℕ) → list_all (λ x. ltb x n) xs ≡ all_below n xs
below_all n [] = refl
below_all n (x ∷ xs) = ap (λ t. ltb x n && t) (below_all n xs)

-- a list whose first element is taken off
pub twice_first : (xs : List ℕ) → 1 ≤ length xs →
    none_twice xs ≡ (not (list_any (λ x. eqb x (get_or xs 0 0)) (take (length xs - 1) (drop 1 xs))) && none_twice (take (length xs - 1) (drop 1 xs)))
twice_first [] l = absurd (omega arith)
twice_first (x ∷ xs) l =
    ap (λ t. not t && none_twice xs) (sym (holds_any x xs))
    ∙ ap (λ (ys : List ℕ). not (list_any (λ y. eqb y x) ys) && none_twice ys) (sym (take_rest (x ∷ xs) 1))
