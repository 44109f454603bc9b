use Rattle.std.proofs.Common.{◌≡◌, ℕ, ◌<◌, ◌≤◌, ◌+◌, List, length, get_or, take, ◌++◌, ◌∷◌, [], ap, ◌∙◌, refl, sym, subst}
use denote.Param.Always.{mut_next}
use Rattle.std.specs.List.{FoldsTo}
use Rattle.std.proofs.lemmas.List.{take_more, take_all}
use Rattle.std.proofs.lemmas.Fn.{FoldsTo-push}
use Rattle.test_tools.proofs.checks.play.Goals as goal

-- steps at the first elements of the list, and one at the next
further : {F X : Type 0} (R : F → X → F → Type 0) (f j k : F) (xs : List X) (i : ℕ) (x : X) → i < length xs → x ≡ get_or xs i x → FoldsTo R f (take i xs) j → R j x k → FoldsTo R f (take (i + 1) xs) k
further R f j k xs i x lt e so_far one = subst (λ ys. FoldsTo R f ys k) (sym (take_more xs i x lt ∙ ap (λ y. take i xs ++ (y ∷ [])) (sym e))) (FoldsTo-push R f (take i xs) j x k so_far one)

-- steps at as many elements as the list has are steps at the list
at_all : {F X : Type 0} (R : F → X → F → Type 0) (f j : F) (xs : List X) (i : ℕ) → length xs ≤ i → FoldsTo R f (take i xs) j → FoldsTo R f xs j
at_all R f j xs i le so_far = subst (λ ys. FoldsTo R f ys j) (take_all i xs le) so_far

pub loop-call-preserved : goal.loop-call-preserved
loop-call-preserved g c =
    let held = c.loop-call.invariant in
    (mut_next g.F.FnMut _ _ _ _ _ c.answer-found.ensures refl held.0, further _ _ _ _ _ _ _ c.loop-call-test.true c.loop-call-item.is held.1 (c.answer-found.result, c.answer-found.ensures, sym (c.in_ok-check_eq.ensures {u = tt})))

pub returns : goal.returns
returns g c = (c.loop-call.answer, at_all _ _ _ _ _ c.loop-call-test.false c.loop-call.invariant.1)
