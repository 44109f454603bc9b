-- Up to n calls, one by one.
use Rattle.std.proofs.Common.{◌≡◌, ℕ, zero, suc, ◌+◌, ◌<◌, true, false, refl, inl, inr, arith, sym, subst}
use Rattle.disk.specs.Calls.{Answer, is_fault}
use Rattle.retry.specs.Retried.{Tries}

module _ {F : Type 0} (R : F → Answer → F → Type 0) (last : Answer) where
  pub tries_stop : (n : ℕ) (p : F) (s : Answer) (o : F) → 0 < n → R p s o → is_fault s ≡ false → Tries R n last p s o
  tries_stop zero p s o h did ok = absurd (omega arith)
  tries_stop (suc n) p s o h did ok = (s, o, did, inl (ok, refl, refl))

  pub tries_on : (m n : ℕ) (p : F) (s : Answer) (o : F) (r : Answer) (q : F) → m ≡ suc n → R p s o → is_fault s ≡ true → Tries R n last o r q → Tries R m last p r q
  tries_on m n p s o r q e did bad rest = subst (λ k. Tries R k last p r q) (sym e) (s, o, did, inr (bad, rest))

  pub tries_end : (n : ℕ) (p : F) → n ≡ 0 → Tries R n last p last p
  tries_end n p e = subst (λ k. Tries R k last p last p) (sym e) (refl, refl)

-- what holds after i faults (J) leads to what holds at the end (Done), by a good try or by the third fault
module _ {F : Type 0} (R : F → Answer → F → Type 0) (last : Answer) (J : ℕ → F → Type 0) (Done : Answer → F → Type 0)
    (stops : (i : ℕ) (p : F) (s : Answer) (o : F) → i < 3 → J i p → R p s o → is_fault s ≡ false → Done s o)
    (goes_on : (i : ℕ) (p : F) (s : Answer) (o : F) → J i p → R p s o → is_fault s ≡ true → J (i + 1) o)
    (fails : (p : F) → J 3 p → Done last p) where
  from : (n i : ℕ) (p : F) (r : Answer) (q : F) → i + n ≡ 3 → J i p → Tries R n last p r q → Done r q
  from zero i p r q e j t =
      let all : i ≡ 3 = omega arith in
      subst (λ s. Done s q) (sym t.0) (subst (Done last) (sym t.1) (fails p (subst (λ k. J k p) all j)))
  from (suc n) i p r q e j t =
      elim t.3 [
        | inl ok ↦ subst (λ s. Done s q) (sym ok.1) (subst (Done t.0) (sym ok.2) (stops i p t.0 t.1 (omega arith) j t.2 ok.0))
        | inr bad ↦ from n (i + 1) t.1 r q (omega arith) (goes_on i p t.0 t.1 j t.2 bad.0) bad.1
      ]

  pub by_tries : (p : F) (r : Answer) (q : F) → J 0 p → Tries R 3 last p r q → Done r q
  by_tries p r q j t = from 3 0 p r q refl j t
