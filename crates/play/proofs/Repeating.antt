-- Tries that are repeated as long as they meet a fault.
use Rattle.std.proofs.Common.{◌≡◌, ℕ, zero, suc, ◌<◌, ◌≤◌, Bool, true, false, cond, length, sym, refl, ap, ◌∙◌, arith}
use Rattle.disk.specs.Medium.{Medium}
use Rattle.play.specs.InJournal.{repeated}

-- each try that meets a fault, on a medium that is as it should be, takes an entry off the plan
module _ {A : Type 0} (faulted : Medium → Bool) (next : Medium → Medium) (result : Medium → A) (Fine : Medium → Type 0)
    (shorter : (m : Medium) → Fine m → faulted m ≡ true → (length (next m).plan < length m.plan) × Fine (next m)) where
  by_fault : (t : Bool) (f g : ℕ) (m : Medium) → faulted m ≡ t → Fine m → length m.plan ≤ suc f → length m.plan ≤ suc g →
      ((k : Medium) → Fine k → length k.plan ≤ f → length k.plan ≤ g → repeated faulted next result f k ≡ repeated faulted next result g k) →
      cond t (repeated faulted next result f (next m)) (result m) ≡ cond t (repeated faulted next result g (next m)) (result m)
  by_fault true f g m e fine hf hg rest = let s = shorter m fine e in rest (next m) s.1 (omega (arith, s.0)) (omega (arith, s.0))
  by_fault false f g m e fine hf hg rest = refl

  no_entry : (t : Bool) (g : ℕ) (m : Medium) → faulted m ≡ t → Fine m → length m.plan ≤ 0 → result m ≡ cond t (repeated faulted next result g (next m)) (result m)
  no_entry true g m e fine h = absurd (omega (arith, (shorter m fine e).0))
  no_entry false g m e fine h = refl

  -- more tries than enough change nothing
  enough : (f g : ℕ) (m : Medium) → Fine m → length m.plan ≤ f → length m.plan ≤ g → repeated faulted next result f m ≡ repeated faulted next result g m
  enough zero zero m fine hf hg = refl
  enough zero (suc g) m fine hf hg = no_entry (faulted m) g m refl fine hf
  enough (suc f) zero m fine hf hg = sym (no_entry (faulted m) f m refl fine hg)
  enough (suc f) (suc g) m fine hf hg = by_fault (faulted m) f g m refl fine hf hg (enough f g)

  at_fault : (n : ℕ) (m : Medium) → length m.plan ≡ n → Fine m → faulted m ≡ true →
      repeated faulted next result (length (next m).plan) (next m) ≡ repeated faulted next result n m
  at_fault zero m e fine t = absurd (omega (arith, (shorter m fine t).0))
  at_fault (suc n) m e fine t =
      let s = shorter m fine t in
      enough (length (next m).plan) n (next m) s.1 (omega arith) (omega (arith, s.0))
      ∙ sym (ap (λ b. cond b (repeated faulted next result n (next m)) (result m)) t)

  -- what is left of the tries leads where all of them lead
  pub goes_on : (m : Medium) → Fine m → faulted m ≡ true → repeated faulted next result (length (next m).plan) (next m) ≡ repeated faulted next result (length m.plan) m
  goes_on m fine t = at_fault (length m.plan) m refl fine t

  at_end : (n : ℕ) (m : Medium) → faulted m ≡ false → result m ≡ repeated faulted next result n m
  at_end zero m t = refl
  at_end (suc n) m t = sym (ap (λ b. cond b (repeated faulted next result n (next m)) (result m)) t)

  -- a try that meets no fault is the last
  pub ends : (m : Medium) → faulted m ≡ false → result m ≡ repeated faulted next result (length m.plan) m
  ends m t = at_end (length m.plan) m t
