-- An opening that fails, and one that does not.
use Rattle.std.proofs.Common.{◌≡◌, ℕ, ◌<◌, true, false, List, [], ◌∷◌, length, is_err, Result, sym, refl, ap, ◌∙◌, arith}
use borrow.Author.Tests.{clash}
use Rattle.disk.specs.Medium.{Block, Write, Entry, good, bad, Medium}
use Rattle.errors.specs.declared.VolumeError.{VolumeError}
use Rattle.ordered.specs.Opening.{open_answer, flush_leaves}
use Rattle.play.specs.InOrder.{opened_until}

module _ (tries : ℕ) (m n : Medium) (r : Result (Unit {0}) VolumeError) (answers : r ≡ open_answer tries m) (leaves : n ≡ flush_leaves m) where
  told : is_err r ≡ is_err (open_answer tries m)
  told = ap is_err answers

  failed_by : (firm : List Block) (loose : List Write) (es : List Entry) → m ≡ record { firm = firm; loose = loose; plan = es } → is_err r ≡ true →
      (opened_until n ≡ opened_until m) × (length n.plan < length m.plan)
  failed_by firm loose [] is e = absurd (clash (sym (sym e ∙ told ∙ ap (λ k. is_err (open_answer tries k)) is)))
  failed_by firm loose (good ∷ es) is e = absurd (clash (sym (sym e ∙ told ∙ ap (λ k. is_err (open_answer tries k)) is)))
  failed_by firm loose (bad ∷ es) is e =
      let after = leaves ∙ ap flush_leaves is in
      let shorter : length n.plan ≡ length es = ap (λ k. length k.plan) after in
      let longer : length m.plan ≡ length (bad ∷ es) = ap (λ k. length k.plan) is in
      (ap opened_until after ∙ sym (ap opened_until is), omega arith)

  good_by : (firm : List Block) (loose : List Write) (es : List Entry) → m ≡ record { firm = firm; loose = loose; plan = es } → is_err r ≡ false → n ≡ opened_until m
  good_by firm loose [] is e = leaves ∙ ap flush_leaves is ∙ sym (ap opened_until is)
  good_by firm loose (good ∷ es) is e = leaves ∙ ap flush_leaves is ∙ sym (ap opened_until is)
  good_by firm loose (bad ∷ es) is e = absurd (clash (sym e ∙ told ∙ ap (λ k. is_err (open_answer tries k)) is))

  -- one that fails takes an entry off the plan, and what is still to come leads where it would have led
  pub opening_fails : is_err r ≡ true → (opened_until n ≡ opened_until m) × (length n.plan < length m.plan)
  opening_fails = failed_by m.firm m.loose m.plan refl

  pub opening_succeeds : is_err r ≡ false → n ≡ opened_until m
  opening_succeeds = good_by m.firm m.loose m.plan refl
