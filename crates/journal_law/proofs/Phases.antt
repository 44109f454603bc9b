-- What a good step and a restart make of each phase, and what a cut leaves.
use Rattle.std.proofs.Common.{◌≡◌, ℕ, suc, ◌+◌, ◌<◌, Bool, true, ◌⊎◌, List, [], length, get_or, sym, refl, ap, ◌∙◌, subst, inl, inr, ⊎_elim, arith}
use Rattle.std.proofs.lemmas.Bool.{cases_eq}
use Rattle.disk.specs.Medium.{Effect, Block, Write, Medium, current, flushed, cut}
use Rattle.journal_law.proofs.Media.{wrote, Keeps, kept_mono, kept_flushed, kept_cut, kept_wrote, length_current, over}
use Rattle.head.specs.Head.{encode, empty_head}
use Rattle.journal_law.specs.Recovery.{slot_place, head_write}
use Rattle.journal_law.specs.Cache.{Phase, slot, slots_flush, head, head_flush, home, homes_flush, empty, empty_flush, Group, nth, group_head, restarted_phase}
use Rattle.journal_law.specs.Ledger.{Sealing}
use Rattle.journal_law.proofs.Forms.{head_of, Logged, Replayed, Cleared, Names, SlotsWritten, at_head, at_slot, current_same, current_other, replayed_start}
use Rattle.journal_law.proofs.Restore.{idle, replayed, cleared, Recovers, recovers_cut}
use Rattle.journal_law.proofs.Invariant.{content, Over, InPhase}

module _ (n : ℕ) (opening : List Block) (g : Group) (s c : Sealing) (names : Names n g.number g.writes) where
  -- the rule while the group is being logged
  abbrev pub Log : Bool → Bool → ℕ → Block → Type 0
  Log slots tried = Logged n c.number g.number g.writes (content opening c) slots tried

  pub slot_done : (effect : Effect) (i : ℕ) (m : Medium) (tried : Bool) → i < length g.writes → Keeps (n + 9) (Log tried tried) m → SlotsWritten n g.writes i m →
      Keeps (n + 9) (Log tried tried) (wrote effect (record { place = slot_place n i; bytes = (nth g.writes i).bytes }) m)
      × SlotsWritten n g.writes (suc i) (wrote effect (record { place = slot_place n i; bytes = (nth g.writes i).bytes }) m)
  slot_done effect i m tried l h done = (
    kept_wrote (n + 9) (Log tried tried) effect w m h
        (at_slot n (λ p x. x ≡ content opening c p) (λ x. (x ≡ encode (empty_head c.number)) ⊎ ((tried ≡ true) × (x ≡ encode (head_of g.number g.writes)))) g.writes tried i),
    more,
  )
    where
      w : Write
      w = record { place = slot_place n i; bytes = (nth g.writes i).bytes }

      more : SlotsWritten n g.writes (suc i) (wrote effect w m)
      more j lj = ⊎_elim
          (λ (e : j ≡ i). subst (λ x. get_or (current (wrote effect w m)) (slot_place n x) [] ≡ (nth g.writes x).bytes) (sym e)
          (current_same n effect w m (slot_place n i) refl
          (subst (λ x. slot_place n i < x) (sym (length_current (n + 9) (Log tried tried) m h)) (omega (arith, names.few, l)))))
          (λ (ne : j ≡ i → ⊥). current_other n effect w m (slot_place n j) (λ e. ne (omega (arith, e))) ∙ done j (omega (arith, ne, lj)))
          (cases_eq j i)

  pub slots_flushed : (m : Medium) (tried : Bool) → Keeps (n + 9) (Log tried tried) m → SlotsWritten n g.writes (length g.writes) m →
      Keeps (n + 9) (Log true tried) (flushed m)
  slots_flushed m tried h done = kept_flushed (n + 9) (Log tried tried) (Log true tried) m h (λ p l r. record {
    home = r.home;
    heading = r.heading;
    slot = λ _ i li e. ap (λ x. get_or (current m) x []) e ∙ done i li;
  })

  pub head_written : (effect : Effect) (m : Medium) (tried : Bool) → Keeps (n + 9) (Log true tried) m →
      Keeps (n + 9) (Log true true) (wrote effect (head_write n (group_head g)) m)
      × (get_or (current (wrote effect (head_write n (group_head g)) m)) n [] ≡ encode (head_of g.number g.writes))
  head_written effect m tried h = (
    kept_wrote (n + 9) (Log true true) effect (head_write n (group_head g)) m
        (kept_mono (n + 9) (Log true tried) (Log true true) m (λ p x r. record {
          home = r.home;
          heading = λ e. ⊎_elim (λ a. inl a) (λ a. inr (refl, a.1)) (r.heading e);
          slot = r.slot;
        }) h)
        (at_head n (λ p x. x ≡ content opening c p) (λ x. (x ≡ encode (empty_head c.number)) ⊎ ((true ≡ true) × (x ≡ encode (head_of g.number g.writes)))) g.writes true
        (encode (group_head g)) (inr (refl, refl))),
    current_same n effect (head_write n (group_head g)) m n refl
        (subst (λ x. n < x) (sym (length_current (n + 9) (Log true tried) m h)) (omega arith)),
  )

  -- the commit: laying the group on home now gives what the sealing shows
  pub head_flushed : (m : Medium) → Over n opening g.writes s c → Keeps (n + 9) (Log true true) m → get_or (current m) n [] ≡ encode (head_of g.number g.writes) →
      Keeps (n + 9) (Replayed n g.number g.writes (content opening s)) (flushed m)
  head_flushed m o h e = kept_flushed (n + 9) (Log true true) (Replayed n g.number g.writes (content opening s)) m h (λ p l r. record {
    home = λ lp. ap (over g.writes p) (r.home lp) ∙ o.next p lp;
    heading = λ q. subst (λ x. get_or (current m) x [] ≡ encode (head_of g.number g.writes)) (sym q) e;
    slot = r.slot;
  })

  -- a cut while the group is being logged: the last committed sealing, or this one if its head stands
  logged_cut : (slots tried : Bool) (choice : ℕ) (m : Medium) → (tried ≡ true → slots ≡ true) → Over n opening g.writes s c → Keeps (n + 9) (Log slots tried) m →
      Recovers n c.number (content opening c) (cut choice m) ⊎ Recovers n g.number (content opening s) (cut choice m)
  logged_cut slots tried choice m imp o h = go ((after.firm_ok n (subst (λ x. n < x) (sym after.size_is) (omega arith))).heading refl)
    where
      after : Keeps (n + 9) (Log slots tried) (cut choice m)
      after = kept_cut (n + 9) (Log slots tried) choice m h

      go : (get_or (cut choice m).firm n [] ≡ encode (empty_head c.number))
          ⊎ ((tried ≡ true) × (get_or (cut choice m).firm n [] ≡ encode (head_of g.number g.writes))) →
          Recovers n c.number (content opening c) (cut choice m) ⊎ Recovers n g.number (content opening s) (cut choice m)
      go (inl e) = inl (idle (record {
        size_is = after.size_is;
        firm_ok = λ p l. record {
          home = (after.firm_ok p l).home;
          heading = λ q. subst (λ x. get_or (cut choice m).firm x [] ≡ encode (empty_head c.number)) (sym q) e;
          slot = λ f i li. absurd (omega arith);
        };
        loose_ok = tt;
      }))
      go (inr a) = inr (replayed g.writes names (record {
        size_is = after.size_is;
        firm_ok = λ p l. record {
          home = λ lp. ap (over g.writes p) ((after.firm_ok p l).home lp) ∙ o.next p lp;
          heading = λ q. subst (λ x. get_or (cut choice m).firm x [] ≡ encode (head_of g.number g.writes)) (sym q) a.1;
          slot = λ _ i li e. (after.firm_ok p l).slot (imp a.0) i li e;
        };
        loose_ok = tt;
      }))

  -- whatever a cut drops: the last committed sealing or the one under way
  pub phase_cut : (ph : Phase) (choice : ℕ) (m : Medium) → s.number ≡ g.number → InPhase n opening g s c m.firm m.loose ph →
      Recovers n c.number (content opening c) (cut choice m) ⊎ Recovers n s.number (content opening s) (cut choice m)
  phase_cut ph choice m e a = ⊎_elim (λ r. inl r) (λ r. inr (subst (λ x. Recovers n x (content opening s) (cut choice m)) (sym e) r)) (go ph a)
    where
      go : (ph : Phase) → InPhase n opening g s c m.firm m.loose ph →
          Recovers n c.number (content opening c) (cut choice m) ⊎ Recovers n g.number (content opening s) (cut choice m)
      go (slot i) (o, l, (tried, h, d)) = logged_cut tried tried choice m (λ x. x) o h
      go slots_flush (o, (tried, h, d)) = logged_cut tried tried choice m (λ x. x) o h
      go head (o, (tried, h)) = logged_cut true tried choice m (λ x. refl) o h
      go head_flush (o, h, d) = logged_cut true true choice m (λ x. refl) o h
      go (home i) (q, l, h, d) = inr (recovers_cut n g.number (content opening s) choice m (replayed g.writes names h))
      go homes_flush (q, h, d) = inr (recovers_cut n g.number (content opening s) choice m (replayed g.writes names h))
      go empty (q, f, h) = inr (recovers_cut n g.number (content opening s) choice m (cleared g.writes names f h))
      go empty_flush (q, f, h, d) = inr (recovers_cut n g.number (content opening s) choice m (cleared g.writes names f h))

  pub phase_restart : (ph : Phase) (choice : ℕ) (m : Medium) → InPhase n opening g s c m.firm m.loose ph →
      InPhase n opening g s c (cut choice m).firm (cut choice m).loose (restarted_phase ph)
  phase_restart (slot i) choice m (o, l, (tried, h, d)) =
      (o, names.many, (tried, kept_cut (n + 9) (Log tried tried) choice m h, λ j lj. absurd (omega arith)))
  phase_restart slots_flush choice m (o, (tried, h, d)) =
      (o, names.many, (tried, kept_cut (n + 9) (Log tried tried) choice m h, λ j lj. absurd (omega arith)))
  phase_restart head choice m (o, (tried, h)) = (
    o,
    names.many,
    (
      tried,
      kept_cut (n + 9) (Log tried tried) choice m
          (kept_mono (n + 9) (Log true tried) (Log tried tried) m (λ p x r. record { home = r.home; heading = r.heading; slot = λ _. r.slot refl }) h),
      λ j lj. absurd (omega arith),
    ),
  )
  phase_restart head_flush choice m (o, h, d) =
      (o, names.many, (true, kept_cut (n + 9) (Log true true) choice m h, λ j lj. absurd (omega arith)))
  phase_restart (home i) choice m (q, l, h, d) =
      let k : Keeps (n + 9) (Replayed n g.number g.writes (content opening s)) (cut choice m)
      = kept_cut (n + 9) (Replayed n g.number g.writes (content opening s)) choice m h in
      (q, names.many, k, replayed_start n g.number g.writes (content opening s) (cut choice m) k)
  phase_restart homes_flush choice m (q, h, d) =
      let k : Keeps (n + 9) (Replayed n g.number g.writes (content opening s)) (cut choice m)
      = kept_cut (n + 9) (Replayed n g.number g.writes (content opening s)) choice m h in
      (q, names.many, k, replayed_start n g.number g.writes (content opening s) (cut choice m) k)
  phase_restart empty choice m (q, f, h) = (q, f, kept_cut (n + 9) (Cleared n g.number g.writes (content opening s)) choice m h)
  phase_restart empty_flush choice m (q, f, h, d) = (q, f, kept_cut (n + 9) (Cleared n g.number g.writes (content opening s)) choice m h)
