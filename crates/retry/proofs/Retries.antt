-- Why three tries on a plan are one try on the plan worked out from it.
use Rattle.std.proofs.Common.{◌≡◌, ℕ, zero, suc, ◌+◌, ◌<◌, Bool, true, false, cond, eqb, ltb, List, [], ◌∷◌, length, drop, sym, refl, ap, ◌∙◌, subst, add-one, arith, below_more}
use Rattle.disk.specs.declared.error.Kind.{Kind}
use Rattle.disk.specs.declared.error.Kind.TheVariants as kind
use Rattle.disk.specs.Medium.{Write, Entry, good, bad, Medium, Effect, join, settle, size, due, later, passed, flushed, allowed, take_effect, put}
use Rattle.disk.specs.Calls.{is_fault, Answer, Fate, wrong_length, wrong_place, failed, served, by_entry, answer, leaves, shows, spent, Reads, WritesBy, Flushes}
use Rattle.retry.specs.Retried.{retried, retry_medium, tripled}
use Rattle.disk.proofs.Media.{with_plan}

-- a plan from which i bads and then a good are taken
pub stop_good : (i : ℕ) (es : List Entry) → i < 3 → ((j : ℕ) → j < i → due (drop j es) ≡ bad) → due (drop i es) ≡ good → (due (retried es) ≡ good) × (retried (later (drop i es)) ≡ later (retried es))
stop_good zero [] h b g = (refl, refl)
stop_good zero (good ∷ es) h b g = (refl, refl)
stop_good zero (bad ∷ es) h b g = absurd cc
stop_good (suc i) [] h b g = absurd (cc (b 0 (omega arith)))
stop_good (suc i) (good ∷ es) h b g = absurd (cc (b 0 (omega arith)))
stop_good (suc zero) (bad ∷ []) h b g = (refl, refl)
stop_good (suc zero) (bad ∷ (good ∷ es)) h b g = (refl, refl)
stop_good (suc zero) (bad ∷ (bad ∷ es)) h b g = absurd cc
stop_good (suc (suc i)) (bad ∷ []) h b g = absurd (cc (b 1 (omega arith)))
stop_good (suc (suc i)) (bad ∷ (good ∷ es)) h b g = absurd (cc (b 1 (omega arith)))
stop_good (suc (suc zero)) (bad ∷ (bad ∷ [])) h b g = (refl, refl)
stop_good (suc (suc zero)) (bad ∷ (bad ∷ (good ∷ es))) h b g = (refl, refl)
stop_good (suc (suc zero)) (bad ∷ (bad ∷ (bad ∷ es))) h b g = absurd cc
stop_good (suc (suc (suc i))) (bad ∷ (bad ∷ es)) h b g = absurd (omega arith)

-- a plan from which three bads are taken
pub stop_bad : (es : List Entry) → ((j : ℕ) → j < 3 → due (drop j es) ≡ bad) → (due (retried es) ≡ bad) × (retried (drop 3 es) ≡ later (retried es))
stop_bad [] b = absurd (cc (b 0 (omega arith)))
stop_bad (good ∷ es) b = absurd (cc (b 0 (omega arith)))
stop_bad (bad ∷ []) b = absurd (cc (b 1 (omega arith)))
stop_bad (bad ∷ (good ∷ es)) b = absurd (cc (b 1 (omega arith)))
stop_bad (bad ∷ (bad ∷ [])) b = absurd (cc (b 2 (omega arith)))
stop_bad (bad ∷ (bad ∷ (good ∷ es))) b = absurd (cc (b 2 (omega arith)))
stop_bad (bad ∷ (bad ∷ (bad ∷ es))) b = (refl, refl)

-- what a call meets, by its two checks and the plan
abbrev pub gated : Bool → Bool → List Entry → Fate
gated a b es = cond a (cond b (by_entry (due es)) wrong_place) wrong_length

-- the first i tries failed
abbrev pub Faults : Bool → Bool → ℕ → List Entry → Type 0
Faults a b i es = (j : ℕ) → j < i → gated a b (drop j es) ≡ failed

abbrev pub is_failed : Fate → Bool
is_failed wrong_length = false
is_failed wrong_place = false
is_failed failed = true
is_failed served = false

bad_due : (e : Entry) → by_entry e ≡ failed → e ≡ bad
bad_due good h = absurd cc
bad_due bad h = refl

good_due : (e : Entry) → is_failed (by_entry e) ≡ false → e ≡ good
good_due good h = refl
good_due bad h = absurd cc

-- a try that does not fail after i that did: the call meets the same on the plan worked out
pub stops : (a b : Bool) (i : ℕ) (es : List Entry) → i < 3 → Faults a b i es → is_failed (gated a b (drop i es)) ≡ false → (gated a b (retried es) ≡ gated a b (drop i es)) × (retried (spent (drop i es) (gated a b (drop i es))) ≡ spent (retried es) (gated a b (drop i es)))
stops false b zero es h fs n = (refl, refl)
stops false b (suc i) es h fs n = absurd (cc (fs 0 (omega arith)))
stops true false zero es h fs n = (refl, refl)
stops true false (suc i) es h fs n = absurd (cc (fs 0 (omega arith)))
stops true true i es h fs n =
    let g = good_due (due (drop i es)) n in
    let s = stop_good i es h (λ j l. bad_due (due (drop j es)) (fs j l)) g in
    let is : by_entry (due (drop i es)) ≡ served = ap by_entry g in
    (ap by_entry s.0 ∙ sym is, ap (λ f. retried (spent (drop i es) f)) is ∙ s.1 ∙ sym (ap (spent (retried es)) is))

-- three tries that fail
pub gives_up : (a b : Bool) (es : List Entry) → Faults a b 3 es → (gated a b (retried es) ≡ failed) × (retried (drop 3 es) ≡ later (retried es))
gives_up false b es fs = absurd (cc (fs 0 (omega arith)))
gives_up true false es fs = absurd (cc (fs 0 (omega arith)))
gives_up true true es fs = let s = stop_bad es (λ j l. bad_due (due (drop j es)) (fs j l)) in (ap by_entry s.0, s.1)

later_suc : (i : ℕ) (es : List Entry) → later (drop i es) ≡ drop (suc i) es
later_suc zero [] = refl
later_suc zero (e ∷ es) = refl
later_suc (suc i) [] = refl
later_suc (suc i) (e ∷ es) = later_suc i es

pub later_drop : (i : ℕ) (es : List Entry) → later (drop i es) ≡ drop (i + 1) es
later_drop i es = rw add-one (later_suc i es)

pub fault_failed : (tries : ℕ) (k : Kind) (place : ℕ) (f : Fate) → is_fault (answer tries k place f) ≡ is_failed f
fault_failed tries k place wrong_length = refl
fault_failed tries k place wrong_place = refl
fault_failed tries k place failed = refl
fault_failed tries k place served = refl

pub answer_any : (t u : ℕ) (k : Kind) (place : ℕ) (f : Fate) → is_failed f ≡ false → answer t k place f ≡ answer u k place f
answer_any t u k place wrong_length n = refl
answer_any t u k place wrong_place n = refl
answer_any t u k place failed n = absurd cc
answer_any t u k place served n = refl

failed_from : (f : Fate) → is_failed f ≡ true → f ≡ failed
failed_from wrong_length e = absurd cc
failed_from wrong_place e = absurd cc
failed_from failed e = refl
failed_from served e = absurd cc

-- what a good call does to the blocks and the loose writes does not hang on the plan, of which it takes an entry
pub record PlanBlind (done : Medium → Medium) : Type 0 where
  pub blind : (m : Medium) (es fs : List Entry) → with_plan (done (with_plan m es)) (later fs) ≡ done (with_plan m fs)
  pub takes : (m : Medium) → (done m).plan ≡ later m.plan

pub blind_passed : PlanBlind passed
blind_passed = record { blind = λ m es fs. refl; takes = λ m. refl }

pub blind_flushed : PlanBlind flushed
blind_flushed = record { blind = λ m es fs. refl; takes = λ m. refl }

by_effect : (effect : Effect) (m : Medium) (w : Write) (es fs : List Entry) → with_plan (take_effect effect (with_plan m es) w) (later fs) ≡ take_effect effect (with_plan m fs) w
by_effect join m w es fs = refl
by_effect settle m w es fs = refl

effect_takes : (effect : Effect) (m : Medium) (w : Write) → (take_effect effect m w).plan ≡ later m.plan
effect_takes join m w = refl
effect_takes settle m w = refl

pub blind_put : (effect : Effect) (w : Write) → PlanBlind (λ m. put effect m w)
blind_put effect w = record { blind = λ m es fs. by_effect (allowed effect m) m w es fs; takes = λ m. effect_takes (allowed effect m) m w }

-- the medium after i tries that failed
abbrev pub after_faults : ℕ → Medium → Medium
after_faults i m = with_plan m (drop i m.plan)

leaves_by : (done : Medium → Medium) → PlanBlind done → (m : Medium) (i : ℕ) (f : Fate) → is_failed f ≡ false → retried (spent (drop i m.plan) f) ≡ spent (retried m.plan) f → retry_medium (leaves (after_faults i m) (done (after_faults i m)) f) ≡ leaves (retry_medium m) (done (retry_medium m)) f
leaves_by done blind m i wrong_length n h = ap (with_plan m) h
leaves_by done blind m i wrong_place n h = ap (with_plan m) h
leaves_by done blind m i failed n h = absurd cc
leaves_by done blind m i served n h =
    let d = done (after_faults i m) in
    ap (λ fs. with_plan d (retried fs)) (blind.takes (after_faults i m)) ∙ ap (with_plan d) h ∙ blind.blind m (drop i m.plan) (retried m.plan)

shows_blind : (m : Medium) (es fs : List Entry) (place : ℕ) (buffer : List ℕ) (f : Fate) → shows (with_plan m es) place buffer f ≡ shows (with_plan m fs) place buffer f
shows_blind m es fs place buffer wrong_length = refl
shows_blind m es fs place buffer wrong_place = refl
shows_blind m es fs place buffer failed = refl
shows_blind m es fs place buffer served = refl

-- a call of a disk of `tries`, of kind k at a place, with the checks' results a and b, that does `done` if it is good
module _ (tries : ℕ) (k : Kind) (place : ℕ) (a b : Bool) (m : Medium) where
  pub retry_answers : (i : ℕ) (r : Answer) → i < 3 → Faults a b i m.plan → r ≡ answer tries k place (gated a b (drop i m.plan)) → is_fault r ≡ false → r ≡ answer (tripled tries) k place (gated a b (retried m.plan))
  retry_answers i r h fs e n =
      let f = gated a b (drop i m.plan) in
      let ok : is_failed f ≡ false = sym (fault_failed tries k place f) ∙ sym (ap is_fault e) ∙ n in
      e ∙ answer_any tries (tripled tries) k place f ok ∙ sym (ap (answer (tripled tries) k place) (stops a b i m.plan h fs ok).0)

  pub retry_leaves : (done : Medium → Medium) → PlanBlind done → (i : ℕ) (r : Answer) (n : Medium) → i < 3 → Faults a b i m.plan → r ≡ answer tries k place (gated a b (drop i m.plan)) → is_fault r ≡ false
      → n ≡ leaves (after_faults i m) (done (after_faults i m)) (gated a b (drop i m.plan))
      → retry_medium n ≡ leaves (retry_medium m) (done (retry_medium m)) (gated a b (retried m.plan))
  retry_leaves done blind i r n h fs e ok is =
      let f = gated a b (drop i m.plan) in
      let not_failed : is_failed f ≡ false = sym (fault_failed tries k place f) ∙ sym (ap is_fault e) ∙ ok in
      let st = stops a b i m.plan h fs not_failed in
      ap retry_medium is ∙ leaves_by done blind m i f not_failed st.1 ∙ sym (ap (leaves (retry_medium m) (done (retry_medium m))) st.0)

  -- one try more that failed
  pub one_more : (i : ℕ) (r : Answer) → Faults a b i m.plan → r ≡ answer tries k place (gated a b (drop i m.plan)) → is_fault r ≡ true → Faults a b (i + 1) m.plan
  one_more i r fs e t =
      let f = gated a b (drop i m.plan) in
      below_more (λ j. gated a b (drop j m.plan) ≡ failed) i fs (failed_from f (sym (fault_failed tries k place f) ∙ sym (ap is_fault e) ∙ t))

  -- three tries that failed
  pub retry_fails : Faults a b 3 m.plan → (done : Medium) → retry_medium (after_faults 3 m) ≡ leaves (retry_medium m) done (gated a b (retried m.plan))
  retry_fails fs done = let g = gives_up a b m.plan fs in ap (with_plan m) g.1 ∙ sym (ap (leaves (retry_medium m) done) g.0)

  pub retry_fault : Faults a b 3 m.plan → answer (tripled tries) k place failed ≡ answer (tripled tries) k place (gated a b (retried m.plan))
  retry_fault fs = sym (ap (answer (tripled tries) k place) (gives_up a b m.plan fs).0)

-- the checks of a read or a write of these bytes
abbrev pub Failed : Medium → ℕ → List ℕ → ℕ → Type 0
Failed m place bytes i = Faults (eqb (length bytes) 512) (ltb place (size m)) i m.plan

module _ (tries : ℕ) (m : Medium) (place : ℕ) (bytes : List ℕ) where
  pub read_stops : (i : ℕ) (below : Medium) (r : Answer) (n : Medium) (shown : List ℕ) → i < 3 → below ≡ after_faults i m → Failed m place bytes i → Reads tries below place bytes r n shown → is_fault r ≡ false → Reads (tripled tries) (retry_medium m) place bytes r (retry_medium n) shown
  read_stops i below r n shown h same fs did ok =
      let at = subst (λ d. Reads tries d place bytes r n shown) same did in
      let a = eqb (length bytes) 512 in
      let b = ltb place (size m) in
      let f = gated a b (drop i m.plan) in
      let not_failed : is_failed f ≡ false = sym (fault_failed tries kind.Read place f) ∙ sym (ap is_fault at.answers) ∙ ok in
      record {
        answers = retry_answers tries kind.Read place a b m i r h fs at.answers ok;
        after = retry_leaves tries kind.Read place a b m passed blind_passed i r n h fs at.answers ok at.after;
        buffer = at.buffer ∙ shows_blind m (drop i m.plan) (retried m.plan) place bytes f ∙ sym (ap (shows (retry_medium m) place bytes) (stops a b i m.plan h fs not_failed).0);
      }

  pub write_stops : (i : ℕ) (below : Medium) (r : Answer) (n : Medium) → i < 3 → below ≡ after_faults i m → Failed m place bytes i → (effect : Effect) → WritesBy effect tries below place bytes r n → is_fault r ≡ false → WritesBy effect (tripled tries) (retry_medium m) place bytes r (retry_medium n)
  write_stops i below r n h same fs effect did ok =
      let at = subst (λ d. WritesBy effect tries d place bytes r n) same did in
      let a = eqb (length bytes) 512 in
      let b = ltb place (size m) in
      let w : Write = record { place = place; bytes = bytes } in
      record {
        answers = retry_answers tries kind.Write place a b m i r h fs at.answers ok;
        after = retry_leaves tries kind.Write place a b m (λ d. put effect d w) (blind_put effect w) i r n h fs at.answers ok at.after;
      }

  pub read_more : (i : ℕ) (below : Medium) (r : Answer) (n : Medium) (shown : List ℕ) → below ≡ after_faults i m → Failed m place bytes i → Reads tries below place bytes r n shown → is_fault r ≡ true → (n ≡ after_faults (i + 1) m) × Failed m place bytes (i + 1) × (shown ≡ bytes)
  read_more i below r n shown same fs did t =
      let at = subst (λ d. Reads tries d place bytes r n shown) same did in
      let more = one_more tries kind.Read place (eqb (length bytes) 512) (ltb place (size m)) m i r fs at.answers t in
      let f = more i (omega arith) in
      (at.after ∙ ap (leaves (after_faults i m) (passed (after_faults i m))) f ∙ ap (with_plan m) (later_drop i m.plan), more, at.buffer ∙ ap (shows (after_faults i m) place bytes) f)

  pub write_more : (i : ℕ) (below : Medium) (r : Answer) (n : Medium) → below ≡ after_faults i m → Failed m place bytes i → (effect : Effect) → WritesBy effect tries below place bytes r n → is_fault r ≡ true → (n ≡ after_faults (i + 1) m) × Failed m place bytes (i + 1)
  write_more i below r n same fs effect did t =
      let at = subst (λ d. WritesBy effect tries d place bytes r n) same did in
      let more = one_more tries kind.Write place (eqb (length bytes) 512) (ltb place (size m)) m i r fs at.answers t in
      let f = more i (omega arith) in
      (at.after ∙ ap (leaves (after_faults i m) (put effect (after_faults i m) (record { place = place; bytes = bytes }))) f ∙ ap (with_plan m) (later_drop i m.plan), more)

  pub read_fails : (n : Medium) → n ≡ after_faults 3 m → Failed m place bytes 3 → Reads (tripled tries) (retry_medium m) place bytes (answer (tripled tries) kind.Read place failed) (retry_medium n) bytes
  read_fails n same fs =
      let a = eqb (length bytes) 512 in
      let b = ltb place (size m) in
      record {
        answers = retry_fault tries kind.Read place a b m fs;
        after = ap retry_medium same ∙ retry_fails tries kind.Read place a b m fs (passed (retry_medium m));
        buffer = sym (ap (shows (retry_medium m) place bytes) (gives_up a b m.plan fs).0);
      }

  pub write_fails : (n : Medium) → n ≡ after_faults 3 m → Failed m place bytes 3 → (effect : Effect) → WritesBy effect (tripled tries) (retry_medium m) place bytes (answer (tripled tries) kind.Write place failed) (retry_medium n)
  write_fails n same fs effect =
      let a = eqb (length bytes) 512 in
      let b = ltb place (size m) in
      record {
        answers = retry_fault tries kind.Write place a b m fs;
        after = ap retry_medium same ∙ retry_fails tries kind.Write place a b m fs (put effect (retry_medium m) (record { place = place; bytes = bytes }));
      }

-- a flush has no checks
module _ (tries : ℕ) (m : Medium) where
  pub flush_stops : (i : ℕ) (below : Medium) (r : Answer) (n : Medium) → i < 3 → below ≡ after_faults i m → Faults true true i m.plan → Flushes tries below r n → is_fault r ≡ false → Flushes (tripled tries) (retry_medium m) r (retry_medium n)
  flush_stops i below r n h same fs did ok =
      let at = subst (λ d. Flushes tries d r n) same did in
      record {
        answers = retry_answers tries kind.Flush 0 true true m i r h fs at.answers ok;
        after = retry_leaves tries kind.Flush 0 true true m flushed blind_flushed i r n h fs at.answers ok at.after;
      }

  pub flush_more : (i : ℕ) (below : Medium) (r : Answer) (n : Medium) → below ≡ after_faults i m → Faults true true i m.plan → Flushes tries below r n → is_fault r ≡ true → (n ≡ after_faults (i + 1) m) × Faults true true (i + 1) m.plan
  flush_more i below r n same fs did t =
      let at = subst (λ d. Flushes tries d r n) same did in
      let more = one_more tries kind.Flush 0 true true m i r fs at.answers t in
      (at.after ∙ ap (leaves (after_faults i m) (flushed (after_faults i m))) (more i (omega arith)) ∙ ap (with_plan m) (later_drop i m.plan), more)

  pub flush_fails : (n : Medium) → n ≡ after_faults 3 m → Faults true true 3 m.plan → Flushes (tripled tries) (retry_medium m) (answer (tripled tries) kind.Flush 0 failed) (retry_medium n)
  flush_fails n same fs = record {
    answers = retry_fault tries kind.Flush 0 true true m fs;
    after = ap retry_medium same ∙ retry_fails tries kind.Flush 0 true true m fs (flushed (retry_medium m));
  }
