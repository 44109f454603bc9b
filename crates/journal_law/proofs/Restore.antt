-- Recovery: while it runs, every cut leaves a medium that recovers to the same number and blocks; when it succeeds, it answers that
-- number and leaves those blocks.
use Rattle.std.proofs.Common.{◌≡◌, ℕ, zero, suc, ◌+◌, ◌<◌, Bool, true, false, cond, ltb, ◌⊎◌, List, [], ◌∷◌, map, length, get_or, sym, refl, ap, ◌∙◌, subst, inl, inr, arith}
use mathlib.Core.Option.{Option, some, none}
use Rattle.std.proofs.lemmas.List.{length-map}
use Rattle.std.proofs.lemmas.Bool.{ne_eqb, ltb-true, ltb-false}
use Rattle.disk.specs.Medium.{Effect, Block, Write, Entry, good, bad, due, Medium, current, passed, flushed, cut}
use Rattle.journal_law.proofs.Media.{wrote, Kept, Keeps, kept_current, kept_flush, kept_cut}
use Rattle.journal_law.specs.Recovery.{by_entry}
use Rattle.head.specs.Head.{Head, encode, decode, empty_head}
use Rattle.journal_law.specs.Recovery.{Stage, first_flush, read_head, read_slot, write_home, home_flush, write_empty, last_flush, recovered, no_head, failed, Recovery, started, slot_place, head_write, head_seen, good_call, bad_call, one_call, calls, Broken, maybe_cut, after_broken}
use Rattle.journal_law.specs.Cache.{nth, place_of}
use Rattle.journal_law.proofs.Forms.{head_of, Idle, Replayed, Cleared, Names, Fixed, ToLay, replayed_start, replayed_write, replayed_fixed, replayed_flush, cleared_write, cleared_flush, cleared_again}

-- a medium from which recovery answers k and shows t
pub data Sound (n k : ℕ) (t : ℕ → Block) (firm : List Block) (loose : List Write) : Type 0 where
  idle : Kept (n + 9) (Idle n k t) firm loose → Sound n k t firm loose
  replayed : (ws : List Write) → Names n k ws → Kept (n + 9) (Replayed n k ws t) firm loose → Sound n k t firm loose
  cleared : (ws : List Write) → Names n k ws → Fixed n ws t → Kept (n + 9) (Cleared n k ws t) firm loose → Sound n k t firm loose

abbrev pub Recovers : ℕ → ℕ → (ℕ → Block) → Medium → Type 0
Recovers n k t m = Sound n k t m.firm m.loose

pub recovers_cut : (n k : ℕ) (t : ℕ → Block) (choice : ℕ) (m : Medium) → Recovers n k t m → Recovers n k t (cut choice m)
recovers_cut n k t choice m (idle h) = idle (kept_cut (n + 9) (Idle n k t) choice m h)
recovers_cut n k t choice m (replayed ws names h) = replayed ws names (kept_cut (n + 9) (Replayed n k ws t) choice m h)
recovers_cut n k t choice m (cleared ws names fixed h) = cleared ws names fixed (kept_cut (n + 9) (Cleared n k ws t) choice m h)

pub by_entry_both : {A : Type 0} (P : A → Type 0) (e : Entry) (x y : A) → P x → P y → P (by_entry e x y)
by_entry_both P good x y p q = p
by_entry_both P bad x y p q = q

pub get_d_places : (ws : List Write) (i : ℕ) → i < length ws → get_or (map place_of ws) i 0 ≡ (nth ws i).place
get_d_places [] i l = absurd (omega arith)
get_d_places (w ∷ ws) zero l = refl
get_d_places (w ∷ ws) (suc i) l = get_d_places ws i (omega arith)

module _ (n k : ℕ) (t : ℕ → Block) (blank : decode n (encode (empty_head k)) ≡ some (empty_head k)) where
  -- what holds at each stage
  abbrev pub At : Stage → Medium → Type 0
  At first_flush m = Recovers n k t m
  At read_head m = Keeps (n + 9) (Idle n k t) m ⊎ ((ws : List Write) × Names n k ws × Keeps (n + 9) (Replayed n k ws t) m)
  At (read_slot i h) m =
      (ws : List Write) × Names n k ws × (h ≡ head_of k ws) × (i < length ws) × Keeps (n + 9) (Replayed n k ws t) m × ToLay n ws t i m
  At (write_home i h bytes) m =
      (ws : List Write) × Names n k ws × (h ≡ head_of k ws) × (i < length ws) × Keeps (n + 9) (Replayed n k ws t) m × ToLay n ws t i m
      × (bytes ≡ (nth ws i).bytes)
  At (home_flush h) m =
      (ws : List Write) × Names n k ws × (h ≡ head_of k ws) × Keeps (n + 9) (Replayed n k ws t) m × ToLay n ws t (length ws) m
  At (write_empty h) m = (ws : List Write) × Names n k ws × (h ≡ head_of k ws) × Fixed n ws t × Keeps (n + 9) (Cleared n k ws t) m
  At (last_flush h) m =
      (ws : List Write) × Names n k ws × (h ≡ head_of k ws) × Fixed n ws t × Keeps (n + 9) (Cleared n k ws t) m
      × (get_or (current m) n [] ≡ encode (empty_head k))
  At (recovered j) m = (j ≡ k) × Keeps (n + 9) (Idle n k t) m
  At no_head m = ⊥
  At (failed call place) m = Recovers n k t m

  abbrev pub Holds : Recovery → Type 0
  Holds r = At r.stage r.medium

  pub at_recovers : (s : Stage) (m : Medium) → At s m → Recovers n k t m
  at_recovers first_flush m a = a
  at_recovers read_head m (inl h) = idle h
  at_recovers read_head m (inr a) = replayed a.0 a.1 a.2
  at_recovers (read_slot i h) m a = replayed a.0 a.1 a.4
  at_recovers (write_home i h bytes) m a = replayed a.0 a.1 a.4
  at_recovers (home_flush h) m a = replayed a.0 a.1 a.3
  at_recovers (write_empty h) m a = cleared a.0 a.1 a.3 a.4
  at_recovers (last_flush h) m a = cleared a.0 a.1 a.3 a.4
  at_recovers (recovered j) m a = idle a.1
  at_recovers no_head m a = absurd a
  at_recovers (failed call place) m a = a

  bad_holds : (s : Stage) (m : Medium) → At s m → Holds (bad_call n m s)
  bad_holds first_flush m a = at_recovers first_flush m a
  bad_holds read_head m a = at_recovers read_head m a
  bad_holds (read_slot i h) m a = at_recovers (read_slot i h) m a
  bad_holds (write_home i h bytes) m a = at_recovers (write_home i h bytes) m a
  bad_holds (home_flush h) m a = at_recovers (home_flush h) m a
  bad_holds (write_empty h) m a = at_recovers (write_empty h) m a
  bad_holds (last_flush h) m a = at_recovers (last_flush h) m a
  bad_holds (recovered j) m a = a
  bad_holds no_head m a = absurd a
  bad_holds (failed call place) m a = a

  flush_holds : (m : Medium) → Recovers n k t m → At read_head (flushed m)
  flush_holds m (idle h) = inl (kept_flush (n + 9) (Idle n k t) m h)
  flush_holds m (replayed ws names h) = inr (ws, names, kept_flush (n + 9) (Replayed n k ws t) m h)
  flush_holds m (cleared ws names fixed h) = go ((kept_current (n + 9) (Cleared n k ws t) m h n (omega arith)).heading refl)
    where
      go : (get_or (current m) n [] ≡ encode (head_of k ws)) ⊎ (get_or (current m) n [] ≡ encode (empty_head k)) → At read_head (flushed m)
      go (inl e) = inr (ws, names, cleared_again n k ws t m fixed h e)
      go (inr e) = inl (cleared_flush n k ws t m h e)

  head_holds : (m : Medium) → At read_head m → At (head_seen (decode n (get_or (current m) n []))) (passed m)
  head_holds m (inl h) =
      subst (λ o. At (head_seen o) (passed m))
      (sym (ap (decode n) ((kept_current (n + 9) (Idle n k t) m h n (omega arith)).heading refl) ∙ blank)) (refl, h)
  head_holds m (inr (ws, names, h)) =
      subst (λ o. At (head_seen o) (passed m))
      (sym (ap (decode n) ((kept_current (n + 9) (Replayed n k ws t) m h n (omega arith)).heading refl) ∙ names.decodes))
      (subst (λ b. At (cond b (recovered k) (read_slot 0 (head_of k ws))) (passed m))
      (sym (ne_eqb (length (map place_of ws)) 0 (λ e. absurd (omega (arith, names.many, length-map ws place_of)))))
      (ws, names, refl, names.many, h, replayed_start n k ws t m h))

  home_holds : (effect : Effect) (i : ℕ) (h : Head) (bytes : Block) (m : Medium) → At (write_home i h bytes) m →
      Holds (good_call n effect m (write_home i h bytes))
  home_holds effect i h bytes m (ws, names, e, l, f, to-lay, b) =
      subst (λ w. At (cond (ltb (suc i) (length h.places)) (read_slot (suc i) h) (home_flush h)) (wrote effect w m)) (sym write_is)
      (go (ltb (suc i) (length h.places)) refl)
    where
      write_is : record { place = get_or h.places i 0; bytes = bytes } ≡ nth ws i
      write_is = λ j. record { place = (ap (λ (x : Head). get_or x.places i 0) e ∙ get_d_places ws i l) j; bytes = b j }

      count : length h.places ≡ length ws
      count = ap (λ (x : Head). length x.places) e ∙ length-map ws place_of

      done : Keeps (n + 9) (Replayed n k ws t) (wrote effect (nth ws i) m) × ToLay n ws t (suc i) (wrote effect (nth ws i) m)
      done = replayed_write n k ws t effect i m names f to-lay l

      go : (c : Bool) → ltb (suc i) (length h.places) ≡ c → At (cond c (read_slot (suc i) h) (home_flush h)) (wrote effect (nth ws i) m)
      go true q = (ws, names, e, omega (arith, ltb-true (suc i) (length h.places) q, count), done.0, done.1)
      go false q = (
        ws,
        names,
        e,
        done.0,
        subst (λ x. ToLay n ws t x (wrote effect (nth ws i) m))
            (let eq : suc i ≡ length ws = omega (arith, ltb-false (suc i) (length h.places) q, count, l) in eq) done.1,
      )

  good_holds : (effect : Effect) (s : Stage) (m : Medium) → At s m → Holds (good_call n effect m s)
  good_holds effect first_flush m a = flush_holds m a
  good_holds effect read_head m a = head_holds m a
  good_holds effect (read_slot i h) m (ws, names, e, l, f, to-lay) = (
    ws,
    names,
    e,
    l,
    f,
    to-lay,
    (kept_current (n + 9) (Replayed n k ws t) m f (slot_place n i) (omega (arith, names.few, l))).slot refl i l refl,
  )
  good_holds effect (write_home i h bytes) m a = home_holds effect i h bytes m a
  good_holds effect (home_flush h) m (ws, names, e, f, to-lay) =
      (ws, names, e, replayed_fixed n k ws t m f, replayed_flush n k ws t m f to-lay)
  good_holds effect (write_empty h) m (ws, names, e, fixed, f) =
      subst (λ (x : Head). At (last_flush h) (wrote effect (head_write n (empty_head x.number)) m)) (sym e)
      (ws, names, e, fixed, (cleared_write n k ws t effect m f).0, (cleared_write n k ws t effect m f).1)
  good_holds effect (last_flush h) m (ws, names, e, fixed, f, c) = (ap (λ (x : Head). x.number) e, cleared_flush n k ws t m f c)
  good_holds effect (recovered j) m a = a
  good_holds effect no_head m a = absurd a
  good_holds effect (failed call place) m a = a

  pub call_holds : (effect : Effect) (r : Recovery) → Holds r → Holds (one_call n effect r)
  call_holds effect r a = by_entry_both Holds (due r.medium.plan) (good_call n effect r.medium r.stage) (bad_call n r.medium r.stage)
      (good_holds effect r.stage r.medium a) (bad_holds r.stage r.medium a)

  pub calls_hold : (effects : List Effect) (r : Recovery) → Holds r → Holds (calls n effects r)
  calls_hold [] r a = a
  calls_hold (s ∷ ss) r a = calls_hold ss (one_call n s r) (call_holds s r a)

  maybe_cut_recovers : (c : Option ℕ) (m : Medium) → Recovers n k t m → Recovers n k t (maybe_cut c m)
  maybe_cut_recovers none m a = a
  maybe_cut_recovers (some choice) m a = recovers_cut n k t choice m a

  -- any number of recoveries that are broken off
  pub broken_recovers : (bs : List Broken) (m : Medium) → Recovers n k t m → Recovers n k t (after_broken n bs m)
  broken_recovers [] m a = a
  broken_recovers (b ∷ bs) m a =
      let r : Recovery = calls n b.effects (started m) in
      broken_recovers bs (maybe_cut b.cut_by r.medium)
      (maybe_cut_recovers b.cut_by r.medium (at_recovers r.stage r.medium (calls_hold b.effects (started m) a)))

  -- the recovery that succeeds
  pub success : (effects : List Effect) (m : Medium) (j : ℕ) (m' : Medium) → Recovers n k t m →
      calls n effects (started m) ≡ record { stage = recovered j; medium = m' } → (j ≡ k) × Keeps (n + 9) (Idle n k t) m'
  success effects m j m' a e = subst (λ (r : Recovery). Holds r) e (calls_hold effects (started m) a)
