-- A recovery that succeeds on any medium of the right size leaves an idle volume of the number that it answered.
use Rattle.std.proofs.Common.{◌≡◌, ℕ, zero, suc, ◌+◌, ◌<◌, ◌≤◌, Bool, true, false, cond, ◌&&◌, eqb, ltb, leb, ◌⊎◌, List, [], ◌∷◌, map, length, get_or, sym, refl, ap, ◌∙◌, subst, inl, inr, arith}
use mathlib.Core.Option.{Option, some, none}
use Rattle.std.proofs.lemmas.List.{length-map, nil_from_length}
use Rattle.std.proofs.lemmas.Bool.{eqb-true, eqb-false, ltb-true, lt-ltb, leb-true, le-leb, and_parts, and_from}
use Rattle.disk.specs.Medium.{Effect, Block, Write, lay, due, Medium, current, passed}
use Rattle.journal_law.proofs.Media.{Kept, Keeps, over, length_lay}
use Rattle.head.specs.Head.{Head, encode, decode, empty_head, fits, all_below, none_twice}
use Rattle.journal_law.specs.Recovery.{Stage, first_flush, read_head, read_slot, write_home, home_flush, write_empty, last_flush, recovered, no_head, failed, Recovery, started, slot_place, head_seen, good_call, bad_call, one_call, calls}
use Rattle.journal_law.specs.Cache.{nth, place_of}
use Rattle.journal_law.proofs.Forms.{head_of, Idle, Replayed, Names, replayed_start}
use Rattle.head.proofs.RoundTrip.{decode_encode, decode_sound}
use Rattle.journal_law.proofs.Restore.{At, call_holds, by_entry_both, get_d_places}

pub inside_all : (n : ℕ) (ps : List ℕ) (i : ℕ) → all_below n ps ≡ true → i < length ps → get_or ps i 0 < n
inside_all n [] i a l = absurd (omega arith)
inside_all n (p ∷ ps) zero a l = ltb-true p n (and_parts (ltb p n) (all_below n ps) a).0
inside_all n (p ∷ ps) (suc i) a l = inside_all n ps i (and_parts (ltb p n) (all_below n ps) a).1 (omega arith)

pub record Fits (n : ℕ) (h : Head) : Type 0 where
  pub number : h.number < 4_294_967_296
  pub few : length h.places ≤ 8
  pub below : all_below n h.places ≡ true
  pub apart : none_twice h.places ≡ true

pub fits_parts : (n : ℕ) (h : Head) → fits n h ≡ true → Fits n h
fits_parts n h f =
    let a : (ltb h.number 4_294_967_296 ≡ true) × ((leb (length h.places) 8 && (all_below n h.places && none_twice h.places)) ≡ true)
    = and_parts (ltb h.number 4_294_967_296) (leb (length h.places) 8 && (all_below n h.places && none_twice h.places)) f in
    let b : (leb (length h.places) 8 ≡ true) × ((all_below n h.places && none_twice h.places) ≡ true)
    = and_parts (leb (length h.places) 8) (all_below n h.places && none_twice h.places) a.1 in
    let c : (all_below n h.places ≡ true) × (none_twice h.places ≡ true) = and_parts (all_below n h.places) (none_twice h.places) b.1 in
    record { number = ltb-true h.number 4_294_967_296 a.0; few = leb-true (length h.places) 8 b.0; below = c.0; apart = c.1 }

pub parts_fit : (n : ℕ) (h : Head) → Fits n h → fits n h ≡ true
parts_fit n h f = and_from (ltb h.number 4_294_967_296) (leb (length h.places) 8 && (all_below n h.places && none_twice h.places))
    (lt_is h.number f.number)
    (and_from (leb (length h.places) 8) (all_below n h.places && none_twice h.places) (le-leb (length h.places) 8 f.few)
    (and_from (all_below n h.places) (none_twice h.places) f.below f.apart))
  where
    lt_is : (x : ℕ) → x < 4_294_967_296 → ltb x 4_294_967_296 ≡ true
    lt_is x l = lt-ltb x 4_294_967_296 l

pub blank_decodes : (n k : ℕ) → n ≤ 65_536 → k < 4_294_967_296 → decode n (encode (empty_head k)) ≡ some (empty_head k)
blank_decodes n k small l = decode_encode n (empty_head k) small
    (parts_fit n (empty_head k) (record { number = l; few = omega arith; below = refl; apart = refl }))

-- a medium with nothing loose keeps what its current blocks obey
kept_still : (size : ℕ) (Q : ℕ → Block → Type 0) (firm : List Block) (loose : List Write) → length firm ≡ size → loose ≡ [] →
    ((p : ℕ) → p < size → Q p (get_or (lay firm loose) p [])) → Kept size Q firm loose
kept_still size Q firm loose s e =
    subst (λ ls. ((p : ℕ) → p < size → Q p (get_or (lay firm ls) p [])) → Kept size Q firm ls) (sym e)
    (λ f. record { size_is = s; firm_ok = λ p l. f p (subst (λ x. p < x) s l); loose_ok = tt })

module _ (n : ℕ) (small : n ≤ 65_536) where
  -- the writes that a head names, with the bytes of the slots from number i on
  from_slots : Medium → ℕ → List ℕ → List Write
  from_slots m i [] = []
  from_slots m i (p ∷ ps) = record { place = p; bytes = get_or (current m) (slot_place n i) [] } ∷ from_slots m (suc i) ps

  from_places : (m : Medium) (i : ℕ) (ps : List ℕ) → map place_of (from_slots m i ps) ≡ ps
  unfolding from_slots
  from_places m i [] = refl
  from_places m i (p ∷ ps) = ap (λ xs. p ∷ xs) (from_places m (suc i) ps)

  from_bytes : (m : Medium) (i : ℕ) (ps : List ℕ) (j : ℕ) → j < length (from_slots m i ps) →
      (nth (from_slots m i ps) j).bytes ≡ get_or (current m) (slot_place n (i + j)) []
  unfolding from_slots
  from_bytes m i [] j l = absurd (omega arith)
  from_bytes m i (p ∷ ps) zero l = ap (λ x. get_or (current m) (slot_place n x) []) (let e : i ≡ i + 0 = omega arith in e)
  from_bytes m i (p ∷ ps) (suc j) l =
      from_bytes m (suc i) ps j (omega arith) ∙ ap (λ x. get_or (current m) (slot_place n x) []) (let e : suc i + j ≡ i + suc j = omega arith in e)

  -- before the head is read
  abbrev Early : Stage → Medium → Type 0
  Early first_flush m = length m.firm ≡ n + 9
  Early read_head m = (length m.firm ≡ n + 9) × (m.loose ≡ [])
  Early no_head m = Unit {0}
  Early (failed call place) m = Unit {0}
  Early (read_slot i h) m = ⊥
  Early (write_home i h bytes) m = ⊥
  Early (home_flush h) m = ⊥
  Early (write_empty h) m = ⊥
  Early (last_flush h) m = ⊥
  Early (recovered j) m = ⊥

  abbrev Later : Stage → Medium → Type 0
  Later s m = (k : ℕ) × (t : ℕ → Block) × (blank : decode n (encode (empty_head k)) ≡ some (empty_head k)) × At n k t blank s m

  abbrev Found : Recovery → Type 0
  Found r = Early r.stage r.medium ⊎ Later r.stage r.medium

  head_found : (m : Medium) → length m.firm ≡ n + 9 → m.loose ≡ [] → (o : Option Head) → decode n (get_or (current m) n []) ≡ o →
      Early (head_seen o) (passed m) ⊎ Later (head_seen o) (passed m)
  head_found m s q none e = inl tt
  head_found m s q (some h) e = inr (h.number, (go (eqb (length h.places) 0) refl).0, (go (eqb (length h.places) 0) refl).1, (go (eqb (length h.places) 0) refl).2)
    where
      is_head : (get_or (current m) n [] ≡ encode h) × (fits n h ≡ true)
      is_head = decode_sound n (get_or (current m) n []) h e

      f : Fits n h
      f = fits_parts n h is_head.1

      blank : decode n (encode (empty_head h.number)) ≡ some (empty_head h.number)
      blank = blank_decodes n h.number small f.number

      ws : List Write
      ws = from_slots m 0 h.places

      t : ℕ → Block
      t p = over ws p (get_or (current m) p [])

      t₀ : ℕ → Block
      t₀ p = get_or (current m) p []

      head_is : head_of h.number ws ≡ h
      head_is = λ j. record { number = h.number; places = from_places m 0 h.places j }

      count : length ws ≡ length h.places
      count = sym (length-map ws place_of) ∙ ap length (from_places m 0 h.places)

      kept : Keeps (n + 9) (Replayed n h.number ws t) m
      kept = kept_still (n + 9) (Replayed n h.number ws t) m.firm m.loose s q (λ p l. record {
        home = λ _. refl;
        heading = λ z. subst (λ r. get_or (current m) r [] ≡ encode (head_of h.number ws)) (sym z) (is_head.0 ∙ ap encode (sym head_is));
        slot = λ _ i li z. ap (λ r. get_or (current m) r []) z ∙ sym (from_bytes m 0 h.places i li ∙ ap (λ x. get_or (current m) (slot_place n x) []) (let y : 0 + i ≡ i = omega arith in y));
      })

      go : (c : Bool) → eqb (length h.places) 0 ≡ c →
          (t : ℕ → Block) × (blank : decode n (encode (empty_head h.number)) ≡ some (empty_head h.number)) ×
          At n h.number t blank (cond c (recovered h.number) (read_slot 0 h)) (passed m)
      go true z = (
        t₀,
        blank,
        (
          refl,
          kept_still (n + 9) (Idle n h.number t₀) m.firm m.loose s q (λ p l. record {
            home = λ _. refl;
            heading = λ y. subst (λ r. get_or (current m) r [] ≡ encode (empty_head h.number)) (sym y)
                (is_head.0 ∙ ap encode (λ j. record { number = h.number; places = nil_from_length h.places (eqb-true (length h.places) 0 z) j }));
            slot = λ _ i li. absurd (omega arith);
          }),
        ),
      )
      go false z = (t, blank, (ws, names, sym head_is, turn, kept, replayed_start n h.number ws t m kept))
        where
          turn : 0 < length ws
          turn = omega (arith, eqb-false (length h.places) 0 z, count)

          names : Names n h.number ws
          names = record {
            decodes = subst (λ (x : Head). decode n (encode x) ≡ some x) (sym head_is) (ap (decode n) (sym is_head.0) ∙ e);
            blank = blank;
            few = omega (arith, count, f.few);
            many = turn;
            inside = λ i li. subst (λ x. x < n) (ap (λ xs. get_or xs i 0) (sym (from_places m 0 h.places)) ∙ get_d_places ws i li)
                (inside_all n h.places i f.below (omega (arith, count, li)));
          }

  good_found : (effect : Effect) (s : Stage) (m : Medium) → Early s m → Found (good_call n effect m s)
  good_found effect first_flush m a = inl (length_lay m.firm m.loose ∙ a, refl)
  good_found effect read_head m a = head_found m a.0 a.1 (decode n (get_or (current m) n [])) refl
  good_found effect no_head m a = inl tt
  good_found effect (failed call place) m a = inl tt
  good_found effect (read_slot i h) m a = absurd a
  good_found effect (write_home i h bytes) m a = absurd a
  good_found effect (home_flush h) m a = absurd a
  good_found effect (write_empty h) m a = absurd a
  good_found effect (last_flush h) m a = absurd a
  good_found effect (recovered j) m a = absurd a

  bad_found : (s : Stage) (m : Medium) → Early s m → Found (bad_call n m s)
  bad_found first_flush m a = inl tt
  bad_found read_head m a = inl tt
  bad_found no_head m a = inl tt
  bad_found (failed call place) m a = inl tt
  bad_found (read_slot i h) m a = absurd a
  bad_found (write_home i h bytes) m a = absurd a
  bad_found (home_flush h) m a = absurd a
  bad_found (write_empty h) m a = absurd a
  bad_found (last_flush h) m a = absurd a
  bad_found (recovered j) m a = absurd a

  call_found : (effect : Effect) (r : Recovery) → Found r → Found (one_call n effect r)
  call_found effect r (inl a) = by_entry_both Found (due r.medium.plan) (good_call n effect r.medium r.stage) (bad_call n r.medium r.stage)
      (good_found effect r.stage r.medium a) (bad_found r.stage r.medium a)
  call_found effect r (inr (k, t, blank, a)) = inr (k, t, blank, call_holds n k t blank effect r a)

  calls_found : (effects : List Effect) (r : Recovery) → Found r → Found (calls n effects r)
  calls_found [] r a = a
  calls_found (s ∷ ss) r a = calls_found ss (one_call n s r) (call_found s r a)

  pub found : (effects : List Effect) (m : Medium) (j : ℕ) (m' : Medium) → length m.firm ≡ n + 9 →
      calls n effects (started m) ≡ record { stage = recovered j; medium = m' } →
      (decode n (encode (empty_head j)) ≡ some (empty_head j)) × ((t : ℕ → Block) × Keeps (n + 9) (Idle n j t) m')
  found effects m j m' s e = go (subst Found e (calls_found effects (started m) (inl s)))
    where
      go : Found (record { stage = recovered j; medium = m' }) →
          (decode n (encode (empty_head j)) ≡ some (empty_head j)) × ((t : ℕ → Block) × Keeps (n + 9) (Idle n j t) m')
      go (inl a) = absurd a
      go (inr (k, t, blank, (q, a))) =
          subst (λ x. (decode n (encode (empty_head x)) ≡ some (empty_head x)) × ((t : ℕ → Block) × Keeps (n + 9) (Idle n x t) m')) (sym q) (blank, (t, a))
