-- Every call keeps the table, the marks and the writes within their bounds.
use Rattle.std.proofs.Common.{◌≡◌, ℕ, ◌+◌, ◌<◌, ◌≤◌, Bool, true, false, cond, not, ◌||◌, eqb, ltb, List, [], ◌∷◌, ◌++◌, map, length, filter, sym, refl, subst, arith, Option, None, Some}
use Rattle.std.proofs.lemmas.List.{length-map, length_push}
use Rattle.std.proofs.lemmas.Bool.{cond_both, both_ways}
use Rattle.std.proofs.ByRecursion.{All-push, all_kept_by}
use Rattle.disk.specs.Medium.{Block, Write, standing, passed, flushed, cut, Medium, Effect, join, settle, allowed, take_effect}
use Rattle.table.specs.declared.held.Version.{Version}
use Rattle.ordered_law.proofs.Lists.{lay_length, all_map}
use Rattle.ordered_law.proofs.Refusals.{unless_both, accepted}
use Rattle.ordered_law.specs.Device.{Device}
use Rattle.ordered_law.proofs.Sorted.{written, next_bad, newest, Sorted, SortedOutcome, sorted_refusal, sorted_begin, sorted_finish, sorted_read, sorted_through, sorted_with, sorted_step, sorted_outcome}
use Rattle.precedence.specs.Stamps.{Precedence}
use Rattle.table.specs.Versions.{live, reserves, held, some_pass, has_ticket, begun, finish_one, withdraw_one, send_one, bring_home, wait_again, reserved}
use Rattle.ordered_law.specs.Ledger.{chosen}
use Rattle.ordered_law.specs.Promise.{write_of}
use Rattle.ordered_law.specs.Cache.{any_sent, any_busy}
use Rattle.ordered_law.specs.Events.{Call, Begin, Finish, Withdraw, Read, Step, Restart, Count}
use Rattle.ordered_law.specs.Bounds.{Fitting, Bounded}

kept_length : (p : Version → Bool) (l : List Version) → length (filter p l) ≤ length l
kept_length p [] = omega arith
kept_length p (v ∷ l) = cond_both (p v) _ _ (λ x. length x ≤ length (v ∷ l)) (λ _. omega (arith, kept_length p l)) (λ _. omega (arith, kept_length p l))

-- ---- writes that still take a mark

abbrev opens : Version → Bool
opens v = reserves v.state

-- a change that opens nothing, and closes one
open_least : (g : Version → Version) → ((v : Version) → opens (g v) ≡ true → opens v ≡ true) → (l : List Version) → reserved (map g l) ≤ reserved l
open_least g h [] = omega arith
open_least g h (v ∷ l) = go (opens (g v)) (opens v) (h v) (open_least g h l)
  where
    go : (a b : Bool) → (a ≡ true → b ≡ true) → reserved (map g l) ≤ reserved l → length (cond a (g v ∷ filter opens (map g l)) (filter opens (map g l))) ≤ length (cond b (v ∷ filter opens l) (filter opens l))
    go true true q ih = omega arith
    go true false q ih = absurd (both_ways false refl (q refl))
    go false true q ih = omega arith
    go false false q ih = ih

open_less : (g : Version → Version) (p : Version → Bool) → ((v : Version) → opens (g v) ≡ true → opens v ≡ true) → ((v : Version) → p v ≡ true → (opens v ≡ true) × (opens (g v) ≡ false)) →
    (l : List Version) → some_pass p l ≡ true → reserved (map g l) < reserved l
open_less g p h q [] e = absurd (both_ways false refl e)
open_less g p h q (v ∷ l) e = go (p v) (q v) e (open_less g p h q l)
  where
    go : (k : Bool) → (k ≡ true → (opens v ≡ true) × (opens (g v) ≡ false)) → (k || some_pass p l) ≡ true → (some_pass p l ≡ true → reserved (map g l) < reserved l) →
        reserved (map g (v ∷ l)) < reserved (v ∷ l)
    go true s e ih = let a = (s refl).0 in let b = (s refl).1 in rw (a, b) (omega (arith, open_least g h l))
    go false s e ih = more (opens (g v)) (opens v) (h v) (ih e)
      where
        more : (a b : Bool) → (a ≡ true → b ≡ true) → reserved (map g l) < reserved l → length (cond a (g v ∷ filter opens (map g l)) (filter opens (map g l))) < length (cond b (v ∷ filter opens l) (filter opens l))
        more true true q ih = omega arith
        more true false q ih = absurd (both_ways false refl (q refl))
        more false true q ih = omega arith
        more false false q ih = ih

open_kept : (p : Version → Bool) (l : List Version) → reserved (filter p l) ≤ reserved l
open_kept p [] = omega arith
open_kept p (v ∷ l) = go (p v) (opens v) refl (open_kept p l)
  where
    go : (k a : Bool) → opens v ≡ a → reserved (filter p l) ≤ reserved l → reserved (cond k (v ∷ filter p l) (filter p l)) ≤ length (cond a (v ∷ filter opens l) (filter opens l))
    go true true q ih = rw q (omega arith)
    go true false q ih = rw q ih
    go false true q ih = omega arith
    go false false q ih = ih

open_push : (x : Version) → opens x ≡ true → (l : List Version) → reserved (l ++ x ∷ []) ≡ reserved l + 1
open_push x e [] = rw e (omega arith)
open_push x e (v ∷ l) = go (opens v) (open_push x e l)
  where
    go : (k : Bool) → reserved (l ++ x ∷ []) ≡ reserved l + 1 → length (cond k (v ∷ filter opens (l ++ x ∷ [])) (filter opens (l ++ x ∷ []))) ≡ length (cond k (v ∷ filter opens l) (filter opens l)) + 1
    go true ih = omega arith
    go false ih = ih

-- ---- every call

abbrev pub Within : Sorted → Type 0
Within c = Bounded (length c.medium.firm) c.table c.counter

module _ (c : Sorted) (b : Within c) where
  abbrev Good : SortedOutcome → Type 0
  Good o = Within o.cache

  -- another medium of the same size
  same_table : (m : Medium) → length m.firm ≡ length c.medium.firm → Bounded (length m.firm) c.table c.counter
  same_table m e = record { few = b.few; marks = b.marks; fitting = rw e b.fitting }

  map_table : (g : Version → Version) (m : Medium) → length m.firm ≡ length c.medium.firm → ((v : Version) → opens (g v) ≡ true → opens v ≡ true) → ((v : Version) → write_of (g v) ≡ write_of v) →
      (n : ℕ) → n + reserved (map g c.table) ≤ 1000000 → Bounded (length m.firm) (map g c.table) n
  map_table g m e h w n le = record {
    few = let k = length-map c.table g in let f = b.few in omega arith;
    marks = le;
    fitting = rw e (all_map (Fitting (length c.medium.firm)) _ g
        (λ v f. subst (λ (x : Write). (x.place < length c.medium.firm) × (length x.bytes ≡ 512)) (sym (w v)) f) c.table b.fitting);
  }

  -- after a change, some leave the table
  leave_table : (g : Version → Version) (m : Medium) → length m.firm ≡ length c.medium.firm → ((v : Version) → opens (g v) ≡ true → opens v ≡ true) → ((v : Version) → write_of (g v) ≡ write_of v) →
      Bounded (length m.firm) (held (map g c.table)) c.counter
  leave_table g m e h w =
      let l = map g c.table in
      let f = map_table g m e h w c.counter (let k = open_least g h c.table in let f = b.marks in omega arith) in
      record {
        few = let k = kept_length (λ v. live v.state) l in let q = f.few in omega arith;
        marks = let k = open_kept (λ v. live v.state) l in let q = f.marks in omega arith;
        fitting = all_kept_by (λ v. live v.state) (Fitting (length m.firm)) l f.fitting;
      }

  begin_bounded : (place : ℕ) (bytes : Block) → Good (sorted_begin place bytes c)
  begin_bounded place bytes = unless_both (sorted_refusal place bytes c) _ _ Good
      (λ e.
      let t = accepted (length c.medium.firm) place bytes c.table c.counter e in
      record {
        few = let k = t.roomy in let l = length_push c.table x in omega arith;
        marks = let k = t.marks_left in let l = open_push x refl c.table in omega arith;
        fitting = All-push _ c.table x b.fitting (t.inside, t.whole);
      })
      (λ _. b)
    where
      x : Version
      x = begun place bytes (c.counter + 1)

  finish_bounded : (t : ℕ) → Good (sorted_finish t c)
  finish_bounded t = cond_both (some_pass (has_ticket t) c.table) _ _ Good
      (λ e. map_table (finish_one t (c.counter + 1)) c.medium refl shut (λ v. refl) (c.counter + 1)
      (let k = open_less (finish_one t (c.counter + 1)) (has_ticket t) shut (λ v h. (grind arith, grind arith)) c.table e in let m = b.marks in omega arith))
      (λ _. b)
    where
      shut : (v : Version) → opens (finish_one t (c.counter + 1) v) ≡ true → opens v ≡ true
      shut v h = grind arith

  read_bounded : (device : Device) (place size : ℕ) → Good (sorted_read device place size c)
  read_bounded device place size = cond_both (not (eqb size 512)) _ _ Good (λ _. b)
      (λ _. cond_both (not (ltb place (length c.medium.firm))) _ _ Good (λ _. b) (λ _. go (newest place c.table)))
    where
      go : (o : Option Version) → Good (sorted_through device place c o)
      go (Some v) = b
      go None = cond_both (next_bad c.medium.plan) _ _ Good (λ _. same_table (passed c.medium) refl) (λ _. same_table (passed c.medium) refl)

  step_bounded : (precedes : Precedence) (device : Device) → Good (sorted_step precedes device c)
  step_bounded precedes device = cond_both (any_busy c.table) _ _ Good (λ _. go (chosen precedes c.table)) (λ _. b)
    where
      go : (o : Option Version) → Good (sorted_with device c o)
      go (Some v) = cond_both (next_bad c.medium.plan) _ _ Good (λ _. same_table (passed c.medium) refl)
          (λ _. map_table g (written device c.medium (write_of v)) size shut (λ u. refl) c.counter
          (let k = open_least g shut c.table in let m = b.marks in omega arith))
        where
          g : Version → Version
          g = send_one v.stamp.begin

          shut : (u : Version) → opens (g u) ≡ true → opens u ≡ true
          shut u h = grind arith

          size : length (written device c.medium (write_of v)).firm ≡ length c.medium.firm
          size = effect (allowed device.rule c.medium)
            where
              effect : (e : Effect) → length (take_effect e c.medium (write_of v)).firm ≡ length c.medium.firm
              effect join = refl
              effect settle = lay_length (c.medium.loose ++ write_of v ∷ []) c.medium.firm
      go None = cond_both (any_sent c.table) _ _ Good
          (λ _. cond_both (next_bad c.medium.plan) _ _ Good (λ _. same_table (passed c.medium) refl) (λ _. leave_table bring_home (flushed c.medium) (lay_length c.medium.loose c.medium.firm) (λ u h. grind arith) (λ u. refl)))
          (λ _. b)

  pub call_bounded : (precedes : Precedence) (device : Device) (call : Call) → Good (sorted_outcome precedes device call c)
  call_bounded precedes device (Begin place bytes) = begin_bounded place bytes
  call_bounded precedes device (Finish t) = finish_bounded t
  call_bounded precedes device (Withdraw t) = cond_both (some_pass (has_ticket t) c.table) _ _ Good (λ _. leave_table (withdraw_one t) c.medium refl (λ v h. grind arith) (λ v. refl)) (λ _. b)
  call_bounded precedes device (Read place size) = read_bounded device place size
  call_bounded precedes device Step = step_bounded precedes device
  call_bounded precedes device Count = b
  call_bounded precedes device (Restart choice) =
      map_table wait_again (cut choice c.medium) (lay_length (standing choice c.medium.loose) c.medium.firm) (λ v h. grind arith) (λ v. refl) c.counter
      (let k = open_least wait_again (λ v h. grind arith) c.table in let m = b.marks in omega arith)
