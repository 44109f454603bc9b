-- A read shows the newest finished write of its place.
use Rattle.std.proofs.Common.{◌≡◌, ℕ, ◌<◌, Bool, true, false, cond, not, ◌&&◌, eqb, ltb, ◌≢◌, List, [], ◌∷◌, map, length, get_or, set, sym, refl, ap, ◌∙◌, subst, arith, get_or-set_other, get_or-set_same, Option, None, Some}
use Rattle.std.specs.List.{AllByRecursion}
use Rattle.std.proofs.lemmas.List.{length-set}
use Rattle.std.proofs.lemmas.Bool.{cond_both, both_ways, and_parts, eqb-true, ltb-true, not-false}
use Rattle.std.proofs.lemmas.Bool.Decides.{nat_tests}
use Rattle.std.proofs.ByRecursion.{All-weaker, kept_by_passes}
use Rattle.disk.specs.Medium.{Block, lay, Medium, current}
use Rattle.precedence.specs.Stamps.{Precedence, Lawful}
use Rattle.std.specs.Option.{option_or}
use Rattle.table.specs.declared.held.State.{State}
use Rattle.table.specs.declared.held.State.TheVariants.{Home}
use Rattle.table.specs.declared.held.Version.{Version}
use Rattle.table.specs.Versions.{live, finished, held, finished_in}
use Rattle.ordered_law.specs.Device.{Device}
use Rattle.ordered_law.specs.Events.{Read, shown}
use Rattle.ordered_law.specs.Promise.{write_of, writes, kept_writes, Pairs, newest_block}
use Rattle.ordered_law.proofs.Sorted.{next_bad, Sorted, SortedOutcome, last, newest, sorted_through, sorted_read, sorted_opened, sorted_outcome, Asked, after}
use Rattle.ordered_law.proofs.Lists.{In, here, there, all_in, all_of, all_both, in_kept, pairs_kept, lay_length}
use Rattle.ordered_law.proofs.Invariant.{Before, Released, Firm, Keeps, plus}
use Rattle.ordered_law.proofs.Firming.{no_later, firm_more}
use Rattle.ordered_law.proofs.Calls.{keep_calls, at_start, ledger_of}

-- ---- what laying shows at one place

-- the bytes of the last version that passes, or else d
abbrev last_bytes : (Version → Bool) → List Version → Block → Block
last_bytes p [] d = d
last_bytes p (v ∷ l) d = last_bytes p l (cond (p v) v.bytes d)

set_shown : (bs : List Block) (p place : ℕ) (b : Block) → place < length bs → (k : Bool) → eqb p place ≡ k → get_or (set bs p b) place [] ≡ cond k b (get_or bs place [])
set_shown bs p place b lt true e = let q = eqb-true p place e in subst (λ x. get_or (set bs x b) place [] ≡ b) (sym q) (rw get_or-set_same)
set_shown bs p place b lt false e = let ne : place ≢ p = (λ q. let h : eqb p place ≡ true = grind (arith, nat_tests) in both_ways (eqb p place) e h) in rw get_or-set_other

lay_shown : (q : Version → Bool) (place : ℕ) (l : List Version) (bs : List Block) → place < length bs →
    get_or (lay bs (writes q l)) place [] ≡ last_bytes (λ v. q v && eqb v.stamp.place place) l (get_or bs place [])
lay_shown q place [] bs lt = refl
lay_shown q place (v ∷ l) bs lt = go (q v) (λ bs' h. lay_shown q place l bs' h)
  where
    P : Version → Bool
    P u = q u && eqb u.stamp.place place

    go : (k : Bool) → ((bs' : List Block) → place < length bs' → get_or (lay bs' (writes q l)) place [] ≡ last_bytes P l (get_or bs' place [])) →
        get_or (lay bs (cond k (write_of v ∷ writes q l) (writes q l))) place [] ≡ last_bytes P l (cond (k && eqb v.stamp.place place) v.bytes (get_or bs place []))
    go true ih =
        ih (set bs v.stamp.place v.bytes) (let h = length-set bs v.stamp.place v.bytes in omega arith)
        ∙ ap (last_bytes P l) (set_shown bs v.stamp.place place v.bytes lt (eqb v.stamp.place place) refl)
    go false ih = ih bs lt

same_bytes : (p q : Version → Bool) (l : List Version) (d : Block) → AllByRecursion (λ v. p v ≡ q v) l → last_bytes p l d ≡ last_bytes q l d
same_bytes p q [] d a = refl
same_bytes p q (v ∷ l) d a = ap (λ k. last_bytes p l (cond k v.bytes d)) a.0 ∙ same_bytes p q l (cond (q v) v.bytes d) a.1

no_bytes : (p : Version → Bool) (l : List Version) (d : Block) → AllByRecursion (λ v. p v ≡ false) l → last_bytes p l d ≡ d
no_bytes p [] d a = refl
no_bytes p (v ∷ l) d a = ap (λ k. last_bytes p l (cond k v.bytes d)) a.0 ∙ no_bytes p l d a.1

-- v passes, and nothing after it does
its_bytes : (p : Version → Bool) (v : Version) (l : List Version) (d : Block) → In v l → Pairs Before l → p v ≡ true → AllByRecursion (λ w. v.stamp.begin < w.stamp.begin → p w ≡ false) l → last_bytes p l d ≡ v.bytes
its_bytes p v l d (here {vs = vs}) o h a =
    ap (λ k. last_bytes p vs (cond k v.bytes d)) h ∙ no_bytes p vs v.bytes (all_both (Before v) _ _ (λ w b f. f b.earlier) vs o.0 a.1)
its_bytes p v l d (there {u = u} {vs = vs} i) o h a = its_bytes p v vs (cond (p u) u.bytes d) i o.1 h a.1

-- ---- what a scan from the end finds

record Last (p : Version → Bool) (v : Version) (l : List Version) : Type 0 where
  inside : In v l
  passes : p v ≡ true
  none_later : AllByRecursion (λ w. v.stamp.begin < w.stamp.begin → p w ≡ false) l

abbrev Found : (Version → Bool) → List Version → Option Version → Type 0
Found p l (Some v) = Last p v l
Found p l None = AllByRecursion (λ v. p v ≡ false) l

found_last : (p : Version → Bool) (l : List Version) → Pairs Before l → Found p l (last p l)
found_last p [] o = tt
found_last p (x ∷ l) o = go (last p l) (found_last p l o.1) (p x) refl
  where
    go : (r : Option Version) → Found p l r → (k : Bool) → p x ≡ k → Found p (x ∷ l) (option_or r (cond k (Some x) None))
    go (Some v) f k e = record {
      inside = there f.inside;
      passes = f.passes;
      none_later = ((λ lt. absurd (let h = (all_in (Before x) v l f.inside o.0).earlier in omega arith)), f.none_later);
    }
    go None f true e = record { inside = here; passes = e; none_later = ((λ lt. absurd (omega arith)), All-weaker _ _ (λ w h _. h) l f) }
    go None f false e = (e, f)

-- ---- the read

in_held : (p : Version → Bool) (l : List Version) → AllByRecursion (λ v. p v ≡ false) (held l) → AllByRecursion (λ v. live v.state ≡ true → p v ≡ false) l
in_held p [] a = tt
in_held p (v ∷ l) a = go (live v.state) refl a (in_held p l)
  where
    go : (k : Bool) → live v.state ≡ k → AllByRecursion (λ u. p u ≡ false) (cond k (v ∷ held l) (held l)) → (AllByRecursion (λ u. p u ≡ false) (held l) → AllByRecursion (λ u. live u.state ≡ true → p u ≡ false) l) →
        AllByRecursion (λ u. live u.state ≡ true → p u ≡ false) (v ∷ l)
    go true e a ih = ((λ _. a.0), ih a.1)
    go false e a ih = ((λ h. absurd (both_ways (live v.state) e h)), ih a)

later_held : (p : Version → Bool) (n : ℕ) (l : List Version) → AllByRecursion (λ w. n < w.stamp.begin → p w ≡ false) (held l) → AllByRecursion (λ w. live w.state ≡ true → n < w.stamp.begin → p w ≡ false) l
later_held p n [] a = tt
later_held p n (v ∷ l) a = go (live v.state) refl a (later_held p n l)
  where
    Q : Version → Type 0
    Q w = n < w.stamp.begin → p w ≡ false

    go : (k : Bool) → live v.state ≡ k → AllByRecursion Q (cond k (v ∷ held l) (held l)) → (AllByRecursion Q (held l) → AllByRecursion (λ w. live w.state ≡ true → Q w) l) → AllByRecursion (λ w. live w.state ≡ true → Q w) (v ∷ l)
    go true e a ih = ((λ _. a.0), ih a.1)
    go false e a ih = ((λ h. absurd (both_ways (live v.state) e h)), ih a)

home_of : (s : State) → (live s ≡ true → ⊥) → finished s ≡ true → s ≡ Home
home_of s h f = grind arith

module _ (precedes : Precedence) (lawful : Lawful precedes) (opening : List Block) (l : List Version) (c : Sorted) (i : Keeps precedes opening l c) (place : ℕ) (inside : place < length c.medium.firm) where
  abbrev set_now : ℕ → Bool
  set_now = plus i.store.kept i.store.due

  now_firm : Firm precedes opening c.counter l set_now (lay c.medium.firm (map write_of i.store.due))
  now_firm = firm_more precedes lawful c.counter l i.book opening i.store.kept c.medium.firm i.store.due i.store.due_ok i.store.firm_ok

  abbrev at_place : Version → Bool
  at_place = finished_in place

  within : place < length opening
  within = let h = lay_length (kept_writes i.store.kept l) opening in let k = ap length i.store.firm_ok.firm_is in omega arith

  newest_is : newest_block opening l place ≡ last_bytes at_place l (get_or opening place [])
  newest_is = lay_shown (λ v. finished v.state) place l opening within

  abbrev Newest : Block → Type 0
  Newest b = b ≡ newest_block opening l place

  -- the newest in the table is the newest of all: a later home write of the place would be preceded by it
  from_table : (v : Version) → Last at_place v (held l) → Newest v.bytes
  from_table v f = sym (newest_is ∙ its_bytes at_place v l (get_or opening place []) in_ledger i.book.order f.passes (all_both _ _ _ none (l) (later_held at_place v.stamp.begin l f.none_later) homes))
    where
      in_ledger : In v l
      in_ledger = in_kept (λ u. live u.state) v l f.inside

      alive : live v.state ≡ true
      alive = all_in (λ u. live u.state ≡ true) v (held l) f.inside (kept_by_passes (λ u. live u.state) l)

      done : (finished v.state ≡ true) × (eqb v.stamp.place place ≡ true)
      done = and_parts (finished v.state) (eqb v.stamp.place place) f.passes

      homes : AllByRecursion (λ w. w.state ≡ Home → v.stamp.begin < w.stamp.begin → w.stamp.place ≢ v.stamp.place) l
      homes = all_of _ l (λ w j h lt. no_later precedes lawful c.counter l i.book v w in_ledger alive done.0 j
          (all_in (λ x. set_now x.stamp.begin ≡ true → Released precedes l x) w l j now_firm.kept_free (all_in (λ x. x.state ≡ Home → set_now x.stamp.begin ≡ true) w l j now_firm.home_in h)) lt)

      none : (w : Version) → (live w.state ≡ true → v.stamp.begin < w.stamp.begin → at_place w ≡ false) → (w.state ≡ Home → v.stamp.begin < w.stamp.begin → w.stamp.place ≢ v.stamp.place) →
          v.stamp.begin < w.stamp.begin → at_place w ≡ false
      none w a h lt = go (at_place w) refl
        where
          go : (k : Bool) → at_place w ≡ k → at_place w ≡ false
          go false e = e
          go true e =
              let q = and_parts (finished w.state) (eqb w.stamp.place place) e in
              absurd (h (home_of w.state (λ s. both_ways (at_place w) (a s lt) e) q.0) lt
              (eqb-true w.stamp.place place q.1 ∙ sym (eqb-true v.stamp.place place done.1)))

  -- with none of the place finished in the table, storage holds the newest
  from_disk : AllByRecursion (λ v. at_place v ≡ false) (held l) → Newest (get_or (current c.medium) place [])
  from_disk a =
      ap (λ (bs : List Block). get_or bs place []) (ap (lay c.medium.firm) i.store.loose_is ∙ now_firm.firm_is)
      ∙ lay_shown (λ v. set_now v.stamp.begin) place l opening within
      ∙ same_bytes (λ v. set_now v.stamp.begin && eqb v.stamp.place place) at_place l (get_or opening place []) (all_of _ l agree)
      ∙ sym newest_is
    where
      agree : (v : Version) → In v l → (set_now v.stamp.begin && eqb v.stamp.place place) ≡ at_place v
      agree v j = go (set_now v.stamp.begin) (finished v.state) (eqb v.stamp.place place) refl refl refl
        where
          go : (k f e : Bool) → set_now v.stamp.begin ≡ k → finished v.state ≡ f → eqb v.stamp.place place ≡ e → (k && e) ≡ (f && e)
          go true true e p q r = refl
          go false false e p q r = refl
          go true false e p q r = absurd (both_ways (finished v.state) q (all_in (λ x. set_now x.stamp.begin ≡ true → Released precedes l x) v l j now_firm.kept_free p).done)
          go false true false p q r = refl
          go false true true p q r =
              let here_too : at_place v ≡ true = rw (q, r) in
              absurd (both_ways (set_now v.stamp.begin) p
              (all_in (λ x. x.state ≡ Home → set_now x.stamp.begin ≡ true) v l j now_firm.home_in
              (home_of v.state (λ s. both_ways (at_place v) (all_in (λ x. live x.state ≡ true → at_place x ≡ false) v l j (in_held at_place l a) s) here_too) q)))

abbrev ShownNewest : List Block → List Version → ℕ → SortedOutcome → Type 0
ShownNewest opening l place o = (b : Block) → o.answer ≡ shown b → b ≡ newest_block opening l place

read_newest : (precedes : Precedence) → Lawful precedes → (opening : List Block) (l : List Version) (c : Sorted) → Keeps precedes opening l c → (device : Device) (place size : ℕ) →
    ShownNewest opening l place (sorted_read device place size c)
read_newest precedes lawful opening l c i device place size =
    cond_both (not (eqb size 512)) _ _ (ShownNewest opening l place) (λ _ b e. absurd cc)
    (λ _. cond_both (not (ltb place (length c.medium.firm))) _ _ (ShownNewest opening l place) (λ _ b e. absurd cc)
    (λ in-range. go (ltb-true place (length c.medium.firm) (not-false (ltb place (length c.medium.firm)) in-range))
    (newest place c.table) (subst (λ (t : List Version). Found (finished_in place) (held l) (newest place t)) (sym i.table_is) (found_last (finished_in place) (held l) (pairs_kept Before (λ v. live v.state) l i.book.order)))))
  where
    go : place < length c.medium.firm → (o : Option Version) → Found (finished_in place) (held l) o → ShownNewest opening l place (sorted_through device place c o)
    go lt (Some v) f = λ b e. let q : v.bytes ≡ b = cc in sym q ∙ from_table precedes lawful opening l c i place lt v f
    go lt None f = cond_both (next_bad c.medium.plan) _ _ (ShownNewest opening l place) (λ _ b e. absurd cc)
        (λ _ b e. let q : get_or (current c.medium) place [] ≡ b = cc in sym q ∙ from_disk precedes lawful opening l c i place lt f)

-- an accepted read, after these calls
pub reads_newest : (precedes : Precedence) → Lawful precedes → (m : Medium) (asked : List Asked) (device : Device) (place size : ℕ) (b : Block) →
    (sorted_outcome precedes device (Read place size) (after precedes (sorted_opened m) asked)).answer ≡ shown b → b ≡ newest_block (current m) (ledger_of precedes m asked) place
reads_newest precedes lawful m asked device place size =
    read_newest precedes lawful (current m) (ledger_of precedes m asked) (after precedes (sorted_opened m) asked)
    (keep_calls precedes lawful (current m) asked [] (sorted_opened m) (at_start precedes m)) device place size
