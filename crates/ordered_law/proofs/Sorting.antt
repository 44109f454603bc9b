-- Versions put in the order of begin marks, and what scans in any order find of them.
use Rattle.std.proofs.Common.{◌≡◌, ◌+◌, ◌<◌, ◌≤◌, Bool, true, false, cond, ◌||◌, ltb, List, [], ◌∷◌, ◌++◌, map, length, filter, sym, refl, ap, ◌∙◌, ap₂, arith, None, Some, Option}
use Rattle.std.specs.List.{AllByRecursion}
use Rattle.std.proofs.lemmas.Bool.{ltb-true, ltb-false, lt-ltb, le-ltb, cond_both, both_ways}
use Rattle.std.proofs.ByRecursion.{All-weaker, all_kept_by}
use Rattle.table.specs.declared.held.Version.{Version}
use Rattle.table.specs.Versions.{some_pass}
use Rattle.std.specs.List.{find}
use Rattle.std.specs.Option.{option_or}
use Rattle.ordered_law.proofs.Sorted.{last}
use Rattle.ordered_law.specs.Promise.{Pairs}
use Rattle.table.specs.Rows.{Row, in_rows, put}
use Rattle.ordered_law.proofs.Picking.{lower, higher, lowest, highest}
use Rattle.table.proofs.Rowing.{some_vacant}

abbrev pub insert : Version → List Version → List Version
insert v [] = v ∷ []
insert v (u ∷ us) = cond (ltb v.stamp.begin u.stamp.begin) (v ∷ u ∷ us) (u ∷ insert v us)

abbrev pub in_order : List Version → List Version
in_order [] = []
in_order (v ∷ vs) = insert v (in_order vs)

abbrev Rising : List Version → Type 0
Rising l = Pairs (λ u v. u.stamp.begin ≤ v.stamp.begin) l

all_insert : (P : Version → Type 0) (v : Version) (l : List Version) → P v → AllByRecursion P l → AllByRecursion P (insert v l)
all_insert P v [] h a = (h, tt)
all_insert P v (u ∷ l) h a = cond_both (ltb v.stamp.begin u.stamp.begin) _ _ (AllByRecursion P) (λ _. (h, a)) (λ _. (a.0, all_insert P v l h a.1))

pub all_in_order : (P : Version → Type 0) (l : List Version) → AllByRecursion P l → AllByRecursion P (in_order l)
all_in_order P [] a = tt
all_in_order P (v ∷ l) a = all_insert P v (in_order l) a.0 (all_in_order P l a.1)

rising_insert : (v : Version) (l : List Version) → Rising l → Rising (insert v l)
rising_insert v [] r = (tt, tt)
rising_insert v (u ∷ l) r = cond_both (ltb v.stamp.begin u.stamp.begin) _ _ Rising
    (λ e. let lt = ltb-true v.stamp.begin u.stamp.begin e in
    ((omega arith, All-weaker (λ w. u.stamp.begin ≤ w.stamp.begin) (λ w. v.stamp.begin ≤ w.stamp.begin) (λ w h. omega arith) l r.0), r))
    (λ e. (all_insert (λ w. u.stamp.begin ≤ w.stamp.begin) v l (ltb-false v.stamp.begin u.stamp.begin e) r.0, rising_insert v l r.1))

pub rising : (l : List Version) → Rising (in_order l)
rising [] = tt
rising (v ∷ l) = rising_insert v (in_order l) (rising l)

-- ---- what does not depend on the order

insert_length : (v : Version) (l : List Version) → length (insert v l) ≡ length l + 1
insert_length v [] = omega arith
insert_length v (u ∷ l) = cond_both (ltb v.stamp.begin u.stamp.begin) _ _ (λ x. length x ≡ length (u ∷ l) + 1) (λ _. omega arith) (λ _. omega (arith, insert_length v l))

pub in_order_length : (l : List Version) → length (in_order l) ≡ length l
in_order_length [] = refl
in_order_length (v ∷ l) = omega (arith, insert_length v (in_order l), in_order_length l)

swap : (a b c : Bool) → (a || (b || c)) ≡ (b || (a || c))
swap a b c = grind arith

insert_some : (p : Version → Bool) (v : Version) (l : List Version) → some_pass p (insert v l) ≡ (p v || some_pass p l)
insert_some p v [] = refl
insert_some p v (u ∷ l) = cond_both (ltb v.stamp.begin u.stamp.begin) _ _ (λ x. some_pass p x ≡ (p v || some_pass p (u ∷ l))) (λ _. refl)
    (λ _. ap (λ b. p u || b) (insert_some p v l) ∙ swap (p u) (p v) (some_pass p l))

pub in_order_some : (p : Version → Bool) (l : List Version) → some_pass p (in_order l) ≡ some_pass p l
in_order_some p [] = refl
in_order_some p (v ∷ l) = insert_some p v (in_order l) ∙ ap (λ b. p v || b) (in_order_some p l)

-- ---- maps and filters

insert_map : (g : Version → Version) → ((v : Version) → (g v).stamp.begin ≡ v.stamp.begin) → (v : Version) (l : List Version) → insert (g v) (map g l) ≡ map g (insert v l)
insert_map g b v [] = refl
insert_map g b v (u ∷ l) =
    ap (λ k. cond k (g v ∷ g u ∷ map g l) (g u ∷ insert (g v) (map g l))) (ap₂ ltb (b v) (b u)) ∙ go (ltb v.stamp.begin u.stamp.begin) (insert_map g b v l)
  where
    go : (k : Bool) → insert (g v) (map g l) ≡ map g (insert v l) → cond k (g v ∷ g u ∷ map g l) (g u ∷ insert (g v) (map g l)) ≡ map g (cond k (v ∷ u ∷ l) (u ∷ insert v l))
    go true ih = refl
    go false ih = ap (λ x. g u ∷ x) ih

pub in_order_map : (g : Version → Version) → ((v : Version) → (g v).stamp.begin ≡ v.stamp.begin) → (l : List Version) → in_order (map g l) ≡ map g (in_order l)
in_order_map g b [] = refl
in_order_map g b (v ∷ l) = ap (insert (g v)) (in_order_map g b l) ∙ insert_map g b v (in_order l)

insert_front : (v : Version) (l : List Version) → AllByRecursion (λ u. v.stamp.begin < u.stamp.begin) l → insert v l ≡ v ∷ l
insert_front v [] a = refl
insert_front v (u ∷ l) a = let e = lt-ltb v.stamp.begin u.stamp.begin a.0 in rw e

insert_last : (v : Version) (l : List Version) → AllByRecursion (λ u. u.stamp.begin < v.stamp.begin) l → insert v l ≡ l ++ v ∷ []
insert_last v [] a = refl
insert_last v (u ∷ l) a = let h = a.0 in let e = le-ltb v.stamp.begin u.stamp.begin (omega arith) in rw e (ap (λ x. u ∷ x) (insert_last v l a.1))

above : (v u : Version) (l : List Version) → v.stamp.begin < u.stamp.begin → AllByRecursion (λ w. u.stamp.begin ≤ w.stamp.begin) l → AllByRecursion (λ w. v.stamp.begin < w.stamp.begin) (u ∷ l)
above v u l lt a = (lt, All-weaker (λ w. u.stamp.begin ≤ w.stamp.begin) (λ w. v.stamp.begin < w.stamp.begin) (λ w h. omega arith) l a)

insert_kept : (p : Version → Bool) (v : Version) (l : List Version) → Rising l → filter p (insert v l) ≡ cond (p v) (insert v (filter p l)) (filter p l)
insert_kept p v [] r = refl
insert_kept p v (u ∷ l) r = go (ltb v.stamp.begin u.stamp.begin) refl (insert_kept p v l r.1)
  where
    K : List Version
    K = filter p (u ∷ l)

    go : (k : Bool) → ltb v.stamp.begin u.stamp.begin ≡ k → filter p (insert v l) ≡ cond (p v) (insert v (filter p l)) (filter p l) →
        filter p (cond k (v ∷ u ∷ l) (u ∷ insert v l)) ≡ cond (p v) (insert v K) K
    go true e ih = ap (λ x. cond (p v) x K) (sym (insert_front v K (all_kept_by p (λ w. v.stamp.begin < w.stamp.begin) (u ∷ l) (above v u l (ltb-true v.stamp.begin u.stamp.begin e) r.0))))
    go false e ih = pass (p u) (p v) ih
      where
        pass : (a b : Bool) → filter p (insert v l) ≡ cond b (insert v (filter p l)) (filter p l) →
            cond a (u ∷ filter p (insert v l)) (filter p (insert v l)) ≡ cond b (insert v (cond a (u ∷ filter p l) (filter p l))) (cond a (u ∷ filter p l) (filter p l))
        pass true true ih = rw (ih, e)
        pass true false ih = rw ih
        pass false b ih = ih

pub in_order_kept : (p : Version → Bool) (l : List Version) → in_order (filter p l) ≡ filter p (in_order l)
in_order_kept p [] = refl
in_order_kept p (v ∷ l) = go (p v) (in_order_kept p l) ∙ sym (insert_kept p v (in_order l) (rising l))
  where
    go : (k : Bool) → in_order (filter p l) ≡ filter p (in_order l) → in_order (cond k (v ∷ filter p l) (filter p l)) ≡ cond k (insert v (filter p (in_order l))) (filter p (in_order l))
    go true ih = ap (insert v) ih
    go false ih = ih

-- ---- the lowest and the highest that pass

lower_front : (p : Version → Bool) (v : Version) (l : List Version) → AllByRecursion (λ w. v.stamp.begin < w.stamp.begin) l → lower v (find p l) ≡ v
lower_front p v [] a = refl
lower_front p v (u ∷ l) a = cond_both (p u) _ _ (λ o. lower v o ≡ v) (λ _. let e = lt-ltb v.stamp.begin u.stamp.begin a.0 in rw e) (λ _. lower_front p v l a.1)

insert_first : (p : Version → Bool) (v : Version) (l : List Version) → Rising l → find p (insert v l) ≡ cond (p v) (Some (lower v (find p l))) (find p l)
insert_first p v [] r = refl
insert_first p v (u ∷ l) r = go (ltb v.stamp.begin u.stamp.begin) refl (insert_first p v l r.1)
  where
    go : (k : Bool) → ltb v.stamp.begin u.stamp.begin ≡ k → find p (insert v l) ≡ cond (p v) (Some (lower v (find p l))) (find p l) →
        find p (cond k (v ∷ u ∷ l) (u ∷ insert v l)) ≡ cond (p v) (Some (lower v (find p (u ∷ l)))) (find p (u ∷ l))
    go true e ih = ap (λ (x : Version). cond (p v) (Some x) (find p (u ∷ l))) (sym (lower_front p v (u ∷ l) (above v u l (ltb-true v.stamp.begin u.stamp.begin e) r.0)))
    go false e ih = pass (p u) (p v) ih
      where
        pass : (a b : Bool) → find p (insert v l) ≡ cond b (Some (lower v (find p l))) (find p l) →
            cond a (Some u) (find p (insert v l)) ≡ cond b (Some (lower v (cond a (Some u) (find p l)))) (cond a (Some u) (find p l))
        pass true true ih = rw e
        pass true false ih = refl
        pass false b ih = ih

pub in_order_first : (p : Version → Bool) (l : List Version) → find p (in_order l) ≡ lowest p l
in_order_first p [] = refl
in_order_first p (v ∷ l) = insert_first p v (in_order l) (rising l) ∙ ap (λ o. cond (p v) (Some (lower v o)) o) (in_order_first p l)

last_front : (p : Version → Bool) (v : Version) (l : List Version) → AllByRecursion (λ w. v.stamp.begin < w.stamp.begin) l → option_or (last p l) (Some v) ≡ Some (higher v (last p l))
last_front p v [] a = refl
last_front p v (u ∷ l) a = go (last p l) (last_front p v l a.1) (p u)
  where
    go : (o : Option Version) → option_or o (Some v) ≡ Some (higher v o) → (k : Bool) →
        option_or (option_or o (cond k (Some u) None)) (Some v) ≡ Some (higher v (option_or o (cond k (Some u) None)))
    go (Some w) ih k = ih
    go None ih true = let e = lt-ltb v.stamp.begin u.stamp.begin a.0 in rw e
    go None ih false = refl

insert_highest : (p : Version → Bool) (v : Version) (l : List Version) → Rising l → last p (insert v l) ≡ cond (p v) (Some (higher v (last p l))) (last p l)
insert_highest p v [] r = refl
insert_highest p v (u ∷ l) r = go (ltb v.stamp.begin u.stamp.begin) refl (insert_highest p v l r.1)
  where
    L : Option Version
    L = last p (u ∷ l)

    go : (k : Bool) → ltb v.stamp.begin u.stamp.begin ≡ k → last p (insert v l) ≡ cond (p v) (Some (higher v (last p l))) (last p l) →
        last p (cond k (v ∷ u ∷ l) (u ∷ insert v l)) ≡ cond (p v) (Some (higher v L)) L
    go true e ih = pass (p v)
      where
        keep : (o : Option Version) → option_or o None ≡ o
        keep (Some w) = refl
        keep None = refl

        pass : (b : Bool) → option_or L (cond b (Some v) None) ≡ cond b (Some (higher v L)) L
        pass true = last_front p v (u ∷ l) (above v u l (ltb-true v.stamp.begin u.stamp.begin e) r.0)
        pass false = keep L
    go false e ih = pass (p u) (p v) (last p l) ih
      where
        pass : (a b : Bool) (o : Option Version) → last p (insert v l) ≡ cond b (Some (higher v o)) o →
            option_or (last p (insert v l)) (cond a (Some u) None) ≡ cond b (Some (higher v (option_or o (cond a (Some u) None)))) (option_or o (cond a (Some u) None))
        pass a true (Some w) ih = rw ih
        pass true true None ih = rw (ih, e)
        pass false true None ih = rw ih
        pass a false o ih = rw ih

pub in_order_last : (p : Version → Bool) (l : List Version) → last p (in_order l) ≡ highest p l
in_order_last p [] = refl
in_order_last p (v ∷ l) = insert_highest p v (in_order l) (rising l) ∙ ap (λ o. cond (p v) (Some (higher v o)) o) (in_order_last p l)

-- ---- one more, of highest begin mark

insert_before : (u v : Version) → u.stamp.begin < v.stamp.begin → (l : List Version) → insert u (l ++ v ∷ []) ≡ insert u l ++ v ∷ []
insert_before u v lt [] = let e = lt-ltb u.stamp.begin v.stamp.begin lt in rw e
insert_before u v lt (x ∷ l) = go (ltb u.stamp.begin x.stamp.begin) (insert_before u v lt l)
  where
    go : (k : Bool) → insert u (l ++ v ∷ []) ≡ insert u l ++ v ∷ [] → cond k (u ∷ x ∷ (l ++ v ∷ [])) (x ∷ insert u (l ++ v ∷ [])) ≡ cond k (u ∷ x ∷ l) (x ∷ insert u l) ++ v ∷ []
    go true ih = refl
    go false ih = ap (λ y. x ∷ y) ih

pub in_order_put : (v : Version) (rows : List Row) → some_vacant rows ≡ true → AllByRecursion (λ u. u.stamp.begin < v.stamp.begin) (in_rows rows) →
    in_order (in_rows (put v rows)) ≡ in_order (in_rows rows) ++ v ∷ []
in_order_put v [] e a = absurd (both_ways false refl e)
in_order_put v (None ∷ rows) e a = insert_last v (in_order (in_rows rows)) (all_in_order (λ u. u.stamp.begin < v.stamp.begin) (in_rows rows) a)
in_order_put v (Some u ∷ rows) e a = ap (insert u) (in_order_put v rows e a.1) ∙ insert_before u v a.0 (in_order (in_rows rows))

-- ---- and back

insert_all : (P : Version → Type 0) (v : Version) (l : List Version) → AllByRecursion P (insert v l) → P v × AllByRecursion P l
insert_all P v [] a = (a.0, tt)
insert_all P v (u ∷ l) a = go (ltb v.stamp.begin u.stamp.begin) (insert_all P v l) a
  where
    go : (k : Bool) → (AllByRecursion P (insert v l) → P v × AllByRecursion P l) → AllByRecursion P (cond k (v ∷ u ∷ l) (u ∷ insert v l)) → P v × AllByRecursion P (u ∷ l)
    go true ih a = (a.0, a.1)
    go false ih a = let r = ih a.1 in (r.0, (a.0, r.1))

pub all_from_order : (P : Version → Type 0) (l : List Version) → AllByRecursion P (in_order l) → AllByRecursion P l
all_from_order P [] a = tt
all_from_order P (v ∷ l) a = let r = insert_all P v (in_order l) a in (r.0, all_from_order P l r.1)
