-- The tables of the cache: collecting a write, the order of begin marks, and how many different places there are.
use Rattle.std.proofs.Common.{◌≡◌, ℕ, zero, suc, ◌+◌, ◌<◌, ◌≤◌, Bool, true, false, cond, not, eqb, ltb, List, [], ◌∷◌, ◌++◌, map, length, set, sym, refl, ap, ◌∙◌, subst, arith}
use mathlib.Core.Option.{some}
use Rattle.std.proofs.Math.Option.{none-ne-some, some-injective}
use Rattle.std.proofs.lemmas.List.{set-set, set_comm}
use Rattle.std.proofs.lemmas.Bool.{eqb-true, eqb-false, eq-eqb, ne_eqb, ltb-true, ltb-false, lt-ltb, and_parts, and_from, not-true, not_from_false, both_ways}
use Rattle.std.proofs.ByRecursion.{All-push, All-weaker}
use Rattle.disk.specs.Medium.{Block, Write, lay}
use Rattle.head.specs.Head.{holds, all_below, none_twice}
use Rattle.journal_law.specs.Cache.{Begun, place_of, begun_place, different, find, without, collect}
use Rattle.journal_law.specs.Ledger.{insert_by_mark, by_mark, write_of, laid}
use Rattle.std.specs.List.{AllByRecursion}

-- writes that leave a place alone may be laid after a write at it
pub lay_fresh : (ws : List Write) (bs : List Block) (q : ℕ) (b : Block) → AllByRecursion (λ (w : Write). w.place ≡ q → ⊥) ws →
    lay (set bs q b) ws ≡ set (lay bs ws) q b
lay_fresh [] bs q b a = refl
lay_fresh (w ∷ ws) bs q b a =
    ap (λ x. lay x ws) (set_comm bs q w.place b w.bytes (λ e. a.0 (sym e))) ∙ lay_fresh ws (set bs w.place w.bytes) q b a.1

-- from the lowest begin mark on
abbrev pub Sorted : List Begun → Type 0
Sorted [] = Unit {0}
Sorted (x ∷ xs) = AllByRecursion (λ (y : Begun). x.mark ≤ y.mark) xs × Sorted xs

pub all_insert : (P : Begun → Type 0) (o : Begun) (xs : List Begun) → P o → AllByRecursion P xs → AllByRecursion P (insert_by_mark o xs)
all_insert P o [] p a = (p, tt)
all_insert P o (x ∷ xs) p a = go (ltb x.mark o.mark) (all_insert P o xs p a.1)
  where
    go : (b : Bool) → AllByRecursion P (insert_by_mark o xs) → AllByRecursion P (cond b (x ∷ insert_by_mark o xs) (o ∷ x ∷ xs))
    go true r = (a.0, r)
    go false r = (p, a)

pub all_by_mark : (P : Begun → Type 0) (xs : List Begun) → AllByRecursion P xs → AllByRecursion P (by_mark xs)
all_by_mark P [] a = tt
all_by_mark P (x ∷ xs) a = all_insert P x (by_mark xs) a.0 (all_by_mark P xs a.1)

sorted_insert : (o : Begun) (xs : List Begun) → Sorted xs → Sorted (insert_by_mark o xs)
sorted_insert o [] s = (tt, tt)
sorted_insert o (x ∷ xs) s = go (ltb x.mark o.mark) refl (sorted_insert o xs s.1)
  where
    go : (b : Bool) → ltb x.mark o.mark ≡ b → Sorted (insert_by_mark o xs) → Sorted (cond b (x ∷ insert_by_mark o xs) (o ∷ x ∷ xs))
    go true e r = (all_insert (λ (y : Begun). x.mark ≤ y.mark) o xs (omega (arith, ltb-true x.mark o.mark e)) s.0, r)
    go false e r =
        let l : o.mark ≤ x.mark = ltb-false x.mark o.mark e in
        ((l, All-weaker (λ (y : Begun). x.mark ≤ y.mark) (λ (y : Begun). o.mark ≤ y.mark) (λ y h. omega arith) xs s.0), s)

pub sorted_by_mark : (xs : List Begun) → Sorted (by_mark xs)
sorted_by_mark [] = tt
sorted_by_mark (x ∷ xs) = sorted_insert x (by_mark xs) (sorted_by_mark xs)

-- x, if at the place of o, began before it
abbrev pub Before : Begun → Begun → Type 0
Before o x = x.write.place ≡ o.write.place → x.mark < o.mark

fresh_after : (o : Begun) (xs : List Begun) → AllByRecursion (λ (y : Begun). o.mark ≤ y.mark) xs → AllByRecursion (Before o) xs →
    AllByRecursion (λ (w : Write). w.place ≡ o.write.place → ⊥) (map write_of xs)
fresh_after o [] s a = tt
fresh_after o (x ∷ xs) s a = ((λ e. absurd (omega (arith, a.0 e, s.0))), fresh_after o xs s.1 a.1)

lay_insert : (o : Begun) (xs : List Begun) (bs : List Block) → Sorted xs → AllByRecursion (Before o) xs →
    lay bs (map write_of (insert_by_mark o xs)) ≡ set (lay bs (map write_of xs)) o.write.place o.write.bytes
lay_insert o [] bs s a = refl
lay_insert o (x ∷ xs) bs s a = go (ltb x.mark o.mark) refl (lay_insert o xs (set bs x.write.place x.write.bytes) s.1 a.1)
  where
    go : (b : Bool) → ltb x.mark o.mark ≡ b →
        lay (set bs x.write.place x.write.bytes) (map write_of (insert_by_mark o xs))
        ≡ set (lay (set bs x.write.place x.write.bytes) (map write_of xs)) o.write.place o.write.bytes →
        lay bs (map write_of (cond b (x ∷ insert_by_mark o xs) (o ∷ x ∷ xs))) ≡ set (lay bs (map write_of (x ∷ xs))) o.write.place o.write.bytes
    go true e r = r
    go false e r =
        let l : o.mark ≤ x.mark = ltb-false x.mark o.mark e in
        lay_fresh (map write_of (x ∷ xs)) bs o.write.place o.write.bytes
        (fresh_after o (x ∷ xs) (l, All-weaker (λ (y : Begun). x.mark ≤ y.mark) (λ (y : Begun). o.mark ≤ y.mark) (λ y h. omega arith) xs s.0) a)

-- one more finished write, begun after all others at its place, is laid last
pub laid_more : (opening : List Block) (o : Begun) (xs : List Begun) → AllByRecursion (Before o) xs →
    laid opening (o ∷ xs) ≡ set (laid opening xs) o.write.place o.write.bytes
laid_more opening o xs a = lay_insert o (by_mark xs) opening (sorted_by_mark xs) (all_by_mark (Before o) xs a)

-- places in a list
pub holds_append : (q : ℕ) (xs ys : List ℕ) → holds q (xs ++ ys) ≡ cond (holds q xs) true (holds q ys)
holds_append q [] ys = refl
holds_append q (x ∷ xs) ys = go (eqb x q) (holds_append q xs ys)
  where
    go : (b : Bool) → holds q (xs ++ ys) ≡ cond (holds q xs) true (holds q ys) →
        cond b true (holds q (xs ++ ys)) ≡ cond (cond b true (holds q xs)) true (holds q ys)
    go true r = refl
    go false r = r

pub fresh_places : (q : ℕ) (ws : List Write) → holds q (map place_of ws) ≡ false → AllByRecursion (λ (w : Write). w.place ≡ q → ⊥) ws
fresh_places q [] h = tt
fresh_places q (w ∷ ws) h = go (eqb w.place q) refl h (fresh_places q ws)
  where
    go : (b : Bool) → eqb w.place q ≡ b → cond b true (holds q (map place_of ws)) ≡ false →
        (holds q (map place_of ws) ≡ false → AllByRecursion (λ (w : Write). w.place ≡ q → ⊥) ws) → AllByRecursion (λ (w : Write). w.place ≡ q → ⊥) (w ∷ ws)
    go true e h r = absurd (both_ways true h refl)
    go false e h r = (eqb-false w.place q e, r h)

pub once_parts : (x : ℕ) (xs : List ℕ) → none_twice (x ∷ xs) ≡ true → (holds x xs ≡ false) × (none_twice xs ≡ true)
once_parts x xs h =
    let a : (not (holds x xs) ≡ true) × (none_twice xs ≡ true) = and_parts (not (holds x xs)) (none_twice xs) h in
    (not-true (holds x xs) a.0, a.1)

-- a collected write is laid last
pub lay_collect : (w : Write) (xs : List Write) (bs : List Block) → none_twice (map place_of xs) ≡ true →
    lay bs (collect w xs) ≡ set (lay bs xs) w.place w.bytes
lay_collect w [] bs h = refl
lay_collect w (x ∷ xs) bs h = go (eqb x.place w.place) refl (lay_collect w xs (set bs x.place x.bytes) once.1)
  where
    once : (holds x.place (map place_of xs) ≡ false) × (none_twice (map place_of xs) ≡ true)
    once = once_parts x.place (map place_of xs) h

    go : (b : Bool) → eqb x.place w.place ≡ b →
        lay (set bs x.place x.bytes) (collect w xs) ≡ set (lay (set bs x.place x.bytes) xs) w.place w.bytes →
        lay bs (cond b (w ∷ xs) (x ∷ collect w xs)) ≡ set (lay (set bs x.place x.bytes) xs) w.place w.bytes
    go false e r = r
    go true e r =
        let q : x.place ≡ w.place = eqb-true x.place w.place e in
        lay_fresh xs bs w.place w.bytes (subst (λ z. AllByRecursion (λ (y : Write). y.place ≡ z → ⊥) xs) q (fresh_places x.place xs once.0))
        ∙ sym (set-set (lay bs xs) w.place x.bytes w.bytes)
        ∙ ap (λ z. set z w.place w.bytes)
        (subst (λ z. set (lay bs xs) z x.bytes ≡ lay (set bs x.place x.bytes) xs) q
        (sym (lay_fresh xs bs x.place x.bytes (fresh_places x.place xs once.0))))

pub holds_collect : (q : ℕ) (w : Write) (xs : List Write) →
    holds q (map place_of (collect w xs)) ≡ cond (eqb w.place q) true (holds q (map place_of xs))
holds_collect q w [] = refl
holds_collect q w (x ∷ xs) = go (eqb x.place w.place) refl (holds_collect q w xs)
  where
    both : (a b c : Bool) → a ≡ b → cond b true c ≡ cond b true (cond a true c)
    both true true c e = refl
    both false true c e = refl
    both true false c e = absurd (both_ways true e refl)
    both false false c e = refl

    swap : (a b c : Bool) → cond a true (cond b true c) ≡ cond b true (cond a true c)
    swap true true c = refl
    swap true false c = refl
    swap false true c = refl
    swap false false c = refl

    go : (b : Bool) → eqb x.place w.place ≡ b →
        holds q (map place_of (collect w xs)) ≡ cond (eqb w.place q) true (holds q (map place_of xs)) →
        holds q (map place_of (cond b (w ∷ xs) (x ∷ collect w xs))) ≡ cond (eqb w.place q) true (cond (eqb x.place q) true (holds q (map place_of xs)))
    go true e r = both (eqb x.place q) (eqb w.place q) (holds q (map place_of xs)) (ap (λ z. eqb z q) (eqb-true x.place w.place e))
    go false e r = ap (λ z. cond (eqb x.place q) true z) r ∙ swap (eqb x.place q) (eqb w.place q) (holds q (map place_of xs))

pub once_collect : (w : Write) (xs : List Write) → none_twice (map place_of xs) ≡ true → none_twice (map place_of (collect w xs)) ≡ true
once_collect w [] h = refl
once_collect w (x ∷ xs) h = go (eqb x.place w.place) refl (once_collect w xs once.1)
  where
    once : (holds x.place (map place_of xs) ≡ false) × (none_twice (map place_of xs) ≡ true)
    once = once_parts x.place (map place_of xs) h

    go : (b : Bool) → eqb x.place w.place ≡ b → none_twice (map place_of (collect w xs)) ≡ true →
        none_twice (map place_of (cond b (w ∷ xs) (x ∷ collect w xs))) ≡ true
    go true e r = subst (λ z. none_twice (z ∷ map place_of xs) ≡ true) (eqb-true x.place w.place e) h
    go false e r = and_from (not (holds x.place (map place_of (collect w xs)))) (none_twice (map place_of (collect w xs)))
        (not_from_false (holds x.place (map place_of (collect w xs)))
        (holds_collect x.place w xs
        ∙ ap (λ z. cond z true (holds x.place (map place_of xs))) (ne_eqb w.place x.place (λ f. eqb-false x.place w.place e (sym f)))
        ∙ once.0))
        r

pub below_collect : (n : ℕ) (w : Write) (xs : List Write) → w.place < n → all_below n (map place_of xs) ≡ true →
    all_below n (map place_of (collect w xs)) ≡ true
below_collect n w [] l h = and_from (ltb w.place n) true (lt-ltb w.place n l) refl
below_collect n w (x ∷ xs) l h = go (eqb x.place w.place) (below_collect n w xs l a.1)
  where
    a : (ltb x.place n ≡ true) × (all_below n (map place_of xs) ≡ true)
    a = and_parts (ltb x.place n) (all_below n (map place_of xs)) h

    go : (b : Bool) → all_below n (map place_of (collect w xs)) ≡ true → all_below n (map place_of (cond b (w ∷ xs) (x ∷ collect w xs))) ≡ true
    go true r = and_from (ltb w.place n) (all_below n (map place_of xs)) (lt-ltb w.place n l) a.1
    go false r = and_from (ltb x.place n) (all_below n (map place_of (collect w xs))) a.0 r

-- different places
pub different_mono : (n : ℕ) (xs ys : List ℕ) → ((q : ℕ) → holds q xs ≡ true → holds q ys ≡ true) → different n xs ≤ different n ys
different_mono zero xs ys f = omega arith
different_mono (suc n) xs ys f = go (holds n xs) (holds n ys) (f n) (different_mono n xs ys f)
  where
    go : (a b : Bool) → (a ≡ true → b ≡ true) → different n xs ≤ different n ys → cond a 1 0 + different n xs ≤ cond b 1 0 + different n ys
    go true true g r = omega arith
    go true false g r = absurd (both_ways false refl (g refl))
    go false true g r = omega arith
    go false false g r = omega arith

pub different_past : (n x : ℕ) (xs : List ℕ) → n ≤ x → different n (x ∷ xs) ≡ different n xs
different_past zero x xs l = refl
different_past (suc n) x xs l =
    let e : different n (x ∷ xs) ≡ different n xs = different_past n x xs (omega arith) in
    ap (λ b. cond (cond b true (holds n xs)) 1 0 + different n (x ∷ xs)) (ne_eqb x n (λ f. absurd (omega arith)))
    ∙ ap (λ z. cond (holds n xs) 1 0 + z) e

pub different_fresh : (n x : ℕ) (xs : List ℕ) → x < n → holds x xs ≡ false → different n (x ∷ xs) ≡ suc (different n xs)
different_fresh zero x xs l h = absurd (omega arith)
different_fresh (suc n) x xs l h = go (eqb x n) refl (λ lt. different_fresh n x xs lt h)
  where
    go : (b : Bool) → eqb x n ≡ b → (x < n → different n (x ∷ xs) ≡ suc (different n xs)) → cond (cond b true (holds n xs)) 1 0 + different n (x ∷ xs) ≡ suc (cond (holds n xs) 1 0 + different n xs)
    go true e ih =
        let f : x ≡ n = eqb-true x n e in
        let g : holds n xs ≡ false = subst (λ z. holds z xs ≡ false) f h in
        let r : different n (x ∷ xs) ≡ different n xs = different_past n x xs (omega arith) in
        let c : cond {A = ℕ} (holds n xs) 1 0 ≡ 0 = ap (λ b. cond {A = ℕ} b 1 0) g in
        omega (arith, r, c)
    go false e ih =
        let r : different n (x ∷ xs) ≡ suc (different n xs) = ih (omega (arith, eqb-false x n e)) in
        omega (arith, r)

pub length_different : (n : ℕ) (xs : List ℕ) → none_twice xs ≡ true → all_below n xs ≡ true → length xs ≤ different n xs
length_different n [] o b = omega arith
length_different n (x ∷ xs) o b =
    let once : (holds x xs ≡ false) × (none_twice xs ≡ true) = once_parts x xs o in
    let inside : (ltb x n ≡ true) × (all_below n xs ≡ true) = and_parts (ltb x n) (all_below n xs) b in
    omega (arith, length_different n xs once.1 inside.1, different_fresh n x xs (ltb-true x n inside.0) once.0)

-- the open writes
pub find_in : (P : Begun → Type 0) (ticket : ℕ) (os : List Begun) (o : Begun) → find ticket os ≡ some o → AllByRecursion P os → P o
find_in P ticket [] o e a = absurd (none-ne-some o e)
find_in P ticket (x ∷ os) o e a = go (eqb x.mark ticket) e (λ f. find_in P ticket os o f a.1)
  where
    go : (b : Bool) → cond b (some x) (find ticket os) ≡ some o → (find ticket os ≡ some o → P o) → P o
    go true f r = subst P (some-injective x o f) a.0
    go false f r = r f

pub all_without : (P : Begun → Type 0) (ticket : ℕ) (os : List Begun) → AllByRecursion P os → AllByRecursion P (without ticket os)
all_without P ticket [] a = tt
all_without P ticket (x ∷ os) a = go (eqb x.mark ticket) (all_without P ticket os a.1)
  where
    go : (b : Bool) → AllByRecursion P (without ticket os) → AllByRecursion P (cond b os (x ∷ without ticket os))
    go true r = a.1
    go false r = (a.0, r)

abbrev pub Elsewhere : Begun → Begun → Type 0
Elsewhere o x = x.write.place ≡ o.write.place → ⊥

-- one open write to a place
abbrev pub Apart : List Begun → Type 0
Apart [] = Unit {0}
Apart (o ∷ os) = AllByRecursion (Elsewhere o) os × Apart os

pub apart_push : (os : List Begun) (o : Begun) → Apart os → AllByRecursion (Elsewhere o) os → Apart (os ++ o ∷ [])
apart_push [] o a fresh = (tt, tt)
apart_push (x ∷ os) o a fresh = (All-push (Elsewhere x) os o a.0 (λ e. fresh.0 (sym e)), apart_push os o a.1 fresh.1)

pub apart_without : (ticket : ℕ) (os : List Begun) → Apart os → Apart (without ticket os)
apart_without ticket [] a = tt
apart_without ticket (x ∷ os) a = go (eqb x.mark ticket) (apart_without ticket os a.1)
  where
    go : (b : Bool) → Apart (without ticket os) → Apart (cond b os (x ∷ without ticket os))
    go true r = a.1
    go false r = (all_without (Elsewhere x) ticket os a.0, r)

pub apart_found : (ticket : ℕ) (os : List Begun) (o : Begun) → find ticket os ≡ some o → Apart os → AllByRecursion (Elsewhere o) (without ticket os)
apart_found ticket [] o e a = absurd (none-ne-some o e)
apart_found ticket (x ∷ os) o e a = go (eqb x.mark ticket) e (λ f. apart_found ticket os o f a.1)
  where
    go : (b : Bool) → cond b (some x) (find ticket os) ≡ some o → (find ticket os ≡ some o → AllByRecursion (Elsewhere o) (without ticket os)) →
        AllByRecursion (Elsewhere o) (cond b os (x ∷ without ticket os))
    go true f r = subst (λ z. AllByRecursion (Elsewhere z) os) (some-injective x o f) a.0
    go false f r = ((λ q. find_in (Elsewhere x) ticket os o f a.0 (sym q)), r f)

pub holds_found : (ticket : ℕ) (os : List Begun) (o : Begun) → find ticket os ≡ some o → holds o.write.place (map begun_place os) ≡ true
holds_found ticket [] o e = absurd (none-ne-some o e)
holds_found ticket (x ∷ os) o e = go (eqb x.mark ticket) e (holds_found ticket os o)
  where
    here : (b : Bool) (c : Bool) → c ≡ true → cond b true c ≡ true
    here true c h = refl
    here false c h = h

    go : (b : Bool) → cond b (some x) (find ticket os) ≡ some o → (find ticket os ≡ some o → holds o.write.place (map begun_place os) ≡ true) →
        holds o.write.place (map begun_place (x ∷ os)) ≡ true
    go true f r = ap (λ z. cond z true (holds o.write.place (map begun_place os)))
        (eq-eqb x.write.place o.write.place (ap (λ (z : Begun). z.write.place) (some-injective x o f)))
    go false f r = here (eqb x.write.place o.write.place) (holds o.write.place (map begun_place os)) (r f)

pub holds_without : (ticket q : ℕ) (os : List Begun) → holds q (map begun_place (without ticket os)) ≡ true → holds q (map begun_place os) ≡ true
holds_without ticket q [] h = h
holds_without ticket q (x ∷ os) h = go (eqb x.mark ticket) h (holds_without ticket q os)
  where
    here : (b : Bool) (c : Bool) → c ≡ true → cond b true c ≡ true
    here true c r = refl
    here false c r = r

    more : (b c d : Bool) → (c ≡ true → d ≡ true) → cond b true c ≡ true → cond b true d ≡ true
    more true c d f r = refl
    more false c d f r = f r

    go : (b : Bool) → holds q (map begun_place (cond b os (x ∷ without ticket os))) ≡ true →
        (holds q (map begun_place (without ticket os)) ≡ true → holds q (map begun_place os) ≡ true) → holds q (map begun_place (x ∷ os)) ≡ true
    go true r ih = here (eqb x.write.place q) (holds q (map begun_place os)) r
    go false r ih = more (eqb x.write.place q) (holds q (map begun_place (without ticket os))) (holds q (map begun_place os)) ih r

pub fresh_open : (q : ℕ) (os : List Begun) → holds q (map begun_place os) ≡ false → AllByRecursion (λ (x : Begun). x.write.place ≡ q → ⊥) os
fresh_open q [] h = tt
fresh_open q (x ∷ os) h = go (eqb x.write.place q) refl h (fresh_open q os)
  where
    go : (b : Bool) → eqb x.write.place q ≡ b → cond b true (holds q (map begun_place os)) ≡ false →
        (holds q (map begun_place os) ≡ false → AllByRecursion (λ (x : Begun). x.write.place ≡ q → ⊥) os) → AllByRecursion (λ (x : Begun). x.write.place ≡ q → ⊥) (x ∷ os)
    go true e h r = absurd (both_ways true h refl)
    go false e h r = (eqb-false x.write.place q e, r h)
