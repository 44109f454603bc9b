-- The places that are collected or open: how many they are, and that they stay below the head and apart.
use Rattle.std.proofs.Common.{◌≡◌, ℕ, zero, suc, ◌+◌, ◌<◌, ◌≤◌, Bool, true, false, cond, not, eqb, ltb, List, [], ◌∷◌, ◌++◌, map, length, sym, refl, ap, ◌∙◌, subst, ⊎_elim, arith}
use mathlib.Core.Option.{some, none}
use Rattle.std.proofs.Math.Option.{none-ne-some}
use Rattle.std.proofs.lemmas.Bool.{and_parts, and_from, ltb-true, lt-ltb, eqb-true, eqb-false, ne_eqb, not_from_false, cases_lt, both_ways}
use Rattle.head.specs.Head.{holds, all_below, none_twice}
use Rattle.journal_law.specs.Cache.{Begun, begun_place, different, find, without}
use Rattle.journal_law.proofs.Entries.{either_right}
use Rattle.journal_law.proofs.Tables.{holds_append, different_mono, different_past, different_fresh, length_different, once_parts, holds_without}
use Rattle.batch.specs.declared.entry.Entry.{Entry}
use Rattle.batch.specs.Rows.{place_in, begun_in, outside}

pub begun_places : (xs : List Entry) → map begun_place (map begun_in xs) ≡ map place_in xs
begun_places [] = refl
begun_places (x ∷ xs) = ap (λ ps. x.place ∷ ps) (begun_places xs)

-- ---- counting

different_held : (n x : ℕ) (xs : List ℕ) → holds x xs ≡ true → different n (x ∷ xs) ≡ different n xs
different_held n x xs h =
    let less : different n (x ∷ xs) ≤ different n xs = different_mono n (x ∷ xs) xs (λ q. go q (eqb x q) refl) in
    let more : different n xs ≤ different n (x ∷ xs) = different_mono n xs (x ∷ xs) (λ q. wider (eqb x q) (holds q xs)) in
    omega (arith, less, more)
  where
    go : (q : ℕ) (b : Bool) → eqb x q ≡ b → cond b true (holds q xs) ≡ true → holds q xs ≡ true
    go q true e r = subst (λ z. holds z xs ≡ true) (eqb-true x q e) h
    go q false e r = r

    wider : (b c : Bool) → c ≡ true → cond b true c ≡ true
    wider true c r = refl
    wider false c r = r

-- one place more
different_more : (n x : ℕ) (xs : List ℕ) → x < n → (b : Bool) → holds x xs ≡ b → different n (x ∷ xs) ≡ different n xs + cond b 0 1
different_more n x xs l true e = omega (arith, different_held n x xs e)
different_more n x xs l false e = omega (arith, different_fresh n x xs l e)

pub different_none : (n : ℕ) → different n [] ≡ 0
different_none zero = refl
different_none (suc n) = omega (arith, different_none n)

different_length : (n : ℕ) (xs : List ℕ) → different n xs ≤ length xs
different_length n [] = omega (arith, different_none n)
different_length n (x ∷ xs) =
    let rest : different n xs ≤ length xs = different_length n xs in
    ⊎_elim (λ (l : x < n). go l (holds x xs) refl rest) (λ (l : n ≤ x). (let z : different n (x ∷ xs) ≤ suc (length xs) = omega (arith, different_past n x xs l, rest) in z)) (cases_lt x n)
  where
    go : x < n → (b : Bool) → holds x xs ≡ b → different n xs ≤ length xs → different n (x ∷ xs) ≤ suc (length xs)
    go l true e r = omega (arith, different_held n x xs e, r)
    go l false e r = omega (arith, different_fresh n x xs l e, r)

pub outside_le : (ps others : List ℕ) → outside ps others ≤ length ps
outside_le [] others = omega arith
outside_le (p ∷ ps) others = go (holds p others) (outside_le ps others)
  where
    go : (b : Bool) → outside ps others ≤ length ps → cond b 0 1 + outside ps others ≤ suc (length ps)
    go true l = omega (arith, l)
    go false l = omega (arith, l)

module _ (n : ℕ) where
  swap_places : (xs ys : List ℕ) → different n (xs ++ ys) ≡ different n (ys ++ xs)
  swap_places xs ys = omega (arith, different_mono n (xs ++ ys) (ys ++ xs) (turned xs ys), different_mono n (ys ++ xs) (xs ++ ys) (turned ys xs))
    where
      swap : (a b : Bool) → cond a true b ≡ true → cond b true a ≡ true
      swap true true h = refl
      swap true false h = refl
      swap false true h = refl
      swap false false h = h

      turned : (as' bs : List ℕ) (q : ℕ) → holds q (as' ++ bs) ≡ true → holds q (bs ++ as') ≡ true
      turned as' bs q h = holds_append q bs as' ∙ swap (holds q as') (holds q bs) (sym (holds_append q as' bs) ∙ h)

  beside : (a b : Bool) → a ≡ false → cond a true b ≡ b
  beside a b e = ap (λ x. cond x true b) e

  count_outside : (ps coll : List ℕ) → all_below n ps ≡ true → none_twice ps ≡ true → all_below n coll ≡ true → none_twice coll ≡ true →
      different n (ps ++ coll) ≡ length coll + outside ps coll
  count_outside [] coll a b c d = omega (arith, different_length n coll, length_different n coll d c)
  count_outside (p ∷ ps) coll a b c d =
      let in_all : (ltb p n ≡ true) × (all_below n ps ≡ true) = and_parts (ltb p n) (all_below n ps) a in
      let alone : (holds p ps ≡ false) × (none_twice ps ≡ true) = once_parts p ps b in
      let rest : different n (ps ++ coll) ≡ length coll + outside ps coll = count_outside ps coll in_all.1 alone.1 c d in
      let one : different n (p ∷ (ps ++ coll)) ≡ different n (ps ++ coll) + cond (holds p coll) 0 1
      = different_more n p (ps ++ coll) (ltb-true p n in_all.0) (holds p coll) (holds_append p ps coll ∙ beside (holds p ps) (holds p coll) alone.0) in
      omega (arith, rest, one)

  -- the places with one more, at which no write is open
  pub room_is : (place : ℕ) (coll ps : List ℕ) (b : Bool) → place < n → holds place ps ≡ false → holds place coll ≡ b → all_below n ps ≡ true → none_twice ps ≡ true →
      all_below n coll ≡ true → none_twice coll ≡ true → different n (place ∷ (coll ++ ps)) ≡ length coll + outside ps coll + cond b 0 1
  room_is place coll ps b l fresh held a o c d =
      let one : different n (place ∷ (coll ++ ps)) ≡ different n (coll ++ ps) + cond b 0 1
      = different_more n place (coll ++ ps) l b (holds_append place coll ps ∙ last (holds place coll) (holds place ps) fresh ∙ held) in
      omega (arith, one, swap_places coll ps, count_outside ps coll a o c d)
    where
      last : (x y : Bool) → y ≡ false → cond x true y ≡ x
      last true y e = refl
      last false y e = e

  -- ---- how long the lists are

  either_left : (a b : Bool) → a ≡ true → cond a true b ≡ true
  either_left a b e = ap (λ x. cond x true b) e

  pub room_open : (place : ℕ) (coll ps : List ℕ) → place < n → holds place ps ≡ false → all_below n ps ≡ true → none_twice ps ≡ true → different n (place ∷ (coll ++ ps)) ≤ 8 → length ps < 8
  room_open place coll ps l fresh a o few =
      omega (
        arith,
        few,
        length_different n (place ∷ ps) (and_from (not (holds place ps)) (none_twice ps) (not_from_false (holds place ps) fresh) o) (and_from (ltb place n) (all_below n ps) (lt-ltb place n l) a),
        different_mono n (place ∷ ps) (place ∷ (coll ++ ps)) (λ q. wide q (eqb place q)),
      )
    where
      wide : (q : ℕ) (b : Bool) → cond b true (holds q ps) ≡ true → cond b true (holds q (coll ++ ps)) ≡ true
      wide q true h = refl
      wide q false h = holds_append q coll ps ∙ either_right (holds q coll) (holds q ps) h

  pub below_held : (place : ℕ) (xs : List ℕ) → holds place xs ≡ true → all_below n xs ≡ true → place < n
  below_held place [] h b = absurd (both_ways true (sym h) refl)
  below_held place (x ∷ xs) h b = go (eqb x place) refl h (λ r. below_held place xs r (and_parts (ltb x n) (all_below n xs) b).1)
    where
      go : (t : Bool) → eqb x place ≡ t → cond t true (holds place xs) ≡ true → (holds place xs ≡ true → place < n) → place < n
      go true e r f = subst (λ z. z < n) (eqb-true x place e) (ltb-true x n (and_parts (ltb x n) (all_below n xs) b).0)
      go false e r f = f r

  -- an open write at a place that is not collected leaves room to collect it
  pub room_collect : (place : ℕ) (coll ps : List ℕ) → holds place ps ≡ true → holds place coll ≡ false → all_below n ps ≡ true → all_below n coll ≡ true → none_twice coll ≡ true →
      different n (coll ++ ps) ≤ 8 → length coll < 8
  room_collect place coll ps here fresh a c d few =
      omega (
        arith,
        few,
        length_different n (place ∷ coll) (and_from (not (holds place coll)) (none_twice coll) (not_from_false (holds place coll) fresh) d) (and_from (ltb place n) (all_below n coll) (lt-ltb place n (below_held place ps here a)) c),
        different_mono n (place ∷ coll) (coll ++ ps) (λ q. wide q (eqb place q) refl),
      )
    where
      wide : (q : ℕ) (b : Bool) → eqb place q ≡ b → cond b true (holds q coll) ≡ true → holds q (coll ++ ps) ≡ true
      wide q true e h = holds_append q coll ps ∙ either_right (holds q coll) (holds q ps) (subst (λ z. holds z ps ≡ true) (eqb-true place q e) here)
      wide q false e h = holds_append q coll ps ∙ either_left (holds q coll) (holds q ps) h

  -- ---- below the head, and apart

  pub below_push : (ps : List ℕ) (p : ℕ) → all_below n ps ≡ true → p < n → all_below n (ps ++ p ∷ []) ≡ true
  below_push [] p a l = and_from (ltb p n) true (lt-ltb p n l) refl
  below_push (x ∷ ps) p a l =
      let b : (ltb x n ≡ true) × (all_below n ps ≡ true) = and_parts (ltb x n) (all_below n ps) a in
      and_from (ltb x n) (all_below n (ps ++ p ∷ [])) b.0 (below_push ps p b.1 l)

  pub once_push : (ps : List ℕ) (p : ℕ) → none_twice ps ≡ true → holds p ps ≡ false → none_twice (ps ++ p ∷ []) ≡ true
  once_push [] p a h = refl
  once_push (x ∷ ps) p a h =
      let b : (holds x ps ≡ false) × (none_twice ps ≡ true) = once_parts x ps a in
      let c : (eqb x p ≡ false) × (holds p ps ≡ false) = both (eqb x p) (holds p ps) h in
      and_from (not (holds x (ps ++ p ∷ []))) (none_twice (ps ++ p ∷ []))
      (not_from_false (holds x (ps ++ p ∷ [])) (holds_append x ps (p ∷ []) ∙ beside (holds x ps) (cond (eqb p x) true false) b.0 ∙ ap (λ t. cond t true false) (turn_eq c.0)))
      (once_push ps p b.1 c.1)
    where
      both : (s t : Bool) → cond s true t ≡ false → (s ≡ false) × (t ≡ false)
      both true t e = absurd (both_ways true e refl)
      both false t e = (refl, e)

      turn_eq : eqb x p ≡ false → eqb p x ≡ false
      turn_eq e = ne_eqb p x (λ q. eqb-false x p e (sym q))

  pub below_without : (ticket : ℕ) (os : List Begun) → all_below n (map begun_place os) ≡ true → all_below n (map begun_place (without ticket os)) ≡ true
  below_without ticket [] a = a
  below_without ticket (o ∷ os) a = go (eqb o.mark ticket) (below_without ticket os b.1)
    where
      b : (ltb o.write.place n ≡ true) × (all_below n (map begun_place os) ≡ true)
      b = and_parts (ltb o.write.place n) (all_below n (map begun_place os)) a

      go : (t : Bool) → all_below n (map begun_place (without ticket os)) ≡ true → all_below n (map begun_place (cond t os (o ∷ without ticket os))) ≡ true
      go true r = b.1
      go false r = and_from (ltb o.write.place n) (all_below n (map begun_place (without ticket os))) b.0 r

  pub once_without : (ticket : ℕ) (os : List Begun) → none_twice (map begun_place os) ≡ true → none_twice (map begun_place (without ticket os)) ≡ true
  once_without ticket [] a = a
  once_without ticket (o ∷ os) a = go (eqb o.mark ticket) (once_without ticket os b.1)
    where
      b : (holds o.write.place (map begun_place os) ≡ false) × (none_twice (map begun_place os) ≡ true)
      b = once_parts o.write.place (map begun_place os) a

      fresh : (t : Bool) → holds o.write.place (map begun_place (without ticket os)) ≡ t → t ≡ false
      fresh true e = absurd (both_ways true (sym (holds_without ticket o.write.place os e) ∙ b.0) refl)
      fresh false e = refl

      go : (t : Bool) → none_twice (map begun_place (without ticket os)) ≡ true → none_twice (map begun_place (cond t os (o ∷ without ticket os))) ≡ true
      go true r = b.1
      go false r = and_from (not (holds o.write.place (map begun_place (without ticket os)))) (none_twice (map begun_place (without ticket os)))
          (not_from_false (holds o.write.place (map begun_place (without ticket os))) (fresh (holds o.write.place (map begun_place (without ticket os))) refl)) r

-- an open write that is not there leaves the list as it is
pub without_none : (ticket : ℕ) (os : List Begun) → find ticket os ≡ none → without ticket os ≡ os
without_none ticket [] e = refl
without_none ticket (o ∷ os) e = go (eqb o.mark ticket) e (without_none ticket os)
  where
    go : (t : Bool) → cond t (some o) (find ticket os) ≡ none → (find ticket os ≡ none → without ticket os ≡ os) → cond t os (o ∷ without ticket os) ≡ o ∷ os
    go true f r = absurd (none-ne-some o (sym f))
    go false f r = ap (λ l. o ∷ l) (r f)

pub shorter_without : (ticket : ℕ) (os : List Begun) → length (without ticket os) ≤ length os
shorter_without ticket [] = omega arith
shorter_without ticket (o ∷ os) = go (eqb o.mark ticket) (shorter_without ticket os)
  where
    go : (t : Bool) → length (without ticket os) ≤ length os → length (cond t os (o ∷ without ticket os)) ≤ suc (length os)
    go true r = omega (arith, r)
    go false r = omega (arith, r)
