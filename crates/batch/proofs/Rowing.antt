-- The first row that passes, and what it says of the lists of the model.
use Rattle.std.proofs.Common.{◌≡◌, ℕ, zero, suc, ◌+◌, ◌<◌, ◌≤◌, Bool, true, false, cond, not, eqb, List, [], ◌∷◌, ◌++◌, map, length, get_or, take, drop, set, is_some, Some, None, sym, refl, ap, ◌∙◌, subst, ⊎_elim, arith}
use mathlib.Core.Option.{some, none}
use Rattle.std.specs.List.{AllByRecursion, position, position_from, remove, count_by}
use Rattle.std.proofs.lemmas.Iterator.Adapters.{position_from-zero}
use Rattle.std.proofs.lemmas.List.{append-nil, map-append, get_or_at, set_at, take_at, drop_at, append_assoc, length_push, length-take-le, ext_get_or}
use Rattle.std.proofs.lemmas.Bool.{cases_lt}
use Rattle.std.proofs.lemmas.List.Edits.{length-remove, get_or-remove_below, get_or-remove_above}
use Rattle.std.proofs.lemmas.List.Quantifiers.{position-Some}
use Rattle.std.proofs.lemmas.List.Recursion.{is_count_by}
use Rattle.disk.specs.Medium.{Write}
use Rattle.head.specs.Head.{holds}
use Rattle.journal_law.specs.Cache.{Begun, find, without, collect, cached}
use Rattle.batch.specs.declared.entry.Entry.{Entry}
use Rattle.batch.specs.declared.rows.Batch.{Batch}
use Rattle.batch.specs.Rows.{no_entry, entries, write_in, begun_in, place_in, outside}

-- ---- the search

-- the row that was found: none before it passes
pub record Row (p : Entry → Bool) (xs : List Entry) (i : ℕ) : Type 0 where
  pub pre : List Entry
  pub here : Entry
  pub post : List Entry
  pub is : xs ≡ pre ++ here ∷ post
  pub at : length pre ≡ i
  pub passes : p here ≡ true
  pub before : AllByRecursion (λ x. p x ≡ false) pre

first_row : (k : ℕ) (p : Entry → Bool) (xs : List Entry) (j : ℕ) → position_from p k xs ≡ Some j → (i : ℕ) × (k + i ≡ j) × Row p xs i
first_row k p [] j e = absurd cc
first_row k p (x ∷ xs) j e = go (p x) refl e (first_row (k + 1) p xs j)
  where
    go : (b : Bool) → p x ≡ b → cond b (Some k) (position_from p (k + 1) xs) ≡ Some j →
        (position_from p (k + 1) xs ≡ Some j → (i : ℕ) × (k + 1 + i ≡ j) × Row p xs i) → (i : ℕ) × (k + i ≡ j) × Row p (x ∷ xs) i
    go true q f rec =
        (0, (let g : k ≡ j = cc in omega arith), record { pre = []; here = x; post = xs; is = refl; at = refl; passes = q; before = tt })
    go false q f rec =
        let r = rec f in (
          suc r.0,
          omega (arith, r.1),
          record {
            pre = x ∷ r.2.pre;
            here = r.2.here;
            post = r.2.post;
            is = ap (λ ys. x ∷ ys) r.2.is;
            at = ap suc r.2.at;
            passes = r.2.passes;
            before = (q, r.2.before);
          },
        )

first_none : (k : ℕ) (p : Entry → Bool) (xs : List Entry) → position_from p k xs ≡ None → AllByRecursion (λ x. p x ≡ false) xs
first_none k p [] e = tt
first_none k p (x ∷ xs) e = go (p x) refl e (first_none (k + 1) p xs)
  where
    go : (b : Bool) → p x ≡ b → cond b (Some k) (position_from p (k + 1) xs) ≡ None → (position_from p (k + 1) xs ≡ None → AllByRecursion (λ y. p y ≡ false) xs) → AllByRecursion (λ y. p y ≡ false) (x ∷ xs)
    go true q f rec = absurd cc
    go false q f rec = (q, rec f)

pub found_row : (p : Entry → Bool) (xs : List Entry) (i : ℕ) → position p xs ≡ Some i → Row p xs i
found_row p xs i e = let r = first_row 0 p xs i (sym (position_from-zero p xs) ∙ e) in subst (Row p xs) (let q : r.0 ≡ i = omega (arith, r.1) in q) r.2

no_row : (p : Entry → Bool) (xs : List Entry) → position p xs ≡ None → AllByRecursion (λ x. p x ≡ false) xs
no_row p xs e = first_none 0 p xs (sym (position_from-zero p xs) ∙ e)

-- ---- the rows below the count

pub entries_count : (b : Batch) → length (entries b) ≡ b.count
entries_count b = length-take-le b.count b.rows (omega (arith, b.few, b.full))

pub below_count : (p : Entry → Bool) (b : Batch) (i : ℕ) → position p (entries b) ≡ Some i → i < b.count
below_count p b i e = omega (arith, (position-Some p (entries b) i no_entry e).0, entries_count b)

-- ---- what the model makes of it

holds_from : (k place : ℕ) (xs : List Entry) → holds place (map place_in xs) ≡ is_some (position_from (λ e. eqb e.place place) k xs)
holds_from k place [] = refl
holds_from k place (x ∷ xs) = go (eqb x.place place) (holds_from (k + 1) place xs)
  where
    go : (b : Bool) → holds place (map place_in xs) ≡ is_some (position_from (λ e. eqb e.place place) (k + 1) xs) →
        cond b true (holds place (map place_in xs)) ≡ is_some (cond b (Some k) (position_from (λ e. eqb e.place place) (k + 1) xs))
    go true r = refl
    go false r = r

module _ (place : ℕ) where
  abbrev at_place : Entry → Bool
  at_place e = eqb e.place place

  pub holds_by : (xs : List Entry) → is_some (position at_place xs) ≡ holds place (map place_in xs)
  holds_by xs = sym (holds_from 0 place xs ∙ ap is_some (sym (position_from-zero at_place xs)))

  cached_past : (pre : List Entry) (rest : List Write) → AllByRecursion (λ x. at_place x ≡ false) pre → cached place (map write_in pre ++ rest) ≡ cached place rest
  cached_past [] rest a = refl
  cached_past (x ∷ pre) rest a = ap (λ b. cond b (some x.bytes) (cached place (map write_in pre ++ rest))) a.0 ∙ cached_past pre rest a.1

  pub cached_none : (xs : List Entry) → position at_place xs ≡ None → cached place (map write_in xs) ≡ none
  cached_none xs e = ap (cached place) (sym (append-nil (map write_in xs))) ∙ cached_past xs [] (no_row at_place xs e)

  collect_past : (w : Write) (pre : List Entry) (rest : List Write) → w.place ≡ place → AllByRecursion (λ x. at_place x ≡ false) pre → collect w (map write_in pre ++ rest) ≡ map write_in pre ++ collect w rest
  collect_past w [] rest q a = refl
  collect_past w (x ∷ pre) rest q a =
      ap (λ b. cond b (w ∷ (map write_in pre ++ rest)) (write_in x ∷ collect w (map write_in pre ++ rest))) (ap (eqb x.place) q ∙ a.0)
      ∙ ap (λ l. write_in x ∷ l) (collect_past w pre rest q a.1)

module _ (place : ℕ) (xs : List Entry) (i : ℕ) (found : position (at_place place) xs ≡ Some i) where
  row : Row (at_place place) xs i
  row = found_row (at_place place) xs i found

  pub cached_some : cached place (map write_in xs) ≡ some (get_or xs i no_entry).bytes
  cached_some =
      ap (λ l. cached place (map write_in l)) row.is
      ∙ ap (cached place) (map-append write_in row.pre (row.here ∷ row.post))
      ∙ cached_past place row.pre (map write_in (row.here ∷ row.post)) row.before
      ∙ ap (λ b. cond b (some row.here.bytes) (cached place (map write_in row.post))) row.passes
      ∙ ap (λ (e : Entry). some e.bytes) (sym (ap (λ l. get_or l i no_entry) row.is ∙ get_or_at row.pre row.here row.post no_entry i row.at))

  -- the row takes the write
  pub collect_some : (e : Entry) → e.place ≡ place → map write_in (set xs i e) ≡ collect (write_in e) (map write_in xs)
  collect_some e q =
      ap (λ l. map write_in (set l i e)) row.is
      ∙ ap (map write_in) (set_at row.pre row.here row.post e i row.at)
      ∙ map-append write_in row.pre (e ∷ row.post)
      ∙ ap (λ b. map write_in row.pre ++ cond b (write_in e ∷ map write_in row.post) (write_in row.here ∷ collect (write_in e) (map write_in row.post)))
      (sym (ap (eqb row.here.place) q ∙ row.passes))
      ∙ sym (collect_past place (write_in e) row.pre (map write_in (row.here ∷ row.post)) q row.before)
      ∙ ap (collect (write_in e)) (sym (map-append write_in row.pre (row.here ∷ row.post)))
      ∙ ap (λ l. collect (write_in e) (map write_in l)) (sym row.is)

-- a write at a place that no row holds comes behind the rest
pub collect_none : (e : Entry) (xs : List Entry) → position (at_place e.place) xs ≡ None → map write_in (xs ++ e ∷ []) ≡ collect (write_in e) (map write_in xs)
collect_none e xs f =
    map-append write_in xs (e ∷ [])
    ∙ sym (collect_past e.place (write_in e) xs [] refl (no_row (at_place e.place) xs f))
    ∙ ap (collect (write_in e)) (append-nil (map write_in xs))

-- ---- an open write leaves

module _ (mark : ℕ) where
  abbrev at_mark : Entry → Bool
  at_mark e = eqb e.mark mark

  find_past : (pre : List Entry) (rest : List Begun) → AllByRecursion (λ x. at_mark x ≡ false) pre → find mark (map begun_in pre ++ rest) ≡ find mark rest
  find_past [] rest a = refl
  find_past (x ∷ pre) rest a = ap (λ b. cond b (some (begun_in x)) (find mark (map begun_in pre ++ rest))) a.0 ∙ find_past pre rest a.1

  without_past : (pre : List Entry) (rest : List Begun) → AllByRecursion (λ x. at_mark x ≡ false) pre → without mark (map begun_in pre ++ rest) ≡ map begun_in pre ++ without mark rest
  without_past [] rest a = refl
  without_past (x ∷ pre) rest a =
      ap (λ b. cond b (map begun_in pre ++ rest) (begun_in x ∷ without mark (map begun_in pre ++ rest))) a.0 ∙ ap (λ l. begun_in x ∷ l) (without_past pre rest a.1)

  pub find_none : (xs : List Entry) → position at_mark xs ≡ None → find mark (map begun_in xs) ≡ none
  find_none xs e = ap (find mark) (sym (append-nil (map begun_in xs))) ∙ find_past xs [] (no_row at_mark xs e)

  pub without_none : (xs : List Entry) → position at_mark xs ≡ None → map begun_in xs ≡ without mark (map begun_in xs)
  without_none xs e =
      sym (append-nil (map begun_in xs)) ∙ sym (without_past xs [] (no_row at_mark xs e)) ∙ ap (without mark) (append-nil (map begun_in xs))

  module _ (xs : List Entry) (i : ℕ) (found : position at_mark xs ≡ Some i) where
    mark_row : Row at_mark xs i
    mark_row = found_row at_mark xs i found

    pub find_some : (d : Entry) → find mark (map begun_in xs) ≡ some (begun_in (get_or xs i d))
    find_some d =
        ap (λ l. find mark (map begun_in l)) mark_row.is
        ∙ ap (find mark) (map-append begun_in mark_row.pre (mark_row.here ∷ mark_row.post))
        ∙ find_past mark_row.pre (map begun_in (mark_row.here ∷ mark_row.post)) mark_row.before
        ∙ ap (λ b. cond b (some (begun_in mark_row.here)) (find mark (map begun_in mark_row.post))) mark_row.passes
        ∙ ap (λ (e : Entry). some (begun_in e)) (sym (ap (λ l. get_or l i d) mark_row.is ∙ get_or_at mark_row.pre mark_row.here mark_row.post d i mark_row.at))

    without_removed : map begun_in (remove xs i) ≡ without mark (map begun_in xs)
    without_removed =
        ap (map begun_in) left
        ∙ map-append begun_in mark_row.pre mark_row.post
        ∙ ap (λ b. map begun_in mark_row.pre ++ cond b (map begun_in mark_row.post) (begun_in mark_row.here ∷ without mark (map begun_in mark_row.post))) (sym mark_row.passes)
        ∙ sym (without_past mark_row.pre (map begun_in (mark_row.here ∷ mark_row.post)) mark_row.before)
        ∙ ap (without mark) (sym (map-append begun_in mark_row.pre (mark_row.here ∷ mark_row.post)))
        ∙ ap (λ l. without mark (map begun_in l)) (sym mark_row.is)
      where
        left : remove xs i ≡ mark_row.pre ++ mark_row.post
        left =
            ap (λ l. remove l i) mark_row.is
            ∙ ap (λ l. l ++ drop (suc i) (mark_row.pre ++ mark_row.here ∷ mark_row.post)) (take_at mark_row.pre (mark_row.here ∷ mark_row.post) i mark_row.at)
            ∙ ap (λ l. mark_row.pre ++ drop (suc i) l) (sym (append_assoc mark_row.pre (mark_row.here ∷ []) mark_row.post))
            ∙ ap (λ l. mark_row.pre ++ l) (drop_at (mark_row.pre ++ mark_row.here ∷ []) mark_row.post (suc i) (omega (arith, length_push mark_row.pre mark_row.here, mark_row.at)))

    -- the rows behind it have moved up
    pub without_some : (ys : List Entry) → length ys + 1 ≡ length xs → ((k : ℕ) → k < i → get_or ys k no_entry ≡ get_or xs k no_entry) →
        ((k : ℕ) → i ≤ k → k < length ys → get_or ys k no_entry ≡ get_or xs (k + 1) no_entry) → map begun_in ys ≡ without mark (map begun_in xs)
    without_some ys long front back = ap (map begun_in) moved ∙ without_removed
      where
        held : i < length xs
        held = (position-Some at_mark xs i no_entry found).0

        moved : ys ≡ remove xs i
        moved = ext_get_or no_entry ys (remove xs i) (omega (arith, long, length-remove xs i held))
            (λ k l. ⊎_elim
            (λ (f : k < i). front k f ∙ sym (get_or-remove_below xs i no_entry k f held))
            (λ (f : i ≤ k). back k f l ∙ sym (get_or-remove_above xs i no_entry k f held))
            (cases_lt k i))

-- ---- places outside another batch

pub outside_by : (others : List ℕ) (xs : List Entry) → outside (map place_in xs) others ≡ count_by (λ e. not (holds e.place others)) xs
outside_by others = is_count_by (λ (xs : List Entry). outside (map place_in xs) others) (λ e. not (holds e.place others)) refl (λ x xs. go (holds x.place others) (outside (map place_in xs) others))
  where
    go : (b : Bool) (n : ℕ) → cond b 0 1 + n ≡ cond (not b) (1 + n) n
    go true n = omega arith
    go false n = refl

-- ---- a row below the count is set

pub take_set_within : (n : ℕ) (xs : List Entry) (i : ℕ) (y : Entry) → i < n → take n (set xs i y) ≡ set (take n xs) i y
take_set_within zero xs i y l = absurd (omega arith)
take_set_within (suc n) [] i y l = refl
take_set_within (suc n) (x ∷ xs) zero y l = refl
take_set_within (suc n) (x ∷ xs) (suc i) y l = ap (λ zs. x ∷ zs) (take_set_within n xs i y (omega arith))
