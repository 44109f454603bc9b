-- One more candidate of a scan.
use Rattle.std.proofs.Common.{◌≡◌, ℕ, suc, ◌+◌, ◌<◌, ◌≤◌, Bool, true, false, cond, ◌&&◌, ltb, ◌⊎◌, List, [], ◌∷◌, length, get_or, drop, Some, None, Option, sym, refl, ◌∙◌, subst, inl, inr, ⊎_elim, add-one, arith, drop-cons}
use borrow.Author.Tests.{clash}
use Rattle.std.specs.Prelude.{MatchOption}
use Rattle.std.proofs.lemmas.List.{drop_all}
use Rattle.table.specs.declared.held.Version.{Version}
use Rattle.table.specs.declared.scan.Candidate.{Candidate}
use Rattle.precedence.specs.Stamps.{Precedence}
use Rattle.table.specs.Versions.{is_waiting, some_pass, ready}
use Rattle.table.specs.Rows.{Row, in_rows}
use Rattle.table.specs.Scans.{candidate, in_table, lower_of, higher_of, best_from, Lowest}
use Rattle.std.specs.List.{AllByRecursion}
use Rattle.std.proofs.lemmas.Bool.{ltb-true, ltb-false}
use Rattle.std.proofs.ByRecursion.{All-weaker}

module _ (better : Option Candidate → Candidate → Option Candidate) (p : Version → Bool) (rows : List Row) (i : ℕ) (best : Option Candidate) where
  -- row i holds v
  module _ (h : i < length rows) (v : Version) (is : get_or rows i None ≡ Some v) where
    pub past : best_from better p (i + 1) (drop (i + 1) rows) (cond (p v) (better best (candidate i v)) best) ≡ best_from better p i (drop i rows) best
    past = rw (drop-cons rows i None h, is, ← add-one i)

    pub skipped : p v ≡ false → best_from better p (i + 1) (drop (i + 1) rows) best ≡ best_from better p i (drop i rows) best
    skipped e = rw e at past

    pub taken : p v ≡ true → best_from better p (i + 1) (drop (i + 1) rows) (better best (candidate i v)) ≡ best_from better p i (drop i rows) best
    taken e = rw e at past

  pub ended : length rows ≤ i → best ≡ best_from better p i (drop i rows) best
  ended h = rw (drop_all i rows h)

-- ---- whether the candidate is ready

-- whether u precedes v
abbrev pub before : Precedence → Version → Version → Bool
before precedes v u = precedes u.stamp v.stamp

module _ (precedes : Precedence) (table : List Version) (v : Version) where
  pub preceded : some_pass (before precedes v) table ≡ true → ready precedes table v ≡ false
  preceded e = rw e (go (is_waiting v.state))
    where
      go : (k : Bool) → (k && false) ≡ false
      go true = refl
      go false = refl

  pub is_ready : true ≡ is_waiting v.state → some_pass (before precedes v) table ≡ false → ready precedes table v ≡ true
  is_ready w f = rw (← w, f)

-- `is_some_and` and `is_none_or` answered r of the best so far, by a closure that compares its begin mark with the candidate's
module _ (best : Option Candidate) (n : Candidate) (r : Bool) {K : Candidate → Type 0} (compares : (old : Candidate) → K old → r ≡ ltb old.begin n.begin) where
  pub unbeaten : MatchOption best (r ≡ false) K → r ≡ false → lower_of best n ≡ Some n
  unbeaten e y = go best e
    where
      go : (o : Option Candidate) → MatchOption o (r ≡ false) K → lower_of o n ≡ Some n
      go None e = refl
      go (Some old) k = rw (← compares old k, y)

  pub beats : MatchOption best (r ≡ true) K → r ≡ true → higher_of best n ≡ Some n
  beats e y = go best e
    where
      go : (o : Option Candidate) → MatchOption o (r ≡ true) K → higher_of o n ≡ Some n
      go None e = refl
      go (Some old) k = rw (← compares old k, y)

  pub beats_not : MatchOption best (r ≡ true) K → r ≡ false → higher_of best n ≡ best
  beats_not e y = go best e
    where
      go : (o : Option Candidate) → MatchOption o (r ≡ true) K → higher_of o n ≡ o
      go None e = absurd (clash (sym y ∙ e))
      go (Some old) k = rw (← compares old k, y)

-- ---- the answer is a row of the table

either_within : (k : Bool) (a b : Option Candidate) → in_table a → in_table b → in_table (cond k a b)
either_within true a b h g = h
either_within false a b h g = g

lower_within : (best : Option Candidate) (n : Candidate) → in_table best → in_table (Some n) → in_table (lower_of best n)
lower_within None n h g = g
lower_within (Some old) n h g = either_within (ltb old.begin n.begin) (Some old) (Some n) h g

higher_within : (best : Option Candidate) (n : Candidate) → in_table best → in_table (Some n) → in_table (higher_of best n)
higher_within None n h g = g
higher_within (Some old) n h g = either_within (ltb old.begin n.begin) (Some n) (Some old) g h

best_within : (better : Option Candidate → Candidate → Option Candidate) → ((best : Option Candidate) (n : Candidate) → in_table best → in_table (Some n) → in_table (better best n)) →
    (p : Version → Bool) (rows : List Row) (i : ℕ) (best : Option Candidate) → i + length rows ≤ 32 → in_table best → in_table (best_from better p i rows best)
best_within better keeps p [] i best le h = h
best_within better keeps p (None ∷ rows) i best le h = best_within better keeps p rows (i + 1) best (omega arith) h
best_within better keeps p (Some v ∷ rows) i best le h =
    best_within better keeps p rows (i + 1) (cond (p v) (better best (candidate i v)) best) (omega arith) (either_within (p v) (better best (candidate i v)) best (keeps best (candidate i v) h (omega arith)) h)

pub lowest_within : (p : Version → Bool) (rows : List Row) → length rows ≤ 32 → in_table (best_from lower_of p 0 rows None)
lowest_within p rows le = best_within lower_of lower_within p rows 0 None (omega arith) tt

pub highest_within : (p : Version → Bool) (rows : List Row) → length rows ≤ 32 → in_table (best_from higher_of p 0 rows None)
highest_within p rows le = best_within higher_of higher_within p rows 0 None (omega arith) tt

-- ---- the answer is the lowest that passes

module _ (p : Version → Bool) where
  -- the candidate is one of these rows, the first of which is row i, and passes
  pub record At (i : ℕ) (rows : List Row) (n : Candidate) : Type 0 where
    pub offset : ℕ
    pub version : Version
    pub row_is : n.row ≡ i + offset
    pub holds : get_or rows offset None ≡ Some version
    pub begins : n.begin ≡ version.stamp.begin
    pub passes : p version ≡ true

  abbrev AtMost : Candidate → Option Candidate → Type 0
  AtMost n None = Unit {0}
  AtMost n (Some b) = n.begin ≤ b.begin

  abbrev Above : Candidate → List Row → Type 0
  Above n rows = AllByRecursion (λ u. p u ≡ true → n.begin ≤ u.stamp.begin) (in_rows rows)

  -- what a scan of these rows makes of the best so far
  abbrev Scanned : Option Candidate → ℕ → List Row → Option Candidate → Type 0
  Scanned best i rows None = (best ≡ None) × AllByRecursion (λ v. p v ≡ false) (in_rows rows)
  Scanned best i rows (Some n) = ((best ≡ Some n) ⊎ At i rows n) × AtMost n best × Above n rows

  later : (r : Row) (i : ℕ) (rows : List Row) (n : Candidate) → At (i + 1) rows n → At i (r ∷ rows) n
  later r i rows n a = record { offset = suc a.offset; version = a.version; row_is = let h = a.row_is in omega arith; holds = a.holds; begins = a.begins; passes = a.passes }

  first_row : (v : Version) (i : ℕ) (rows : List Row) (n : Candidate) → p v ≡ true → Some (candidate i v) ≡ Some n → At i (Some v ∷ rows) n
  first_row v i rows n h e = let q : candidate i v ≡ n = cc in subst (At i (Some v ∷ rows)) q (record { offset = 0; version = v; row_is = omega arith; holds = refl; begins = refl; passes = h })

  never : {X : Type 0} {n : Candidate} → Some n ≡ None → X
  never e = let z : ◌≡◌ {A = ℕ} 0 1 = cc in absurd (omega arith)

  module _ (v : Version) (i : ℕ) (rows : List Row) where
    skip : p v ≡ false → (best o : Option Candidate) → Scanned best (i + 1) rows o → Scanned best i (Some v ∷ rows) o
    skip f best None s = (s.0, (f, s.1))
    skip f best (Some n) s = (⊎_elim (λ (e : best ≡ Some n). inl e) (λ (a : At (i + 1) rows n). inr (later (Some v) i rows n a)) s.0, s.1, ((λ h. absurd (clash (sym f ∙ h))), s.2))

    -- v takes the place of the best
    take_new : p v ≡ true → (best o : Option Candidate) → ((n : Candidate) → n.begin ≤ v.stamp.begin → AtMost n best) → Scanned (Some (candidate i v)) (i + 1) rows o → Scanned best i (Some v ∷ rows) o
    take_new h best None below s = never s.0
    take_new h best (Some n) below s =
        (inr (⊎_elim (first_row v i rows n h) (later (Some v) i rows n) s.0), below n s.1, ((λ _. s.1), s.2))

    -- the best stays
    keep_old : (b : Candidate) (o : Option Candidate) → b.begin < v.stamp.begin → Scanned (Some b) (i + 1) rows o → Scanned (Some b) i (Some v ∷ rows) o
    keep_old b None lt s = never s.0
    keep_old b (Some n) lt s =
        (⊎_elim (λ (e : Some b ≡ Some n). inl e) (λ (a : At (i + 1) rows n). inr (later (Some v) i rows n a)) s.0, s.1, ((λ _. let h = s.1 in omega arith), s.2))

  scanned : (rows : List Row) (i : ℕ) (best : Option Candidate) → Scanned best i rows (best_from lower_of p i rows best)
  scanned [] i None = (refl, tt)
  scanned [] i (Some b) = (inl refl, omega arith, tt)
  scanned (None ∷ rows) i best = go (best_from lower_of p (i + 1) rows best) (scanned rows (i + 1) best)
    where
      go : (o : Option Candidate) → Scanned best (i + 1) rows o → Scanned best i (None ∷ rows) o
      go None s = s
      go (Some n) s = (⊎_elim (λ (e : best ≡ Some n). inl e) (λ (a : At (i + 1) rows n). inr (later None i rows n a)) s.0, s.1, s.2)
  scanned (Some v ∷ rows) i best = go (p v) refl best (scanned rows (i + 1))
    where
      go : (k : Bool) → p v ≡ k → (best : Option Candidate) → ((b : Option Candidate) → Scanned b (i + 1) rows (best_from lower_of p (i + 1) rows b)) →
          Scanned best i (Some v ∷ rows) (best_from lower_of p (i + 1) rows (cond k (lower_of best (candidate i v)) best))
      go false e best ih = skip v i rows e best (best_from lower_of p (i + 1) rows best) (ih best)
      go true e None ih = take_new v i rows e None (best_from lower_of p (i + 1) rows (Some (candidate i v))) (λ n h. tt) (ih (Some (candidate i v)))
      go true e (Some b) ih = pass (ltb b.begin v.stamp.begin) refl
        where
          pass : (k : Bool) → ltb b.begin v.stamp.begin ≡ k → Scanned (Some b) i (Some v ∷ rows) (best_from lower_of p (i + 1) rows (cond k (Some b) (Some (candidate i v))))
          pass true q = keep_old v i rows b (best_from lower_of p (i + 1) rows (Some b)) (ltb-true b.begin v.stamp.begin q) (ih (Some b))
          pass false q = take_new v i rows e (Some b) (best_from lower_of p (i + 1) rows (Some (candidate i v))) (λ n h. let l = ltb-false b.begin v.stamp.begin q in omega arith) (ih (Some (candidate i v)))

  pub lowest_found : (rows : List Row) → Lowest p rows (best_from lower_of p 0 rows None)
  lowest_found rows = go (best_from lower_of p 0 rows None) (scanned rows 0 None)
    where
      go : (o : Option Candidate) → Scanned None 0 rows o → Lowest p rows o
      go None s = s.1
      go (Some n) s = at (⊎_elim (λ (e : None ≡ Some n). never (sym e)) (λ (a : At 0 rows n). a) s.0)
        where
          at : At 0 rows n → Lowest p rows (Some n)
          at a =
              let same : n.row ≡ a.offset = (let h = a.row_is in omega arith) in
              (a.version, rw same a.holds, a.begins, a.passes, All-weaker _ _ (λ u h k. let l = h k in let b = a.begins in omega arith) (in_rows rows) s.2)
