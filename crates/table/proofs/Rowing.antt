-- What a change, and one more version, do to the counts of a table, and its first vacant row.
use Rattle.std.proofs.Common.{◌≡◌, ℕ, zero, suc, ◌+◌, ◌<◌, ◌≤◌, Bool, true, false, cond, not, ◌||◌, List, [], ◌∷◌, map, length, get_or, drop, set, Some, None, filter, Option, sym, refl, ap, ◌∙◌, add-one, arith, drop-cons}
use borrow.Author.Tests.{clash}
use Rattle.std.proofs.lemmas.List.{drop_all}
use Rattle.table.specs.declared.held.Version.{Version}
use Rattle.table.specs.declared.held.Change.{Change}
use Rattle.table.specs.declared.held.Change.TheVariants as change_of
use Rattle.table.specs.declared.held.State.{State}
use Rattle.table.specs.declared.held.State.TheVariants.{Sent}
use Rattle.table.specs.Versions.{live, reserves, is_sent, has_ticket, in_state, finish_one, withdraw_one, bring_home, wait_again, some_pass, count, reserved, gone_count, room}
use Rattle.table.specs.Rows.{Row, in_rows, row_passes, put, Vacancy, change, keeping, leave, changed, finishes, ending, leaving, mark_sent}
use Rattle.std.proofs.lemmas.Bool.Decides.{nat_tests}
use Rattle.std.specs.List.{list_any, position_from}
use Rattle.std.specs.Option.{is_none}

-- ---- one more row of a scan

module _ (p : Version → Bool) where
  some_head : (r : Row) (rest : List Row) → some_pass p (in_rows (r ∷ rest)) ≡ (row_passes p r || some_pass p (in_rows rest))
  some_head None rest = refl
  some_head (Some v) rest = refl

  module _ (rows : List Row) (i : ℕ) (h : i < length rows) where
    opened : some_pass p (in_rows (drop i rows)) ≡ (row_passes p (get_or rows i None) || some_pass p (in_rows (drop (i + 1) rows)))
    opened = rw (add-one i) (ap (λ l. some_pass p (in_rows l)) (drop-cons rows i None h) ∙ some_head (get_or rows i None) (drop (suc i) rows))

    pub some_here : row_passes p (get_or rows i None) ≡ true → some_pass p (in_rows (drop i rows)) ≡ true
    some_here e = opened ∙ ap (λ b. b || some_pass p (in_rows (drop (i + 1) rows))) e

    pub some_later : row_passes p (get_or rows i None) ≡ false → some_pass p (in_rows (drop i rows)) ≡ some_pass p (in_rows (drop (i + 1) rows))
    some_later e = opened ∙ ap (λ b. b || some_pass p (in_rows (drop (i + 1) rows))) e

  pub some_end : (rows : List Row) (i : ℕ) → length rows ≤ i → some_pass p (in_rows (drop i rows)) ≡ false
  some_end rows i h = rw (drop_all i rows h)

  -- the rows that pass, and the versions
  pub some_rows : (rows : List Row) → list_any (row_passes p) rows ≡ some_pass p (in_rows rows)
  some_rows [] = refl
  some_rows (r ∷ rows) = ap (λ b. row_passes p r || b) (some_rows rows) ∙ sym (some_head r rows)

  pub found_rows : (rows : List Row) → length (filter (row_passes p) rows) ≡ length (filter p (in_rows rows))
  found_rows [] = refl
  found_rows (None ∷ rows) = found_rows rows
  found_rows (Some v ∷ rows) = go (p v) (found_rows rows)
    where
      go : (k : Bool) → length (filter (row_passes p) rows) ≡ length (filter p (in_rows rows)) → length (cond k (Some v ∷ filter (row_passes p) rows) (filter (row_passes p) rows)) ≡ length (cond k (v ∷ filter p (in_rows rows)) (filter p (in_rows rows)))
      go true e = omega arith
      go false e = e

-- ---- counts

module _ (p : State → Bool) where
  abbrev pick : Version → Bool
  pick v = p v.state

  one_more : (k : Bool) (v : Version) (l : List Version) → length (cond k (v ∷ l) l) ≤ length l + 1
  one_more true v l = omega arith
  one_more false v l = omega arith

  same_more : (k : Bool) (u : Version) (l l' : List Version) (n : ℕ) → length l ≤ length l' + n → length (cond k (u ∷ l) l) ≤ length (cond k (u ∷ l') l') + n
  same_more true u l l' n h = omega arith
  same_more false u l l' n h = h

  pub count_put : (v : Version) (rows : List Row) → count p (in_rows (put v rows)) ≤ count p (in_rows rows) + 1
  count_put v [] = omega arith
  count_put v (None ∷ rows) = one_more (pick v) v (filter pick (in_rows rows))
  count_put v (Some u ∷ rows) = same_more (pick u) u (filter pick (in_rows (put v rows))) (filter pick (in_rows rows)) 1 (count_put v rows)

  -- a change after which no further version passes, and those that q names no longer do
  fewer : (g : Version → Version) (q : Version → Bool) → ((v : Version) → pick (g v) ≡ true → pick v ≡ true) → ((v : Version) → q v ≡ true → (pick v ≡ true) × (pick (g v) ≡ false)) →
      (rows : List Row) → count p (in_rows (change g rows)) + cond (some_pass q (in_rows rows)) 1 0 ≤ count p (in_rows rows)
  fewer g q h w [] = omega arith
  fewer g q h w (None ∷ rows) = fewer g q h w rows
  fewer g q h w (Some v ∷ rows) = go (q v) (pick (g v)) (pick v) (some_pass q (in_rows rows)) (h v) (w v) (fewer g q h w rows)
    where
      L : List Version
      L = filter pick (in_rows (change g rows))

      M : List Version
      M = filter pick (in_rows rows)

      go : (k a b s : Bool) → (a ≡ true → b ≡ true) → (k ≡ true → (b ≡ true) × (a ≡ false)) → length L + cond s 1 0 ≤ length M → length (cond a (g v ∷ L) L) + cond (k || s) 1 0 ≤ length (cond b (v ∷ M) M)
      go true true b s i j le = absurd (clash (sym (j refl).1))
      go true false true s i j le = omega arith
      go true false false s i j le = absurd (clash (j refl).0)
      go false true true s i j le = omega arith
      go false true false s i j le = absurd (clash (i refl))
      go false false true s i j le = omega arith
      go false false false s i j le = le

  -- a change after which those pass that q names
  more : (g : Version → Version) (q : Version → Bool) → ((v : Version) → q v ≡ true → pick (g v) ≡ true) → (rows : List Row) → length (filter q (in_rows rows)) ≤ count p (in_rows (change g rows))
  more g q h [] = omega arith
  more g q h (None ∷ rows) = more g q h rows
  more g q h (Some v ∷ rows) = go (q v) (pick (g v)) (h v) (more g q h rows)
    where
      L : List Version
      L = filter q (in_rows rows)

      M : List Version
      M = filter pick (in_rows (change g rows))

      go : (a b : Bool) → (a ≡ true → b ≡ true) → length L ≤ length M → length (cond a (v ∷ L) L) ≤ length (cond b (g v ∷ M) M)
      go true true i le = omega arith
      go true false i le = absurd (clash (i refl))
      go false true i le = omega arith
      go false false i le = le

  fewer_kept : (q : Version → Bool) (rows : List Row) → count p (in_rows (map (keeping q) rows)) ≤ count p (in_rows rows)
  fewer_kept q [] = omega arith
  fewer_kept q (None ∷ rows) = fewer_kept q rows
  fewer_kept q (Some v ∷ rows) = go (q v) (pick v) refl (fewer_kept q rows)
    where
      go : (k a : Bool) → pick v ≡ a → count p (in_rows (map (keeping q) rows)) ≤ count p (in_rows rows) → count p (in_rows (cond k (Some v) None ∷ map (keeping q) rows)) ≤ length (cond a (v ∷ filter pick (in_rows rows)) (filter pick (in_rows rows)))
      go false true e le = omega arith
      go false false e le = le
      go true true e le = rw e (omega arith)
      go true false e le = rw e le

one_passes : (q : Version → Bool) (l : List Version) → cond (some_pass q l) 1 0 ≤ length (filter q l)
one_passes q [] = omega arith
one_passes q (v ∷ l) = go (q v) (some_pass q l) (one_passes q l)
  where
    go : (a b : Bool) → cond b 1 0 ≤ length (filter q l) → cond (a || b) 1 0 ≤ length (cond a (v ∷ filter q l) (filter q l))
    go true b le = omega arith
    go false b le = le

same_held : (g : Version → Version) (rows : List Row) → length (in_rows (change g rows)) ≡ length (in_rows rows)
same_held g [] = refl
same_held g (None ∷ rows) = same_held g rows
same_held g (Some v ∷ rows) = omega (arith, same_held g rows)

left : (rows : List Row) → length (in_rows (leave rows)) + gone_count (in_rows rows) ≡ length (in_rows rows)
left [] = omega arith
left (None ∷ rows) = left rows
left (Some v ∷ rows) = go (live v.state) (left rows)
  where
    G : List Version
    G = filter (λ u. not (live u.state)) (in_rows rows)

    go : (k : Bool) → length (in_rows (leave rows)) + length G ≡ length (in_rows rows) →
        length (in_rows (cond k (Some v) None ∷ leave rows)) + length (cond (not k) (v ∷ G) G) ≡ suc (length (in_rows rows))
    go true ih = omega arith
    go false ih = omega arith

abbrev none : Version → Bool
none v = false

no_count : (l : List Version) → ◌≡◌ {A = ℕ} (cond (some_pass none l) 1 0) 0
no_count [] = refl
no_count (v ∷ l) = no_count l

-- a change that finishes none
unfinished : (g : Version → Version) → ((v : Version) → reserves (g v).state ≡ true → reserves v.state ≡ true) → (rows : List Row) → reserved (in_rows (change g rows)) + 0 ≤ reserved (in_rows rows)
unfinished g h rows = omega (arith, fewer reserves g none h (λ v e. absurd (clash e)) rows, no_count (in_rows rows))

pub marks_changed : (x : Change) (rows : List Row) → reserved (in_rows (map (changed x) rows)) + finishes x (in_rows rows) ≤ reserved (in_rows rows)
marks_changed (change_of.Finish t f) rows = fewer reserves (finish_one t f) (has_ticket t) (λ v e. grind arith) (λ v e. (grind arith, grind arith)) rows
marks_changed (change_of.Withdraw t) rows = unfinished (withdraw_one t) (λ v e. grind arith) rows
marks_changed change_of.Send rows = unfinished (in_state Sent) (λ v e. absurd (clash e)) rows
marks_changed change_of.BringHome rows = unfinished bring_home (λ v e. grind arith) rows
marks_changed change_of.WaitAgain rows = unfinished wait_again (λ v e. grind arith) rows
marks_changed change_of.Leave rows = let h = fewer_kept reserves (λ v. live v.state) rows in omega arith

pub ends_changed : (x : Change) (rows : List Row) → ending x (in_rows rows) ≤ gone_count (in_rows (map (changed x) rows))
ends_changed (change_of.Finish t f) rows = omega arith
ends_changed (change_of.Withdraw t) rows =
    let h = more (λ s. not (live s)) (withdraw_one t) (has_ticket t) (λ v e. rw e) rows in
    let k = one_passes (has_ticket t) (in_rows rows) in omega arith
ends_changed change_of.Send rows = omega arith
ends_changed change_of.BringHome rows = more (λ s. not (live s)) bring_home (λ v. is_sent v.state) (λ v e. rw e) rows
ends_changed change_of.WaitAgain rows = omega arith
ends_changed change_of.Leave rows = omega arith

pub room_changed : (x : Change) (rows : List Row) → length (in_rows (map (changed x) rows)) + leaving x (in_rows rows) ≤ length (in_rows rows)
room_changed (change_of.Finish t f) rows = omega (arith, same_held (finish_one t f) rows)
room_changed (change_of.Withdraw t) rows = omega (arith, same_held (withdraw_one t) rows)
room_changed change_of.Send rows = omega (arith, same_held (in_state Sent) rows)
room_changed change_of.BringHome rows = omega (arith, same_held bring_home rows)
room_changed change_of.WaitAgain rows = omega (arith, same_held wait_again rows)
room_changed change_of.Leave rows = omega (arith, left rows)

-- one row is sent

pub marks_sent : (rows : List Row) (i : ℕ) → reserved (in_rows (mark_sent rows i)) ≤ reserved (in_rows rows)
marks_sent [] i = omega arith
marks_sent (None ∷ rows) zero = omega arith
marks_sent (Some v ∷ rows) zero = go (reserves v.state)
  where
    L : List Version
    L = filter (λ u. reserves u.state) (in_rows rows)

    go : (k : Bool) → reserved (in_rows rows) ≤ length (cond k (v ∷ L) L)
    go true = omega arith
    go false = omega arith
marks_sent (None ∷ rows) (suc i) = marks_sent rows i
marks_sent (Some v ∷ rows) (suc i) = let h = marks_sent rows i in
    let g = same_more reserves (reserves v.state) v (filter (λ u. reserves u.state) (in_rows (mark_sent rows i))) (filter (λ u. reserves u.state) (in_rows rows)) 0 (omega arith) in omega arith

pub held_sent : (rows : List Row) (i : ℕ) → length (in_rows (mark_sent rows i)) ≤ length (in_rows rows)
held_sent [] i = omega arith
held_sent (None ∷ rows) zero = omega arith
held_sent (Some v ∷ rows) zero = omega arith
held_sent (None ∷ rows) (suc i) = held_sent rows i
held_sent (Some v ∷ rows) (suc i) = omega (arith, held_sent rows i)

-- ---- the first vacant row

abbrev pub some_vacant : List Row → Bool
some_vacant [] = false
some_vacant (None ∷ rows) = true
some_vacant (Some v ∷ rows) = some_vacant rows

pub few : (rows : List Row) → length (in_rows rows) ≤ length rows
few [] = omega arith
few (None ∷ rows) = omega (arith, few rows)
few (Some v ∷ rows) = omega (arith, few rows)

vacant_less : (rows : List Row) → some_vacant rows ≡ true → length (in_rows rows) < length rows
vacant_less [] e = absurd (clash e)
vacant_less (None ∷ rows) e = omega (arith, few rows)
vacant_less (Some v ∷ rows) e = omega (arith, vacant_less rows e)

full_all : (rows : List Row) → some_vacant rows ≡ false → length (in_rows rows) ≡ length rows
full_all [] e = refl
full_all (None ∷ rows) e = absurd (clash (sym e))
full_all (Some v ∷ rows) e = omega (arith, full_all rows e)

-- of 32 rows one is vacant just if there is room
pub room_is : (rows : List Row) → length rows ≡ 32 → room (in_rows rows) ≡ some_vacant rows
room_is rows n = go (some_vacant rows) refl
  where
    go : (k : Bool) → some_vacant rows ≡ k → room (in_rows rows) ≡ k
    go true e = let a = vacant_less rows e in grind (arith, nat_tests)
    go false e = let a = full_all rows e in grind (arith, nat_tests)

put_held : (v : Version) (rows : List Row) → length (in_rows (put v rows)) ≤ length (in_rows rows) + 1
put_held v [] = omega arith
put_held v (None ∷ rows) = omega arith
put_held v (Some u ∷ rows) = omega (arith, put_held v rows)

abbrev VacantAt : ℕ → List Row → Option ℕ → Type 0
VacantAt n rows None = some_vacant rows ≡ false
VacantAt n rows (Some i) = (k : ℕ) × (i ≡ n + k) × (k < length rows) × (some_vacant rows ≡ true) × ((v : Version) → put v rows ≡ set rows k (Some v))

vacant_at : (n : ℕ) (rows : List Row) → VacantAt n rows (position_from is_none n rows)
vacant_at n [] = refl
vacant_at n (None ∷ rows) = (0, omega arith, omega arith, refl, λ v. refl)
vacant_at n (Some u ∷ rows) = go (position_from is_none (n + 1) rows) (vacant_at (n + 1) rows)
  where
    go : (o : Option ℕ) → VacantAt (n + 1) rows o → VacantAt n (Some u ∷ rows) o
    go None e = e
    go (Some i) (k, e, lt, s, at) = (suc k, omega arith, omega arith, s, λ v. ap (λ l. Some u ∷ l) (at v))

pub vacancy : (rows : List Row) → length rows ≡ 32 → Vacancy rows (position_from is_none 0 rows)
vacancy rows n = go (position_from is_none 0 rows) (vacant_at 0 rows)
  where
    go : (o : Option ℕ) → VacantAt 0 rows o → Vacancy rows o
    go None e = room_is rows n ∙ e
    go (Some i) (k, e, lt, s, at) =
        let same : i ≡ k = omega arith in
        (omega arith, room_is rows n ∙ s, (λ v. at v ∙ ap (λ j. set rows j (Some v)) (sym same)), (λ v. rw (same, ← at v) (count_put reserves v rows)), λ v. rw (same, ← at v) (put_held v rows))
