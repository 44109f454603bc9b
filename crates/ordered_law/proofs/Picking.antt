-- A scan over the rows finds the row of the version that the definition picks; and marking that row is marking that version.
use Rattle.std.proofs.Common.{◌≡◌, ℕ, zero, suc, ◌+◌, ◌<◌, Bool, true, false, cond, ◌&&◌, eqb, ltb, ◌≢◌, List, [], ◌∷◌, length, get_or, drop, set, Some, None, Option, sym, refl, ap, ◌∙◌, subst, ap₂, add-one, arith}
use Rattle.std.specs.List.{AllByRecursion}
use Rattle.std.proofs.lemmas.Bool.{ltb-true, ltb-false, lt-ltb, le-ltb}
use Rattle.std.proofs.lemmas.Bool.Decides.{nat_tests}
use Rattle.table.specs.declared.held.State.TheVariants.{Sent}
use Rattle.table.specs.declared.held.Version.{Version}
use Rattle.table.specs.declared.scan.Candidate.{Candidate}
use Rattle.table.specs.Versions.{is_waiting, in_state, send_one}
use Rattle.std.specs.Option.{option_map}
use Rattle.table.specs.Rows.{Row, in_rows, change, mark_sent}
use Rattle.table.specs.Scans.{candidate, lower_of, higher_of, best_from}
use Rattle.ordered_law.specs.Promise.{Pairs}

-- of two, that of lower or of higher begin mark
abbrev pub lower : Version → Option Version → Version
lower v None = v
lower v (Some u) = cond (ltb v.stamp.begin u.stamp.begin) v u

abbrev pub higher : Version → Option Version → Version
higher v None = v
higher v (Some u) = cond (ltb v.stamp.begin u.stamp.begin) u v

-- the best of those that pass, by a choice between one and what the rest gives
abbrev pub best_of : (Version → Option Version → Version) → (Version → Bool) → List Version → Option Version
best_of pick p [] = None
best_of pick p (v ∷ vs) = cond (p v) (Some (pick v (best_of pick p vs))) (best_of pick p vs)

-- of those that pass, that of lowest or of highest begin mark
abbrev pub lowest : (Version → Bool) → List Version → Option Version
lowest p vs = best_of lower p vs

abbrev pub highest : (Version → Bool) → List Version → Option Version
highest p vs = best_of higher p vs

-- the row at the front of what is left
at_drop : (table : List Row) (i : ℕ) (r : Row) (rest : List Row) → drop i table ≡ r ∷ rest → (i < length table) × (get_or table i None ≡ r) × (drop (suc i) table ≡ rest)
at_drop [] zero r rest e = absurd cc
at_drop [] (suc i) r rest e = absurd cc
at_drop (x ∷ table) zero r rest e = (omega arith, cc, cc)
at_drop (x ∷ table) (suc i) r rest e = let h = at_drop table i r rest e in (omega (arith, h.0), h.1, h.2)

-- the candidate's row holds the version, which passes
abbrev pub Finds : (Version → Bool) → List Row → Option Candidate → Option Version → Type 0
Finds p table None None = Unit {0}
Finds p table None (Some v) = ⊥
Finds p table (Some n) None = ⊥
Finds p table (Some n) (Some v) = (n.row < length table) × (get_or table n.row None ≡ Some v) × (n.begin ≡ v.stamp.begin) × (p v ≡ true)

module _ (pick : Version → Option Version → Version) where
  -- what was found so far, and what the rest gives
  abbrev and_then : Option Version → Option Version → Option Version
  and_then None o = o
  and_then (Some u) o = Some (pick u o)

  module _ (better : Option Candidate → Candidate → Option Candidate) (p : Version → Bool) (table : List Row) (one : (n : Candidate) → better None n ≡ Some n) (alone : (v : Version) → pick v None ≡ v) (two : (old new : Candidate) (u w : Version) → Finds p table (Some old) (Some u) → Finds p table (Some new) (Some w) → Finds p table (better (Some old) new) (Some (pick u (Some w)))) (assoc : (u w : Version) (o : Option Version) → pick (pick u (Some w)) o ≡ pick u (Some (pick w o))) where
    took : (n : Candidate) (w : Version) (best : Option Candidate) (u o : Option Version) → Finds p table best u → Finds p table (Some n) (Some w) →
        (x : Option Version) × Finds p table (better best n) x × (and_then x o ≡ and_then u (Some (pick w o)))
    took n w None None o f g = (Some w, subst (λ b. Finds p table b (Some w)) (sym (one n)) g, refl)
    took n w None (Some v) o f g = absurd f
    took n w (Some b) None o f g = absurd f
    took n w (Some b) (Some u) o f g = (Some (pick u (Some w)), two b n u w f g, ap Some (assoc u w o))

    finds_from : (rows : List Row) (i : ℕ) → drop i table ≡ rows → (best : Option Candidate) (u : Option Version) → Finds p table best u →
        Finds p table (best_from better p i rows best) (and_then u (best_of pick p (in_rows rows)))
    finds_from [] i e None None f = tt
    finds_from [] i e None (Some v) f = absurd f
    finds_from [] i e (Some b) None f = absurd f
    finds_from [] i e (Some b) (Some u) f = subst (λ (v : Version). Finds p table (Some b) (Some v)) (sym (alone u)) f
    finds_from (None ∷ rows) i e best u f = finds_from rows (i + 1) (ap (λ k. drop k table) (add-one i) ∙ (at_drop table i None rows e).2) best u f
    finds_from (Some w ∷ rows) i e best u f = go (p w) refl (λ b x h. finds_from rows (i + 1) (ap (λ k. drop k table) (add-one i) ∙ (at_drop table i (Some w) rows e).2) b x h)
      where
        at : (i < length table) × (get_or table i None ≡ Some w) × (drop (suc i) table ≡ rows)
        at = at_drop table i (Some w) rows e

        go : (k : Bool) → p w ≡ k → ((b : Option Candidate) (x : Option Version) → Finds p table b x → Finds p table (best_from better p (i + 1) rows b) (and_then x (best_of pick p (in_rows rows)))) →
            Finds p table (best_from better p (i + 1) rows (cond k (better best (candidate i w)) best)) (and_then u (cond k (Some (pick w (best_of pick p (in_rows rows)))) (best_of pick p (in_rows rows))))
        go true q ih =
            let t = took (candidate i w) w best u (best_of pick p (in_rows rows)) f (at.0, at.1, refl, q) in
            subst (Finds p table (best_from better p (i + 1) rows (better best (candidate i w)))) t.2 (ih (better best (candidate i w)) t.0 t.1)
        go false q ih = ih best u f

    finds : Finds p table (best_from better p 0 table None) (best_of pick p (in_rows table))
    finds = finds_from table 0 refl None None tt

lower_assoc : (u w : Version) (o : Option Version) → lower (lower u (Some w)) o ≡ lower u (Some (lower w o))
lower_assoc u w None = refl
lower_assoc u w (Some x) = go (ltb u.stamp.begin w.stamp.begin) refl (ltb w.stamp.begin x.stamp.begin) refl
  where
    go : (a : Bool) → ltb u.stamp.begin w.stamp.begin ≡ a → (b : Bool) → ltb w.stamp.begin x.stamp.begin ≡ b →
        lower (cond a u w) (Some x) ≡ lower u (Some (cond b w x))
    go true e true f =
        let h = ltb-true u.stamp.begin w.stamp.begin e in
        let k = ltb-true w.stamp.begin x.stamp.begin f in
        let l = lt-ltb u.stamp.begin x.stamp.begin (omega arith) in rw (l, e)
    go true e false f = refl
    go false e true f = rw (e, f)
    go false e false f =
        let h = ltb-false u.stamp.begin w.stamp.begin e in
        let k = ltb-false w.stamp.begin x.stamp.begin f in
        let l = le-ltb u.stamp.begin x.stamp.begin (omega arith) in rw (l, f)

pub finds_lowest : (p : Version → Bool) (table : List Row) → Finds p table (best_from lower_of p 0 table None) (lowest p (in_rows table))
finds_lowest p table = finds lower lower_of p table (λ n. refl) (λ v. refl) two lower_assoc
  where
    two : (old new : Candidate) (u w : Version) → Finds p table (Some old) (Some u) → Finds p table (Some new) (Some w) → Finds p table (lower_of (Some old) new) (Some (lower u (Some w)))
    two old new u w f g = go (ltb old.begin new.begin) (ltb u.stamp.begin w.stamp.begin) (ap₂ ltb f.2 g.2)
      where
        go : (k k' : Bool) → k ≡ k' → Finds p table (cond k (Some old) (Some new)) (Some (cond k' u w))
        go true k' e = rw (← e) f
        go false k' e = rw (← e) g

higher_assoc : (u w : Version) (o : Option Version) → higher (higher u (Some w)) o ≡ higher u (Some (higher w o))
higher_assoc u w None = refl
higher_assoc u w (Some x) = go (ltb u.stamp.begin w.stamp.begin) refl (ltb w.stamp.begin x.stamp.begin) refl
  where
    go : (a : Bool) → ltb u.stamp.begin w.stamp.begin ≡ a → (b : Bool) → ltb w.stamp.begin x.stamp.begin ≡ b →
        higher (cond a w u) (Some x) ≡ higher u (Some (cond b x w))
    go true e true f =
        let h = ltb-true u.stamp.begin w.stamp.begin e in
        let k = ltb-true w.stamp.begin x.stamp.begin f in
        let l = lt-ltb u.stamp.begin x.stamp.begin (omega arith) in rw (l, f)
    go true e false f = rw (e, f)
    go false e true f = refl
    go false e false f =
        let h = ltb-false u.stamp.begin w.stamp.begin e in
        let k = ltb-false w.stamp.begin x.stamp.begin f in
        let l = le-ltb u.stamp.begin x.stamp.begin (omega arith) in rw (l, e)

pub finds_highest : (p : Version → Bool) (table : List Row) → Finds p table (best_from higher_of p 0 table None) (highest p (in_rows table))
finds_highest p table = finds higher higher_of p table (λ n. refl) (λ v. refl) two higher_assoc
  where
    two : (old new : Candidate) (u w : Version) → Finds p table (Some old) (Some u) → Finds p table (Some new) (Some w) → Finds p table (higher_of (Some old) new) (Some (higher u (Some w)))
    two old new u w f g = go (ltb old.begin new.begin) (ltb u.stamp.begin w.stamp.begin) (ap₂ ltb f.2 g.2)
      where
        go : (k k' : Bool) → k ≡ k' → Finds p table (cond k (Some new) (Some old)) (Some (cond k' w u))
        go true k' e = rw (← e) g
        go false k' e = rw (← e) f

-- ---- one row is sent

abbrev pub Distinct : List Version → Type 0
Distinct l = Pairs (λ u v. u.stamp.begin ≢ v.stamp.begin) l

pub all_at : (P : Version → Type 0) (rows : List Row) (i : ℕ) (v : Version) → get_or rows i None ≡ Some v → AllByRecursion P (in_rows rows) → P v
all_at P [] zero v e a = absurd cc
all_at P [] (suc i) v e a = absurd cc
all_at P (None ∷ rows) zero v e a = absurd cc
all_at P (None ∷ rows) (suc i) v e a = all_at P rows i v e a
all_at P (Some u ∷ rows) zero v e a = let same : u ≡ v = cc in subst P same a.0
all_at P (Some u ∷ rows) (suc i) v e a = all_at P rows i v e a.1

unsent : (b : ℕ) (u : Version) → u.stamp.begin ≢ b → send_one b u ≡ u
unsent b u h = go (is_waiting u.state) (eqb u.stamp.begin b) (grind (arith, nat_tests))
  where
    go : (w k : Bool) → k ≡ false → in_state (cond (w && k) Sent u.state) u ≡ u
    go true k e = rw e
    go false k e = refl

unsent_all : (b : ℕ) (rows : List Row) → AllByRecursion (λ u. b ≢ u.stamp.begin) (in_rows rows) → change (send_one b) rows ≡ rows
unsent_all b [] a = refl
unsent_all b (None ∷ rows) a = ap (λ l. None ∷ l) (unsent_all b rows a)
unsent_all b (Some u ∷ rows) a = let h = unsent b u (λ e. a.0 (sym e)) in rw (h, unsent_all b rows a.1)

sent_here : (v : Version) → is_waiting v.state ≡ true → send_one v.stamp.begin v ≡ in_state Sent v
sent_here v w = let e : eqb v.stamp.begin v.stamp.begin ≡ true = grind (arith, nat_tests) in rw (w, e)

sent_row : (rows : List Row) (i : ℕ) (v : Version) → get_or rows i None ≡ Some v → is_waiting v.state ≡ true → Distinct (in_rows rows) →
    set rows i (Some (in_state Sent v)) ≡ change (send_one v.stamp.begin) rows
sent_row [] zero v e w d = absurd cc
sent_row [] (suc i) v e w d = absurd cc
sent_row (None ∷ rows) zero v e w d = absurd cc
sent_row (None ∷ rows) (suc i) v e w d = ap (λ l. None ∷ l) (sent_row rows i v e w d)
sent_row (Some u ∷ rows) zero v e w d =
    let same : u ≡ v = cc in
    let others = subst (λ (x : Version). AllByRecursion (λ y. x.stamp.begin ≢ y.stamp.begin) (in_rows rows)) same d.0 in
    rw (same, sent_here v w, unsent_all v.stamp.begin rows others)
sent_row (Some u ∷ rows) (suc i) v e w d =
    let h = unsent v.stamp.begin u (all_at (λ y. u.stamp.begin ≢ y.stamp.begin) rows i v e d.0) in
    rw h (ap (λ l. Some u ∷ l) (sent_row rows i v e w d.1))

pub marks_one : (rows : List Row) (i : ℕ) (v : Version) → get_or rows i None ≡ Some v → is_waiting v.state ≡ true → Distinct (in_rows rows) →
    mark_sent rows i ≡ change (send_one v.stamp.begin) rows
marks_one rows i v e w d = ap (λ r. set rows i (option_map (in_state Sent) r)) e ∙ sent_row rows i v e w d
