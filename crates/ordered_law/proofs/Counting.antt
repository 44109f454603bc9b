-- The cache's counts are the ledger's.
use Rattle.std.proofs.Common.{◌≡◌, ℕ, ◌+◌, Bool, true, false, cond, not, ◌||◌, eqb, ltb, ◌⊎◌, List, [], ◌∷◌, ◌++◌, map, length, filter, sym, refl, ap, ◌∙◌, subst, inl, inr, arith, Option, None, Some}
use Rattle.std.specs.List.{AllByRecursion}
use Rattle.std.proofs.lemmas.List.{length-map, length_push}
use Rattle.std.proofs.lemmas.Bool.{cond_both, both_ways, and_parts, eqb-true, or_left, or_right, or_cases}
use Rattle.std.proofs.lemmas.Bool.Decides.{nat_tests}
use Rattle.disk.specs.Medium.{Block, Medium, current}
use Rattle.precedence.specs.Stamps.{Precedence, Lawful}
use Rattle.table.specs.declared.held.State.{State}
use Rattle.table.specs.declared.held.State.TheVariants.{Open, Waiting, Sent, Home, Withdrawn}
use Rattle.table.specs.declared.held.Version.{Version}
use Rattle.table.specs.declared.tally.Counts.{Counts}
use Rattle.table.specs.Versions.{live, is_open, is_waiting, is_sent, is_home, is_withdrawn, some_pass, count, held, has_ticket, begun, finish_one, withdraw_one, send_one, bring_home, wait_again}
use Rattle.ordered_law.specs.Device.{Device}
use Rattle.ordered_law.specs.Events.{Call, Begin, Finish, Withdraw, Read, Step, Restart, Count}
use Rattle.ordered_law.specs.Cache.{any_sent, any_busy, tallied}
use Rattle.ordered_law.specs.Ledger.{chosen, note, send_chosen, replay}
use Rattle.ordered_law.specs.Promise.{Pairs}
use Rattle.ordered_law.specs.Tallies.{ledger_tally}
use Rattle.ordered_law.proofs.Sorted.{next_bad, Sorted, SortedOutcome, sorted_opened, sorted_refusal, newest, sorted_through, sorted_read, sorted_with, sorted_step, sorted_outcome, Asked, after, events}
use Rattle.ordered_law.proofs.Refusals.{unless_both}
use Rattle.ordered_law.proofs.Invariant.{Before, Keeps}
use Rattle.ordered_law.proofs.Calls.{keep_call, at_start, ledger_of}

-- ---- counts of a list

count_map : (p q : State → Bool) (g : Version → Version) → ((v : Version) → p (g v).state ≡ q v.state) → (l : List Version) → count p (map g l) ≡ count q l
count_map p q g e [] = refl
count_map p q g e (v ∷ l) = rw (e v) (go (q v.state) (count_map p q g e l))
  where
    go : (k : Bool) → count p (map g l) ≡ count q l → length (cond k (g v ∷ filter (λ u. p u.state) (map g l)) (filter (λ u. p u.state) (map g l))) ≡ length (cond k (v ∷ filter (λ u. q u.state) l) (filter (λ u. q u.state) l))
    go true ih = omega arith
    go false ih = ih

-- one more passes for each that r picks
count_more : (p : State → Bool) (r : Version → Bool) (g : Version → Version) → ((v : Version) → p (g v).state ≡ (r v || p v.state)) → ((v : Version) → r v ≡ true → p v.state ≡ false) →
    (l : List Version) → count p (map g l) ≡ count p l + length (filter r l)
count_more p r g e d [] = omega arith
count_more p r g e d (v ∷ l) = rw (e v) (go (r v) (p v.state) (d v) (count_more p r g e d l))
  where
    go : (a b : Bool) → (a ≡ true → b ≡ false) → count p (map g l) ≡ count p l + length (filter r l) →
        length (cond (a || b) (g v ∷ filter (λ u. p u.state) (map g l)) (filter (λ u. p u.state) (map g l)))
        ≡ length (cond b (v ∷ filter (λ u. p u.state) l) (filter (λ u. p u.state) l)) + length (cond a (v ∷ filter r l) (filter r l))
    go true true h ih = absurd (both_ways true (h refl) refl)
    go true false h ih = omega arith
    go false true h ih = omega arith
    go false false h ih = omega arith

count_push : (p : State → Bool) (x : Version) → p x.state ≡ false → (l : List Version) → count p (l ++ x ∷ []) ≡ count p l
count_push p x e [] = rw e
count_push p x e (v ∷ l) = go (p v.state) (count_push p x e l)
  where
    go : (k : Bool) → count p (l ++ x ∷ []) ≡ count p l → length (cond k (v ∷ filter (λ u. p u.state) (l ++ x ∷ [])) (filter (λ u. p u.state) (l ++ x ∷ []))) ≡ length (cond k (v ∷ filter (λ u. p u.state) l) (filter (λ u. p u.state) l))
    go true ih = omega arith
    go false ih = ih

-- what only live versions pass is counted in the table as in the ledger
count_held : (p : State → Bool) → ((s : State) → p s ≡ true → live s ≡ true) → (l : List Version) → count p (held l) ≡ count p l
count_held p h [] = refl
count_held p h (v ∷ l) = go (live v.state) (p v.state) refl refl (count_held p h l)
  where
    go : (a b : Bool) → live v.state ≡ a → p v.state ≡ b → count p (held l) ≡ count p l →
        length (filter (λ u. p u.state) (cond a (v ∷ held l) (held l))) ≡ length (cond b (v ∷ filter (λ u. p u.state) l) (filter (λ u. p u.state) l))
    go true true q r ih = rw r (omega arith)
    go true false q r ih = rw r ih
    go false true q r ih = absurd (both_ways (live v.state) q (h v.state r))
    go false false q r ih = ih

some_held : (p : Version → Bool) (l : List Version) → some_pass p (held l) ≡ true → some_pass p l ≡ true
some_held p [] e = e
some_held p (v ∷ l) e = go (live v.state) e (some_held p l)
  where
    go : (a : Bool) → some_pass p (cond a (v ∷ held l) (held l)) ≡ true → (some_pass p (held l) ≡ true → some_pass p l ≡ true) → (p v || some_pass p l) ≡ true
    go true e ih = go' (or_cases (p v) (some_pass p (held l)) e)
      where
        go' : (p v ≡ true) ⊎ (some_pass p (held l) ≡ true) → (p v || some_pass p l) ≡ true
        go' (inl q) = or_left (p v) (some_pass p l) q
        go' (inr q) = or_right (p v) (some_pass p l) (ih q)
    go false e ih = or_right (p v) (some_pass p l) (ih e)

-- a ticket is that of one write
later_none : (t : ℕ) (v : Version) → has_ticket t v ≡ true → (l : List Version) → AllByRecursion (Before v) l → length (filter (has_ticket t) l) ≡ 0
later_none t v h [] a = refl
later_none t v h (u ∷ l) a =
    let e : has_ticket t u ≡ false = other in rw e (later_none t v h l a.1)
  where
    other : has_ticket t u ≡ false
    other = let b = a.0.earlier in let k = eqb-true v.stamp.begin t (and_parts (is_open v.state) (eqb v.stamp.begin t) h).1 in grind (arith, nat_tests)

one_ticket : (t : ℕ) (l : List Version) → Pairs Before l → some_pass (has_ticket t) l ≡ true → length (filter (has_ticket t) l) ≡ 1
one_ticket t [] p e = absurd (both_ways false refl e)
one_ticket t (v ∷ l) p e = go (has_ticket t v) refl e (one_ticket t l p.1)
  where
    go : (k : Bool) → has_ticket t v ≡ k → (k || some_pass (has_ticket t) l) ≡ true → (some_pass (has_ticket t) l ≡ true → length (filter (has_ticket t) l) ≡ 1) →
        length (cond k (v ∷ filter (has_ticket t) l) (filter (has_ticket t) l)) ≡ 1
    go true h e ih = omega (arith, later_none t v h l p.0)
    go false h e ih = ih e

pub sum_of_all : (l : List Version) → length l ≡ count is_withdrawn l + count is_open l + count is_waiting l + count is_sent l + count is_home l
sum_of_all [] = omega arith
sum_of_all (v ∷ l) = go v.state (sum_of_all l)
  where
    more : (State → Bool) → State → List Version
    more p s = cond (p s) (v ∷ filter (λ u. p u.state) l) (filter (λ u. p u.state) l)

    go : (s : State) → length l ≡ count is_withdrawn l + count is_open l + count is_waiting l + count is_sent l + count is_home l →
        length (v ∷ l) ≡ length (more is_withdrawn s) + length (more is_open s) + length (more is_waiting s) + length (more is_sent s) + length (more is_home s)
    go Open ih = omega arith
    go Waiting ih = omega arith
    go Sent ih = omega arith
    go Home ih = omega arith
    go Withdrawn ih = omega arith

-- ---- every call

pub record Right (l : List Version) (n : Counts) : Type 0 where
  pub begun_is : n.begun ≡ length l
  pub withdrawn_is : n.withdrawn ≡ count is_withdrawn l
  pub home_is : n.home ≡ count is_home l

-- a change that neither withdraws nor brings home
right_map : (g : Version → Version) → ((v : Version) → is_withdrawn (g v).state ≡ is_withdrawn v.state) → ((v : Version) → is_home (g v).state ≡ is_home v.state) →
    (l : List Version) (n : Counts) → Right l n → Right (map g l) n
right_map g w h l n r = record {
  begun_is = r.begun_is ∙ sym (length-map l g);
  withdrawn_is = r.withdrawn_is ∙ sym (count_map is_withdrawn is_withdrawn g w l);
  home_is = r.home_is ∙ sym (count_map is_home is_home g h l);
}

module _ (precedes : Precedence) (opening : List Block) (l : List Version) (c : Sorted) (i : Keeps precedes opening l c) (r : Right l c.counts) where
  abbrev Good : Call → SortedOutcome → Type 0
  Good call o = Right (note precedes l call o.answer) o.cache.counts

  count_step : (device : Device) → Good Step (sorted_step precedes device c)
  count_step device = cond_both (any_busy c.table) _ _ (Good Step) (λ _. go (chosen precedes c.table) refl) (λ _. r)
    where
      go : (o : Option Version) → chosen precedes c.table ≡ o → Good Step (sorted_with device c o)
      go (Some v) e = cond_both (next_bad c.medium.plan) _ _ (Good Step) (λ _. r)
          (λ _. subst (λ (o : Option Version). Right (send_chosen l o) c.counts) (sym (ap (chosen precedes) (sym i.table_is) ∙ e))
          (right_map (send_one v.stamp.begin) (λ u. grind arith) (λ u. grind arith) l c.counts r))
      go None e = cond_both (any_sent c.table) _ _ (Good Step)
          (λ _. cond_both (next_bad c.medium.plan) _ _ (Good Step) (λ _. r)
          (λ _. record {
            begun_is = r.begun_is ∙ sym (length-map l bring_home);
            withdrawn_is = r.withdrawn_is ∙ sym (count_map is_withdrawn is_withdrawn bring_home (λ v. grind arith) l);
            home_is =
                let a = ap (count is_sent) i.table_is ∙ count_held is_sent (λ s h. grind arith) l in
                let b = count_more is_home (λ v. is_sent v.state) bring_home (λ v. grind arith) (λ v h. grind arith) l in
                let k = r.home_is in omega arith;
          }))
          (λ _. r)

  count_read : (device : Device) (place size : ℕ) → Good (Read place size) (sorted_read device place size c)
  count_read device place size = cond_both (not (eqb size 512)) _ _ (Good (Read place size)) (λ _. r) (λ _. cond_both (not (ltb place (length c.medium.firm))) _ _ (Good (Read place size)) (λ _. r) (λ _. go (newest place c.table)))
    where
      go : (o : Option Version) → Good (Read place size) (sorted_through device place c o)
      go (Some v) = r
      go None = cond_both (next_bad c.medium.plan) _ _ (Good (Read place size)) (λ _. r) (λ _. r)

  count_call : (device : Device) (call : Call) → Good call (sorted_outcome precedes device call c)
  count_call device (Begin place bytes) = unless_both (sorted_refusal place bytes c) _ _ (Good (Begin place bytes))
      (λ _. record {
        begun_is = let a = length_push l (begun place bytes (c.counter + 1)) in let b = r.begun_is in omega arith;
        withdrawn_is = r.withdrawn_is ∙ sym (count_push is_withdrawn (begun place bytes (c.counter + 1)) refl l);
        home_is = r.home_is ∙ sym (count_push is_home (begun place bytes (c.counter + 1)) refl l);
      })
      (λ _. r)
  count_call device (Finish t) = cond_both (some_pass (has_ticket t) c.table) _ _ (Good (Finish t))
      (λ _. right_map (finish_one t (c.counter + 1)) (λ v. grind arith) (λ v. grind arith) l c.counts r) (λ _. r)
  count_call device (Withdraw t) = cond_both (some_pass (has_ticket t) c.table) _ _ (Good (Withdraw t))
      (λ e. record {
        begun_is = r.begun_is ∙ sym (length-map l (withdraw_one t));
        withdrawn_is =
            let a = one_ticket t l i.book.order (some_held (has_ticket t) l (ap (some_pass (has_ticket t)) (sym i.table_is) ∙ e)) in
            let b = count_more is_withdrawn (has_ticket t) (withdraw_one t) (λ v. grind arith) (λ v h. grind arith) l in
            let k = r.withdrawn_is in omega arith;
        home_is = r.home_is ∙ sym (count_map is_home is_home (withdraw_one t) (λ v. grind arith) l);
      })
      (λ _. r)
  count_call device (Read place size) = count_read device place size
  count_call device Step = count_step device
  count_call device (Restart choice) = right_map wait_again (λ v. grind arith) (λ v. grind arith) l c.counts r
  count_call device Count = r

count_calls : (precedes : Precedence) → Lawful precedes → (opening : List Block) (asked : List Asked) (l : List Version) (c : Sorted) → Keeps precedes opening l c → Right l c.counts →
    tallied (after precedes c asked).counts (after precedes c asked).table ≡ ledger_tally (replay precedes l (events precedes c asked))
count_calls precedes lawful opening [] l c i r =
    let o = in_table is_open (λ s h. grind arith) in
    let w = in_table is_waiting (λ s h. grind arith) in
    let s = in_table is_sent (λ s h. grind arith) in
    λ k. record { begun = r.begun_is k; withdrawn = r.withdrawn_is k; «open» = o k; waiting = w k; sent = s k; home = r.home_is k }
  where
    in_table : (p : State → Bool) → ((s : State) → p s ≡ true → live s ≡ true) → count p c.table ≡ count p l
    in_table p h = ap (count p) i.table_is ∙ count_held p h l
count_calls precedes lawful opening (a ∷ asked) l c i r =
    count_calls precedes lawful opening asked _ _ (keep_call precedes lawful opening a.device a.call l c i) (count_call precedes opening l c i r a.device a.call)

pub tally_true : (precedes : Precedence) → Lawful precedes → (m : Medium) (asked : List Asked) →
    tallied (after precedes (sorted_opened m) asked).counts (after precedes (sorted_opened m) asked).table ≡ ledger_tally (ledger_of precedes m asked)
tally_true precedes lawful m asked =
    count_calls precedes lawful (current m) asked [] (sorted_opened m) (at_start precedes m) (record { begun_is = refl; withdrawn_is = refl; home_is = refl })
