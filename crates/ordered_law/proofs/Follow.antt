-- The cache of rows answers as the cache whose table stands in the order of begin marks.
use Rattle.std.proofs.Common.{◌≡◌, ℕ, ◌+◌, ◌<◌, ◌≤◌, Bool, true, false, cond, not, ◌&&◌, ◌||◌, eqb, ltb, ◌≢◌, List, [], ◌∷◌, map, length, get_or, Some, None, filter, Option, sym, refl, ap, ◌∙◌, subst, ap₂, arith}
use mathlib.Core.Path.{fun_ext}
use Rattle.std.specs.List.{AllByRecursion}
use Rattle.std.proofs.lemmas.List.{length-map}
use Rattle.std.proofs.lemmas.Bool.{eqb-true, not-false, ltb-true, lt-ltb}
use Rattle.std.proofs.lemmas.Bool.Decides.{nat_tests}
use Rattle.std.proofs.ByRecursion.{All-weaker, all_kept_by}
use Rattle.disk.specs.declared.error.Kind.TheVariants as kind
use Rattle.disk.specs.Medium.{Block, Entry, good, bad, Medium, current, passed, flushed, due}
use Rattle.disk.specs.Calls.{Fate, fate, by_entry}
use Rattle.table.specs.declared.held.State.{State}
use Rattle.table.specs.declared.held.Version.{Version}
use Rattle.table.specs.declared.tally.Counts.{Counts}
use Rattle.errors.specs.declared.CacheError.{CacheError}
use Rattle.table.specs.declared.scan.Candidate.{Candidate}
use Rattle.errors.specs.declared.CacheCall.TheVariants as during
use Rattle.errors.specs.declared.CacheError.TheVariants as error
use Rattle.std.specs.List.{find}
use Rattle.ordered_law.proofs.Lists.{all_map, pairs_map, pairs_kept}
use Rattle.ordered_law.proofs.Refusals.{accepted}
use Rattle.ordered_law.proofs.Bounding.{Within}
use Rattle.ordered_law.proofs.Sorting.{in_order, in_order_length, in_order_some, in_order_map, in_order_kept, in_order_first, in_order_last, in_order_put, all_from_order}
use Rattle.ordered_law.proofs.Sorted.{is_bad, failed_call, written, Sorted, SortedOutcome, fault, sorted_refusal, sorted_begin, sorted_finish, sorted_withdraw, sorted_read, sorted_through, sorted_send, sorted_with, sorted_step, sorted_outcome}
use Rattle.precedence.specs.Stamps.{Precedence}
use Rattle.table.specs.Versions.{live, reserves, is_open, is_waiting, is_sent, some_pass, count, held, has_ticket, begun, finish_one, withdraw_one, send_one, bring_home, wait_again, ready, finished_in}
use Rattle.ordered_law.specs.Ledger.{chosen}
use Rattle.std.specs.Option.{option_map}
use Rattle.table.specs.Rows.{Row, in_rows, bytes_of, put, keeping, change, leave}
use Rattle.table.proofs.Rowing.{some_vacant, room_is}
use Rattle.ordered_law.proofs.Picking.{lowest, highest, Distinct, Finds, finds_lowest, finds_highest, all_at, marks_one}
use Rattle.table.specs.Scans.{lowest_ready, newest_at}
use Rattle.ordered_law.specs.Device.{Device}
use Rattle.ordered_law.specs.Promise.{write_of, Pairs}
use Rattle.ordered_law.specs.Events.{Call, Begin, Finish, Withdraw, Read, Step, Restart, Count, Answer, took, shown, counted, refused}
use Rattle.ordered_law.specs.Bounds.{Fitting}
use Rattle.ordered_law.specs.Cache.{Cache, Outcome, over, begin_refusal, unless, one_begun, more_home, tally, tallied, begin_call, finish_call, withdraw_call, read_disk, read_through, read_call, send_meeting, send_call, flush_call, step_with, step_call, outcome}

abbrev pub model_of : Cache → Sorted
model_of c = record { medium = c.medium; table = in_order (in_rows c.rows); counter = c.counter; counts = c.counts }

pub record Fit (c : Cache) : Type 0 where
  pub full : length c.rows ≡ 32
  pub marks : AllByRecursion (λ v. v.stamp.begin ≤ c.counter) (in_rows c.rows)
  pub distinct : Distinct (in_rows c.rows)

-- ---- rows

length_put : (v : Version) (rows : List Row) → length (put v rows) ≡ length rows
length_put v [] = refl
length_put v (None ∷ rows) = refl
length_put v (Some u ∷ rows) = omega (arith, length_put v rows)

in_change : (g : Version → Version) (rows : List Row) → in_rows (change g rows) ≡ map g (in_rows rows)
in_change g [] = refl
in_change g (None ∷ rows) = in_change g rows
in_change g (Some v ∷ rows) = ap (λ x. g v ∷ x) (in_change g rows)

in_leave : (rows : List Row) → in_rows (leave rows) ≡ held (in_rows rows)
in_leave [] = refl
in_leave (None ∷ rows) = in_leave rows
in_leave (Some v ∷ rows) = go (live v.state) (in_leave rows)
  where
    go : (k : Bool) → in_rows (leave rows) ≡ held (in_rows rows) → in_rows (cond k (Some v) None ∷ leave rows) ≡ cond k (v ∷ held (in_rows rows)) (held (in_rows rows))
    go true ih = ap (λ x. v ∷ x) ih
    go false ih = ih

all_put : (P : Version → Type 0) (v : Version) (rows : List Row) → P v → AllByRecursion P (in_rows rows) → AllByRecursion P (in_rows (put v rows))
all_put P v [] h a = tt
all_put P v (None ∷ rows) h a = (h, a)
all_put P v (Some u ∷ rows) h a = (a.0, all_put P v rows h a.1)

-- ---- pairs

pairs_put : (R : Version → Version → Type 0) (x : Version) (rows : List Row) → AllByRecursion (R x) (in_rows rows) → ((u v : Version) → R u v → R v u) → Pairs R (in_rows rows) → Pairs R (in_rows (put x rows))
pairs_put R x [] a flip r = tt
pairs_put R x (None ∷ rows) a flip r = (a, r)
pairs_put R x (Some u ∷ rows) a flip r = (all_put (R u) x rows (flip x u a.0) r.0, pairs_put R x rows a.1 flip r.1)

and_first : (a b : Bool) → (a && b) ≡ true → a ≡ true
and_first true b e = refl
and_first false b e = e

-- ---- counts

module _ (c : Cache) where
  pub count_same : (p : State → Bool) → count p (in_rows c.rows) ≡ count p (model_of c).table
  count_same p = sym (in_order_length (filter (λ v. p v.state) (in_rows c.rows))) ∙ ap length (in_order_kept (λ v. p v.state) (in_rows c.rows))

  pub tally_same : tally c ≡ tallied c.counts (model_of c).table
  tally_same = λ k. record { begun = c.counts.begun; withdrawn = c.counts.withdrawn; «open» = count_same is_open k; waiting = count_same is_waiting k; sent = count_same is_sent k; home = c.counts.home }

-- ---- one call

-- the same answer, the same cache in the order of begin marks, and rows that fit
pub record Follows (r : Outcome) (o : SortedOutcome) : Type 0 where
  pub answers : r.answer ≡ o.answer
  pub caches : model_of r.cache ≡ o.cache
  pub fits : Fit r.cache

follow_cond : (k k' : Bool) (r s : Outcome) (o p : SortedOutcome) → k ≡ k' → (k ≡ true → Follows r o) → (k ≡ false → Follows s p) → Follows (cond k r s) (cond k' o p)
follow_cond true k' r s o p e f g = rw (← e) (f refl)
follow_cond false k' r s o p e f g = rw (← e) (g refl)

follow_unless : (a b : Option CacheError) (r : Outcome) (s : CacheError → Outcome) (o : SortedOutcome) (p : CacheError → SortedOutcome) → a ≡ b → (a ≡ None → Follows r o) → ((e : CacheError) → Follows (s e) (p e)) →
    Follows (unless a r s) (unless b o p)
follow_unless None b r s o p e f g = rw (← e) (f refl)
follow_unless (Some x) b r s o p e f g = rw (← e) (g x)

module _ (c : Cache) (fit : Fit c) (bounded : Within (model_of c)) where
  same : (a : Answer) → Follows (record { answer = a; cache = c }) (record { answer = a; cache = model_of c })
  same a = record { answers = refl; caches = refl; fits = fit }

  passed_by : (a : Answer) (m : Medium) →
      Follows (record { answer = a; cache = over m c })
      (record { answer = a; cache = record { medium = m; table = in_order (in_rows c.rows); counter = c.counter; counts = c.counts } })
  passed_by a m = record { answers = refl; caches = refl; fits = record { full = fit.full; marks = fit.marks; distinct = fit.distinct } }

  changed_to : (g : Version → Version) → ((v : Version) → (g v).stamp.begin ≡ v.stamp.begin) → in_order (in_rows (change g c.rows)) ≡ map g (in_order (in_rows c.rows))
  changed_to g b = ap in_order (in_change g c.rows) ∙ in_order_map g b (in_rows c.rows)

  marks_changed : (g : Version → Version) → ((v : Version) → (g v).stamp.begin ≡ v.stamp.begin) → (n : ℕ) → c.counter ≤ n → AllByRecursion (λ v. v.stamp.begin ≤ n) (in_rows (change g c.rows))
  marks_changed g b n le = rw (in_change g c.rows) (all_map (λ v. v.stamp.begin ≤ c.counter) (λ v. v.stamp.begin ≤ n) g (λ v h. omega (arith, b v)) (in_rows c.rows) fit.marks)

  distinct_changed : (g : Version → Version) → ((v : Version) → (g v).stamp.begin ≡ v.stamp.begin) → Distinct (in_rows (change g c.rows))
  distinct_changed g b = rw (in_change g c.rows) (pairs_map (λ u v. u.stamp.begin ≢ v.stamp.begin) g (λ u v r e. r (sym (b u) ∙ e ∙ b v)) (in_rows c.rows) fit.distinct)

  changed : (a : Answer) (m : Medium) (n : ℕ) (g : Version → Version) → ((v : Version) → (g v).stamp.begin ≡ v.stamp.begin) → c.counter ≤ n →
      Follows (record { answer = a; cache = record { medium = m; rows = change g c.rows; counter = n; counts = c.counts } })
      (record { answer = a; cache = record { medium = m; table = map g (in_order (in_rows c.rows)); counter = n; counts = c.counts } })
  changed a m n g b le = record {
    answers = refl;
    caches = ap (λ (t : List Version). record { medium = m; table = t; counter = n; counts = c.counts }) (changed_to g b);
    fits = record { full = length-map c.rows (option_map g) ∙ fit.full; marks = marks_changed g b n le; distinct = distinct_changed g b };
  }

  -- after a change, some leave the table
  left : (a : Answer) (m : Medium) (k k' : Counts) (g : Version → Version) → ((v : Version) → (g v).stamp.begin ≡ v.stamp.begin) → k ≡ k' →
      Follows (record { answer = a; cache = record { medium = m; rows = leave (change g c.rows); counter = c.counter; counts = k } })
      (record { answer = a; cache = record { medium = m; table = held (map g (in_order (in_rows c.rows))); counter = c.counter; counts = k' } })
  left a m k k' g b same = record {
    answers = refl;
    caches = ap₂ (λ (t : List Version) (n : Counts). record { medium = m; table = t; counter = c.counter; counts = n })
        (ap in_order (in_leave (change g c.rows)) ∙ in_order_kept (λ v. live v.state) (in_rows (change g c.rows)) ∙ ap held (changed_to g b)) same;
    fits = record {
      full = length-map (change g c.rows) (keeping (λ v. live v.state)) ∙ length-map c.rows (option_map g) ∙ fit.full;
      marks = rw (in_leave (change g c.rows)) (all_kept_by (λ v. live v.state) (λ v. v.stamp.begin ≤ c.counter) (in_rows (change g c.rows)) (marks_changed g b c.counter (omega arith)));
      distinct = rw (in_leave (change g c.rows)) (pairs_kept (λ u v. u.stamp.begin ≢ v.stamp.begin) (λ v. live v.state) (in_rows (change g c.rows)) (distinct_changed g b));
    };
  }

  abbrev T : List Version
  T = in_order (in_rows c.rows)

  abbrev H : List Version
  H = in_rows c.rows

  some_same : (p : Version → Bool) → some_pass p H ≡ some_pass p T
  some_same p = sym (in_order_some p H)

  refusal_same : (place : ℕ) (bytes : Block) → begin_refusal (length c.medium.firm) place bytes H c.counter ≡ sorted_refusal place bytes (model_of c)
  refusal_same place bytes =
      let e3 = some_same (λ v. is_open v.state && eqb v.stamp.place place) in
      let e4 = sym (in_order_length H) in
      let e5 = count_same c reserves in
      cc

  chosen_same : (precedes : Precedence) → lowest (ready precedes H) H ≡ chosen precedes T
  chosen_same precedes =
      sym (in_order_first (ready precedes H) H)
      ∙ ap (λ (p : Version → Bool). find p T) (fun_ext (λ v. ap (λ b. is_waiting v.state && not b) (some_same (λ u. precedes u.stamp v.stamp))))

  begin_follows : (place : ℕ) (bytes : Block) → Follows (begin_call place bytes c) (sorted_begin place bytes (model_of c))
  begin_follows place bytes = follow_unless _ _ _ _ _ _ (refusal_same place bytes)
      (λ e. record {
        answers = refl;
        caches = ap (λ (t : List Version). record { medium = c.medium; table = t; counter = c.counter + 1; counts = one_begun c.counts })
            (in_order_put x c.rows (vacant e) (All-weaker (λ v. v.stamp.begin ≤ c.counter) (λ v. v.stamp.begin < c.counter + 1) (λ v h. omega arith) H fit.marks));
        fits = record {
          full = length_put x c.rows ∙ fit.full;
          marks = all_put (λ v. v.stamp.begin ≤ c.counter + 1) x c.rows (omega arith) (All-weaker (λ v. v.stamp.begin ≤ c.counter) _ (λ v h. omega arith) H fit.marks);
          distinct = pairs_put (λ u v. u.stamp.begin ≢ v.stamp.begin) x c.rows above (λ u v h e. h (sym e)) fit.distinct;
        };
      })
      (λ e. same (refused e))
    where
      x : Version
      x = begun place bytes (c.counter + 1)

      above : AllByRecursion (λ u. x.stamp.begin ≢ u.stamp.begin) H
      above = All-weaker (λ v. v.stamp.begin ≤ c.counter) (λ u. c.counter + 1 ≢ u.stamp.begin) (λ v h e. absurd (omega arith)) H fit.marks

      vacant : begin_refusal (length c.medium.firm) place bytes H c.counter ≡ None → some_vacant c.rows ≡ true
      vacant e = sym (room_is c.rows fit.full) ∙ (accepted (length c.medium.firm) place bytes H c.counter e).has_room

  finish_follows : (t : ℕ) → Follows (finish_call t c) (sorted_finish t (model_of c))
  finish_follows t = follow_cond _ _ _ _ _ _ (some_same (has_ticket t)) (λ _. changed _ _ (c.counter + 1) (finish_one t (c.counter + 1)) (λ v. refl) (omega arith)) (λ _. same (refused error.NoTicket))

  withdraw_follows : (t : ℕ) → Follows (withdraw_call t c) (sorted_withdraw t (model_of c))
  withdraw_follows t = follow_cond _ _ _ _ _ _ (some_same (has_ticket t)) (λ _. left _ _ _ _ (withdraw_one t) (λ v. refl) refl) (λ _. same (refused error.NoTicket))

  -- a call of the disk that passes its checks meets the plan's next entry
  passes : (place n : ℕ) → n ≡ 512 → place < length c.medium.firm → fate c.medium place n ≡ by_entry (due c.medium.plan)
  passes place n e lt =
      let a : eqb n 512 ≡ true = grind (arith, nat_tests) in
      let b = lt-ltb place (length c.medium.firm) lt in
      rw (a, b)

  read_follows : (device : Device) (place size : ℕ) → Follows (read_call device place size c) (sorted_read device place size (model_of c))
  read_follows device place size = follow_cond (not (eqb size 512)) _ _ _ _ _ refl (λ _. same (refused error.Length))
      (λ whole. follow_cond (not (ltb place (length c.medium.firm))) _ _ _ _ _ refl (λ _. same (refused error.Place))
      (λ within. subst (λ (o : Option Version). Follows (read_through device place size c (newest_at place c.rows)) (sorted_through device place (model_of c) o)) (sym (in_order_last wanted H))
      (go (passes place size (eqb-true size 512 (not-false (eqb size 512) whole)) (ltb-true place (length c.medium.firm) (not-false (ltb place (length c.medium.firm)) within)))
      (newest_at place c.rows) (highest wanted H) (finds_highest wanted c.rows))))
    where
      wanted : Version → Bool
      wanted v = finished_in place v

      read_by : (e : Entry) → Follows (read_disk device place c (by_entry e)) (cond (is_bad e) (fault (failed_call during.Read kind.Read place device.tries) (model_of c)) (record { answer = shown (get_or (current c.medium) place []); cache = record { medium = passed c.medium; table = T; counter = c.counter; counts = c.counts } }))
      read_by good = passed_by _ _
      read_by bad = passed_by _ _

      go : fate c.medium place size ≡ by_entry (due c.medium.plan) → (o : Option Candidate) (x : Option Version) → Finds wanted c.rows o x → Follows (read_through device place size c o) (sorted_through device place (model_of c) x)
      go met None None f = subst (λ (m : Fate). Follows (read_disk device place c m) (sorted_through device place (model_of c) None)) (sym met) (read_by (due c.medium.plan))
      go met None (Some v) f = absurd f
      go met (Some n) None f = absurd f
      go met (Some n) (Some v) f = subst (λ (r : Row). Follows (record { answer = shown (bytes_of r); cache = c }) (record { answer = shown v.bytes; cache = model_of c })) (sym f.1) (same (shown v.bytes))

  step_follows : (precedes : Precedence) (device : Device) → Follows (step_call precedes device c) (sorted_step precedes device (model_of c))
  step_follows precedes device = follow_cond _ _ _ _ _ _ (some_same (λ v. is_waiting v.state || is_sent v.state))
      (λ _. subst (λ (o : Option Version). Follows (step_with device c (lowest_ready precedes c.rows)) (sorted_with device (model_of c) o)) (chosen_same precedes)
      (go (lowest_ready precedes c.rows) (lowest (ready precedes H) H) (finds_lowest (ready precedes H) c.rows)))
      (λ _. same (took 0))
    where
      flush_by : (e : Entry) → Follows (flush_call device c (by_entry e)) (cond (is_bad e) (fault (failed_call during.Step kind.Flush 0 device.tries) (model_of c)) (record { answer = took 2; cache = record { medium = flushed c.medium; table = held (map bring_home T); counter = c.counter; counts = more_home (count is_sent T) c.counts } }))
      flush_by good = left _ _ _ _ bring_home (λ v. refl) (ap (λ k. more_home k c.counts) (count_same c is_sent))
      flush_by bad = passed_by _ _

      send_by : (i : ℕ) (v : Version) → get_or c.rows i None ≡ Some v → is_waiting v.state ≡ true → (e : Entry) → Follows (send_meeting device i (Some v) c (by_entry e)) (cond (is_bad e) (fault (failed_call during.Step kind.Write v.stamp.place device.tries) (model_of c)) (record { answer = took 1; cache = record { medium = written device c.medium (write_of v); table = map (send_one v.stamp.begin) T; counter = c.counter; counts = c.counts } }))
      send_by i v at w good = rw (marks_one c.rows i v at w fit.distinct) (changed _ _ c.counter (send_one v.stamp.begin) (λ u. refl) (omega arith))
      send_by i v at w bad = passed_by _ _

      go : (o : Option Candidate) (x : Option Version) → Finds (ready precedes H) c.rows o x → Follows (step_with device c o) (sorted_with device (model_of c) x)
      go None None f = follow_cond _ _ _ _ _ _ (some_same (λ v. is_sent v.state)) (λ _. flush_by (due c.medium.plan)) (λ _. same (took 3))
      go None (Some v) f = absurd f
      go (Some n) None f = absurd f
      go (Some n) (Some v) (within, at, begins, is_ready) =
          let fits = all_at (Fitting (length c.medium.firm)) c.rows n.row v at (all_from_order (Fitting (length c.medium.firm)) H bounded.fitting) in
          subst (λ (r : Row). Follows (send_call device n.row r c) (sorted_send device v (model_of c))) (sym at)
          (subst (λ (met : Fate). Follows (send_meeting device n.row (Some v) c met) (sorted_send device v (model_of c))) (sym (passes v.stamp.place (length v.bytes) fits.1 fits.0))
          (send_by n.row v at (and_first (is_waiting v.state) _ is_ready) (due c.medium.plan)))

  pub call_follows : (precedes : Precedence) (device : Device) (call : Call) → Follows (outcome precedes device call c) (sorted_outcome precedes device call (model_of c))
  call_follows precedes device (Begin place bytes) = begin_follows place bytes
  call_follows precedes device (Finish t) = finish_follows t
  call_follows precedes device (Withdraw t) = withdraw_follows t
  call_follows precedes device (Read place size) = read_follows device place size
  call_follows precedes device Step = step_follows precedes device
  call_follows precedes device Count = record {
    answers = ap counted (tally_same c);
    caches = refl;
    fits = fit;
  }
  call_follows precedes device (Restart choice) = changed _ _ c.counter wait_again (λ v. refl) (omega arith)
