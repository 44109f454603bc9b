-- Every call keeps the invariant.
use Rattle.std.proofs.Common.{◌≡◌, ℕ, ◌+◌, ◌≤◌, Bool, true, false, cond, not, ◌&&◌, eqb, ltb, ◌⊎◌, List, [], ◌∷◌, ◌++◌, map, length, sym, refl, ap, ◌∙◌, subst, inl, inr, ⊎_elim, arith, Option, None, Some}
use Rattle.errors.specs.declared.CacheError.TheVariants as error
use Rattle.std.proofs.lemmas.Bool.{eqb-true, both_ways, and_parts, not-true, cond_both}
use Rattle.std.proofs.lemmas.Bool.Decides.{nat_tests}
use Rattle.std.proofs.ByRecursion.{All-weaker, All-push}
use Rattle.disk.specs.Medium.{Block, lay, standing, Medium, current, cut, flushed}
use Rattle.table.specs.declared.held.State.{State}
use Rattle.table.specs.declared.held.State.TheVariants.{Open, Waiting, Sent, Home, Withdrawn}
use Rattle.table.specs.declared.held.Version.{Version}
use Rattle.ordered_law.proofs.Lists.{In, all_in, all_of, all_both, all_map, pairs_push, in_push, in_kept, kept_push, held_map, held_again, held_push, none_pass, first_in, chosen_by, map_standing, all_standing}
use Rattle.ordered_law.proofs.Invariant.{Sound, Before, Released, Stored, Keeps, plus, valid, unique}
use Rattle.ordered_law.proofs.Firming.{shows}
use Rattle.ordered_law.proofs.Storage.{stored_firm, Wrote, stored_write}
use Rattle.ordered_law.proofs.Changes.{Change, book_change, stored_change, sent_change, withdraw_change, send_change, home_change, wait_change, finish_change, sound_later, sound_finish, sound_withdraw, sound_send, sound_home, sound_wait}
use Rattle.ordered_law.specs.Device.{Device}
use Rattle.ordered_law.proofs.Sorted.{next_bad, written, Sorted, SortedOutcome, sorted_opened, fault, sorted_refusal, sorted_begin, sorted_finish, sorted_withdraw, newest, sorted_through, sorted_read, sorted_with, sorted_step, sorted_restart, sorted_outcome, Asked, after, events}
use Rattle.precedence.specs.Stamps.{Precedence, Lawful}
use Rattle.ordered_law.specs.Promise.{write_of, Shows}
use Rattle.ordered_law.proofs.Refusals.{unless_both, accepted}
use Rattle.std.specs.List.{AllByRecursion}
use Rattle.ordered_law.specs.Events.{Call, Begin, Finish, Withdraw, Read, Step, Restart, Count}
use Rattle.ordered_law.specs.Cache.{any_sent, any_busy}
use Rattle.table.specs.Versions.{live, is_open, is_waiting, is_sent, finished, some_pass, has_ticket, begun, finish_one, withdraw_one, send_one, bring_home, wait_again, free, ready, held}
use Rattle.ordered_law.specs.Ledger.{chosen, note, send_chosen, replay}

closed_by : (u : Version) (place : ℕ) → (live u.state ≡ true → (is_open u.state && eqb u.stamp.place place) ≡ false) → u.stamp.place ≡ place → is_open u.state ≡ false
closed_by u place h q = grind (arith, nat_tests)

module _ (precedes : Precedence) (lawful : Lawful precedes) (opening : List Block) where
  abbrev Kept : List Version → Sorted → Type 0
  Kept l c = Keeps precedes opening l c

  -- the call's outcome keeps the invariant with the ledger that its answer gives
  abbrev Good : List Version → Call → SortedOutcome → Type 0
  Good l call o = Kept (note precedes l call o.answer) o.cache

  -- the medium moves while the ledger stands still: every sent version stays firm or loose
  abbrev keep_medium : (l : List Version) (c : Sorted) (i : Kept l c) (m : Medium) (st : Stored precedes opening c.counter l m.firm m.loose) →
      ((b : ℕ) → plus i.store.kept i.store.due b ≡ true → plus st.kept st.due b ≡ true) → Kept l (record { medium = m; table = c.table; counter = c.counter; counts = c.counts })
  keep_medium l c i m st grows = record { table_is = i.table_is; book = i.book; store = st; sent_in = All-weaker _ _ (λ v h e. grows v.stamp.begin (h e)) l i.sent_in }

  -- a call that only takes an entry off the plan
  keep_fault : (l : List Version) (c : Sorted) → Kept l c → Kept l (fault error.Length c).cache
  keep_fault l c i = record { table_is = i.table_is; book = i.book; store = i.store; sent_in = i.sent_in }

  -- ---- begin

  released_push : (n : ℕ) (l : List Version) (place : ℕ) (bytes : Block) (v : Version) → Sound n v → Released precedes l v → Released precedes (l ++ begun place bytes (n + 1) ∷ []) v
  released_push n l place bytes v s r = record {
    done = r.done;
    unpreceded = All-push _ l (begun place bytes (n + 1)) r.unpreceded (λ _. go (precedes (begun place bytes (n + 1)).stamp v.stamp) refl);
  }
    where
      go : (k : Bool) → precedes (begun place bytes (n + 1)).stamp v.stamp ≡ k → precedes (begun place bytes (n + 1)).stamp v.stamp ≡ false
      go false e = e
      go true e = absurd (let h = lawful.only_earlier (begun place bytes (n + 1)).stamp v.stamp (inl refl) (valid n v s) e in let k = s.begun_by in omega arith)

  keep_begun : (l : List Version) (c : Sorted) (place : ℕ) (bytes : Block) → Kept l c →
      some_pass (λ v. is_open v.state && eqb v.stamp.place place) (held l) ≡ false →
      Kept (l ++ begun place bytes (c.counter + 1) ∷ []) (record { medium = c.medium; table = c.table ++ begun place bytes (c.counter + 1) ∷ []; counter = c.counter + 1; counts = c.counts })
  keep_begun l c place bytes i e = record {
    table_is = ap (λ (t : List Version). t ++ x ∷ []) i.table_is ∙ sym (held_push x refl l);
    book = record {
      sound = All-push (Sound (n + 1)) l x (All-weaker (Sound n) (Sound (n + 1)) (λ v s. sound_later n (n + 1) v (omega arith) s) l i.book.sound)
          (record { begun_by = omega arith; ended_by = omega arith; unmarked = λ _. refl; marked = λ h. absurd (both_ways false refl h) });
      order = pairs_push Before x l i.book.order
          (all_both (Sound n) _ (λ u. Before u x)
          (λ u s h. record { earlier = let k = s.begun_by in omega arith; closed = closed_by u place h; ended = λ q f. let k = s.ended_by in omega arith })
          l i.book.sound (none_pass (λ v. live v.state) (λ v. is_open v.state && eqb v.stamp.place place) l e));
      sent_free = All-push _ l x (all_both (Sound n) _ _ (λ v s r h. released_push n l place bytes v s (r h)) l i.book.sound i.book.sent_free) (λ h. absurd (both_ways false refl h));
    };
    store = record {
      kept = i.store.kept;
      due = i.store.due;
      firm_ok = record {
        below = λ b h. let k = i.store.firm_ok.below b h in omega arith;
        firm_is = i.store.firm_ok.firm_is ∙ ap (lay opening) (sym (kept_push i.store.kept x (new (i.store.kept (n + 1)) refl) l));
        kept_free = All-push _ l x (all_both (Sound n) _ _ (λ v s r h. released_push n l place bytes v s (r h)) l i.book.sound i.store.firm_ok.kept_free)
            (λ h. absurd (let k = i.store.firm_ok.below (n + 1) h in omega arith));
        home_in = All-push _ l x i.store.firm_ok.home_in (λ h. absurd cc);
      };
      loose_is = i.store.loose_is;
      due_ok = All-weaker _ _ (λ d h. (in_push d x l h.0, h.1, released_push n l place bytes d (all_in (Sound n) d l h.0 i.book.sound) h.2)) i.store.due i.store.due_ok;
    };
    sent_in = All-push _ l x i.sent_in (λ h. absurd (both_ways false refl h));
  }
    where
      n : ℕ
      n = c.counter

      x : Version
      x = begun place bytes (n + 1)

      new : (k : Bool) → i.store.kept (n + 1) ≡ k → i.store.kept (n + 1) ≡ false
      new false q = q
      new true q = absurd (let k = i.store.firm_ok.below (n + 1) q in omega arith)

  keep_begin : (l : List Version) (c : Sorted) (place : ℕ) (bytes : Block) → Kept l c → Good l (Begin place bytes) (sorted_begin place bytes c)
  keep_begin l c place bytes i = unless_both (sorted_refusal place bytes c) _ _ (Good l (Begin place bytes))
      (λ e. keep_begun l c place bytes i
      (ap (some_pass (λ v. is_open v.state && eqb v.stamp.place place)) (sym i.table_is) ∙ (accepted (length c.medium.firm) place bytes c.table c.counter e).none_open))
      (λ e. i)

  -- ---- changes of the ledger that bring nothing home and send nothing

  keep_change : (l : List Version) (c : Sorted) (i : Kept l c) (g : Version → Version) → Change precedes c.counter g → (n' : ℕ) → c.counter ≤ n' → ((v : Version) → Sound c.counter v → Sound n' (g v)) →
      ((v : Version) → is_sent (g v).state ≡ true → is_sent v.state ≡ true) → ((v : Version) → (g v).state ≡ Home → v.state ≡ Home) →
      ((v : Version) → live v.state ≡ true → finished v.state ≡ true → live (g v).state ≡ true) →
      (table : List Version) → table ≡ held (map g l) → Kept (map g l) (record { medium = c.medium; table = table; counter = n'; counts = c.counts })
  keep_change l c i g ch n' le snd back home on table e = record {
    table_is = e;
    book = book_change precedes n g ch l i.book.sound n' snd i.book.order (All-weaker _ _ (λ v h q. h (back v q)) l i.book.sent_free);
    store = stored_change precedes n g ch l i.book.sound opening n' c.medium.firm c.medium.loose le i.store
        (All-weaker _ _ (λ v h q. h (home v q)) l i.store.firm_ok.home_in) (All-weaker _ _ (λ d h. on d h.1 h.2.done) i.store.due i.store.due_ok);
    sent_in = sent_change precedes n g ch l i.book.sound i.store.kept i.store.due (All-weaker _ _ (λ v h q. h (back v q)) l i.sent_in);
  }
    where
      n : ℕ
      n = c.counter

  keep_finish : (l : List Version) (c : Sorted) (t : ℕ) → Kept l c → Good l (Finish t) (sorted_finish t c)
  keep_finish l c t i = cond_both (some_pass (has_ticket t) c.table) _ _ (Good l (Finish t))
      (λ _. keep_change l c i (finish_one t (c.counter + 1)) (finish_change precedes lawful c.counter t) (c.counter + 1) (omega arith) (sound_finish c.counter t)
      (λ v h. grind arith) (λ v h. grind arith) (λ v h k. grind arith) _ (ap (map (finish_one t (c.counter + 1))) i.table_is ∙ sym (held_map (finish_one t (c.counter + 1)) (λ v. grind arith) l)))
      (λ _. i)

  keep_withdraw : (l : List Version) (c : Sorted) (t : ℕ) → Kept l c → Good l (Withdraw t) (sorted_withdraw t c)
  keep_withdraw l c t i = cond_both (some_pass (has_ticket t) c.table) _ _ (Good l (Withdraw t))
      (λ _. keep_change l c i (withdraw_one t) (withdraw_change precedes c.counter t) c.counter (omega arith) (sound_withdraw c.counter t)
      (λ v h. grind arith) (λ v h. grind arith) (λ v h k. grind arith) _
      (ap (λ (x : List Version). held (map (withdraw_one t) x)) i.table_is ∙ held_again (withdraw_one t) (λ v h. grind arith) l))
      (λ _. i)

  -- ---- read

  keep_read : (device : Device) (l : List Version) (c : Sorted) (place size : ℕ) → Kept l c → Good l (Read place size) (sorted_read device place size c)
  keep_read device l c place size i =
      cond_both (not (eqb size 512)) _ _ (Good l (Read place size)) (λ _. i)
      (λ _. cond_both (not (ltb place (length c.medium.firm))) _ _ (Good l (Read place size)) (λ _. i) (λ _. go (newest place c.table)))
    where
      go : (o : Option Version) → Good l (Read place size) (sorted_through device place c o)
      go (Some v) = i
      go None = cond_both (next_bad c.medium.plan) _ _ (Good l (Read place size)) (λ _. keep_fault l c i) (λ _. keep_fault l c i)

  -- ---- step

  -- the chosen write waits, and is released
  pub chosen_is : (l : List Version) (v : Version) → chosen precedes (held l) ≡ Some v → In v l × (is_waiting v.state ≡ true) × Released precedes l v
  chosen_is l v e =
      let found = first_in (ready precedes (held l)) v (held l) e in
      let parts = and_parts (is_waiting v.state) (free precedes (held l) v) found.1 in (
        in_kept (λ u. live u.state) v l found.0,
        parts.0,
        record {
          done = let h = parts.0 in grind arith;
          unpreceded = none_pass (λ u. live u.state) (λ u. precedes u.stamp v.stamp) l (not-true _ parts.1);
        },
      )

  wrote : (device : Device) (l : List Version) (c : Sorted) (v : Version) (i : Kept l c) → chosen precedes (held l) ≡ Some v →
      Wrote precedes lawful opening c.counter l i.book c.medium i.store v (written device c.medium (write_of v))
  wrote device l c v i e =
      let p = chosen_is l v e in
      let a : live v.state ≡ true = (let h = p.1 in grind arith) in
      stored_write precedes lawful opening c.counter l i.book device c.medium i.store v p.0 a p.2

  -- the ledger marks v sent, whose write has taken effect
  keep_marked : (l : List Version) (c : Sorted) (v : Version) (i : Kept l c) → chosen precedes (held l) ≡ Some v → plus i.store.kept i.store.due v.stamp.begin ≡ true →
      Kept (map (send_one v.stamp.begin) l) (record { medium = c.medium; table = map (send_one v.stamp.begin) c.table; counter = c.counter; counts = c.counts })
  keep_marked l c v i e firm = record {
    table_is = ap (map g) i.table_is ∙ sym (held_map g (λ u. grind arith) l);
    book = book_change precedes n g ch l i.book.sound n (sound_send n v.stamp.begin) i.book.order
        (all_of _ l (λ u j h. ⊎_elim (λ (s : is_sent u.state ≡ true). all_in (λ w. is_sent w.state ≡ true → Released precedes l w) u l j i.book.sent_free s)
        (λ (q : u.stamp.begin ≡ v.stamp.begin). subst (Released precedes l) (sym (unique u v l i.book.order j (chosen_is l v e).0 q)) (chosen_is l v e).2) (cases u h)));
    store = stored_change precedes n g ch l i.book.sound opening n c.medium.firm c.medium.loose (omega arith) i.store
        (All-weaker _ _ (λ u h q. h (grind arith)) l i.store.firm_ok.home_in) (All-weaker _ _ (λ d h. on d h.1) i.store.due i.store.due_ok);
    sent_in = sent_change precedes n g ch l i.book.sound i.store.kept i.store.due
        (All-weaker _ _ (λ u h q. ⊎_elim (λ (s : is_sent u.state ≡ true). h s)
        (λ (s : u.stamp.begin ≡ v.stamp.begin). ap (plus i.store.kept i.store.due) s ∙ firm) (cases u q)) l i.sent_in);
  }
    where
      n : ℕ
      n = c.counter

      g : Version → Version
      g = send_one v.stamp.begin

      ch : Change precedes n g
      ch = send_change precedes n v.stamp.begin

      on : (d : Version) → live d.state ≡ true → live (g d).state ≡ true
      on d h = grind arith

      cases : (u : Version) → is_sent (g u).state ≡ true → (is_sent u.state ≡ true) ⊎ (u.stamp.begin ≡ v.stamp.begin)
      cases u h = go (is_waiting u.state && eqb u.stamp.begin v.stamp.begin) refl h
        where
          go : (k : Bool) → (is_waiting u.state && eqb u.stamp.begin v.stamp.begin) ≡ k → is_sent (cond k Sent u.state) ≡ true → (is_sent u.state ≡ true) ⊎ (u.stamp.begin ≡ v.stamp.begin)
          go true q h = inr (eqb-true u.stamp.begin v.stamp.begin (and_parts _ _ q).1)
          go false q h = inl h

  abbrev flushed_store : (l : List Version) (c : Sorted) (i : Kept l c) → Stored precedes opening c.counter l (flushed c.medium).firm []
  flushed_store l c i = stored_firm precedes lawful opening c.counter l i.book c.medium.firm c.medium.loose i.store i.store.due i.store.due_ok _ (ap (lay c.medium.firm) i.store.loose_is)

  -- a flush makes every sent version firm, the ledger standing still
  abbrev keep_flushed : (l : List Version) (c : Sorted) (i : Kept l c) → Kept l (record { medium = flushed c.medium; table = c.table; counter = c.counter; counts = c.counts })
  keep_flushed l c i = keep_medium l c i (flushed c.medium) (flushed_store l c i) (λ b h. h)

  -- Sent versions that are firm, and loose no more, are home and leave the table, at any later time.
  keep_homed : (l : List Version) (c : Sorted) (i : Kept l c) → AllByRecursion (λ v. is_sent v.state ≡ true → i.store.kept v.stamp.begin ≡ true) l → AllByRecursion (λ d. live (bring_home d).state ≡ true) i.store.due →
      Kept (map bring_home l) (record { medium = c.medium; table = held (map bring_home c.table); counter = c.counter; counts = c.counts })
  keep_homed l c i firm stay = record {
    table_is = ap (λ (x : List Version). held (map bring_home x)) i.table_is ∙ held_again bring_home (λ v h. grind arith) l;
    book = book_change precedes n bring_home (home_change precedes n) l i.book.sound n (sound_home n) i.book.order (all_of _ l (λ v j h. absurd (not_sent v h)));
    store = stored_change precedes n bring_home (home_change precedes n) l i.book.sound opening n c.medium.firm c.medium.loose (omega arith) i.store
        (all_both _ _ _ (λ v s h e. ⊎_elim s h (cases v.state e)) l firm i.store.firm_ok.home_in) stay;
    sent_in = all_map (λ _. Unit {0}) _ bring_home (λ v _ h. absurd (not_sent v h)) l (all_of _ l (λ _ _. tt));
  }
    where
      n : ℕ
      n = c.counter

      not_sent : (v : Version) → is_sent (bring_home v).state ≡ true → ⊥
      not_sent v h = grind arith

      cases : (s : State) → cond (is_sent s) Home s ≡ Home → (is_sent s ≡ true) ⊎ (s ≡ Home)
      cases Open e = inr e
      cases Waiting e = inr e
      cases Sent e = inl refl
      cases Home e = inr e
      cases Withdrawn e = inr e

  keep_flush : (l : List Version) (c : Sorted) → Kept l c →
      Kept (map bring_home l) (record { medium = flushed c.medium; table = held (map bring_home c.table); counter = c.counter; counts = c.counts })
  keep_flush l c i = keep_homed l (record { medium = flushed c.medium; table = c.table; counter = c.counter; counts = c.counts }) (keep_flushed l c i) i.sent_in tt

  keep_step : (device : Device) (l : List Version) (c : Sorted) → Kept l c → Good l Step (sorted_step precedes device c)
  keep_step device l c i = cond_both (any_busy c.table) _ _ (Good l Step) (λ _. go (chosen precedes c.table) refl) (λ _. i)
    where
      go : (o : Option Version) → chosen precedes c.table ≡ o → Good l Step (sorted_with device c o)
      go (Some v) e =
          let q : chosen precedes (held l) ≡ Some v = ap (chosen precedes) (sym i.table_is) ∙ e in
          let w = wrote device l c v i q in
          let m : Medium = written device c.medium (write_of v) in
          let after_write : Kept l (record { medium = m; table = c.table; counter = c.counter; counts = c.counts }) = keep_medium l c i m w.then w.grows in
          cond_both (next_bad c.medium.plan) _ _ (Good l Step) (λ _. keep_fault l c i)
          (λ _. subst (λ (o : Option Version). Kept (send_chosen l o) (record { medium = m; table = map (send_one v.stamp.begin) c.table; counter = c.counter; counts = c.counts }))
          (sym q) (keep_marked l (record { medium = m; table = c.table; counter = c.counter; counts = c.counts }) v after_write q w.has))
      go None e = cond_both (any_sent c.table) _ _ (Good l Step)
          (λ _. cond_both (next_bad c.medium.plan) _ _ (Good l Step) (λ _. keep_fault l c i) (λ _. keep_flush l c i))
          (λ _. i)

  -- ---- restart

  abbrev cut_store : (l : List Version) (c : Sorted) (i : Kept l c) (choice : ℕ) → Stored precedes opening c.counter l (lay c.medium.firm (standing choice c.medium.loose)) []
  cut_store l c i choice = stored_firm precedes lawful opening c.counter l i.book c.medium.firm c.medium.loose i.store (chosen_by choice i.store.due) (all_standing _ choice i.store.due i.store.due_ok) _
      (ap (λ x. lay c.medium.firm (standing choice x)) i.store.loose_is ∙ ap (lay c.medium.firm) (map_standing choice i.store.due))

  keep_restart : (l : List Version) (c : Sorted) (choice : ℕ) → Kept l c → Good l (Restart choice) (sorted_restart choice c)
  keep_restart l c choice i = record {
    table_is = ap (map wait_again) i.table_is ∙ sym (held_map wait_again (λ v. grind arith) l);
    book = book_change precedes n wait_again (wait_change precedes n) l i.book.sound n (sound_wait n) i.book.order (all_of _ l (λ v j h. absurd (not_sent v h)));
    store = stored_change precedes n wait_again (wait_change precedes n) l i.book.sound opening n _ _ (omega arith) (cut_store l c i choice)
        (All-weaker _ _ (λ v h e. h (grind arith)) l (cut_store l c i choice).firm_ok.home_in) tt;
    sent_in = all_map (λ _. Unit {0}) _ wait_again (λ v _ h. absurd (not_sent v h)) l (all_of _ l (λ _ _. tt));
  }
    where
      n : ℕ
      n = c.counter

      not_sent : (v : Version) → is_sent (wait_again v).state ≡ true → ⊥
      not_sent v h = grind arith

  pub keep_call : (device : Device) (call : Call) (l : List Version) (c : Sorted) → Kept l c → Good l call (sorted_outcome precedes device call c)
  keep_call device (Begin place bytes) l c i = keep_begin l c place bytes i
  keep_call device (Finish t) l c i = keep_finish l c t i
  keep_call device (Withdraw t) l c i = keep_withdraw l c t i
  keep_call device (Read place size) l c i = keep_read device l c place size i
  keep_call device Step l c i = keep_step device l c i
  keep_call device Count l c i = i
  keep_call device (Restart choice) l c i = keep_restart l c choice i

  pub keep_calls : (asked : List Asked) (l : List Version) (c : Sorted) → Kept l c →
      Kept (replay precedes l (events precedes c asked)) (after precedes c asked)
  keep_calls [] l c i = i
  keep_calls (a ∷ asked) l c i = keep_calls asked _ _ (keep_call a.device a.call l c i)

  -- ---- storage after a further call, by the ledger before it

  abbrev Left : List Version → Sorted → SortedOutcome → Type 0
  Left l c o = Stored precedes opening c.counter l o.cache.medium.firm o.cache.medium.loose

  step_within : (device : Device) (l : List Version) (c : Sorted) (i : Kept l c) → Left l c (sorted_step precedes device c)
  step_within device l c i = cond_both (any_busy c.table) _ _ (Left l c) (λ _. go (chosen precedes c.table) refl) (λ _. i.store)
    where
      go : (o : Option Version) → chosen precedes c.table ≡ o → Left l c (sorted_with device c o)
      go (Some v) e = let w = wrote device l c v i (ap (chosen precedes) (sym i.table_is) ∙ e) in cond_both (next_bad c.medium.plan) _ _ (Left l c) (λ _. i.store) (λ _. w.then)
      go None e = cond_both (any_sent c.table) _ _ (Left l c)
          (λ _. cond_both (next_bad c.medium.plan) _ _ (Left l c) (λ _. i.store) (λ _. flushed_store l c i)) (λ _. i.store)

  call_within : (device : Device) (call : Call) (l : List Version) (c : Sorted) (i : Kept l c) → Left l c (sorted_outcome precedes device call c)
  call_within device (Begin place bytes) l c i = unless_both (sorted_refusal place bytes c) _ _ (Left l c) (λ _. i.store) (λ _. i.store)
  call_within device (Finish t) l c i = cond_both (some_pass (has_ticket t) c.table) _ _ (Left l c) (λ _. i.store) (λ _. i.store)
  call_within device (Withdraw t) l c i = cond_both (some_pass (has_ticket t) c.table) _ _ (Left l c) (λ _. i.store) (λ _. i.store)
  call_within device (Read place size) l c i = cond_both (not (eqb size 512)) _ _ (Left l c) (λ _. i.store)
      (λ _. cond_both (not (ltb place (length c.medium.firm))) _ _ (Left l c) (λ _. i.store) (λ _. go (newest place c.table)))
    where
      go : (o : Option Version) → Left l c (sorted_through device place c o)
      go (Some v) = i.store
      go None = cond_both (next_bad c.medium.plan) _ _ (Left l c) (λ _. i.store) (λ _. i.store)
  call_within device Step l c i = step_within device l c i
  call_within device Count l c i = i.store
  call_within device (Restart choice) l c i = cut_store l c i choice

pub at_start : (precedes : Precedence) (m : Medium) → Keeps precedes (current m) [] (sorted_opened m)
at_start precedes m = record {
  table_is = refl;
  book = record { sound = tt; order = tt; sent_free = tt };
  store = record {
    kept = λ _. false;
    due = [];
    loose_is = refl;
    due_ok = tt;
    firm_ok = record { below = λ b e. absurd (both_ways false refl e); firm_is = refl; kept_free = tt; home_in = tt };
  };
  sent_in = tt;
}

-- the ledger after these calls on a cache just opened over m
abbrev pub ledger_of : Precedence → Medium → List Asked → List Version
ledger_of precedes m asked = replay precedes [] (events precedes (sorted_opened m) asked)

pub cut_safe : (precedes : Precedence) → Lawful precedes → (m : Medium) (asked : List Asked) (choice : ℕ) →
    Shows precedes (current m) (ledger_of precedes m asked) (current (cut choice (after precedes (sorted_opened m) asked).medium))
cut_safe precedes lawful m asked choice =
    let i = keep_calls precedes lawful (current m) asked [] (sorted_opened m) (at_start precedes m) in
    shows precedes lawful (current m) _ (ledger_of precedes m asked) i.book _ _ i.store choice

pub cut_safe_within : (precedes : Precedence) → Lawful precedes → (m : Medium) (asked : List Asked) (last : Asked) (choice : ℕ) →
    Shows precedes (current m) (ledger_of precedes m asked)
    (current (cut choice (sorted_outcome precedes last.device last.call (after precedes (sorted_opened m) asked)).cache.medium))
cut_safe_within precedes lawful m asked last choice =
    let i = keep_calls precedes lawful (current m) asked [] (sorted_opened m) (at_start precedes m) in
    shows precedes lawful (current m) _ (ledger_of precedes m asked) i.book _ _ (call_within precedes lawful (current m) last.device last.call (ledger_of precedes m asked) (after precedes (sorted_opened m) asked) i) choice
