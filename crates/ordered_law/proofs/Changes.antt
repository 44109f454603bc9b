-- What the calls do to a ledger.
use Rattle.std.proofs.Common.{◌≡◌, ℕ, ◌+◌, ◌<◌, ◌≤◌, Bool, true, false, cond, ◌&&◌, eqb, List, [], ◌∷◌, map, sym, refl, ap, ◌∙◌, arith}
use Rattle.std.specs.List.{AllByRecursion}
use Rattle.std.proofs.lemmas.Bool.{and_parts}
use Rattle.disk.specs.Medium.{Block, Write, lay}
use Rattle.table.specs.declared.held.State.{State}
use Rattle.table.specs.declared.held.State.TheVariants.{Waiting, Sent, Home, Withdrawn}
use Rattle.table.specs.declared.held.Version.{Version}
use Rattle.ordered_law.proofs.Lists.{In, all_both, all_map, pairs_map, in_map, kept_map, all_in}
use Rattle.ordered_law.proofs.Invariant.{Sound, Before, Released, Book, Firm, Due, Stored, plus, plus_one, valid}
use Rattle.precedence.specs.Stamps.{Precedence, Lawful, finished_at}
use Rattle.ordered_law.specs.Promise.{write_of, Pairs}
use Rattle.table.specs.Versions.{in_state, live, is_open, is_waiting, is_sent, finished, has_ticket, finish_one, withdraw_one, send_one, bring_home, wait_again}

-- a change of each version that takes nothing back
pub record Change (precedes : Precedence) (n : ℕ) (g : Version → Version) : Type 0 where
  pub begins : (v : Version) → (g v).stamp.begin ≡ v.stamp.begin
  pub writes : (v : Version) → write_of (g v) ≡ write_of v
  pub finishes : (v : Version) → finished v.state ≡ true → finished (g v).state ≡ true
  pub lives : (v : Version) → live (g v).state ≡ true → live v.state ≡ true
  pub precedes_same : (u v : Version) → Sound n u → Sound n v → finished v.state ≡ true → precedes (g u).stamp (g v).stamp ≡ precedes u.stamp v.stamp
  pub orders : (u v : Version) → Before u v → Before (g u) (g v)

module _ (precedes : Precedence) (n : ℕ) (g : Version → Version) (ch : Change precedes n g) (l : List Version) (sound : AllByRecursion (Sound n) l) where
  pub released_change : (v : Version) → Sound n v → Released precedes l v → Released precedes (map g l) (g v)
  released_change v s r = record {
    done = ch.finishes v r.done;
    unpreceded = all_map (λ u. Sound n u × (live u.state ≡ true → precedes u.stamp v.stamp ≡ false)) _ g
        (λ u h a. ch.precedes_same u v h.0 s r.done ∙ h.1 (ch.lives u a)) l
        (all_both (Sound n) _ _ (λ u a b. (a, b)) l sound r.unpreceded);
  }

  -- what is released for some reason that lasts
  free_change : (P Q : Version → Type 0) → ((v : Version) → Q (g v) → P v) → AllByRecursion (λ v. P v → Released precedes l v) l → AllByRecursion (λ v. Q v → Released precedes (map g l) v) (map g l)
  free_change P Q back a = all_map (λ u. Sound n u × (P u → Released precedes l u)) _ g (λ v h q. released_change v h.0 (h.1 (back v q))) l
      (all_both (Sound n) _ _ (λ u s r. (s, r)) l sound a)

  pub book_change : (n' : ℕ) → ((v : Version) → Sound n v → Sound n' (g v)) → Pairs Before l →
      AllByRecursion (λ v. is_sent (g v).state ≡ true → Released precedes l v) l → Book precedes n' (map g l)
  book_change n' snd order free = record {
    sound = all_map (Sound n) (Sound n') g snd l sound;
    order = pairs_map Before g ch.orders l order;
    sent_free = free_change (λ v. is_sent (g v).state ≡ true) (λ v. is_sent v.state ≡ true) (λ v q. q) free;
  }

  pub firm_change : (opening : List Block) (n' : ℕ) (kept : ℕ → Bool) (firm : List Block) → n ≤ n' → Firm precedes opening n l kept firm →
      AllByRecursion (λ v. (g v).state ≡ Home → kept v.stamp.begin ≡ true) l → Firm precedes opening n' (map g l) kept firm
  firm_change opening n' kept firm le f home = record {
    below = λ b e. let h = f.below b e in omega arith;
    firm_is = f.firm_is ∙ ap (lay opening) (sym (kept_map g ch.begins ch.writes kept l));
    kept_free = free_change (λ v. kept v.stamp.begin ≡ true) (λ v. kept v.stamp.begin ≡ true) (λ v q. rw (ch.begins v) at q) f.kept_free;
    home_in = all_map _ _ g (λ v h e. rw (ch.begins v) (h e)) l home;
  }

  pub map_due : (kept : ℕ → Bool) (ds : List Version) (b : ℕ) → plus kept (map g ds) b ≡ plus kept ds b
  map_due kept [] b = refl
  map_due kept (d ∷ ds) b = rw (ch.begins d) (map_due (plus_one kept d.stamp.begin) ds b)

  pub map_writes : (ds : List Version) → map write_of ds ≡ map write_of (map g ds)
  map_writes [] = refl
  map_writes (d ∷ ds) = cc (ch.writes d, map_writes ds)

  pub due_change : (ds : List Version) → Due precedes l ds → AllByRecursion (λ d. live (g d).state ≡ true) ds → Due precedes (map g l) (map g ds)
  due_change ds a on = all_map (λ d. (In d l × (live d.state ≡ true) × Released precedes l d) × (live (g d).state ≡ true)) _ g
      (λ d h. (in_map g d l h.0.0, h.1, released_change d (all_in (Sound n) d l h.0.0 sound) h.0.2)) ds (all_both _ _ _ (λ d x y. (x, y)) ds a on)

  abbrev pub stored_change :
      (opening : List Block) (n' : ℕ) (firm : List Block) (loose : List Write) → n ≤ n' → (st : Stored precedes opening n l firm loose) →
      AllByRecursion (λ v. (g v).state ≡ Home → st.kept v.stamp.begin ≡ true) l → AllByRecursion (λ d. live (g d).state ≡ true) st.due → Stored precedes opening n' (map g l) firm loose
  stored_change opening n' firm loose le st home on = record {
    kept = st.kept;
    due = map g st.due;
    firm_ok = firm_change opening n' st.kept firm le st.firm_ok home;
    loose_is = st.loose_is ∙ map_writes st.due;
    due_ok = due_change st.due st.due_ok on;
  }

  pub sent_change :
      (kept : ℕ → Bool) (due : List Version) → AllByRecursion (λ v. is_sent (g v).state ≡ true → plus kept due v.stamp.begin ≡ true) l →
      AllByRecursion (λ v. is_sent v.state ≡ true → plus kept (map g due) v.stamp.begin ≡ true) (map g l)
  sent_change kept due a = all_map _ _ g (λ v h e. map_due kept due (g v).stamp.begin ∙ ap (plus kept due) (ch.begins v) ∙ h e) l a

-- ---- the five changes

-- a change of states alone
state_change : (precedes : Precedence) (n : ℕ) (f : Version → State) → ((v : Version) → finished v.state ≡ true → finished (f v) ≡ true) →
    ((v : Version) → live (f v) ≡ true → live v.state ≡ true) → ((v : Version) → is_open v.state ≡ false → is_open (f v) ≡ false) →
    ((v : Version) → is_open v.state ≡ false → finished (f v) ≡ true → finished v.state ≡ true) → Change precedes n (λ v. in_state (f v) v)
state_change precedes n f done lives shut back = record {
  begins = λ v. refl;
  writes = λ v. refl;
  finishes = done;
  lives = lives;
  precedes_same = λ u v a b h. refl;
  orders = λ u v b. record {
    earlier = b.earlier;
    closed = λ q. shut u (b.closed q);
    ended = λ q h. b.ended q (back u (b.closed q) h);
  };
}

pub withdraw_change : (precedes : Precedence) (n t : ℕ) → Change precedes n (withdraw_one t)
withdraw_change precedes n t = state_change precedes n (λ v. cond (has_ticket t v) Withdrawn v.state)
    (λ v h. grind arith) (λ v h. grind arith) (λ v h. grind arith) (λ v h k. grind arith)

pub send_change : (precedes : Precedence) (n t : ℕ) → Change precedes n (send_one t)
send_change precedes n t = state_change precedes n (λ v. cond (is_waiting v.state && eqb v.stamp.begin t) Sent v.state)
    (λ v h. grind arith) (λ v h. grind arith) (λ v h. grind arith) (λ v h k. grind arith)

pub home_change : (precedes : Precedence) (n : ℕ) → Change precedes n bring_home
home_change precedes n = state_change precedes n (λ v. cond (is_sent v.state) Home v.state)
    (λ v h. grind arith) (λ v h. grind arith) (λ v h. grind arith) (λ v h k. grind arith)

pub wait_change : (precedes : Precedence) (n : ℕ) → Change precedes n wait_again
wait_change precedes n = state_change precedes n (λ v. cond (is_sent v.state) Waiting v.state)
    (λ v h. grind arith) (λ v h. grind arith) (λ v h. grind arith) (λ v h k. grind arith)

open_unfinished : (s : State) → is_open s ≡ true → finished s ≡ false
open_unfinished s h = grind arith

pub no_ticket : (t : ℕ) (v : Version) → is_open v.state ≡ false → has_ticket t v ≡ false
no_ticket t v h = grind arith

pub finish_change : (precedes : Precedence) → Lawful precedes → (n t : ℕ) → Change precedes n (finish_one t (n + 1))
finish_change precedes lawful n t = record {
  begins = λ v. refl;
  writes = λ v. refl;
  finishes = λ v h. grind arith;
  lives = λ v h. grind arith;
  precedes_same = same;
  orders = λ u v b. record {
    earlier = b.earlier;
    closed = λ q. let e = no_ticket t u (b.closed q) in rw e (b.closed q);
    ended = λ q h. let e = no_ticket t u (b.closed q) in rw e (b.ended q (rw e at h));
  };
}
  where
    first : (u v : Version) → Sound n u → Sound n v → (k : Bool) → has_ticket t u ≡ k →
        precedes (finished_at (cond k (n + 1) u.stamp.finish) u.stamp) v.stamp ≡ precedes u.stamp v.stamp
    first u v su sv true e = lawful.first_finishes u.stamp v.stamp (n + 1) (valid n u su) (valid n v sv)
        (su.unmarked (open_unfinished u.state (and_parts (is_open u.state) (eqb u.stamp.begin t) e).0))
        (let h = su.begun_by in omega arith) (let h = sv.begun_by in omega arith)
    first u v su sv false e = refl

    same : (u v : Version) → Sound n u → Sound n v → finished v.state ≡ true → precedes (finish_one t (n + 1) u).stamp (finish_one t (n + 1) v).stamp ≡ precedes u.stamp v.stamp
    same u v su sv h = let e : has_ticket t v ≡ false = grind arith in rw e (first u v su sv (has_ticket t u) refl)

-- ---- marks after a change

pub sound_later : (n n' : ℕ) (v : Version) → n ≤ n' → Sound n v → Sound n' v
sound_later n n' v le s = record { begun_by = omega arith; ended_by = omega arith; unmarked = s.unmarked; marked = s.marked }

pub sound_finish : (n t : ℕ) (v : Version) → Sound n v → Sound (n + 1) (finish_one t (n + 1) v)
sound_finish n t v s = record { begun_by = omega arith; ended_by = go (has_ticket t v); unmarked = λ h. grind arith; marked = marked (has_ticket t v) refl }
  where
    go : (k : Bool) → cond k (n + 1) v.stamp.finish ≤ n + 1
    go true = omega arith
    go false = omega arith

    marked : (k : Bool) → has_ticket t v ≡ k → finished (cond k Waiting v.state) ≡ true → v.stamp.begin < cond k (n + 1) v.stamp.finish
    marked true e h = omega arith
    marked false e h = s.marked h

pub sound_withdraw : (n t : ℕ) (v : Version) → Sound n v → Sound n (withdraw_one t v)
sound_withdraw n t v s = record { begun_by = s.begun_by; ended_by = s.ended_by; unmarked = λ h. s.unmarked (grind arith); marked = λ h. s.marked (grind arith) }

pub sound_send : (n t : ℕ) (v : Version) → Sound n v → Sound n (send_one t v)
sound_send n t v s = record { begun_by = s.begun_by; ended_by = s.ended_by; unmarked = λ h. s.unmarked (grind arith); marked = λ h. s.marked (grind arith) }

pub sound_home : (n : ℕ) (v : Version) → Sound n v → Sound n (bring_home v)
sound_home n v s = record { begun_by = s.begun_by; ended_by = s.ended_by; unmarked = λ h. s.unmarked (grind arith); marked = λ h. s.marked (grind arith) }

pub sound_wait : (n : ℕ) (v : Version) → Sound n v → Sound n (wait_again v)
sound_wait n v s = record { begun_by = s.begun_by; ended_by = s.ended_by; unmarked = λ h. s.unmarked (grind arith); marked = λ h. s.marked (grind arith) }
