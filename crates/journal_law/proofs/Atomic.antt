-- Recovery is atomic: wherever the power fails, it shows the last committed sealing or the one under way.
use Rattle.std.proofs.Common.{◌≡◌, ℕ, zero, suc, ◌+◌, ◌<◌, ◌≤◌, ◌⊎◌, List, [], map, length, get_or, take, sym, refl, ap, ◌∙◌, subst, inl, inr, ⊎_elim, arith}
use mathlib.Core.Option.{Option, some, none}
use Rattle.std.proofs.Math.Option.{none-ne-some, some-injective}
use Rattle.std.proofs.lemmas.List.{length-take-le, get_or-take, ext_get_or}
use Rattle.disk.specs.Medium.{Effect, Block, Write, Medium, current, cut}
use Rattle.errors.specs.declared.CacheError.{CacheError}
use Rattle.head.specs.Head.{encode, decode, empty_head}
use Rattle.journal_law.specs.Device.{Device}
use Rattle.journal_law.specs.Recovery.{Broken, recovered, started, calls, after_broken}
use Rattle.journal_law.specs.Cache.{Begun, Phase, slot, slots_flush, head, head_flush, home, homes_flush, empty, empty_flush, Group, Live, Call, begin, finish, withdraw, read, seal, step, restart, Answer, accepted, shown, refused, find, decided, seal_refusal, sealed, outcome_in, next_phase, restarted_phase, opened}
use Rattle.journal_law.specs.Ledger.{Sealing, UnderWay, Ledger, opening_ledger, note, now_finished, gone_back, moved, committed_by, in_phase_now, laid, by_mark, write_of}
use Rattle.journal_law.specs.Laws.{Shows, ShowsLast, Safe}
use Rattle.journal_law.proofs.Media.{Keeps, kept_mono, kept_current, length_current, length_lay}
use Rattle.journal_law.proofs.Forms.{Idle}
use Rattle.journal_law.proofs.Restore.{Recovers, recovers_cut, idle, broken_recovers, success}
use Rattle.journal_law.proofs.Invariant.{content, InPhase, State, Invariant}
use Rattle.journal_law.proofs.Phases.{phase_cut}
use Rattle.journal_law.proofs.Entries.{no_writes}
use Rattle.journal_law.proofs.Calls.{call_holds}

-- the opening
pub opening_length : (n k : ℕ) (m : Medium) (t : ℕ → Block) → Keeps (n + 9) (Idle n k t) m → length (take n (current m)) ≡ n
opening_length n k m t h = length-take-le n (current m) (omega (arith, length_current (n + 9) (Idle n k t) m h))

pub opened_holds : (n k : ℕ) (m : Medium) (t : ℕ → Block) → decode n (encode (empty_head k)) ≡ some (empty_head k) → Keeps (n + 9) (Idle n k t) m →
    Invariant n (take n (current m)) (opened n k m) (opening_ledger k)
opened_holds n k m t blank h = record {
  same_open = refl;
  same_since = refl;
  table = no_writes n;
  shown_next = refl;
  state = (
    refl,
    blank,
    kept_mono (n + 9) (Idle n k t) (Idle n k (λ p. get_or (take n (current m)) p [])) m (λ p x r. record {
      home = λ l. r.home l ∙ sym ((kept_current (n + 9) (Idle n k t) m h p (omega arith)).home l) ∙ sym (get_or-take n (current m) p [] l);
      heading = r.heading;
      slot = r.slot;
    }) h,
  );
}

length_laid : (opening : List Block) (s : Sealing) → length (laid opening s.writes) ≡ length opening
length_laid opening s = length_lay opening (map write_of (by_mark s.writes))

-- an idle volume shows its sealing
idle_shows : (n : ℕ) (opening : List Block) (s : Sealing) (k : ℕ) (m : Medium) → length opening ≡ n → k ≡ s.number →
    Keeps (n + 9) (Idle n s.number (content opening s)) m → Shows n opening s k m
idle_shows n opening s k m size e h = record {
  number = e;
  blocks = ext_get_or [] (take n (current m)) (laid opening s.writes) (len ∙ sym (length_laid opening s ∙ size))
      (λ p l. let lp : p < n = subst (λ x. p < x) len l in
      get_or-take n (current m) p [] lp ∙ (kept_current (n + 9) (Idle n s.number (content opening s)) m h p (omega arith)).home lp);
}
  where
    len : length (take n (current m)) ≡ n
    len = opening_length n s.number m (content opening s) h

-- from a cut on
recovers_shows : (n : ℕ) (opening : List Block) (s : Sealing) (m : Medium) (broken : List Broken) (effects : List Effect) (k : ℕ) (m' : Medium) →
    length opening ≡ n → decode n (encode (empty_head s.number)) ≡ some (empty_head s.number) → Recovers n s.number (content opening s) m →
    calls n effects (started (after_broken n broken m)) ≡ record { stage = recovered k; medium = m' } → Shows n opening s k m'
recovers_shows n opening s m broken effects k m' size blank r e =
    let d : (k ≡ s.number) × Keeps (n + 9) (Idle n s.number (content opening s)) m'
    = success n s.number (content opening s) blank effects (after_broken n broken m) k m'
    (broken_recovers n s.number (content opening s) blank broken m r) e in
    idle_shows n opening s k m' size d.0 d.1

-- a sealing that is the last committed or the one under way
abbrev pub OneOf : Option UnderWay → Sealing → Sealing → Type 0
OneOf u c s = (s ≡ c) ⊎ ((x : UnderWay) × (u ≡ some x) × (s ≡ x.sealing))

-- whatever a cut drops, what is left recovers to the last committed sealing or to the one under way
pub record Recoverable (n : ℕ) (opening : List Block) (u : Option UnderWay) (c : Sealing) (m : Medium) : Type 0 where
  pub sealing : Sealing
  pub one_of : OneOf u c sealing
  pub blank : decode n (encode (empty_head sealing.number)) ≡ some (empty_head sealing.number)
  pub recovers : Recovers n sealing.number (content opening sealing) m

pub cut_leaves : (n : ℕ) (opening : List Block) (m : Medium) (last : ℕ) (g : Option Group) (u : Option UnderWay) (c : Sealing) (choice : ℕ) →
    State n opening m.firm m.loose last g u c → Recoverable n opening u c (cut choice m)
cut_leaves n opening m last none (some u) c choice a = absurd a
cut_leaves n opening m last (some g) none c choice a = absurd a
cut_leaves n opening m last none none c choice (q, blank, h) = record {
  sealing = c;
  one_of = inl refl;
  blank = blank;
  recovers = recovers_cut n c.number (content opening c) choice m (idle h);
}
cut_leaves n opening m last (some g) (some u) c choice (is_last, number, blocks, phase, names, a) =
    ⊎_elim
    (λ r. record { sealing = c; one_of = inl refl; blank = blank_c g.phase a; recovers = r })
    (λ r. record { sealing = u.sealing; one_of = inr (u, refl, refl); blank = blank_u; recovers = r })
    (phase_cut n opening g u.sealing c names g.phase choice m number a)
  where
    blank_u : decode n (encode (empty_head u.sealing.number)) ≡ some (empty_head u.sealing.number)
    blank_u = subst (λ x. decode n (encode (empty_head x)) ≡ some (empty_head x)) (sym number) names.blank

    late : c ≡ u.sealing → decode n (encode (empty_head c.number)) ≡ some (empty_head c.number)
    late q = subst (λ (x : Sealing). decode n (encode (empty_head x.number)) ≡ some (empty_head x.number)) (sym q) blank_u

    blank_c : (ph : Phase) → InPhase n opening g u.sealing c m.firm m.loose ph →
        decode n (encode (empty_head c.number)) ≡ some (empty_head c.number)
    blank_c (slot i) (o, l, h) = o.blank
    blank_c slots_flush (o, h) = o.blank
    blank_c head (o, h) = o.blank
    blank_c head_flush (o, h, d) = o.blank
    blank_c (home i) (q, l, h, d) = late q
    blank_c homes_flush (q, h, d) = late q
    blank_c empty (q, f, h) = late q
    blank_c empty_flush (q, f, h, d) = late q

abbrev OneIn : Ledger → Sealing → Type 0
OneIn l s = OneOf l.under_way l.committed s

-- a step commits at most the sealing under way, and puts no other under way
moved_one : (l : Ledger) (u : Option UnderWay) (s : Sealing) → l.under_way ≡ u → OneIn (moved l u) s → OneIn l s
moved_one l none s e o = o
moved_one l (some u) s e (inl q) = go u.phase q
  where
    go : (ph : Phase) → s ≡ committed_by u l.committed ph → OneIn l s
    go (slot i) q = inl q
    go slots_flush q = inl q
    go head q = inl q
    go head_flush q = inr (u, e, q)
    go (home i) q = inl q
    go homes_flush q = inl q
    go empty q = inl q
    go empty_flush q = inl q
moved_one l (some u) s e (inr (x, f, q)) = go (next_phase u.blocks u.phase) f
  where
    go : (next : Option Phase) → in_phase_now u next ≡ some x → OneIn l s
    go none f = absurd (none-ne-some x f)
    go (some ph) f = inr (u, e, q ∙ ap (λ (y : UnderWay). y.sealing) (sym (some-injective (record { sealing = u.sealing; blocks = u.blocks; phase = ph }) x f)))

step_one : (l : Ledger) (a : Answer) (s : Sealing) → OneIn (note l step a) s → OneIn l s
step_one l (shown b) s o = o
step_one l (refused r) s o = o
step_one l (accepted zero) s o = o
step_one l (accepted (suc a)) s o = moved_one l l.under_way s refl o

finish_one : (l : Ledger) (ticket : ℕ) (o : Option Begun) (s : Sealing) → OneIn (now_finished l ticket o) s → OneIn l s
finish_one l ticket none s o = o
finish_one l ticket (some b) s o = o

restart_one : (l : Ledger) (u : Option UnderWay) (s : Sealing) → l.under_way ≡ u → OneIn (gone_back l u) s → OneIn l s
restart_one l none s e o = o
restart_one l (some u) s e (inl q) = inl q
restart_one l (some u) s e (inr (x, f, q)) =
    inr (u, e, q ∙ ap (λ (y : UnderWay). y.sealing) (sym (some-injective (record { sealing = u.sealing; blocks = u.blocks; phase = restarted_phase u.phase }) x f)))

abbrev NotSeal : Call → Type 0
NotSeal seal = ⊥
NotSeal step = Unit {0}
NotSeal (begin place bytes) = Unit {0}
NotSeal (finish ticket) = Unit {0}
NotSeal (withdraw ticket) = Unit {0}
NotSeal (read place room) = Unit {0}
NotSeal (restart choice) = Unit {0}

-- no call but a sealing puts another sealing under way
call_one : (l : Ledger) (call : Call) (a : Answer) (s : Sealing) → NotSeal call → OneIn (note l call a) s → OneIn l s
call_one l call (shown b) s other o = o
call_one l call (refused e) s other o = o
call_one l (begin place bytes) (accepted x) s other o = o
call_one l (finish ticket) (accepted x) s other o = finish_one l ticket (find ticket l.open_writes) s o
call_one l (withdraw ticket) (accepted x) s other o = o
call_one l (read place room) (accepted x) s other o = o
call_one l seal (accepted x) s other o = absurd other
call_one l step (accepted x) s other o = step_one l (accepted x) s o
call_one l (restart choice) (accepted x) s other o = restart_one l l.under_way s refl o

-- the size never changes
phase_size : (n : ℕ) (opening : List Block) (g : Group) (s c : Sealing) (firm : List Block) (loose : List Write) (ph : Phase) →
    InPhase n opening g s c firm loose ph → length firm ≡ n + 9
phase_size n opening g s c firm loose (slot i) (o, l, (tried, h, d)) = h.size_is
phase_size n opening g s c firm loose slots_flush (o, (tried, h, d)) = h.size_is
phase_size n opening g s c firm loose head (o, (tried, h)) = h.size_is
phase_size n opening g s c firm loose head_flush (o, h, d) = h.size_is
phase_size n opening g s c firm loose (home i) (q, l, h, d) = h.size_is
phase_size n opening g s c firm loose homes_flush (q, h, d) = h.size_is
phase_size n opening g s c firm loose empty (q, f, h) = h.size_is
phase_size n opening g s c firm loose empty_flush (q, f, h, d) = h.size_is

state_size : (n : ℕ) (opening firm : List Block) (loose : List Write) (last : ℕ) (g : Option Group) (u : Option UnderWay) (c : Sealing) →
    State n opening firm loose last g u c → length firm ≡ n + 9
state_size n opening firm loose last none none c (q, blank, h) = h.size_is
state_size n opening firm loose last none (some u) c a = absurd a
state_size n opening firm loose last (some g) none c a = absurd a
state_size n opening firm loose last (some g) (some u) c (is_last, number, blocks, phase, names, a) = phase_size n opening g u.sealing c firm loose g.phase a

module _ (n : ℕ) (small : n ≤ 65_536) (opening : List Block) (size : length opening ≡ n) (v : Live) (l : Ledger) (i : Invariant n opening v l) where
  pub live_size : length v.medium.firm ≡ n + 9
  live_size = state_size n opening v.medium.firm v.medium.loose v.last v.group l.under_way l.committed i.state

  pub cut_recoverable : (choice : ℕ) → Recoverable n opening l.under_way l.committed (cut choice v.medium)
  cut_recoverable choice = cut_leaves n opening v.medium v.last v.group l.under_way l.committed choice i.state

  -- within a call that is not answered: the ledger knows nothing of it
  pub within_recoverable : (device : Device) (call : Call) (choice : ℕ) →
      Recoverable n opening l.under_way l.committed (cut choice (outcome_in n device v call).live.medium)
  within_recoverable device call choice = go call
    where
      other : (c : Call) → NotSeal c → Recoverable n opening l.under_way l.committed (cut choice (outcome_in n device v c).live.medium)
      other c no-seal =
          let j : Invariant n opening (outcome_in n device v c).live (note l c (outcome_in n device v c).answer) = call_holds n small opening size device v l c i in
          let k : Ledger = note l c (outcome_in n device v c).answer in
          let w : Live = (outcome_in n device v c).live in
          let r : Recoverable n opening k.under_way k.committed (cut choice w.medium)
          = cut_leaves n opening w.medium w.last w.group k.under_way k.committed choice j.state in
          record {
            sealing = r.sealing;
            one_of = call_one l c (outcome_in n device v c).answer r.sealing no-seal r.one_of;
            blank = r.blank;
            recovers = r.recovers;
          }

      seal_medium : (r : Option CacheError) → Recoverable n opening l.under_way l.committed (cut choice (decided r (sealed v) v).live.medium)
      seal_medium none = cut_recoverable choice
      seal_medium (some e) = cut_recoverable choice

      go : (c : Call) → Recoverable n opening l.under_way l.committed (cut choice (outcome_in n device v c).live.medium)
      go seal = seal_medium (seal_refusal v)
      go step = other step tt
      go (begin place bytes) = other (begin place bytes) tt
      go (finish ticket) = other (finish ticket) tt
      go (withdraw ticket) = other (withdraw ticket) tt
      go (read place room) = other (read place room) tt
      go (restart c) = other (restart c) tt

-- what is recoverable is shown by the recovery that succeeds
pub recoverable_safe : (n : ℕ) (opening : List Block) (l : Ledger) (m : Medium) → length opening ≡ n →
    ((choice : ℕ) → Recoverable n opening l.under_way l.committed (cut choice m)) → Safe n opening l m
recoverable_safe n opening l m size r choice broken effects k m' e =
    one_shows (r choice).one_of
    (recovers_shows n opening (r choice).sealing (cut choice m) broken effects k m' size (r choice).blank (r choice).recovers e)
  where
    one_shows : OneOf l.under_way l.committed (r choice).sealing → Shows n opening (r choice).sealing k m' → ShowsLast n opening l k m'
    one_shows (inl q) h = inl (subst (λ (x : Sealing). Shows n opening x k m') q h)
    one_shows (inr (u, f, q)) h = inr (u, f, subst (λ (x : Sealing). Shows n opening x k m') q h)
