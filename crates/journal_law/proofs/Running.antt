-- The laws along every run.
use Rattle.std.proofs.Common.{◌≡◌, ℕ, ◌+◌, ◌≤◌, true, false, ◌≢◌, List, [], ◌∷◌, ◌++◌, length, take, sym, refl, ap, ◌∙◌, subst, subst₂, arith}
use mathlib.Core.Option.{Option, some, none}
use Rattle.std.proofs.Math.Option.{some-injective}
use Rattle.std.proofs.lemmas.List.{append_assoc, append-nil}
use Rattle.std.proofs.lemmas.Bool.{both_ways}
use Rattle.disk.specs.declared.error.Kind.{Kind}
use Rattle.disk.specs.Medium.{Block, Medium, size, current, cut}
use Rattle.errors.specs.declared.CacheCall.{CacheCall}
use Rattle.errors.specs.declared.VolumeError.{VolumeError}
use Rattle.errors.specs.declared.CacheError.TheVariants as error
use Rattle.errors.specs.Errors.{volume_number}
use Rattle.head.specs.Head.{encode, decode, empty_head}
use Rattle.head.proofs.RoundTrip.{decode_sound}
use Rattle.journal_law.specs.Device.{Device, bads}
use Rattle.journal_law.specs.Recovery.{Stage, first_flush, read_head, read_slot, write_home, home_flush, write_empty, last_flush, recovered, no_head, failed, started, calls, after_broken, ended}
use Rattle.journal_law.specs.Cache.{Live, Group, Call, read, Answer, refused, Event, outcome, outcome_in, opened, group_writes, is_some}
use Rattle.journal_law.specs.Ledger.{UnderWay, Ledger, Sealing, opening_ledger, note, replay}
use Rattle.journal_law.specs.Laws.{JustRecovered, event_of, Ran, no_call, one_more, FailsAt, between, within, Safe, Succeeds, calls_left, step_count, steps, IsRestart, NoRestart, Laws, RunsOn, LawfulRuns}
use Rattle.journal_law.proofs.Media.{Keeps}
use Rattle.journal_law.proofs.Forms.{Idle}
use Rattle.journal_law.proofs.Restore.{At, calls_hold, broken_recovers}
use Rattle.journal_law.proofs.Start.{fits_parts, found}
use Rattle.journal_law.proofs.Invariant.{content, State, Invariant}
use Rattle.journal_law.proofs.Calls.{call_holds}
use Rattle.journal_law.proofs.Atomic.{opening_length, opened_holds, Recoverable, live_size, cut_recoverable, within_recoverable, recoverable_safe}
use Rattle.journal_law.proofs.Ends.{recovery_ends}
use Rattle.journal_law.proofs.Held.{Held, call_held, FaultOnly, faults_only}
use Rattle.journal_law.proofs.Bound.{DueIn, counted, counted_is, call_due, same_group, some_left}
use Rattle.journal_law.proofs.Coherence.{read_newest}

-- ---- lists of calls

pub ran_append : {v w x : Live} {es ds : List Event} → Ran v es w → Ran w ds x → Ran v (es ++ ds) x
ran_append {v} {w} {x} {es} {ds} r no_call = subst (λ l. Ran v l w) (sym (append-nil es)) r
ran_append {v} {w} {x} {es} {ds} r (one_more {es = ds'} {w = y} s device call) =
    subst (λ l. Ran v l (outcome device y call).live) (append_assoc es ds' (event_of device y call ∷ [])) (one_more (ran_append r s) device call)

replay_push : (l : Ledger) (es : List Event) (e : Event) → replay l (es ++ e ∷ []) ≡ note (replay l es) e.call e.answer
replay_push l [] e = refl
replay_push l (x ∷ es) e = replay_push (note l x.call x.answer) es e

steps_push : (es : List Event) (e : Event) → steps (es ++ e ∷ []) ≡ steps es + step_count e.call
steps_push [] e = omega arith
steps_push (x ∷ es) e = omega (arith, steps_push es e)

no_restart_push : (es : List Event) (e : Event) → NoRestart (es ++ e ∷ []) → NoRestart es × (IsRestart e.call → ⊥)
no_restart_push [] e r = (tt, r.0)
no_restart_push (x ∷ es) e r = let q = no_restart_push es e r.1 in ((r.0, q.0), q.1)

-- ---- what holds after every list of calls

pub record Holding (n : ℕ) (opening : List Block) (v : Live) (l : Ledger) : Type 0 where
  pub invariant : Invariant n opening v l
  pub held : Held n v

module _ (n k : ℕ) (m : Medium) (j : JustRecovered n k m) where
  small : n ≤ 65_536
  small = omega (arith, j.home_blocks.1)

  abbrev opening : List Block
  opening = take n (current m)

  start : (decode n (encode (empty_head k)) ≡ some (empty_head k)) × ((t : ℕ → Block) × Keeps (n + 9) (Idle n k t) m)
  start = found n small j.effects j.before k m j.sized j.success

  opening_size : length opening ≡ n
  opening_size = opening_length n k m start.1.0 start.1.1

  pub holding : {es : List Event} {v : Live} → Ran (opened n k m) es v → Holding n opening v (replay (opening_ledger k) es)
  holding no_call = record {
    invariant = opened_holds n k m start.1.0 start.0 start.1.1;
    held = record {
      homed = refl;
      opens = tt;
      batch = tt;
      grouped = tt;
      marks = omega arith;
      number = (fits_parts n (empty_head k) (decode_sound n (encode (empty_head k)) (empty_head k) start.0).1).number;
    };
  }
  holding (one_more {es} {w} r device call) =
      let h = holding r in
      let l : Ledger = replay (opening_ledger k) es in
      let is : w.home_count ≡ n = h.held.homed in
      subst (λ x. Holding n opening (outcome device w call).live x) (sym (replay_push (opening_ledger k) es (event_of device w call)))
      (subst (λ x. Holding n opening (outcome_in x device w call).live (note l call (outcome_in x device w call).answer)) (sym is)
      (record { invariant = call_holds n small opening opening_size device w l call h.invariant; held = call_held n device w h.held call }))

  module _ {es : List Event} {v : Live} (r : Ran (opened n k m) es v) where
    l : Ledger
    l = replay (opening_ledger k) es

    inv : Invariant n opening v (replay (opening_ledger k) es)
    inv = (holding r).invariant

    is_home : v.home_count ≡ n
    is_home = (holding r).held.homed

    pub ran_size : size v.medium ≡ n + 9
    ran_size = live_size n small opening opening_size v (replay (opening_ledger k) es) inv

    pub recoverable : (m' : Medium) → FailsAt v m' → (choice : ℕ) → Recoverable n opening (replay (opening_ledger k) es).under_way (replay (opening_ledger k) es).committed (cut choice m')
    recoverable m' between choice = cut_recoverable n small opening opening_size v (replay (opening_ledger k) es) inv choice
    recoverable m' (within device call) choice =
        subst (λ x. Recoverable n opening (replay (opening_ledger k) es).under_way (replay (opening_ledger k) es).committed (cut choice (outcome_in x device v call).live.medium)) (sym is_home)
        (within_recoverable n small opening opening_size v (replay (opening_ledger k) es) inv device call choice)

    pub atomic_law : (m' : Medium) → FailsAt v m' → Safe n opening (replay (opening_ledger k) es) m'
    atomic_law m' f = recoverable_safe n opening (replay (opening_ledger k) es) m' opening_size (recoverable m' f)

    -- a recovery of what is recoverable
    pub succeeds_law : (m' : Medium) → FailsAt v m' → Succeeds n m'
    succeeds_law m' f choice broken effects = (
      (λ q. subst (λ s. At n kk tt' c.blank s (calls n effects (started x)).medium) q at_stage),
      (λ b many. arrived (calls n effects (started x)).stage ((recovery_ends n x effects).ends 1 many) at_stage ((recovery_ends n x effects).unbroken b)),
    )
      where
        c : Recoverable n opening (replay (opening_ledger k) es).under_way (replay (opening_ledger k) es).committed (cut choice m')
        c = recoverable m' f choice

        kk : ℕ
        kk = c.sealing.number

        tt' : ℕ → Block
        tt' = content opening c.sealing

        x : Medium
        x = after_broken n broken (cut choice m')

        at_stage : At n kk tt' c.blank (calls n effects (started x)).stage (calls n effects (started x)).medium
        at_stage = calls_hold n kk tt' c.blank effects (started x) (broken_recovers n kk tt' c.blank broken (cut choice m') c.recovers)

        arrived : (s : Stage) → is_some (ended 1 s) ≡ true → At n kk tt' c.blank s (calls n effects (started x)).medium → ((kind : Kind) (place : ℕ) → s ≢ failed kind place) →
            (i : ℕ) × (s ≡ recovered i)
        arrived (recovered i) e a u = (i, refl)
        arrived no_head e a u = absurd a
        arrived (failed kind place) e a u = absurd (u kind place refl)
        arrived first_flush e a u = absurd (both_ways false refl e)
        arrived read_head e a u = absurd (both_ways false refl e)
        arrived (read_slot i h) e a u = absurd (both_ways false refl e)
        arrived (write_home i h bytes) e a u = absurd (both_ways false refl e)
        arrived (home_flush h) e a u = absurd (both_ways false refl e)
        arrived (write_empty h) e a u = absurd (both_ways false refl e)
        arrived (last_flush h) e a u = absurd (both_ways false refl e)

    -- the steps from here on bring the group out
    due_along : (u : UnderWay) → (replay (opening_ledger k) es).under_way ≡ some u → {later : List Event} {w : Live} → Ran v later w → NoRestart later →
        DueIn u.sealing.number (calls_left u.blocks u.phase + bads v.medium.plan) (steps later) w
    due_along u e no_call quiet =
        let y = same_group n opening v.medium.firm v.medium.loose v.last v.group (replay (opening_ledger k) es).under_way (replay (opening_ledger k) es).committed inv.state u e in
        record {
          left = λ g f q.
              let same : y.0 ≡ g = some-injective y.0 g (sym y.1 ∙ f) in
              subst (λ (x : Group). calls_left (length x.writes) x.phase + bads v.medium.plan + 0 ≤ calls_left u.blocks u.phase + bads v.medium.plan) same
              (subst₂ (λ b ph. calls_left (length y.0.writes) y.0.phase + bads v.medium.plan + 0 ≤ calls_left b ph + bads v.medium.plan) (sym y.3) (sym y.4) (omega arith));
          given = omega (arith, y.2, y.5);
        }
    due_along u e (one_more {es = ds} {w = x} s device call) quiet =
        let q = no_restart_push ds (event_of device x call) quiet in
        let ran = ran_append r s in
        let h = holding ran in
        let lx : Ledger = replay (opening_ledger k) (es ++ ds) in
        let is : x.home_count ≡ n = h.held.homed in
        let sized : size x.medium ≡ n + 9 = live_size n small opening opening_size x lx h.invariant in
        let bound : ℕ = calls_left u.blocks u.phase + bads v.medium.plan in
        subst (λ d. DueIn u.sealing.number bound d (outcome device x call).live) (counted_is call (steps ds) ∙ sym (steps_push ds (event_of device x call)))
        (subst (λ z. DueIn u.sealing.number bound (counted call (steps ds)) (outcome_in z device x call).live) (sym is)
        (call_due n opening device x lx h.invariant h.held sized u.sealing.number bound (steps ds) (due_along u e s q.0) call q.1))

    leaves_law : (u : UnderWay) → (replay (opening_ledger k) es).under_way ≡ some u →
        (later : List Event) (w : Live) → Ran v later w → NoRestart later →
        calls_left u.blocks u.phase + bads v.medium.plan ≤ steps later →
        (x : UnderWay) → (replay (opening_ledger k) (es ++ later)).under_way ≡ some x → x.sealing.number ≢ u.sealing.number
    leaves_law u e later w s quiet many x f same =
        let h = holding (ran_append r s) in
        let lw : Ledger = replay (opening_ledger k) (es ++ later) in
        let y = same_group n opening w.medium.firm w.medium.loose w.last w.group lw.under_way lw.committed h.invariant.state x f in
        absurd (omega (arith, (due_along u e s quiet).left y.0 y.1 (sym y.2 ∙ same), some_left (length y.0.writes) y.0.phase y.6, many))

    faults_law : (device : Device) (call : Call) (c : CacheCall) (e : VolumeError) → (outcome device v call).answer ≡ refused (error.Volume c e) → volume_number e ≡ 7
    faults_law device call c e q =
        subst FaultOnly q
        (subst (λ x. FaultOnly (outcome_in x device v call).answer) (sym is_home) (faults_only n opening device v (replay (opening_ledger k) es) inv (holding r).held ran_size call))

    group_few : (g : Option Group) (u : Option UnderWay) (c : Sealing) → State n opening v.medium.firm v.medium.loose v.last g u c → length (group_writes g) ≤ 8
    group_few none u c a = omega arith
    group_few (some g) none c a = absurd a
    group_few (some g) (some u) c (is_last, number, blocks, phase, names, a) = names.few

    pub laws : Laws n k m es v
    laws = record {
      atomic = atomic_law;
      succeeds = succeeds_law;
      leaves = leaves_law;
      newest = λ device place room bytes e. read_newest n opening opening_size v (replay (opening_ledger k) es) inv device place room bytes
          (ap (λ x. (outcome_in x device v (read place room)).answer) (sym is_home) ∙ e);
      faults = faults_law;
      bounds = record {
        marks = (holding r).held.marks;
        places = inv.table.room;
        blocks = group_few v.group (replay (opening_ledger k) es).under_way (replay (opening_ledger k) es).committed inv.state;
        number = (holding r).held.number;
      };
    }

pub lawful_runs : LawfulRuns
lawful_runs n k m es v j r = laws n k m j r

-- a call whose answer and cache are those of the model
pub runs_on : (device : Device) (call : Call) {v w : Live} {a : Answer} → a ≡ (outcome device v call).answer → w ≡ (outcome device v call).live → RunsOn call v a w
runs_on device call {v} {w} {a} answers leaves n k m es j r =
    let next : Ran (opened n k m) (es ++ record { call = call; answer = a } ∷ []) w =
    subst₂ (λ (x : Answer) (y : Live). Ran (opened n k m) (es ++ record { call = call; answer = x } ∷ []) y) (sym answers) (sym leaves) (one_more r device call) in
    (next, lawful_runs n k m (es ++ record { call = call; answer = a } ∷ []) w j next)
