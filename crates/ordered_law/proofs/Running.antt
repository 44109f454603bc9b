-- A run of the cache of rows is a list of calls of the cache in the order of begin marks, and so the laws hold along it.
use Rattle.std.proofs.Common.{◌≡◌, ◌+◌, ◌*◌, true, ◌≢◌, List, [], ◌∷◌, ◌++◌, map, length, sym, refl, ap, ◌∙◌, subst, ap₂, subst₂, arith}
use Rattle.std.specs.List.{AllByRecursion}
use Rattle.std.proofs.lemmas.List.{length-map, map_push}
use Rattle.disk.specs.Medium.{Medium, current, cut}
use Rattle.table.specs.declared.held.State.TheVariants.{Open, Home}
use Rattle.ordered_law.proofs.Calls.{cut_safe, cut_safe_within}
use Rattle.ordered_law.proofs.Reading.{reads_newest}
use Rattle.ordered_law.proofs.Drain.{drains}
use Rattle.ordered_law.proofs.Bounding.{Within, call_bounded}
use Rattle.ordered_law.proofs.Follow.{model_of, Fit, Follows, count_same, tally_same, call_follows}
use Rattle.ordered_law.proofs.Counting.{tally_true, sum_of_all}
use Rattle.ordered_law.proofs.Sorting.{in_order_length, all_from_order}
use Rattle.ordered_law.specs.Tallies.{ledger_tally, AddsUp}
use Rattle.table.specs.Rows.{in_rows}
use Rattle.precedence.specs.Stamps.{Precedence, Lawful}
use Rattle.table.specs.Versions.{finished, reserves}
use Rattle.ordered_law.specs.Device.{Device}
use Rattle.ordered_law.proofs.Sorted.{Sorted, sorted_outcome, sorted_opened, Asked, after, events, steps}
use Rattle.ordered_law.specs.Events.{Answer, Call, Read, Step, Event}
use Rattle.ordered_law.specs.Ledger.{replay}
use Rattle.ordered_law.specs.Promise.{Shows, newest_block, unhomed, bads}
use Rattle.ordered_law.specs.Bounds.{Fitting, Bounded}
use Rattle.ordered_law.specs.Cache.{Cache, fresh, opened, tally, tallied, outcome}
use Rattle.ordered_law.specs.Runs.{event_of, Ran, started, called, RunsOn, LawfulRuns}

module _ (precedes : Precedence) where
  events_append : (xs ys : List Asked) (c : Sorted) → events precedes c (xs ++ ys) ≡ events precedes c xs ++ events precedes (after precedes c xs) ys
  events_append [] ys c = refl
  events_append (x ∷ xs) ys c = ap (λ (l : List Event). record { call = x.call; answer = (sorted_outcome precedes x.device x.call c).answer } ∷ l) (events_append xs ys (sorted_outcome precedes x.device x.call c).cache)

  after_append : (xs ys : List Asked) (c : Sorted) → after precedes c (xs ++ ys) ≡ after precedes (after precedes c xs) ys
  after_append [] ys c = refl
  after_append (x ∷ xs) ys c = after_append xs ys (sorted_outcome precedes x.device x.call c).cache

  -- the calls of a run
  pub record Followed (c : Cache) (es : List Event) (d : Cache) : Type 0 where
    pub asked : List Asked
    pub answered : events precedes (model_of c) asked ≡ es
    pub reached : after precedes (model_of c) asked ≡ model_of d
    pub calls : map (λ a. a.call) asked ≡ map (λ e. e.call) es
    pub fit : Fit d
    pub bounded : Within (model_of d)

  followed : {c d : Cache} {es : List Event} → Fit c → Within (model_of c) → Ran precedes c es d → Followed c es d
  followed fit bounded started = record { asked = []; answered = refl; reached = refl; calls = refl; fit = fit; bounded = bounded }
  followed {c} fit bounded (called {es} {d} r device call) =
      let f = followed fit bounded r in
      let one : Asked = record { call = call; device = device } in
      let step : Follows (outcome precedes device call d) (sorted_outcome precedes device call (model_of d)) = call_follows d f.fit f.bounded precedes device call in
      record {
        asked = f.asked ++ one ∷ [];
        answered = events_append f.asked (one ∷ []) (model_of c)
            ∙ ap₂ (λ (l : List Event) (x : Sorted). l ++ record { call = call; answer = (sorted_outcome precedes device call x).answer } ∷ []) f.answered f.reached
            ∙ ap (λ (a : Answer). es ++ record { call = call; answer = a } ∷ []) (sym step.answers);
        reached = after_append f.asked (one ∷ []) (model_of c) ∙ ap (λ (x : Sorted). (sorted_outcome precedes device call x).cache) f.reached ∙ sym step.caches;
        calls = map_push (λ (a : Asked). a.call) f.asked one ∙ ap (λ l. l ++ call ∷ []) f.calls ∙ sym (map_push (λ (e : Event). e.call) es (event_of precedes device call d));
        fit = step.fits;
        bounded = subst Within (sym step.caches) (call_bounded (model_of d) f.bounded precedes device call);
      }

fit_opened : (m : Medium) → Fit (opened (fresh m))
fit_opened m = record { full = refl; marks = tt; distinct = tt }

bounded_opened : (m : Medium) → Within (model_of (opened (fresh m)))
bounded_opened m = record { few = omega arith; marks = omega arith; fitting = tt }

-- the bounds of the table in the order of begin marks are those of the rows
bounded_rows : (c : Cache) → Within (model_of c) → Bounded (length c.medium.firm) (in_rows c.rows) c.counter
bounded_rows c b = record {
  few = let h = b.few in let k = in_order_length (in_rows c.rows) in omega arith;
  marks = let h = b.marks in let k = count_same c reserves in omega arith;
  fitting = all_from_order (Fitting (length c.medium.firm)) (in_rows c.rows) b.fitting;
}

only_steps : (asked : List Asked) (es : List Event) → map (λ a. a.call) asked ≡ map (λ e. e.call) es → AllByRecursion (λ e. e.call ≡ Step) es →
    (steps (map (λ a. a.device) asked) ≡ asked) × (length asked ≡ length es)
only_steps [] [] q a = (refl, refl)
only_steps [] (e ∷ es) q a = absurd cc
only_steps (x ∷ asked) [] q a = absurd cc
only_steps (x ∷ asked) (e ∷ es) q a =
    let t : map (λ a. a.call) asked ≡ map (λ e. e.call) es = cc in
    let k : Step ≡ x.call = cc a.0 in
    let r = only_steps asked es t a.1 in
    (ap₂ (λ (y : Call) (l : List Asked). record { call = y; device = x.device } ∷ l) k r.0, omega (arith, r.1))

pub lawful_runs : LawfulRuns
lawful_runs precedes lawful m es c r =
    let f = followed precedes (fit_opened m) (bounded_opened m) r in
    let counts_true : tally c ≡ ledger_tally (replay precedes [] es) =
    subst₂ (λ (l : List Event) (x : Sorted). tally c ≡ ledger_tally (replay precedes [] l)) f.answered f.reached
    (tally_same c ∙ ap (λ (x : Sorted). tallied x.counts x.table) (sym f.reached) ∙ tally_true precedes lawful m f.asked) in
    record {
      cut_safe = λ choice. subst₂ (λ (l : List Event) (x : Sorted). Shows precedes (current m) (replay precedes [] l) (current (cut choice x.medium))) f.answered f.reached (cut_safe precedes lawful m f.asked choice);
      cut_within = λ device call choice.
          let step : Follows (outcome precedes device call c) (sorted_outcome precedes device call (model_of c)) = call_follows c f.fit f.bounded precedes device call in
          subst₂ (λ (l : List Event) (x : Medium). Shows precedes (current m) (replay precedes [] l) (current (cut choice x))) f.answered
          (ap (λ (x : Sorted). (sorted_outcome precedes device call x).cache.medium) f.reached ∙ sym (ap (λ (x : Sorted). x.medium) step.caches))
          (cut_safe_within precedes lawful m f.asked (record { call = call; device = device }) choice);
      reads_newest = λ device place n b e.
          let step : Follows (outcome precedes device (Read place n) c) (sorted_outcome precedes device (Read place n) (model_of c)) = call_follows c f.fit f.bounded precedes device (Read place n) in
          subst (λ (l : List Event). b ≡ newest_block (current m) (replay precedes [] l) place) f.answered
          (reads_newest precedes lawful m f.asked device place n b (ap (λ (x : Sorted). (sorted_outcome precedes device (Read place n) x).answer) f.reached ∙ sym step.answers ∙ e));
      drains = λ ss d ran only shut n.
          let g = followed precedes f.fit f.bounded ran in
          let o = only_steps g.asked ss g.calls only in
          let devices : List Device = map (λ (x : Asked). x.device) g.asked in
          subst (λ (l : List Event). AllByRecursion (λ v. finished v.state ≡ true → v.state ≡ Home) (replay precedes [] l))
          (events_append precedes f.asked (steps devices) (sorted_opened m)
          ∙ ap₂ (λ (x y : List Event). x ++ y) f.answered (ap₂ (λ (x : Sorted) (l : List Asked). events precedes x l) f.reached o.0 ∙ g.answered))
          (drains precedes lawful m f.asked devices
          (subst (λ (l : List Event). AllByRecursion (λ v. v.state ≢ Open) (replay precedes [] l)) (sym f.answered) shut)
          (length-map g.asked (λ (x : Asked). x.device) ∙ o.1
          ∙ subst₂ (λ (l : List Event) (x : Sorted). length ss ≡ 2 * unhomed (replay precedes [] l) + bads x.medium.plan) (sym f.answered) (sym f.reached) n));
      tally_true = counts_true;
      tally_adds_up = subst AddsUp (sym counts_true) (sum_of_all (replay precedes [] es));
      bounded = bounded_rows c f.bounded;
    }

-- a call whose answer and cache are those of the model
pub runs_on : {precedes : Precedence} → Lawful precedes → (device : Device) (call : Call) {c d : Cache} {a : Answer} →
    a ≡ (outcome precedes device call c).answer → d ≡ (outcome precedes device call c).cache → RunsOn precedes call c a d
runs_on {precedes} lawful device call {c} {d} {a} answers leaves m es r =
    let next : Ran precedes (opened (fresh m)) (es ++ record { call = call; answer = a } ∷ []) d =
    subst₂ (λ (x : Answer) (y : Cache). Ran precedes (opened (fresh m)) (es ++ record { call = call; answer = x } ∷ []) y) (sym answers) (sym leaves) (called r device call) in
    record {
      ran = next;
      laws = lawful_runs precedes lawful m (es ++ record { call = call; answer = a } ∷ []) d next;
      unanswered = λ choice. subst (λ (y : Cache). Shows precedes (current m) (replay precedes [] es) (current (cut choice y.medium))) (sym leaves)
          ((lawful_runs precedes lawful m es c r).cut_within device call choice);
    }
