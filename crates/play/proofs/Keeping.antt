-- The history of a volume goes on with every call, with a cut and with a recovery.
use Rattle.std.proofs.Common.{◌≡◌, ℕ, [], ◌∷◌, ◌++◌, replicate, Option, Result, sym, ap, subst}
use Rattle.disk.specs.Medium.{Medium}
use Rattle.journal_law.specs.Device.{Device}
use Rattle.journal_law.specs.Recovery.{home_blocks}
use Rattle.journal_law.specs.Cache as cache
use Rattle.journal_law.specs.Cache.{Live, Call, outcome, opened}
use Rattle.journal_law.specs.Laws.{JustRecovered, one_more, event_of}
use Rattle.journal_volume.specs.Recovering.{with_number}
use Rattle.journal.specs.Ends.{Starts, EndsIn}
use Rattle.trace.specs.declared.call.TraceCall.{TraceCall}
use Rattle.trace.specs.declared.call.TraceCall.TheVariants as trace
use Rattle.listing.specs.declared.answer.Answer.{Answer}
use Rattle.listing.specs.declared.play_error.PlayError.{PlayError}
use Rattle.play.specs.InJournal.{called}
use Rattle.play.specs.Telling.{Played, answered}
use Rattle.play.specs.Histories.{Running, Recoverable}

-- one more call
calls_on : (device : Device) (v : Live) (call : Call) → Running v → Running (outcome device v call).live
calls_on device v call r = record {
  homes = r.homes;
  number = r.number;
  opening = r.opening;
  events = r.events ++ event_of device v call ∷ [];
  recovered = r.recovered;
  ran = one_more r.ran device call;
}

called_runs : (device : Device) (call : TraceCall) (v : Live) → Running v → Running (called device call v).left
called_runs device (trace.Begin place fill) v r = calls_on device v (cache.begin place (replicate 512 fill)) r
called_runs device (trace.Finish ticket) v r = calls_on device v (cache.finish ticket) r
called_runs device (trace.Withdraw ticket) v r = calls_on device v (cache.withdraw ticket) r
called_runs device (trace.Read place) v r = calls_on device v (cache.read place 512) r
called_runs device trace.Step v r = calls_on device v cache.step r
called_runs device trace.Seal v r = calls_on device v cache.seal r
called_runs device (trace.Restart choice) v r = calls_on device v (cache.restart choice) r
called_runs device (trace.Cut choice) v r = r

-- a call that was answered and led to w
pub runs_on : (device : Device) (call : TraceCall) (v w : Live) (a : Result Answer PlayError) → answered a w ≡ called device call v → Running v → Running w
runs_on device call v w a did r = subst Running (sym (ap (λ (p : Played Live). p.left) did)) (called_runs device call v r)

-- a cut of a running cache leaves a volume that can be recovered
pub cut_recoverable : (v : Live) (m : Medium) → EndsIn v m → Running v → Recoverable m
cut_recoverable v m ends r = record {
  homes = r.homes;
  number = r.number;
  opening = r.opening;
  events = r.events;
  left = ends r.homes r.number r.opening r.events r.recovered r.ran;
}

-- a cache that was made over a recovered volume runs
pub starts_running : (accepted : Option ℕ) (k : ℕ) (m : Medium) (v : Live) → Starts accepted m v → accepted ≡ with_number k → JustRecovered (home_blocks m) k m → Running v
starts_running accepted k m v starts is recovered = record {
  homes = home_blocks m;
  number = k;
  opening = m;
  events = [];
  recovered = recovered;
  ran = (starts.runs k is recovered).0;
}
