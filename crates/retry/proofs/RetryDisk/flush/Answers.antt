use Rattle.std.proofs.Common.{◌≡◌, true, refl, arith, rules}
use Rattle.disk.specs.Calls.{Flushes}
use Rattle.retry.specs.Retried.{retry_medium, tripled}
use Rattle.retry.proofs.Retries as retries
use Rattle.retry.proofs.Trying.{by_tries}
use Rattle.retry.proofs.RetryDisk.flush.Goals as goal

pub returns : goal.returns
returns g c =
    let m = g.D.Disk.medium c.args.self.now.disk in
    let t = g.D.Disk.attempts in
    by_tries _ _
    (λ i f. (g.D.Disk.medium f.0.now ≡ retries.after_faults i m) × retries.Faults true true i m.plan)
    (λ r f. Flushes (tripled t) (retry_medium m) r (retry_medium (g.D.Disk.medium f.0.now)))
    (λ i p s o h j did ok. retries.flush_stops t m i (g.D.Disk.medium p.0.now) s (g.D.Disk.medium o.0.now) h j.0 j.1 (search rules) ok)
    (λ i p s o j did bad. retries.flush_more t m i (g.D.Disk.medium p.0.now) s (g.D.Disk.medium o.0.now) j.0 j.1 (search rules) bad)
    (λ p j. retries.flush_fails t m _ j.0 j.1)
    _ c.tried.result c.tried.new.call (refl, λ j h. absurd (omega arith)) c.tried.ensures
