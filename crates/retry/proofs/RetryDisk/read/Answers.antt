use Rattle.std.proofs.Common.{◌≡◌, sym, refl, subst, arith, rules}
use Rattle.disk.specs.declared.error.Kind.TheVariants.{Read}
use Rattle.disk.specs.Calls.{Reads, answer, failed}
use Rattle.retry.specs.Retried.{retry_medium, tripled}
use Rattle.retry.proofs.Retries as retries
use Rattle.retry.proofs.Trying.{by_tries}
use Rattle.retry.proofs.RetryDisk.read.Goals as goal

pub returns : goal.returns
returns g c =
    let medium = g.D.Disk.medium in
    let m = medium c.args.self.now.disk in
    let t = g.D.Disk.attempts in
    let place = c.args.place in
    let bytes = c.args.buffer.now in
    let done : Reads (tripled t) (retry_medium m) place bytes c.tried.result (retry_medium (medium c.tried.new.call.0.now)) c.tried.new.call.2.now =
    by_tries _ _
    (λ i f. (medium f.0.now ≡ retries.after_faults i m) × retries.Failed m place bytes i × (f.2.now ≡ bytes) × (f.1.now ≡ place))
    (λ r f. Reads (tripled t) (retry_medium m) place bytes r (retry_medium (medium f.0.now)) f.2.now)
    (λ i p s o h j did ok.
    let made : Reads t (medium p.0.now) p.1.now p.2.now s (medium o.0.now) o.2.now = search rules in
    retries.read_stops t m place bytes i (medium p.0.now) s (medium o.0.now) o.2.now h j.0 j.1 (subst (λ b. Reads t (medium p.0.now) place b s (medium o.0.now) o.2.now) j.2 (subst (λ a. Reads t (medium p.0.now) a p.2.now s (medium o.0.now) o.2.now) j.3 made)) ok)
    (λ i p s o j did bad.
    let made : Reads t (medium p.0.now) p.1.now p.2.now s (medium o.0.now) o.2.now = search rules in
    let still : o.1.now ≡ place = search rules in
    let more = retries.read_more t m place bytes i (medium p.0.now) s (medium o.0.now) o.2.now j.0 j.1 (subst (λ b. Reads t (medium p.0.now) place b s (medium o.0.now) o.2.now) j.2 (subst (λ a. Reads t (medium p.0.now) a p.2.now s (medium o.0.now) o.2.now) j.3 made)) bad in
    (more.0, more.1, more.2, still))
    (λ p j. subst (Reads (tripled t) (retry_medium m) place bytes (answer (tripled t) Read place failed) (retry_medium (medium p.0.now))) (sym j.2) (retries.read_fails t m place bytes _ j.0 j.1))
    _ c.tried.result c.tried.new.call (refl, λ j h. absurd (omega arith), refl, refl) c.tried.ensures in
    search rules
