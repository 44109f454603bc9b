use Rattle.std.proofs.Common.{◌≡◌, true, refl, ◌∙◌, subst, arith, rules}
use Rattle.disk.specs.Medium as medium
use Rattle.disk.proofs.Media.{joined_or_settled}
use Rattle.disk.specs.Calls.{WritesBy, is_fault}
use Rattle.retry.specs.Retried.{retry_medium, tripled}
use Rattle.retry.proofs.Retries as retries
use Rattle.retry.proofs.Trying.{by_tries}
use Rattle.retry.proofs.RetryDisk.write.Goals as goal

pub returns : goal.returns
returns g c =
    let med = g.D.Disk.medium in
    let rule = g.D.Disk.rule in
    let d = c.args.self.now.disk in
    let m = med d in
    let t = g.D.Disk.attempts in
    let place = c.args.place in
    let bytes = c.args.bytes.now in
    let w : medium.Write = record { place = place; bytes = bytes } in
    let done : WritesBy (rule d w) (tripled t) (retry_medium m) place bytes c.tried.result (retry_medium (med c.tried.new.call.0.now)) × (is_fault c.tried.result ≡ true → (v : medium.Write) → rule c.tried.new.call.0.now v ≡ rule d v) =
    by_tries _ _
    (λ i f. (med f.0.now ≡ retries.after_faults i m) × retries.Failed m place bytes i × ((v : medium.Write) → rule f.0.now v ≡ rule d v) × (f.1.now ≡ place) × (f.2.now ≡ bytes))
    (λ r f. WritesBy (rule d w) (tripled t) (retry_medium m) place bytes r (retry_medium (med f.0.now)) × (is_fault r ≡ true → (v : medium.Write) → rule f.0.now v ≡ rule d v))
    (λ i p s o h j did ok.
    let made : WritesBy (rule p.0.now (record { place = p.1.now; bytes = p.2.now })) t (med p.0.now) p.1.now p.2.now s (med o.0.now) = search rules in
    let at = subst (λ b. WritesBy (rule p.0.now (record { place = place; bytes = b })) t (med p.0.now) place b s (med o.0.now)) j.4 (subst (λ a. WritesBy (rule p.0.now (record { place = a; bytes = p.2.now })) t (med p.0.now) a p.2.now s (med o.0.now)) j.3 made) in
    let keeps : is_fault s ≡ true → (v : medium.Write) → rule o.0.now v ≡ rule p.0.now v = search rules in
    (subst (λ effect. WritesBy effect (tripled t) (retry_medium m) place bytes s (retry_medium (med o.0.now))) (j.2 w) (retries.write_stops t m place bytes i (med p.0.now) s (med o.0.now) h j.0 j.1 _ at ok), λ f v. keeps f v ∙ j.2 v))
    (λ i p s o j did bad.
    let made : WritesBy (rule p.0.now (record { place = p.1.now; bytes = p.2.now })) t (med p.0.now) p.1.now p.2.now s (med o.0.now) = search rules in
    let at = subst (λ b. WritesBy (rule p.0.now (record { place = place; bytes = b })) t (med p.0.now) place b s (med o.0.now)) j.4 (subst (λ a. WritesBy (rule p.0.now (record { place = a; bytes = p.2.now })) t (med p.0.now) a p.2.now s (med o.0.now)) j.3 made) in
    let keeps : (v : medium.Write) → rule o.0.now v ≡ rule p.0.now v = search rules in
    let still : (o.1.now ≡ place) × (o.2.now ≡ bytes) = search rules in
    let more = retries.write_more t m place bytes i (med p.0.now) s (med o.0.now) j.0 j.1 _ at bad in
    (more.0, more.1, λ v. keeps v ∙ j.2 v, still.0, still.1))
    (λ p j. (retries.write_fails t m place bytes _ j.0 j.1 (rule d w), λ f v. j.2 v))
    _ c.tried.result c.tried.new.call (refl, λ j h. absurd (omega arith), λ v. refl, refl, refl) c.tried.ensures in
    record { outcome = done.0; either = joined_or_settled _ _ place bytes _ _ _ done.0; keeps = done.1 }
