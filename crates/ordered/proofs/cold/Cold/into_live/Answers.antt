use Rattle.std.proofs.Common.{refl, rules}
use Rattle.ordered.proofs.Outcomes.{just_made, run_starts}
use Rattle.ordered.proofs.cold.Cold.into_live.Goals as goal

pub returns : goal.returns
returns g c =
    let n = g.D.Disk.medium c.args.self.disk in
    let e = just_made n c.new.ensures (search rules) in
    record { after = e; order = refl; runs = run_starts (g.met.P.Precedence.lawful c.args.order) n e }
