use Rattle.std.proofs.Common.{refl}
use Rattle.ordered_law.specs.Events.{Restart}
use Rattle.ordered.specs.Model.{model}
use Rattle.ordered.proofs.Outcomes.{goes_on, any_disk, restarted}
use Rattle.ordered.proofs.live.Live.restart.Goals as goal

pub returns : goal.returns
returns g c =
    let m = model g.D.Disk.medium c.args.self.now in
    let lawful = g.met.P.Precedence.lawful c.args.self.now.order in
    let e = restarted c.args.choice m c.cut.ensures c.apply.ensures.after in
    record { outcome = e; order = refl; runs = goes_on lawful any_disk (Restart c.args.choice) e }
