use Rattle.std.proofs.Common.{ap}
use Rattle.table.specs.declared.tally.Tally.{Tally}
use Rattle.ordered_law.specs.Events.{Count, counted}
use Rattle.ordered.specs.Model.{model, gives}
use Rattle.ordered.proofs.Outcomes.{goes_on, any_disk, tallied_as}
use Rattle.ordered.proofs.live.Live.tally.Goals as goal

pub returns : goal.returns
returns g c =
    let m = model g.D.Disk.medium c.args.self.now in
    let lawful = g.met.P.Precedence.lawful c.args.self.now.order in
    let e = tallied_as m c.count.ensures c.count-2.ensures c.count-3.ensures in
    record { outcome = e; runs = goes_on lawful any_disk Count (ap (λ (t : Tally). gives (counted t) m) e) }
