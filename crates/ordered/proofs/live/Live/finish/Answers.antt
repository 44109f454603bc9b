use Rattle.std.proofs.Common.{sym, refl}
use Rattle.ordered_law.specs.Events.{Finish}
use Rattle.ordered.specs.Model.{model}
use Rattle.ordered.proofs.Outcomes.{goes_on, any_disk, finish_refused, finish_taken}
use Rattle.ordered.proofs.live.Live.finish.Goals as goal

pub returns-then-not-any : goal.returns-then-not-any
returns-then-not-any g c =
    let m = model g.D.Disk.medium c.args.self.now in
    let lawful = g.met.P.Precedence.lawful c.args.self.now.order in
    let e = finish_refused c.args.ticket m (sym c.if-not-any.ensures) in
    record { outcome = e; order = refl; runs = goes_on lawful any_disk (Finish c.args.ticket) e }

pub returns : goal.returns
returns g c =
    let m = model g.D.Disk.medium c.args.self.now in
    let lawful = g.met.P.Precedence.lawful c.args.self.now.order in
    let e = finish_taken c.args.ticket m (sym c.if-not-any.ensures) c.apply.ensures.after in
    record { outcome = e; order = refl; runs = goes_on lawful any_disk (Finish c.args.ticket) e }
