use Rattle.std.proofs.Common.{sym, refl}
use Rattle.ordered_law.specs.Events.{Step}
use Rattle.ordered.specs.Model.{model, device}
use Rattle.ordered.specs.Grants.{job}
use Rattle.ordered.proofs.Outcomes.{goes_on, step_idle, step_blocked, step_flushes, step_sends}
use Rattle.ordered.proofs.live.Live.step.Goals as goal

pub returns-then-not-any : goal.returns-then-not-any
returns-then-not-any g c =
    let m = model g.D.Disk.medium c.args.self.now in
    let precedes = g.P.Precedence.before c.args.self.now.order in
    let rule = g.D.Disk.rule c.args.self.now.disk in
    let tries = g.D.Disk.attempts in
    let met = device g.D.Disk.rule tries g.P.Precedence.before c.args.self.now in
    let lawful = g.met.P.Precedence.lawful c.args.self.now.order in
    let e = step_idle precedes rule tries m (sym c.if-not-any.ensures) in
    record { outcome = e; order = refl; runs = goes_on lawful met Step e }

pub returns-in-Some : goal.returns-in-Some
returns-in-Some g c =
    let m = model g.D.Disk.medium c.args.self.now in
    let precedes = g.P.Precedence.before c.args.self.now.order in
    let rule = g.D.Disk.rule c.args.self.now.disk in
    let tries = g.D.Disk.attempts in
    let met = device g.D.Disk.rule tries g.P.Precedence.before c.args.self.now in
    let lawful = g.met.P.Precedence.lawful c.args.self.now.order in
    let did = c.settle.ensures in
    let e = step_sends precedes rule tries m (sym c.if-not-any.ensures) (job c.in-Some.grant) c.in-Some.ensures c.write-answer.ensures.outcome
    did.answer refl did.rows refl refl in
    record { outcome = e; order = refl; runs = goes_on lawful met Step e }

pub returns-then-not-any-2 : goal.returns-then-not-any-2
returns-then-not-any-2 g c =
    let m = model g.D.Disk.medium c.args.self.now in
    let precedes = g.P.Precedence.before c.args.self.now.order in
    let rule = g.D.Disk.rule c.args.self.now.disk in
    let tries = g.D.Disk.attempts in
    let met = device g.D.Disk.rule tries g.P.Precedence.before c.args.self.now in
    let lawful = g.met.P.Precedence.lawful c.args.self.now.order in
    let e = step_blocked precedes rule tries m (sym c.if-not-any.ensures) c.in_default.ensures (sym c.if-not-any-2.ensures) in
    record { outcome = e; order = refl; runs = goes_on lawful met Step e }

pub returns : goal.returns
returns g c =
    let m = model g.D.Disk.medium c.args.self.now in
    let precedes = g.P.Precedence.before c.args.self.now.order in
    let rule = g.D.Disk.rule c.args.self.now.disk in
    let tries = g.D.Disk.attempts in
    let met = device g.D.Disk.rule tries g.P.Precedence.before c.args.self.now in
    let lawful = g.met.P.Precedence.lawful c.args.self.now.order in
    let did = c.flush.ensures in
    let e = step_flushes precedes rule tries m (sym c.if-not-any.ensures) c.in_default.ensures (sym c.if-not-any-2.ensures) did.answer did.medium did.rows did.counter did.counts in
    record { outcome = e; order = did.order; runs = goes_on lawful met Step e }
