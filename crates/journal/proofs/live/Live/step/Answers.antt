use Rattle.std.proofs.Common.{◌≡◌, Some, Option, sym, ap, ◌∙◌}
use Rattle.std.proofs.lemmas.List.{length-map}
use Rattle.std.proofs.lemmas.Result.{err_from_is_err_and}
use mathlib.Core.Option.{Option as Maybe}
use Rattle.errors.specs.Errors.{progress_number}
use Rattle.journal_law.specs.Cache.{step, Group, Answer, accepted, refused, with_group}
use Rattle.batch.specs.Rows.{entries, write_in}
use Rattle.group.specs.declared.phase.Phase.{Phase}
use Rattle.group.specs.declared.under_way.UnderWay.{UnderWay}
use Rattle.group.specs.Groups.{under_way}
use Rattle.group.specs.Phases.{advanced}
use Rattle.journal.specs.Model.{model, met, stepped}
use Rattle.journal.proofs.Outcomes.{runs_by, under_at, step_idle, step_ok, step_err}
use Rattle.journal.proofs.live.Live.step.Goals as goal

pub returns-in_default : goal.returns-in_default
returns-in_default g c =
    let s = c.args.self.now in
    let device = met g.D.Disk.medium g.D.Disk.rule g.D.Disk.attempts s in
    let v = model g.D.Disk.medium s in
    let e = step_idle device v (ap under_way c.in_default.is) in
    record { outcome = e; runs = runs_by device step v _ e }

pub returns-in_err-turn : goal.returns-in_err-turn
returns-in_err-turn g c =
    let s = c.args.self.now in
    let device = met g.D.Disk.medium g.D.Disk.rule g.D.Disk.attempts s in
    let v = model g.D.Disk.medium s in
    let u = c.in-Some.under_way in
    let G = u.group in
    let m = g.D.Disk.medium c.make.new.disk in
    let x = c.in_err-turn.field-0.0 in
    let under = ap under_way c.in-Some.is in
    let count = c.len.ensures ∙ sym (length-map (entries G.writes) write_in) in
    let advances = c.in_err-turn.ensures ∙ ap (advanced c.len.result u.phase) c.during-answer.ensures in
    let p = err_from_is_err_and c.from_residual.result c.from_residual.ensures.1 in
    let same : stepped c.from_residual.result ≡ refused x = ap stepped p.1 ∙ ap refused p.2 in
    let e = ap (λ (a : Answer). record { answer = a; live = with_group v m (under_at G (Some u.phase)) }) same
    ∙ ap (λ (o : Maybe Group). record { answer = refused x; live = with_group v m o }) (sym under)
    ∙ step_err v G u.phase g.D.Disk.attempts (g.D.Disk.rule s.disk) under c.len.result c.make.result m c.make.ensures count x advances in
    record { outcome = e; runs = runs_by device step v _ e }

pub returns-in-Some-phase : goal.returns-in-Some-phase
returns-in-Some-phase g c =
    let s = c.args.self.now in
    let device = met g.D.Disk.medium g.D.Disk.rule g.D.Disk.attempts s in
    let v = model g.D.Disk.medium s in
    let u = c.in-Some.under_way in
    let G = u.group in
    let m = g.D.Disk.medium c.make.new.disk in
    let t = c.in_ok-turn.turn in
    let count = c.len.ensures ∙ sym (length-map (entries G.writes) write_in) in
    let advances = c.in_ok-turn.ensures ∙ ap (advanced c.len.result u.phase) c.during-answer.ensures in
    let e = ap (λ (o : Option Phase). record { answer = accepted (progress_number t.progress); live = with_group v m (under_at G o) }) (sym c.in-Some-phase.is)
    ∙ step_ok v G u.phase g.D.Disk.attempts (g.D.Disk.rule s.disk) (ap under_way c.in-Some.is) c.len.result c.make.result m c.make.ensures count t advances in
    record { outcome = e; runs = runs_by device step v _ e }

pub returns-in-None : goal.returns-in-None
returns-in-None g c =
    let s = c.args.self.now in
    let device = met g.D.Disk.medium g.D.Disk.rule g.D.Disk.attempts s in
    let v = model g.D.Disk.medium s in
    let u = c.in-Some.under_way in
    let G = u.group in
    let m = g.D.Disk.medium c.make.new.disk in
    let t = c.in_ok-turn.turn in
    let count = c.len.ensures ∙ sym (length-map (entries G.writes) write_in) in
    let advances = c.in_ok-turn.ensures ∙ ap (advanced c.len.result u.phase) c.during-answer.ensures in
    let e = ap (λ (o : Option UnderWay). record { answer = accepted (progress_number t.progress); live = with_group v m (under_way o) }) c.leave.ensures
    ∙ ap (λ (o : Option Phase). record { answer = accepted (progress_number t.progress); live = with_group v m (under_at G o) }) (sym c.in-None.is)
    ∙ step_ok v G u.phase g.D.Disk.attempts (g.D.Disk.rule s.disk) (ap under_way c.in-Some.is) c.len.result c.make.result m c.make.ensures count t advances in
    record { outcome = e; runs = runs_by device step v _ e }
