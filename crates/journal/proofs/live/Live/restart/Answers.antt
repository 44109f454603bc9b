use Rattle.std.proofs.Common.{sym, ap, ◌∙◌}
use Rattle.journal_law.specs.Cache.{restart, group_restarted}
use Rattle.group.specs.Groups.{under_way}
use Rattle.journal.specs.Model.{model, met}
use Rattle.journal.proofs.Outcomes.{runs_by, restart_by}
use Rattle.journal.proofs.live.Live.restart.Goals as goal

pub returns-in-Some : goal.returns-in-Some
returns-in-Some g c =
    let s = c.args.self.now in
    let device = met g.D.Disk.medium g.D.Disk.rule g.D.Disk.attempts s in
    let v = model g.D.Disk.medium s in
    let e = restart_by device v c.args.choice _ _ c.cut.ensures (c.restart.ensures ∙ ap group_restarted (sym (ap under_way c.in-Some.is))) in
    record { outcome = e; runs = runs_by device (restart c.args.choice) v _ e }

pub returns-in_default : goal.returns-in_default
returns-in_default g c =
    let s = c.args.self.now in
    let device = met g.D.Disk.medium g.D.Disk.rule g.D.Disk.attempts s in
    let v = model g.D.Disk.medium s in
    let e = restart_by device v c.args.choice _ _ c.cut.ensures (ap under_way c.in_default.is ∙ ap group_restarted (sym (ap under_way c.in_default.is))) in
    record { outcome = e; runs = runs_by device (restart c.args.choice) v _ e }
