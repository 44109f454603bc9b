use Rattle.std.proofs.Common.{Bool, Some, cond, set, replicate, sym, ap, ◌∙◌}
use Rattle.table.specs.declared.held.Version.{Version}
use Rattle.table.specs.Versions.{begun}
use Rattle.table.specs.Rows.{put}
use Rattle.watch.specs.InOrder.{with_rows}
use Rattle.watch.proofs.in_order.OrderedWatch.begun.Goals as goal

pub returns-in-Some : goal.returns-in-Some
returns-in-Some g c =
    let w = c.self.inside in
    let rows = w.table.rows in
    let version = begun c.args.place (replicate 512 c.args.fill) c.args.mark in
    let vacancy = c.in-Some.ensures in
    let more =
    c.hold.ensures
    ∙ ap (λ (v : Version). set rows c.in-Some.row (Some v)) c.begin.ensures
    ∙ sym (vacancy.2 version)
    ∙ ap (λ (b : Bool). cond b (put version rows) rows) (sym vacancy.1) in
    rw (← c.self.view_is) (ap (λ rs. with_rows (record { order = w.order; rows = rows }) rs) more)
