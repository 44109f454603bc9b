use Rattle.std.proofs.Common.{Err, sym, ap, ◌∙◌}
use Rattle.std.proofs.lemmas.Result.{err_from_is_err_and}
use Rattle.disk.specs.Medium.{Effect, join}
use Rattle.table.specs.Scans.{lowest_ready}
use Rattle.ordered_law.specs.Events.{Step as Stepping}
use Rattle.ordered_law.specs.Cache.{Cache, outcome}
use Rattle.ordered.specs.Model.{model, asked_write}
use Rattle.trace.specs.declared.call.TraceCall.TheVariants.{Step}
use Rattle.play.specs.InOrder.{valued, called}
use Rattle.play.specs.Telling.{Played, answered}
use Rattle.play.proofs.in_order.answer_to.Goals as goal

pub returns-in_err-progress-in-Step-clause-outcome : goal.returns-in_err-progress-in-Step-clause-outcome
returns-in_err-progress-in-Step-clause-outcome g c =
    let live = c.args.live.now in
    let cache = model g.D.Disk.medium live in
    let precedes = g.P.Precedence.before live.order in
    let on : Effect → Played Cache = λ e. valued Step (outcome precedes (record { rule = e; tries = g.D.Disk.attempts }) Stepping cache) in
    let p = err_from_is_err_and c.from_residual-in_err-progress-in-Step.result c.from_residual-in_err-progress-in-Step.ensures.1 in
    ap (λ r. answered r (model g.D.Disk.medium c.step.new.self)) (p.1 ∙ ap Err p.2)
    ∙ ap (valued Step) c.in_err-progress-in-Step.ensures.outcome
    ∙ ap on (g.met.D.JoiningDisk.joins live.disk (asked_write cache.rows (lowest_ready precedes cache.rows)))
    ∙ sym (ap (λ call. called precedes (record { rule = join; tries = g.D.Disk.attempts }) call cache) c.in-Step.is)
