use Rattle.std.proofs.Common.{Ok, Err, sym, ap, ◌∙◌}
use Rattle.std.proofs.lemmas.Result.{err_from_is_err_and}
use Rattle.disk.specs.Medium.{Effect, join}
use Rattle.journal_law.specs.Device.{Device}
use Rattle.journal_law.specs.Cache.{Live, outcome, step, step_asks}
use Rattle.journal.specs.Model.{model}
use Rattle.listing.specs.declared.answer.Answer.TheVariants.{Step as Stepped}
use Rattle.trace.specs.declared.call.TraceCall.TheVariants.{Begin, Step}
use Rattle.play.specs.InJournal.{valued, called}
use Rattle.play.specs.Telling.{Played, answered}
use Rattle.play.proofs.Telling.{progress_again}
use Rattle.play.proofs.in_journal.answer_to.Goals as goal

pub returns-in_ok-ticket-in-Begin : goal.returns-in_ok-ticket-in-Begin
returns-in_ok-ticket-in-Begin g c =
    let v = model g.D.Disk.medium c.args.live.now in
    let device : Device = record { effect = join; tries = g.D.Disk.attempts } in
    ap (valued (Begin c.in-Begin.place c.in-Begin.fill)) c.in_ok-ticket-in-Begin.ensures.outcome
    ∙ ap (λ place. called device (Begin place c.in-Begin.fill) v) c.from.ensures
    ∙ sym (ap (λ call. called device call v) c.in-Begin.is)

pub returns-in_ok-progress-in-Step : goal.returns-in_ok-progress-in-Step
returns-in_ok-progress-in-Step g c =
    let v = model g.D.Disk.medium c.args.live.now in
    let on : Effect → Played Live = λ e. valued Step (outcome (record { effect = e; tries = g.D.Disk.attempts }) v step) in
    ap (λ p. answered (Ok (Stepped p)) (model g.D.Disk.medium c.step.new.self)) (sym (progress_again c.in_ok-progress-in-Step.progress))
    ∙ ap (valued Step) c.in_ok-progress-in-Step.ensures.outcome
    ∙ ap on (g.met.D.JoiningDisk.joins c.args.live.now.disk (step_asks v))
    ∙ sym (ap (λ call. called (record { effect = join; tries = g.D.Disk.attempts }) call v) c.in-Step.is)

pub returns-in_err-progress-in-Step : goal.returns-in_err-progress-in-Step
returns-in_err-progress-in-Step g c =
    let v = model g.D.Disk.medium c.args.live.now in
    let on : Effect → Played Live = λ e. valued Step (outcome (record { effect = e; tries = g.D.Disk.attempts }) v step) in
    let p = err_from_is_err_and c.from_residual-in_err-progress-in-Step.result c.from_residual-in_err-progress-in-Step.ensures.1 in
    ap (λ r. answered r (model g.D.Disk.medium c.step.new.self)) (p.1 ∙ ap Err p.2)
    ∙ ap (valued Step) c.in_err-progress-in-Step.ensures.outcome
    ∙ ap on (g.met.D.JoiningDisk.joins c.args.live.now.disk (step_asks v))
    ∙ sym (ap (λ call. called (record { effect = join; tries = g.D.Disk.attempts }) call v) c.in-Step.is)
