use Rattle.std.proofs.Common.{◌+◌, ◌-◌, sym, ◌∙◌, subst, arith, rules, of_calls}
use Rattle.disk.specs.Calls.{answer, failed}
use Rattle.retry.specs.Retried.{Tries, tripled}
use Rattle.retry.proofs.Trying.{tries_stop, tries_on, tries_end}
use Rattle.retry.proofs.Retry.tried.Goals as goal

pub returns-then-not-faulty : goal.returns-then-not-faulty
returns-then-not-faulty g c =
    c.loop-attempt.invariant.1 _ _ (tries_stop _ _ (3 - c.loop-attempt.attempt) c.loop-attempt.call c.call-answer.result c.call-answer.new.self (omega arith) (search rules) (sym c.faulty.ensures ∙ c.if-not-faulty.true))

pub loop-attempt-preserved : goal.loop-attempt-preserved
loop-attempt-preserved g c =
    (search of_calls, λ r q rest. c.loop-attempt.invariant.1 r q (tries_on _ _ (3 - c.loop-attempt.attempt) (3 - (c.loop-attempt.attempt + 1)) c.loop-attempt.call c.call-answer.result c.call-answer.new.self r q (omega arith) (search rules) (sym c.faulty.ensures ∙ c.if-not-faulty.false) rest))

pub returns : goal.returns
returns g c =
    subst (λ r. Tries (goal.F-step g) 3 (answer (tripled g.D.Disk.attempts) c.args.kind c.args.place failed) c.args.call.now r c.loop-attempt.call) (sym c.fault.ensures)
    (c.loop-attempt.invariant.1 _ _ (tries_end _ _ (3 - c.loop-attempt.attempt) c.loop-attempt.call (omega arith)))
