use Rattle.std.proofs.Common.{◌-◌}
use Rattle.disk.specs.Calls.{Answer, answer, failed}
use Rattle.retry.specs.Retried.{Tries, tripled}
use Rattle.retry.proofs.Retry.tried.Given as goal

-- where the tries that are left lead to from here, there all three lead to from the start
abbrev pub invariant-loop-attempt : goal.invariant-loop-attempt
invariant-loop-attempt g l =
    goal.F-IsAlwaysCallable g l.call
    × ((r : Answer) (q : _) → Tries (goal.F-step g) (3 - l.attempt) (answer (tripled g.D.Disk.attempts) l.kind l.place failed) l.call r q → Tries (goal.F-step g) 3 (answer (tripled g.D.Disk.attempts) l.kind l.place failed) l.fn.call r q)
