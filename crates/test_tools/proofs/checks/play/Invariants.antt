use Rattle.std.proofs.Common.{take}
use Rattle.std.specs.List.{FoldsTo}
use Rattle.test_tools.specs.Checks.{AnswersAs}
use Rattle.test_tools.proofs.checks.play.Given as goal

-- the calls so far have answered as their lines say
abbrev pub invariant-loop-call : goal.invariant-loop-call
invariant-loop-call g l =
    goal.F-IsAlwaysCallable g l.answer
    × FoldsTo (AnswersAs (goal.F-step g) g.R.PartialEq.eq) l.initial.answer (take l.call-index l.lines) l.answer
