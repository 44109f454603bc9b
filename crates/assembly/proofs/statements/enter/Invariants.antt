use Rattle.std.proofs.Common.{◌≡◌, length}
use Rattle.trace.specs.Traces.{trace_of}
use Rattle.assembly.specs.Words.{words}
use Rattle.assembly.specs.Statements.{entered}
use Rattle.assembly.proofs.statements.enter.Given as goal

-- what is left does to the trace so far what all does to the first one
abbrev pub invariant-loop-word : goal.invariant-loop-word
invariant-loop-word l = entered (words l.rest) (trace_of l.trace) ≡ entered (words l.bytes) (trace_of l.initial.trace)

abbrev pub decreases-loop-word : goal.decreases-loop-word
decreases-loop-word l = length (words l.rest)
