use Rattle.std.proofs.Common.{◌≡◌, ◌+◌, false, length, drop}
use Rattle.std.specs.List.{slice_split}
use Rattle.trace.specs.declared.call.Mode.TheVariants.{Overlap}
use Rattle.trace.specs.Building.{bare}
use Rattle.trace.specs.Traces.{trace_of}
use Rattle.assembly.specs.Words.{is_line_end}
use Rattle.assembly.specs.Assembled.{from_line}
use Rattle.assembly.proofs.assembling.assemble.Given as goal

-- the lines left do to the trace so far what all do to the first one
abbrev pub invariant-loop-i : goal.invariant-loop-i
invariant-loop-i l = from_line (length l.yielded + 1) (drop (length l.yielded) (slice_split is_line_end l.text)) (trace_of l.trace) ≡ from_line 1 (slice_split is_line_end l.text) (bare Overlap false)
