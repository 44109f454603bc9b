use Rattle.std.proofs.Common.{◌-◌, ◌≤◌}
use Rattle.input.proofs.read_input.Given as goal

abbrev pub invariant-loop-length : goal.invariant-loop-length
invariant-loop-length l = l.length ≤ 4264

abbrev pub decreases-loop-length : goal.decreases-loop-length
decreases-loop-length l = 4264 - l.length
