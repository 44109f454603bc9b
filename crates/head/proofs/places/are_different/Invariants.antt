use Rattle.std.proofs.Common.{◌≡◌, length}
use Rattle.head.specs.Head.{none_twice}
use Rattle.head.proofs.places.are_different.Given as goal

abbrev pub invariant-loop-rest : goal.invariant-loop-rest
invariant-loop-rest l = none_twice l.rest ≡ none_twice l.fn.places

abbrev pub decreases-loop-rest : goal.decreases-loop-rest
decreases-loop-rest l = length l.rest
