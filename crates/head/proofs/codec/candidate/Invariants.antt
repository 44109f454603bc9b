use Rattle.std.proofs.Common.{◌≡◌, drop}
use Rattle.head.specs.Head.{places_read}
use Rattle.head.proofs.codec.candidate.Given as goal

-- so many places are read
abbrev pub invariant-loop-pair : goal.invariant-loop-pair
invariant-loop-pair l = l.places.items ≡ places_read l.pair-index (drop 6 l.block)
