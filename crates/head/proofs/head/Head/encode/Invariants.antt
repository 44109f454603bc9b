use Rattle.std.proofs.Common.{◌≡◌}
use Rattle.head.proofs.Bytes.{padded, front}
use Rattle.head.proofs.head.Head.encode.Given as goal

-- the sections with the first i places, and then zeros
abbrev pub invariant-loop-i : goal.invariant-loop-i
invariant-loop-i l = l.block ≡ padded (front l.self l.i)
