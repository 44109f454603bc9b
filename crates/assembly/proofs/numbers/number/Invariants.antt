use Rattle.std.proofs.Common.{◌≡◌, drop}
use Rattle.assembly.specs.Numbers.{with_digits}
use Rattle.assembly.proofs.numbers.number.Given as goal

abbrev pub invariant-loop-digit : goal.invariant-loop-digit
invariant-loop-digit l = with_digits l.number (drop l.digit-index l.word) ≡ with_digits 0 l.word
