use Rattle.std.proofs.Common.{◌≡◌, sym, subst, arith}
use mathlib.Core.Option.{some}
use Rattle.disk.specs.Medium.{Block}
use Rattle.head.specs.Head.{decode}
use Rattle.head.proofs.RoundTrip.{decode_encode, decode_sound}
use Rattle.journal_law.proofs.laws.head_is_exact.Goals as goal

pub returns : goal.returns
returns c n b h small = (
  decode_sound n b h,
  (λ e. subst (λ (x : Block). decode n x ≡ some h) (sym e.0) (decode_encode n h (omega arith) e.1)),
)
