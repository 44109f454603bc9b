-- The table of known outcomes computes.
use Rattle.std.proofs.Common.{refl}
use Rattle.ordered_law.specs.Known.{KnownOrdered}

pub known_ordered : KnownOrdered
known_ordered = record {
  overlap_before = refl;
  overlap_across = refl;
  line_across = refl;
  last_begin = refl;
  no_begin = refl;
  no_second = refl;
}
