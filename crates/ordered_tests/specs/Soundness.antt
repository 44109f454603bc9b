-- What holds of the medium of the disk of two blocks.
use Rattle.std.proofs.Common.{◌≡◌, ℕ, List, length, refl, arith, Some, None, Option}
use Rattle.std.specs.Option.{ForSome}
use Rattle.disk.specs.Medium.{Sound}
use Rattle.ordered_tests.specs.Mixing.{mixed}

-- whether its one write is loose or not
pub mixed_sound : (even odd : List ℕ) (loose : Option (List ℕ)) → length even ≡ 512 → length odd ≡ 512 → ForSome loose (λ b. length b ≡ 512) → Sound (mixed even odd loose)
mixed_sound even odd None e o b = record {
  some = omega arith;
  few = omega arith;
  blocks = (e, (o, tt));
  held = omega arith;
  fitting = tt;
}
mixed_sound even odd (Some bytes) e o b = record {
  some = omega arith;
  few = omega arith;
  blocks = (e, (o, tt));
  held = omega arith;
  fitting = ((omega arith, b bytes refl), tt);
}
