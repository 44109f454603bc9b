-- Overlap and line keep the laws of a precedence.
use Rattle.std.proofs.Common.{arith}
use Rattle.std.proofs.lemmas.Bool.Decides.{nat_tests}
use Rattle.precedence.specs.Stamps.{Lawful, overlap, line}

pub by_overlap : Lawful overlap
by_overlap = record {
  only_earlier = λ u v a b h. grind (arith, nat_tests);
  same_place = λ u v a b p f l. grind (arith, nat_tests);
  first_finishes = λ u v f a b o p q. grind (arith, nat_tests);
  second_finishes = λ u v f a b o p. grind (arith, nat_tests);
}

pub by_line : Lawful line
by_line = record {
  only_earlier = λ u v a b h. grind (arith, nat_tests);
  same_place = λ u v a b p f l. grind (arith, nat_tests);
  first_finishes = λ u v f a b o p q. grind (arith, nat_tests);
  second_finishes = λ u v f a b o p. grind (arith, nat_tests);
}
