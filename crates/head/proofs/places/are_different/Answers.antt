use Rattle.std.proofs.Common.{not, ◌&&◌, ◌-◌, length, take, drop, sym, ap, ◌∙◌}
use Rattle.head.specs.Head.{none_twice}
use Rattle.head.proofs.Among.{twice_first}
use Rattle.head.proofs.places.are_different.Goals as goal

pub returns-then-contains : goal.returns-then-contains
returns-then-contains c =
    let xs = c.loop-rest.rest.now in
    sym (sym c.loop-rest.invariant ∙ twice_first xs c.in-len1-up.len_at_least ∙ ap (λ t. not t && none_twice (take (length xs - 1) (drop 1 xs))) (sym c.contains.ensures.value ∙ c.if-contains.true))

pub loop-rest-preserved : goal.loop-rest-preserved
loop-rest-preserved c =
    let xs = c.loop-rest.rest.now in
    sym (twice_first xs c.in-len1-up.len_at_least ∙ ap (λ t. not t && none_twice (take (length xs - 1) (drop 1 xs))) (sym c.contains.ensures.value ∙ c.if-contains.false)) ∙ c.loop-rest.invariant
