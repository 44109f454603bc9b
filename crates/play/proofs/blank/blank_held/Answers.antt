use Rattle.std.proofs.Common.{◌≡◌, true, false, vec_items, sym, ap, ◌∙◌}
use borrow.Author.Tests.{clash}
use Rattle.memdisk.specs.Making.{usable, fresh}
use Rattle.play.proofs.Usable.{usable_blank}
use Rattle.play.proofs.blank.blank_held.Goals as goal

pub unreachable-requires : goal.unreachable-requires
unreachable-requires c =
    let zeros = c.in_ok-memory.ensures.items_if_clones_equal (λ y e. e) in
    let copied = c.in_ok-from_slice.ensures.items in
    let both : true ≡ false = sym (usable_blank c.args.plan.now c.requires) ∙ sym (ap (λ m. usable m c.args.plan.now) zeros) ∙ sym (ap (usable (vec_items c.in_ok-memory.memory)) copied) ∙ c.in_default.ensures.0 in
    clash (sym both)

pub returns : goal.returns
returns c =
    let zeros = c.in_ok-memory.ensures.items_if_clones_equal (λ y e. e) in
    let copied = c.in_ok-from_slice.ensures.items in
    c.in-Ok.ensures.1 ∙ ap (fresh _) copied ∙ ap (λ m. fresh m c.args.plan.now) zeros
