use Rattle.std.proofs.Common.{◌+◌, ◌/◌, length, get_or, drop, sym, ap, ◌∙◌, arith}
use Rattle.std.proofs.lemmas.List.{length-set, at_drop_more, at_drop_all}
use Rattle.disk.specs.Medium.{lay, standing}
use Rattle.memdisk.specs.Parts.{as_write, blocks_of, writes_of, no_write}
use Rattle.memdisk.proofs.Lays.{standing_yes, standing_no}
use Rattle.memdisk.proofs.laying.lay_standing.Goals as goal
use Rattle.memdisk.proofs.laying.lay_standing.Goals.{then-bits-eq1, else-bits-eq1}

pub store-requires : goal.store-requires
store-requires c = let fits = c.requires c.loop-w.w-index no_write c.loop-w-test.true in omega arith

pub loop-w-preserved : goal.loop-w-preserved
loop-w-preserved c =
    let ws = c.args.writes.now in
    let i = c.loop-w.w-index in
    let bits = c.loop-w.bits in
    let blocks = blocks_of c.loop-w.blocks in
    let w = as_write (get_or ws i no_write) in
    let rest = writes_of (drop (i + 1) ws) in
    let before = sym (at_drop_more (λ xs. lay blocks (standing bits (writes_of xs))) ws i no_write c.loop-w-test.true) ∙ c.loop-w.invariant.1 in
    elim c.if-bits-eq1.branch [
      | then-bits-eq1 v ↦ (
        ap (λ b. length (blocks_of b)) v.blocks-is ∙ ap length v.store.ensures ∙ length-set blocks w.place w.bytes ∙ c.loop-w.invariant.0,
        ap (λ b. lay (blocks_of b) (standing (bits / 2) rest)) v.blocks-is
            ∙ ap (λ bs. lay bs (standing (bits / 2) rest)) v.store.ensures
            ∙ sym (ap (lay blocks) (standing_yes bits w rest v.if-bits-eq1.true)) ∙ before,
      )
      | else-bits-eq1 v ↦ (
        ap (λ b. length (blocks_of b)) v.blocks-is ∙ c.loop-w.invariant.0,
        ap (λ b. lay (blocks_of b) (standing (bits / 2) rest)) v.blocks-is
            ∙ sym (ap (lay blocks) (standing_no bits w rest v.if-bits-eq1.false)) ∙ before,
      )
    ]

pub returns : goal.returns
returns c =
    let blocks = blocks_of c.loop-w.blocks in
    let none = at_drop_all (λ xs. lay blocks (standing c.loop-w.bits (writes_of xs))) c.args.writes.now c.loop-w.w-index c.loop-w-test.false in
    sym none ∙ c.loop-w.invariant.1
