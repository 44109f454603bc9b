use Rattle.std.proofs.Common.{◌+◌, length, get_or, drop, sym, ap, ◌∙◌, arith}
use Rattle.std.proofs.lemmas.List.{length-set, at_drop_more, at_drop_all}
use Rattle.disk.specs.Medium.{lay}
use Rattle.memdisk.specs.Parts.{blocks_of, writes_of, no_write}
use Rattle.memdisk.proofs.laying.lay_all.Goals as goal

pub store-requires : goal.store-requires
store-requires c = let fits = c.requires c.loop-w.w-index no_write c.loop-w-test.true in omega arith

pub loop-w-preserved : goal.loop-w-preserved
loop-w-preserved c =
    let ws = c.args.writes.now in
    let i = c.loop-w.w-index in
    let blocks = blocks_of c.loop-w.blocks in
    let w = get_or ws i no_write in
    let stored = ap (λ bs. lay bs (writes_of (drop (i + 1) ws))) c.store.ensures in
    (ap length c.store.ensures ∙ length-set blocks w.place w.bytes ∙ c.loop-w.invariant.0, stored ∙ sym (at_drop_more (λ xs. lay blocks (writes_of xs)) ws i no_write c.loop-w-test.true) ∙ c.loop-w.invariant.1)

pub returns : goal.returns
returns c =
    let blocks = blocks_of c.loop-w.blocks in
    let none = at_drop_all (λ xs. lay blocks (writes_of xs)) c.args.writes.now c.loop-w.w-index c.loop-w-test.false in
    sym none ∙ c.loop-w.invariant.1
