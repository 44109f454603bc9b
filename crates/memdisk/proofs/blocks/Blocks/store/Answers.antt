use Rattle.std.proofs.Common.{◌≡◌, ◌+◌, ◌-◌, ◌*◌, ◌/◌, ◌<◌, length, vec_items, sym, ap, ◌∙◌, arith}
use borrow.Rule.Slice.PartMut.{put_mid}
use Rattle.std.proofs.lemmas.List.{with_items_is}
use Rattle.memdisk.specs.Memory.{memory_blocks, blocks_in}
use Rattle.memdisk.specs.Soundness.{length_blocks}
use Rattle.memdisk.proofs.Chunks.{set_blocks, length_put_mid_block}
use Rattle.memdisk.proofs.blocks.Blocks.store.Goals as goal

pub returns : goal.returns
returns c =
    let start = c.args.place * 512 in
    let memory = c.args.self.now.memory in
    let bytes = c.args.block.now in
    let count = length (vec_items memory) / 512 in
    let within : c.args.place < count = omega (arith, length_blocks count (vec_items memory)) in
    let one : (start + 512) - start ≡ 512 = omega arith in
    let written : put_mid start ((start + 512) - start) c.deref_mut.result.now c.copy_from_slice.new.self ≡ put_mid start 512 (vec_items memory) bytes =
    ap (λ n. put_mid start n c.deref_mut.result.now c.copy_from_slice.new.self) one
    ∙ ap (λ xs. put_mid start 512 xs c.copy_from_slice.new.self) c.deref_mut.ensures.value
    ∙ ap (put_mid start 512 (vec_items memory)) c.copy_from_slice.ensures.after in
    let kept : length (put_mid start 512 (vec_items memory) bytes) ≡ length (vec_items memory) = length_put_mid_block c.args.place (vec_items memory) bytes (omega arith) (omega arith) in
    ap memory_blocks (with_items_is memory _ (ap length written ∙ kept ∙ sym memory.ok.0) ∙ written)
    ∙ ap (λ n. blocks_in (n / 512) (put_mid start 512 (vec_items memory) bytes)) kept
    ∙ sym (set_blocks count c.args.place (vec_items memory) bytes within (omega arith) (omega arith))
