use Rattle.std.proofs.Common.{vec_items, sym, subst}
use Rattle.memdisk.specs.Making.{Holds}
use Rattle.memdisk.specs.Parts.{medium_of, held_in}
use Rattle.memdisk.proofs.Fates.{holds}
use Rattle.memdisk.proofs.held.HeldDisk.into_memory.Goals as goal

pub returns : goal.returns
returns c =
    let d = c.args.self in
    let m = medium_of d.blocks (held_in d.loose) d.plan in
    subst (λ memory. Holds m (vec_items memory)) (sym c.into_memory.ensures) (holds d.blocks (held_in d.loose) d.plan)
