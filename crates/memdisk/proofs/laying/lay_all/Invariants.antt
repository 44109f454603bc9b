use Rattle.std.proofs.Common.{◌≡◌, length, drop}
use Rattle.disk.specs.Medium.{lay}
use Rattle.memdisk.specs.Parts.{blocks_of, writes_of}
use Rattle.memdisk.proofs.laying.lay_all.Given as goal

-- the writes that are left give what all of them give
abbrev pub invariant-loop-w : goal.invariant-loop-w
invariant-loop-w l =
    (length (blocks_of l.blocks) ≡ length (blocks_of l.initial.blocks))
    × (lay (blocks_of l.blocks) (writes_of (drop l.w-index l.writes)) ≡ lay (blocks_of l.initial.blocks) (writes_of l.writes))
