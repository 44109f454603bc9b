-- What holds of the medium of every held disk.
use Rattle.disk.specs.Medium.{Sound}
use Rattle.memdisk.specs.Parts.{held_in, medium_of}
use Rattle.memdisk.specs.Soundness.{parts_sound}
use Rattle.memdisk.specs.declared.held.HeldDisk.{HeldDisk}

pub held_sound : (d : HeldDisk) → Sound (medium_of d.blocks (held_in d.loose) d.plan)
held_sound d = parts_sound d.blocks d.loose d.plan d.fitting
