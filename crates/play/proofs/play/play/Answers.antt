use Rattle.std.proofs.Common.{ap, ◌∙◌}
use Rattle.memdisk.specs.Parts.{medium_of, held_in}
use Rattle.play.proofs.Usable.{roomy}
use Rattle.play.proofs.play.play.Goals as goal

pub play_on-requires : goal.play_on-requires
play_on-requires c =
    let same = ap (λ r. medium_of r.disk.blocks (held_in r.disk.loose) r.disk.plan) c.new.ensures.value in
    record { room = roomy c.new.result.disk c.deref.result.now (same ∙ c.in_ok-disk.ensures) }

pub play_on-requires-else-trace : goal.play_on-requires-else-trace
play_on-requires-else-trace c = record { room = roomy c.in_ok-disk.disk c.deref.result.now c.in_ok-disk.ensures }
