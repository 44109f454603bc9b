use Rattle.std.proofs.Common.{[]}
use Rattle.play.proofs.Usable.{roomy}
use Rattle.play.proofs.play.play_list.Goals as goal

pub play_on-requires : goal.play_on-requires
play_on-requires c = record { room = roomy c.in_ok-disk.disk [] c.in_ok-disk.ensures }
