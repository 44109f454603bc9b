use Rattle.std.proofs.Common.{◌≡◌, length}
use Rattle.play.specs.InOrder.{opened_until}
use Rattle.play.proofs.in_order.open_until.Given as goal

-- the openings to come lead where all of them lead
abbrev pub invariant-loop : goal.invariant-loop
invariant-loop g l = opened_until (g.D.Disk.medium l.cold.disk) ≡ opened_until (g.D.Disk.medium l.initial.cold.disk)

-- each opening that fails takes an entry off the plan
abbrev pub decreases-loop : goal.decreases-loop
decreases-loop g l = length (g.D.Disk.medium l.cold.disk).plan
