use Rattle.std.proofs.Common.{◌≡◌, length}
use Rattle.play.specs.Histories.{Recoverable}
use Rattle.play.specs.InJournal.{recovered_until}
use Rattle.play.proofs.volumes.recover_until.Given as goal

-- the tries to come lead where all of them lead
abbrev pub invariant-loop-number : goal.invariant-loop-number
invariant-loop-number g l =
    Recoverable (g.D.Disk.medium l.cold.disk)
    × (recovered_until (g.D.Disk.medium l.cold.disk) ≡ recovered_until (g.D.Disk.medium l.initial.cold.disk))

-- each try that fails takes an entry off the plan
abbrev pub decreases-loop-number : goal.decreases-loop-number
decreases-loop-number g l = length (g.D.Disk.medium l.cold.disk).plan
