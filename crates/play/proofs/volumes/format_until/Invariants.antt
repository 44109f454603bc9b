use Rattle.std.proofs.Common.{◌≡◌, ◌≤◌, length}
use Rattle.disk.specs.Medium.{size}
use Rattle.play.specs.InJournal.{formatted_until}
use Rattle.play.proofs.volumes.format_until.Given as goal

-- the tries to come lead where all of them lead
abbrev pub invariant-loop : goal.invariant-loop
invariant-loop g l =
    (10 ≤ size (g.D.Disk.medium l.cold.disk))
    × (formatted_until g.D.Disk.attempts (g.D.Disk.medium l.cold.disk) ≡ formatted_until g.D.Disk.attempts (g.D.Disk.medium l.initial.cold.disk))

-- each try that fails takes an entry off the plan
abbrev pub decreases-loop : goal.decreases-loop
decreases-loop g l = length (g.D.Disk.medium l.cold.disk).plan
