use Rattle.head.specs.Codes.{head_of}
use Rattle.journal_volume.specs.Recovering.{at, OfRule, turn, Leads}
use Rattle.journal_volume.proofs.recovery.Found.copy_slots.Given as goal

-- the recovery has come to turn i
abbrev pub invariant-loop-i : goal.invariant-loop-i
invariant-loop-i g l =
    let medium = g.D.Disk.medium in
    let rule = g.D.Disk.rule in
    let h = head_of l.self.head in
    Leads (OfRule rule) l.self.home (at (turn 0 h) (medium l.initial.disk)) (at (turn l.i h) (medium l.disk))
