use Rattle.std.proofs.Common.{◌<◌, length, sym, ◌∙◌, subst, arith}
use Rattle.journal_law.specs.Recovery.{home_flush, recovered}
use Rattle.head.specs.Codes.{head_of}
use Rattle.journal_volume.specs.Recovering.{at, OfRule, turn, Goes}
use Rattle.journal_volume.proofs.Going.{goes_on, leads_size, seen_some}
use Rattle.journal_volume.proofs.recovery.Found.restore.Goals as goal

pub clear-requires : goal.clear-requires
clear-requires g c =
    let rule = g.D.Disk.rule in
    let n = c.args.self.now.home in
    let h = head_of c.args.self.now.head in
    let m = g.D.Disk.medium c.args.disk.now in
    let mid = g.D.Disk.medium c.copy_slots.new.disk in
    leads_size (OfRule rule) n (at (turn 0 h) m) (at (home_flush h) mid) c.in_ok-copy_slots.ensures ∙ c.requires

pub returns : goal.returns
returns g c =
    let rule = g.D.Disk.rule in
    let tries = g.D.Disk.attempts in
    let n = c.args.self.now.home in
    let h = head_of c.args.self.now.head in
    let m = g.D.Disk.medium c.args.disk.now in
    let mid = g.D.Disk.medium c.copy_slots.new.disk in
    let last = g.D.Disk.medium c.clear.new.disk in
    let some : 0 < length h.places = omega (arith, c.if-len-eq0.false, c.len.ensures) in
    subst (λ s. Goes (OfRule rule) tries n (at s m) (recovered h.number) c.clear.result last) (sym (seen_some h some))
    (goes_on (OfRule rule) n (at (turn 0 h) m) (at (home_flush h) mid) c.in_ok-copy_slots.ensures tries (recovered h.number) c.clear.result last c.clear.ensures)
