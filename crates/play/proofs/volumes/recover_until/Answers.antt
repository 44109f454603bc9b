use Rattle.std.proofs.Common.{◌<◌, length, sym, ap, ◌∙◌, subst}
use Rattle.disk.specs.Medium.{Medium, join}
use Rattle.journal_law.specs.Laws.{JustRecovered}
use Rattle.play.specs.InJournal.{recovery_breaks, recovery_leaves, recovered_from, recovered_until}
use Rattle.play.proofs.Recovering.{recovery_shorter, recoverable_room, broken_off, accepted_as, same_homes}
use Rattle.play.proofs.Repeating.{goes_on, ends}
use Rattle.play.proofs.volumes.recover_until.Goals as goal

pub loop-number-preserved : goal.loop-number-preserved
loop-number-preserved g c =
    let m = g.D.Disk.medium c.loop-number.cold.disk in
    let n = g.D.Disk.medium c.recover.new.self.disk in
    let told = c.in_default.ensures.fixed (recoverable_room m c.loop-number.invariant.0) join g.met.D.JoiningDisk.joins in
    let broke = broken_off g.D.Disk.attempts m n c.in_default.field-0 c.loop-number.invariant.0 c.in_default.ensures.restores told in (
      broke.0,
      ap recovered_until told.leaves
          ∙ goes_on recovery_breaks recovery_leaves recovered_from (λ _. Unit {0}) (λ k h e. (recovery_shorter k e, tt)) m tt broke.1
          ∙ c.loop-number.invariant.1,
    )

pub loop-number-smaller : goal.loop-number-smaller
loop-number-smaller g c =
    let m = g.D.Disk.medium c.loop-number.cold.disk in
    let n = g.D.Disk.medium c.recover.new.self.disk in
    let told = c.in_default.ensures.fixed (recoverable_room m c.loop-number.invariant.0) join g.met.D.JoiningDisk.joins in
    let broke = broken_off g.D.Disk.attempts m n c.in_default.field-0 c.loop-number.invariant.0 c.in_default.ensures.restores told in
    subst (λ (k : Medium). length k.plan < length m.plan) (sym told.leaves) (recovery_shorter m broke.1)

pub returns-in-Ok : goal.returns-in-Ok
returns-in-Ok g c =
    let m = g.D.Disk.medium c.loop-number.cold.disk in
    let n = g.D.Disk.medium c.recover.new.self.disk in
    let told = c.in-Ok.ensures.fixed (recoverable_room m c.loop-number.invariant.0) join g.met.D.JoiningDisk.joins in
    let done = accepted_as g.D.Disk.attempts m n c.in-Ok.number told in
    record {
      until = done.1 ∙ ends recovery_breaks recovery_leaves recovered_from (λ _. Unit {0}) (λ k h e. (recovery_shorter k e, tt)) m done.0 ∙ c.loop-number.invariant.1;
      accepted = c.in-Ok.ensures.accepted;
      starts = subst (λ h. JustRecovered h c.in-Ok.number n) (same_homes g.D.Disk.attempts m n c.in-Ok.number told) c.in-Ok.ensures.opens.0;
    }
