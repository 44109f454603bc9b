use Rattle.std.proofs.Common.{◌≡◌, ◌≤◌, true, false, is_err, sym, ap, ◌∙◌, subst}
use Rattle.disk.specs.Medium.{size}
use Rattle.head.specs.Head.{empty_head}
use Rattle.journal_law.specs.Recovery.{home_blocks, head_write, Formatted, formatted}
use Rattle.play.specs.Histories.{Recoverable}
use Rattle.play.specs.InJournal.{format_faults, format_leaves, formatted_until}
use Rattle.play.proofs.Formatting.{format_refused, format_shorter, format_recoverable}
use Rattle.play.proofs.Repeating.{goes_on}
use Rattle.play.proofs.volumes.format_until.Goals as goal

pub loop-preserved : goal.loop-preserved
loop-preserved g c =
    let tries = g.D.Disk.attempts in
    let m = g.D.Disk.medium c.loop.cold.disk in
    let did = c.format.ensures.outcome ∙ ap (λ e. formatted tries e m) (g.met.D.JoiningDisk.joins c.loop.cold.disk (head_write (home_blocks m) (empty_head 0))) in
    let room = c.loop.invariant.0 in
    let fault : format_faults tries m ≡ true = sym (format_refused tries m room) ∙ sym (ap (λ (f : Formatted). is_err f.answer) did) ∙ sym c.is_err.ensures.value ∙ c.loop-test.true in
    let next = ap (λ (f : Formatted). f.medium) did in (
      subst (λ k. 10 ≤ size k) (sym next) (format_shorter tries m room fault).1,
      ap (λ k. formatted_until tries k) next ∙ goes_on (format_faults tries) (format_leaves tries) (format_leaves tries) (λ k. 10 ≤ size k) (λ k h e. format_shorter tries k h e) m room fault ∙ c.loop.invariant.1,
    )

pub returns-clause-recoverable : goal.returns-clause-recoverable
returns-clause-recoverable g c =
    let tries = g.D.Disk.attempts in
    let m = g.D.Disk.medium c.loop.cold.disk in
    let did = c.format.ensures.outcome ∙ ap (λ e. formatted tries e m) (g.met.D.JoiningDisk.joins c.loop.cold.disk (head_write (home_blocks m) (empty_head 0))) in
    let room = c.loop.invariant.0 in
    let fine : format_faults tries m ≡ false = sym (format_refused tries m room) ∙ sym (ap (λ (f : Formatted). is_err f.answer) did) ∙ sym c.is_err.ensures.value ∙ c.loop-test.false in
    subst Recoverable (sym (ap (λ (f : Formatted). f.medium) did)) (format_recoverable tries m room (g.met.D.Disk.sound c.loop.cold.disk).few fine)
