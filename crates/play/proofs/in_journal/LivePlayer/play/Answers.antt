use Rattle.disk.specs.Medium.{join}
use Rattle.journal.specs.Model.{model}
use Rattle.play.proofs.Keeping.{runs_on}
use Rattle.play.proofs.in_journal.LivePlayer.play.Goals as goal

pub returns-clause-fit : goal.returns-clause-fit
returns-clause-fit g c =
    let medium = g.D.Disk.medium in
    let answered = c.answer_to in
    runs_on (record { effect = join; tries = g.D.Disk.attempts }) c.args.call (model medium c.args.self.now) (model medium answered.new.live) answered.result answered.ensures c.requires.fit
