use Rattle.journal.specs.Model.{model}
use Rattle.play.proofs.Keeping.{starts_running}
use Rattle.play.proofs.in_journal.LivePlayer.play_cut.Goals as goal

pub returns-clause-fit : goal.returns-clause-fit
returns-clause-fit g c =
    let medium = g.D.Disk.medium in
    let recovered = c.recover_until-number in
    let cold = recovered.new.cold in
    starts_running cold.accepted recovered.result (medium cold.disk) (model medium c.new.result) c.new.ensures recovered.ensures.accepted recovered.ensures.starts
