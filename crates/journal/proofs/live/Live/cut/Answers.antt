use Rattle.std.proofs.Common.{[], ap, ◌∙◌}
use Rattle.journal_law.specs.Laws.{between}
use Rattle.journal_volume.specs.declared.cold.Cold.{Cold}
use Rattle.journal.specs.Model.{model}
use Rattle.journal.proofs.live.Live.cut.Goals as goal

pub returns : goal.returns
returns g c =
    let cold = c.new.ensures in
    let medium = ap (λ (x : Cold g.row.D.Denot). g.D.Disk.medium x.disk) cold ∙ c.cut.ensures in
    record {
      after = medium;
      cold = ap (λ (x : Cold g.row.D.Denot). x.accepted) cold;
      runs = λ n k m es j r. record {
        start = j;
        live = model g.D.Disk.medium c.args.self;
        ran = r;
        at_failure = g.D.Disk.medium c.args.self.disk;
        fails = between;
        choice = c.args.choice;
        broken = [];
        medium_is = medium;
      };
    }
