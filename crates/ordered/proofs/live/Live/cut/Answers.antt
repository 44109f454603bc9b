use Rattle.std.proofs.Common.{sym, ap, ◌∙◌, subst}
use Rattle.disk.specs.Medium.{Medium, current}
use Rattle.ordered_law.specs.Cache.{fresh}
use Rattle.ordered_law.specs.Promise.{Shows}
use Rattle.ordered_law.specs.Runs.{ledger}
use Rattle.ordered_law.proofs.Running.{lawful_runs}
use Rattle.ordered.specs.declared.cold.Cold.{Cold}
use Rattle.ordered.specs.Model.{model}
use Rattle.ordered.proofs.live.Live.cut.Goals as goal

pub returns : goal.returns
returns g c =
    let precedes = g.P.Precedence.before c.args.self.order in
    let lawful = g.met.P.Precedence.lawful c.args.self.order in
    let is = ap (λ (r : Cold g.row.D.Denot). g.D.Disk.medium r.disk) c.new.ensures ∙ c.cut.ensures in
    record {
      after = is;
      cold = ap (λ (r : Cold g.row.D.Denot). r.accepted) c.new.ensures;
      runs = λ m es r. subst (λ (n : Medium). Shows precedes (current m) (ledger precedes (fresh m) es) (current n)) (sym is)
          ((lawful_runs precedes lawful m es (model g.D.Disk.medium c.args.self) r).cut_safe c.args.choice);
    }
