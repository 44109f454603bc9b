use Rattle.std.proofs.Common.{map, eqb, is_some, sym, refl, ap, ◌∙◌}
use Rattle.batch.specs.declared.entry.Entry.{Entry}
use Rattle.batch.specs.Rows.{entries, write_in}
use Rattle.batch.proofs.Rowing.{below_count, holds_by, collect_some, collect_none, take_set_within}
use Rattle.batch.proofs.rows.Batch.collect.Goals as goal

pub push-requires : goal.push-requires
push-requires c = c.requires (sym (holds_by c.args.entry.place (entries c.args.self.now)) ∙ ap is_some (sym c.in-None.ensures))

pub returns-in-Some : goal.returns-in-Some
returns-in-Some c =
    let b = c.args.self.now in
    let i = c.in-Some.row in
    let within = below_count (λ (e : Entry). eqb e.place c.args.entry.place) b i (sym c.in-Some.ensures) in
    ap (map write_in) (take_set_within b.count b.rows i c.args.entry within)
    ∙ collect_some c.args.entry.place (entries b) i (sym c.in-Some.ensures) c.args.entry refl

pub returns-in-None : goal.returns-in-None
returns-in-None c = ap (map write_in) c.push.ensures ∙ collect_none c.args.entry (entries c.args.self.now) (sym c.in-None.ensures)
