use Rattle.std.proofs.Common.{◌≡◌, not, sym, ◌∙◌, rules}
use Rattle.std.specs.List.{count_by}
use Rattle.head.specs.Head.{holds}
use Rattle.batch.specs.declared.entry.Entry.{Entry}
use Rattle.batch.specs.Rows.{entries, place_list}
use Rattle.batch.proofs.Rowing.{outside_by}
use Rattle.batch.proofs.rows.Batch.outside.Goals as goal

pub returns : goal.returns
returns c =
    let many : c.count.result ≡ count_by (λ (e : Entry). not (holds e.place (place_list c.args.other.now))) (entries c.args.self.now) = search rules in
    many ∙ sym (outside_by (place_list c.args.other.now) (entries c.args.self.now))
