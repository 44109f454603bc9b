use Rattle.std.proofs.Common.{is_some, ap, ◌∙◌}
use Rattle.batch.proofs.Rowing.{holds_by}
use Rattle.batch.specs.Rows.{entries}
use Rattle.batch.proofs.rows.Batch.holds.Goals as goal

pub returns : goal.returns
returns c = c.is_some.ensures ∙ ap is_some c.row.ensures ∙ holds_by c.args.place (entries c.args.self.now)
