use Rattle.std.proofs.Common.{set, ap}
use Rattle.table.proofs.Rowing.{marks_sent, held_sent}
use Rattle.table.proofs.rows.Table.mark_sent.Goals as goal

pub returns : goal.returns
returns c =
    let rows = c.args.self.now.rows in
    let is = ap (set rows c.args.i) c.on.ensures in
    record { after = is; marks = rw is (marks_sent rows c.args.i); held = rw is (held_sent rows c.args.i) }
