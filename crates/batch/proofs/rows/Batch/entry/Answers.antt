use Rattle.std.proofs.Common.{sym, arith}
use Rattle.std.proofs.lemmas.List.{get_or-take}
use Rattle.batch.specs.Rows.{no_entry}
use Rattle.batch.proofs.Rowing.{entries_count}
use Rattle.batch.proofs.rows.Batch.entry.Goals as goal

pub returns : goal.returns
returns c = let b = c.args.self.now in sym (get_or-take b.count b.rows c.args.i no_entry (omega (arith, c.requires, entries_count b)))
