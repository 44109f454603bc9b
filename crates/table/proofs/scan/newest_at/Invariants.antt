use Rattle.std.proofs.Common.{◌≡◌, drop}
use Rattle.table.specs.Versions.{finished_in}
use Rattle.table.specs.Scans.{higher_of, best_from, newest_at}
use Rattle.table.proofs.scan.newest_at.Given as goal

-- the rows from here on, and the best so far, give what all give
abbrev pub invariant-loop-row : goal.invariant-loop-row
invariant-loop-row l = best_from higher_of (finished_in l.place) l.row (drop l.row l.table.rows) l.best ≡ newest_at l.place l.table.rows
