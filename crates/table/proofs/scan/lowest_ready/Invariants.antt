use Rattle.std.proofs.Common.{◌≡◌, drop}
use Rattle.table.specs.Versions.{some_pass, ready}
use Rattle.table.specs.Rows.{in_rows}
use Rattle.table.specs.Scans.{lower_of, best_from, lowest_ready}
use Rattle.table.proofs.Scanning.{before}
use Rattle.table.proofs.scan.lowest_ready.Given as goal

-- the candidates from here on, and the best so far, give what all candidates give
abbrev pub invariant-candidates : goal.invariant-candidates
invariant-candidates g l =
    let precedes = g.P.Precedence.before l.order in
    best_from lower_of (ready precedes (in_rows l.table.rows)) l.row (drop l.row l.table.rows) l.best ≡ lowest_ready precedes l.table.rows

-- the rows from here on hold a write that precedes the candidate just if the table does
abbrev pub invariant-loop-other : goal.invariant-loop-other
invariant-loop-other g l =
    let stops = before (g.P.Precedence.before l.order) l.v in
    some_pass stops (in_rows (drop l.other-index l.table.rows)) ≡ some_pass stops (in_rows l.table.rows)
