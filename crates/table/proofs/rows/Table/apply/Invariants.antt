use Rattle.std.proofs.Common.{◌≡◌, ◌++◌, map, length, take, drop}
use Rattle.table.specs.Rows.{changed}
use Rattle.table.proofs.rows.Table.apply.Given as goal

-- the rows before the index have changed
abbrev pub invariant-loop-row : goal.invariant-loop-row
invariant-loop-row l = (length l.row-items ≡ 32) × (l.row-items ≡ map (changed l.change) (take l.row-index l.fn.self.rows) ++ drop l.row-index l.fn.self.rows)
