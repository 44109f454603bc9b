use Rattle.std.proofs.Common.{◌≡◌, map, take}
use Rattle.batch.specs.Rows.{entries, place_in}
use Rattle.batch.proofs.rows.Batch.places.Given as goal

-- the places of the first rows
abbrev pub invariant-loop-entry : goal.invariant-loop-entry
invariant-loop-entry l = l.places.items ≡ map place_in (take l.entry-index (entries l.self))
