-- The grant that a step issues and settles.
use Rattle.std.specs.Prelude.{ℕ, List, Some, None, Ok, Err, Option, Result, slice_index_or}
use Rattle.disk.specs.Calls as calls
use Rattle.disk.specs.Medium.{Write}
use Rattle.errors.specs.declared.CacheCall.TheVariants as during
use Rattle.errors.specs.declared.CacheError.{CacheError}
use Rattle.errors.specs.Errors.{during_call}
use Rattle.table.specs.declared.scan.Candidate.{Candidate}
use Rattle.ordered.specs.declared.live.Grant.{Grant}
use Rattle.errors.specs.declared.Progress.{Progress}
use Rattle.ordered.specs.Model.{write_in}
use Rattle.table.specs.Rows.{Row}

-- the row to write back, and its write
pub record Job : Type 0 where
  pub row : ℕ
  pub write : Write

abbrev pub job : Grant → Job
job g = record { row = g.row; write = record { place = g.place; bytes = g.bytes } }

abbrev pub jobs : List Row → Option Candidate → Option Job
jobs rows None = None
jobs rows (Some n) = Some (record { row = n.row; write = write_in (slice_index_or rows n.row None) })

-- a disk's answer as the answer of a step
abbrev pub handed_up : Progress → calls.Answer → Result Progress CacheError
handed_up good (Ok u) = Ok good
handed_up good (Err e) = Err (during_call during.Step e)
