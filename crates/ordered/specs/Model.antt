-- A live cache as a state of the model, and its answers as answers of the model.
use Rattle.std.specs.Prelude.{ℕ, List, Some, None, Ok, Err, Option, Result, slice_index_or}
use Rattle.disk.specs.Medium.{Write, Medium, Effect}
use Rattle.errors.specs.declared.CacheError.{CacheError}
use Rattle.errors.specs.declared.Progress.{Progress}
use Rattle.errors.specs.Errors.{progress_number}
use Rattle.precedence.specs.Stamps.{Precedence}
use Rattle.table.specs.declared.scan.Candidate.{Candidate}
use Rattle.table.specs.Rows.{Row, stamp_of, bytes_of}
use Rattle.table.specs.Scans.{lowest_ready}
use Rattle.ordered_law.specs.Device.{Device}
use Rattle.ordered_law.specs.Events.{Answer, took, refused}
use Rattle.ordered_law.specs.Cache.{Cache, Outcome}
use Rattle.ordered.specs.declared.live.Live.{Live}

-- what a live cache means, by what its disk means
abbrev pub model : {D P : Type 0} → (D → Medium) → Live D P → Cache
model medium c = record { medium = medium c.disk; rows = c.table.rows; counter = c.counter; counts = c.counts }

-- an answer, and the cache that it leaves
abbrev pub gives : Answer → Cache → Outcome
gives a c = record { answer = a; cache = c }

-- ---- answers

-- of a begin or a finish: the mark
abbrev pub marked : Result ℕ CacheError → Answer
marked (Ok n) = took n
marked (Err e) = refused e

abbrev pub accepted : Result (Unit {0}) CacheError → Answer
accepted (Ok u) = took 0
accepted (Err e) = refused e

abbrev pub stepped : Result Progress CacheError → Answer
stepped (Ok p) = took (progress_number p)
stepped (Err e) = refused e

-- ---- the disk that a call meets

-- the write that a row asks for
abbrev pub write_in : Row → Write
write_in row = record { place = (stamp_of row).place; bytes = bytes_of row }

abbrev pub asked_write : List Row → Option Candidate → Write
asked_write rows None = write_in None
asked_write rows (Some n) = write_in (slice_index_or rows n.row None)

-- the disk's rule at the write that the next step asks for
abbrev pub device : {D P : Type 0} → (D → Write → Effect) → ℕ → (P → Precedence) → Live D P → Device
device rule tries before c = record { rule = rule c.disk (asked_write c.table.rows (lowest_ready (before c.order) c.table.rows)); tries = tries }
