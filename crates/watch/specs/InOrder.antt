-- The ordered cache's rows, followed by the calls that it accepted and their answers alone.
use Rattle.std.specs.Prelude.{ℕ, cond, List, replicate, Some, None, Option, ◌==◌, slice_index_or}
use Rattle.precedence.specs.Stamps.{Precedence}
use Rattle.table.specs.declared.scan.Candidate.{Candidate}
use Rattle.table.specs.Versions.{room, begun, finish_one, withdraw_one, bring_home, wait_again}
use Rattle.table.specs.Rows.{Row, in_rows, no_rows, stamp_of, put, change, leave, mark_sent}
use Rattle.table.specs.Scans.{lowest_ready}
use Rattle.trace.specs.declared.call.TraceCall.{TraceCall}
use Rattle.trace.specs.declared.call.TraceCall.TheVariants as call
use Rattle.narration.specs.declared.deed.Deed.{Deed}
use Rattle.narration.specs.declared.deed.Deed.TheVariants as deed

-- the precedence that the cache keeps, and its rows
pub record Followed (P : Type 0) : Type 0 where
  pub order : P
  pub rows : List Row

abbrev pub with_rows : {P : Type 0} → Followed P → List Row → Followed P
with_rows f rows = record { order = f.order; rows = rows }

-- one more open write, if there is room
abbrev pub begun_rows : ℕ → ℕ → ℕ → List Row → List Row
begun_rows place fill mark rows = cond (room (in_rows rows)) (put (begun place (replicate 512 fill) mark) rows) rows

-- a step that wrote sent the ready write of lowest begin mark
abbrev pub sent_rows : Option Candidate → List Row → List Row
sent_rows None rows = rows
sent_rows (Some n) rows = mark_sent rows n.row

abbrev pub written_place : Option Candidate → List Row → Option Deed
written_place None rows = None
written_place (Some n) rows = Some (deed.Place (stamp_of (slice_index_or rows n.row None)).place)

-- the rows after a step, by its answer: 1 written, 2 flushed, else nothing was done
abbrev pub stepped_rows : Precedence → ℕ → List Row → List Row
stepped_rows precedes value rows =
    cond (value == 1) (sent_rows (lowest_ready precedes rows) rows)
    (cond (value == 2) (leave (change bring_home rows)) rows)

abbrev pub stepped_deed : Precedence → ℕ → List Row → Option Deed
stepped_deed precedes value rows = cond (value == 1) (written_place (lowest_ready precedes rows) rows) None

-- the rows after an accepted call with this answer
abbrev pub rows_after : Precedence → TraceCall → ℕ → List Row → List Row
rows_after precedes (call.Begin place fill) value rows = begun_rows place fill value rows
rows_after precedes (call.Finish ticket) value rows = change (finish_one ticket value) rows
rows_after precedes (call.Withdraw ticket) value rows = leave (change (withdraw_one ticket) rows)
rows_after precedes (call.Read place) value rows = rows
rows_after precedes call.Step value rows = stepped_rows precedes value rows
rows_after precedes call.Seal value rows = rows
rows_after precedes (call.Restart choice) value rows = change wait_again rows
rows_after precedes (call.Cut choice) value rows = no_rows

-- what it wrote, if it wrote
abbrev pub deed_in_order : Precedence → TraceCall → ℕ → List Row → Option Deed
deed_in_order precedes (call.Begin place fill) value rows = None
deed_in_order precedes (call.Finish ticket) value rows = None
deed_in_order precedes (call.Withdraw ticket) value rows = None
deed_in_order precedes (call.Read place) value rows = None
deed_in_order precedes call.Step value rows = stepped_deed precedes value rows
deed_in_order precedes call.Seal value rows = None
deed_in_order precedes (call.Restart choice) value rows = None
deed_in_order precedes (call.Cut choice) value rows = None
