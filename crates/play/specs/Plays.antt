-- The lines of a trace.
use Rattle.std.specs.Prelude.{ℕ, Bool, true, false, List, [], ◌∷◌, replicate, Some, None, Option}
use Rattle.disk.specs.Medium.{Medium, join}
use Rattle.memdisk.specs.Making.{fresh}
use Rattle.retry.specs.Retried.{retry_medium, tripled}
use Rattle.precedence.specs.Stamps.{overlap, line}
use Rattle.trace.specs.declared.call.Mode.{Mode}
use Rattle.trace.specs.declared.call.Mode.TheVariants.{Overlap, Line, Journaled}
use Rattle.trace.specs.declared.call.TraceCall.{TraceCall}
use Rattle.trace.specs.Format.{Trace, decode}
use Rattle.listing.specs.declared.line.Line.{Line as ListingLine}
use Rattle.listing.specs.Text.{listing}
use Rattle.play.specs.InOrder.{ordered_lines}
use Rattle.play.specs.InJournal.{journal_lines}

-- a held disk of 64 zero blocks with the trace's plan
abbrev pub blank_disk : List ℕ → Medium
blank_disk plan = fresh (replicate 32768 0) plan

-- under a retry layer, or not
abbrev pub layered : Bool → Medium → Medium
layered true m = retry_medium m
layered false m = m

abbrev pub layered_tries : Bool → ℕ
layered_tries true = tripled 1
layered_tries false = 1

abbrev pub mode_lines : Mode → ℕ → Medium → List TraceCall → List ListingLine
mode_lines Overlap tries m calls = ordered_lines overlap (record { rule = join; tries = tries }) m calls
mode_lines Line tries m calls = ordered_lines line (record { rule = join; tries = tries }) m calls
mode_lines Journaled tries m calls = journal_lines tries m calls

-- the lines that the definitions of disk, volume and cache give for a trace
abbrev pub trace_lines : Trace → List ListingLine
trace_lines t = mode_lines t.mode (layered_tries t.retry) (layered t.retry (blank_disk t.plan)) t.calls

-- an input that is no trace gives the line 14 alone
abbrev pub output_of : Option Trace → List ℕ
output_of None = 49 ∷ (52 ∷ (10 ∷ []))
output_of (Some t) = listing (trace_lines t)

-- what the player writes for an input
abbrev pub output_for : List ℕ → List ℕ
output_for input = output_of (decode input)
