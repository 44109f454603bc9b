-- The calls of a trace, played on the journaled cache over a disk whose writes join.
use Rattle.std.specs.Prelude.{ℕ, zero, suc, Bool, true, false, cond, List, length, replicate, Some, None, Ok, Err, Option, Result, slice_index}
use Rattle.disk.specs.Medium.{Medium, join, cut}
use Rattle.errors.specs.declared.VolumeError.{VolumeError}
use Rattle.errors.specs.declared.VolumeError.TheVariants as volume
use Rattle.journal_law.specs.Device.{Device}
use Rattle.journal_law.specs.Recovery.{home_blocks, Stage, first_flush, read_head, read_slot, write_home, home_flush, write_empty, last_flush, recovered, no_head, failed, Recovery, started, calls, formatted}
use Rattle.journal_law.specs.Cache as cache
use Rattle.journal_law.specs.Cache.{Live, Outcome, outcome, opened}
use Rattle.trace.specs.declared.call.TraceCall.{TraceCall}
use Rattle.trace.specs.declared.call.TraceCall.TheVariants as trace
use Rattle.trace.specs.Calls.{cut_choice}
use Rattle.listing.specs.declared.answer.Answer.{Answer}
use Rattle.listing.specs.declared.answer.Answer.TheVariants.{FirstByte, Recovered as RecoveredAs}
use Rattle.listing.specs.declared.line.Line.{Line}
use Rattle.listing.specs.declared.play_error.PlayError.{PlayError}
use Rattle.listing.specs.declared.play_error.PlayError.TheVariants.{Cache as Refused}
use Rattle.listing.specs.Answers.{numbered}
use Rattle.play.specs.Telling.{Played, answered, lines_by}

-- ---- format and recovery, each repeated until accepted

-- A try is repeated as long as it meets a fault. Each that does takes an entry off the plan, so as many tries as the
-- plan has entries, and one more, are enough.
abbrev pub repeated : {A : Type 0} → (Medium → Bool) → (Medium → Medium) → (Medium → A) → ℕ → Medium → A
repeated faulted next result zero m = result m
repeated faulted next result (suc more) m = cond (faulted m) (repeated faulted next result more (next m)) (result m)

abbrev pub is_fault : Result (Unit {0}) VolumeError → Bool
is_fault (Ok u) = false
is_fault (Err (volume.Disk e)) = true
is_fault (Err volume.NoHead) = false
is_fault (Err volume.TooSmall) = false

abbrev pub format_faults : ℕ → Medium → Bool
format_faults tries m = is_fault (formatted tries join m).answer

abbrev pub format_leaves : ℕ → Medium → Medium
format_leaves tries m = (formatted tries join m).medium

abbrev pub formatted_until : ℕ → Medium → Medium
formatted_until tries m = repeated (format_faults tries) (format_leaves tries) (format_leaves tries) (length m.plan) m

-- a recovery over a disk whose writes join, which ends within 21 disk calls
abbrev pub recovery : Medium → Recovery
recovery m = calls (home_blocks m) (replicate 21 join) (started m)

abbrev pub is_broken : Stage → Bool
is_broken (failed kind place) = true
is_broken (recovered k) = false
is_broken no_head = false
is_broken first_flush = false
is_broken read_head = false
is_broken (read_slot i h) = false
is_broken (write_home i h bytes) = false
is_broken (home_flush h) = false
is_broken (write_empty h) = false
is_broken (last_flush h) = false

abbrev pub number_in : Stage → ℕ
number_in (recovered k) = k
number_in (failed kind place) = 0
number_in no_head = 0
number_in first_flush = 0
number_in read_head = 0
number_in (read_slot i h) = 0
number_in (write_home i h bytes) = 0
number_in (home_flush h) = 0
number_in (write_empty h) = 0
number_in (last_flush h) = 0

-- the number that a recovery answered, and the medium that it left
pub record Recovered : Type 0 where
  pub number : ℕ
  pub medium : Medium

abbrev pub recovered_from : Medium → Recovered
recovered_from m = record { number = number_in (recovery m).stage; medium = (recovery m).medium }

abbrev pub recovery_breaks : Medium → Bool
recovery_breaks m = is_broken (recovery m).stage

abbrev pub recovery_leaves : Medium → Medium
recovery_leaves m = (recovery m).medium

abbrev pub recovered_until : Medium → Recovered
recovered_until m = repeated recovery_breaks recovery_leaves recovered_from (length m.plan) m

-- a cache over a volume that was recovered
abbrev pub live_from : Recovered → Live
live_from r = opened (home_blocks r.medium) r.number r.medium

-- ---- calls

-- what is told of a call's answer: a number as the call has it, and the first byte of a block
abbrev pub value_of : TraceCall → cache.Answer → Result Answer PlayError
value_of call (cache.accepted n) = Ok (numbered call n)
value_of call (cache.shown block) = Ok (FirstByte (slice_index block 0))
value_of call (cache.refused e) = Err (Refused e)

abbrev pub valued : TraceCall → Outcome → Played Live
valued call o = answered (value_of call o.answer) o.live

-- a call on the cache; a begin writes a block of fill bytes
abbrev pub called : Device → TraceCall → Live → Played Live
called device (trace.Begin place fill) v = valued (trace.Begin place fill) (outcome device v (cache.begin place (replicate 512 fill)))
called device (trace.Finish ticket) v = valued (trace.Finish ticket) (outcome device v (cache.finish ticket))
called device (trace.Withdraw ticket) v = valued (trace.Withdraw ticket) (outcome device v (cache.withdraw ticket))
called device (trace.Read place) v = valued (trace.Read place) (outcome device v (cache.read place 512))
called device trace.Step v = valued trace.Step (outcome device v cache.step)
called device trace.Seal v = valued trace.Seal (outcome device v cache.seal)
called device (trace.Restart choice) v = valued (trace.Restart choice) (outcome device v (cache.restart choice))
called device (trace.Cut choice) v = answered (Ok (numbered (trace.Cut choice) 0)) v

-- a cut ends the cache: its volume is recovered, and the number recovered is what is told
abbrev pub after_cut : Recovered → Played Live
after_cut r = answered (Ok (RecoveredAs r.number)) (live_from r)

abbrev pub cut_by : Option ℕ → Played Live → Played Live
cut_by None p = p
cut_by (Some choice) p = after_cut (recovered_until (cut choice p.left.medium))

abbrev pub played : Device → TraceCall → Live → Played Live
played device call v = cut_by (cut_choice call) (called device call v)

-- a line for each call
abbrev pub lines_from : Device → Live → List TraceCall → List Line
lines_from device v calls = lines_by (played device) v calls

-- the lines of a whole play over a disk that is formatted and recovered first
abbrev pub journal_lines : ℕ → Medium → List TraceCall → List Line
journal_lines tries m calls =
    lines_from (record { effect = join; tries = tries }) (live_from (recovered_until (formatted_until tries m))) calls
