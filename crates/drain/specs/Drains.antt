-- A full table, drained in rounds.
use Rattle.std.specs.Prelude.{ℕ, ◌+◌, ◌-◌, ◌*◌, ◌/◌, ◌%◌, Bool, cond, ◌&&◌, List, [], map, length, filter, ◌==◌, nat_lt}
use Rattle.std.specs.List.{range_with_len}
use Rattle.trace.specs.declared.call.Mode.{Mode}
use Rattle.trace.specs.declared.call.TraceCall.{TraceCall}
use Rattle.trace.specs.declared.call.TraceCall.TheVariants.{Begin, Finish, Step}
use Rattle.listing.specs.declared.line.Line.{Line}
use Rattle.play.specs.Plays.{blank_disk, mode_lines}

-- A round has 128 calls: 32 begins, at places 0 to 31, then the finishes of these writes, then 64 steps. A round takes 64
-- marks, so the tickets of round k are 64 * k + 1 to 64 * k + 32.
abbrev pub turn_call : ℕ → ℕ → TraceCall
turn_call round turn =
    cond (nat_lt turn 32) (Begin turn 3)
    (cond (nat_lt turn 64) (Finish (64 * round + (turn - 31))) Step)

abbrev pub drain_call : ℕ → TraceCall
drain_call i = turn_call (i / 128) (i % 128)

abbrev pub drain_calls : ℕ → List TraceCall
drain_calls rounds = map drain_call (range_with_len 0 (128 * rounds))

-- a step that wrote
abbrev pub is_written : Line → Bool
is_written l = l.code == 5 && (l.answer == 0 && l.value == 1)

-- how many writes the rounds sent to the disk
abbrev pub drained : Mode → ℕ → ℕ
drained mode rounds = length (filter is_written (mode_lines mode 1 (blank_disk []) (drain_calls rounds)))
