-- What the accepted calls of a trace answer.
use Rattle.std.specs.Prelude.{ℕ, cond, ◌==◌}
use Rattle.errors.specs.declared.Progress.{Progress}
use Rattle.errors.specs.declared.Progress.TheVariants as progress
use Rattle.errors.specs.Errors.{progress_number}
use Rattle.trace.specs.declared.call.TraceCall.{TraceCall}
use Rattle.trace.specs.declared.call.TraceCall.TheVariants as call
use Rattle.listing.specs.declared.answer.Answer.{Answer}
use Rattle.listing.specs.declared.answer.Answer.TheVariants.{Ticket, Mark, Withdrawn, FirstByte, Step, Group, Restarted, Opened, Recovered}

-- the value that a line gives: a ticket, a mark, a number or a step's number as it is, and the first byte of a block
abbrev pub answer_value : Answer → ℕ
answer_value (Ticket n) = n
answer_value (Mark n) = n
answer_value Withdrawn = 0
answer_value (FirstByte byte) = byte
answer_value (Step p) = progress_number p
answer_value (Group n) = n
answer_value Restarted = 0
answer_value Opened = 0
answer_value (Recovered n) = n

-- what a step did, by its number
abbrev pub progress_of : ℕ → Progress
progress_of n = cond (n == 0) progress.Idle (cond (n == 1) progress.Written (cond (n == 2) progress.Flushed progress.Blocked))

-- what a cache's number for an accepted call means
abbrev pub numbered : TraceCall → ℕ → Answer
numbered (call.Begin place fill) n = Ticket n
numbered (call.Finish ticket) n = Mark n
numbered (call.Withdraw ticket) n = Withdrawn
numbered (call.Read place) n = FirstByte n
numbered call.Step n = Step (progress_of n)
numbered call.Seal n = Group n
numbered (call.Restart choice) n = Restarted
numbered (call.Cut choice) n = Opened
