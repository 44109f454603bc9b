-- What is told of a call.
use Rattle.std.specs.Prelude.{ℕ, Ok, Err, Result}
use Rattle.trace.specs.declared.call.TraceCall.{TraceCall}
use Rattle.trace.specs.Calls.{code_of}
use Rattle.listing.specs.declared.answer.Answer.{Answer}
use Rattle.listing.specs.declared.line.Line.{Line}
use Rattle.listing.specs.declared.play_error.PlayError.{PlayError}
use Rattle.listing.specs.Answers.{answer_value}
use Rattle.listing.specs.Errors.{play_number, play_value}

abbrev pub told : TraceCall → Result ℕ PlayError → Line
told call (Ok value) = record { code = code_of call; answer = 0; value = value }
told call (Err e) = record { code = code_of call; answer = play_number e; value = play_value e }

-- an answer by the value that a line gives
abbrev pub by_value : Result Answer PlayError → Result ℕ PlayError
by_value (Ok a) = Ok (answer_value a)
by_value (Err e) = Err e
