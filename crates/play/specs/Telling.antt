-- What each call of a list comes to, and its line.
use Rattle.std.specs.Prelude.{List, [], ◌∷◌, Result}
use Rattle.trace.specs.declared.call.TraceCall.{TraceCall}
use Rattle.listing.specs.declared.answer.Answer.{Answer}
use Rattle.listing.specs.declared.line.Line.{Line}
use Rattle.listing.specs.declared.play_error.PlayError.{PlayError}
use Rattle.listing.specs.Lines.{told, by_value}

-- a call's answer, and the cache that it leaves
pub record Played (S : Type 0) : Type 0 where
  pub answer : Result Answer PlayError
  pub left : S

abbrev pub answered : {S : Type 0} → Result Answer PlayError → S → Played S
answered r s = record { answer = r; left = s }

-- a line for each call, by what a call comes to
abbrev pub lines_by : {S : Type 0} → (TraceCall → S → Played S) → S → List TraceCall → List Line
lines_by played s [] = []
lines_by played s (call ∷ calls) = told call (by_value (played call s).answer) ∷ lines_by played (played call s).left calls
