-- The trace that a text describes, line by line.
use Rattle.std.specs.Prelude.{◌≡◌, ℕ, ◌+◌, false, cond, List, [], ◌∷◌, length, Some, Ok, Err, vec_items, Result, Vec, nat_le}
use Rattle.std.specs.declared.alloc.Global.{Global}
use Rattle.trace.specs.declared.call.Mode.TheVariants.{Overlap}
use Rattle.trace.specs.declared.trace.Trace.{Trace as CodeTrace}
use Rattle.trace.specs.Building.{bare}
use Rattle.trace.specs.Format.{Trace, encode, decode}
use Rattle.trace.specs.Traces.{trace_of}
use Rattle.assembly.specs.declared.mistake.Mistake.{Mistake}
use Rattle.assembly.specs.declared.mistake.LineError.{LineError}
use Rattle.assembly.specs.declared.mistake.LineError.TheVariants as line_error
use Rattle.assembly.specs.declared.mistake.AssemblyError.{AssemblyError}
use Rattle.assembly.specs.declared.mistake.AssemblyError.TheVariants.{TooLong, Line, NoMemory}
use Rattle.assembly.specs.Words.{lines, words}
use Rattle.assembly.specs.Statements.{stated, uncommented}

-- on with the trace, or the mistake with its line
abbrev pub at_line : ℕ → (Trace → Result Trace AssemblyError) → Result Trace Mistake → Result Trace AssemblyError
at_line line next (Ok t) = next t
at_line line next (Err mistake) = Err (Line line mistake)

-- the lines from a number on, each done to the trace that those before it left
abbrev pub from_line : ℕ → List (List ℕ) → Trace → Result Trace AssemblyError
from_line line [] t = Ok t
from_line line (l ∷ ls) t = at_line line (from_line (line + 1) ls) (stated (words (uncommented l)) t)

-- an overlap trace with no retry layer, no plan and no call to begin with
abbrev pub assembled : List ℕ → Result Trace AssemblyError
assembled text = cond (nat_le (length text) 1048576) (from_line 1 (lines text) (bare Overlap false)) (Err TooLong)

abbrev pub located_at : ℕ → LineError → AssemblyError
located_at line (line_error.Mistake mistake) = Line line mistake
located_at line line_error.NoMemory = NoMemory

-- the error is the expected one; of want of memory nothing is said
abbrev pub Fails : Result Trace AssemblyError → AssemblyError → Type 0
Fails expected TooLong = expected ≡ Err TooLong
Fails expected (Line line mistake) = expected ≡ Err (Line line mistake)
Fails expected NoMemory = Unit {0}

abbrev pub Assembles : Result Trace AssemblyError → Result CodeTrace AssemblyError → Type 0
Assembles expected (Ok t) = expected ≡ Ok (trace_of t)
Assembles expected (Err error) = Fails expected error

-- the bytes are the encoding of the expected trace, and are decoded to it
pub record Encodes (expected : Result Trace AssemblyError) (bytes : List ℕ) : Type 0 where
  pub trace : Trace
  pub described : expected ≡ Ok trace
  pub encoded : bytes ≡ encode trace
  pub decoded : decode bytes ≡ Some trace

abbrev pub Writes : Result Trace AssemblyError → Result (Vec ℕ Global) AssemblyError → Type 0
Writes expected (Ok bytes) = Encodes expected (vec_items bytes)
Writes expected (Err error) = Fails expected error
