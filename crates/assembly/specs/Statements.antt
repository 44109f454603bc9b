-- What each line of a text does to the trace.
use Rattle.std.specs.Prelude.{◌≡◌, ℕ, Bool, cond, List, [], ◌∷◌, length, take, Some, None, Ok, Err, Option, Result, nat_lt}
use Rattle.trace.specs.declared.call.Mode.{Mode}
use Rattle.trace.specs.declared.call.TraceCall.{TraceCall}
use Rattle.trace.specs.declared.building.GrowError.{GrowError}
use Rattle.trace.specs.declared.building.GrowError.TheVariants.{Full, NoMemory}
use Rattle.trace.specs.Building.{with_entry, with_call}
use Rattle.trace.specs.Format.{Trace}
use Rattle.assembly.specs.declared.keywords.Keyword.{Keyword}
use Rattle.assembly.specs.declared.keywords.Keyword.TheVariants as keyword
use Rattle.assembly.specs.declared.mistake.Mistake.{Mistake}
use Rattle.assembly.specs.declared.mistake.Mistake.TheVariants.{UnknownWord, Arguments, PlanFull, CallsFull}
use Rattle.assembly.specs.declared.mistake.LineError.{LineError}
use Rattle.assembly.specs.declared.mistake.LineError.TheVariants as line_error
use Rattle.assembly.specs.Words.{is_comment, first_at}
use Rattle.assembly.specs.Keywords.{entry_of, keyword_of}
use Rattle.assembly.specs.Arguments.{mode_in, retry_in, call_in}

abbrev pub or_mistake : {A : Type 0} → Option A → Mistake → (A → Result Trace Mistake) → Result Trace Mistake
or_mistake None mistake f = Err mistake
or_mistake (Some x) mistake f = f x

abbrev pub with_mode : Mode → Trace → Trace
with_mode mode t = record { mode = mode; retry = t.retry; plan = t.plan; calls = t.calls }

abbrev pub with_retry : Bool → Trace → Trace
with_retry retry t = record { mode = t.mode; retry = retry; plan = t.plan; calls = t.calls }

-- why a call of the trace's refused, with the mistake where the trace is full
abbrev pub refusal_of : GrowError → Mistake → LineError
refusal_of Full mistake = line_error.Mistake mistake
refusal_of NoMemory mistake = line_error.NoMemory

-- entries go to the end of the plan
abbrev pub entered : List (List ℕ) → Trace → Result Trace Mistake
entered [] t = Ok t
entered (w ∷ ws) t =
    or_mistake (entry_of w) Arguments (λ bad.
    cond (nat_lt (length t.plan) 256) (entered ws (with_entry bad t)) (Err PlanFull))

-- a call goes to the end of the list
abbrev pub called : TraceCall → Trace → Result Trace Mistake
called call t = cond (nat_lt (length t.calls) 1000) (Ok (with_call call t)) (Err CallsFull)

-- a statement by its first word
abbrev pub obeyed : Keyword → List (List ℕ) → Trace → Result Trace Mistake
obeyed keyword.Mode ws t = or_mistake (mode_in ws) Arguments (λ mode. Ok (with_mode mode t))
obeyed keyword.Retry ws t = or_mistake (retry_in ws) Arguments (λ retry. Ok (with_retry retry t))
obeyed keyword.Plan ws t = entered ws t
obeyed (keyword.Call word) ws t = or_mistake (call_in word ws) Arguments (λ call. called call t)

-- a line with no word says nothing
abbrev pub stated : List (List ℕ) → Trace → Result Trace Mistake
stated [] t = Ok t
stated (w ∷ ws) t = or_mistake (keyword_of w) UnknownWord (λ keyword. obeyed keyword ws t)

-- a line up to its comment
abbrev pub uncommented : List ℕ → List ℕ
uncommented line = take (first_at is_comment line) line

-- the trace came to what is expected, or the mistake is the expected one; of want of memory nothing is said
abbrev pub Comes : Result Trace Mistake → Result (Unit {0}) LineError → Trace → Type 0
Comes expected (Ok u) t = expected ≡ Ok t
Comes expected (Err (line_error.Mistake mistake)) t = expected ≡ Err mistake
Comes expected (Err line_error.NoMemory) t = Unit {0}
