-- A trace that grows by entries of its plan and by calls.
use Rattle.std.specs.Prelude.{◌≡◌, ℕ, ◌<◌, Bool, [], ◌∷◌, ◌++◌, length, Ok, Err, Result}
use Rattle.trace.specs.declared.call.Mode.{Mode}
use Rattle.trace.specs.declared.call.TraceCall.{TraceCall}
use Rattle.trace.specs.declared.building.GrowError.{GrowError}
use Rattle.trace.specs.declared.building.GrowError.TheVariants.{Full, NoMemory}
use Rattle.trace.specs.Calls.{flag_byte}
use Rattle.trace.specs.Format.{Trace}

abbrev pub bare : Mode → Bool → Trace
bare mode retry = record { mode = mode; retry = retry; plan = []; calls = [] }

-- one more entry of the plan, bad or good
abbrev pub with_entry : Bool → Trace → Trace
with_entry bad t = record { mode = t.mode; retry = t.retry; plan = t.plan ++ flag_byte bad ∷ []; calls = t.calls }

abbrev pub with_call : TraceCall → Trace → Trace
with_call call t = record { mode = t.mode; retry = t.retry; plan = t.plan; calls = t.calls ++ call ∷ [] }

abbrev pub entries_in : Trace → ℕ
entries_in t = length t.plan

abbrev pub calls_in : Trace → ℕ
calls_in t = length t.calls

-- a trace with room grows by a change; one that holds as many as it may stays as it was, and so does one for want of memory
abbrev pub Grows : (Trace → ℕ) → ℕ → (Trace → Trace) → Trace → Result (Unit {0}) GrowError → Trace → Type 0
Grows held most change before (Ok u) after = (held before < most) × (after ≡ change before)
Grows held most change before (Err Full) after = (held before ≡ most) × (after ≡ before)
Grows held most change before (Err NoMemory) after = after ≡ before
