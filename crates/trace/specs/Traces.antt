-- A trace in code as the format has it, and what its decoder promises.
use Rattle.std.specs.Prelude.{◌≡◌, ℕ, Some, None, Ok, Err, vec_items, Option, Result}
use Rattle.trace.specs.declared.trace.Trace.{Trace}
use Rattle.trace.specs.declared.decoding.DecodeError.{DecodeError}
use Rattle.trace.specs.declared.decoding.DecodeError.TheVariants.{Malformed, NoMemory}
use Rattle.trace.specs.Format as format

abbrev pub trace_of : Trace → format.Trace
trace_of t = record { mode = t.mode; retry = t.retry; plan = vec_items t.plan; calls = vec_items t.calls }

-- what the input holds was found, or it holds nothing; of want of memory nothing is said
abbrev pub Finds : {A B : Type 0} → (A → B) → Option B → Result A DecodeError → Type 0
Finds f held (Ok x) = held ≡ Some (f x)
Finds f held (Err Malformed) = held ≡ None
Finds f held (Err NoMemory) = Unit {0}

-- the number of a refusal; want of memory has none
abbrev pub refusal_number : DecodeError → Option ℕ
refusal_number Malformed = Some 14
refusal_number NoMemory = None
