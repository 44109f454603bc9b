-- The text of a trace: a line for the mode, the retry layers and the plan, and one a call.
use Rattle.std.specs.Prelude.{◌≡◌, ℕ, zero, suc, ◌+◌, ◌/◌, ◌%◌, ◌≤◌, Bool, true, false, cond, ◌&&◌, List, [], ◌∷◌, ◌++◌, map, length, Ok, Err, codes, Result, ◌==◌, nat_lt}
use Rattle.std.specs.List.{flat_map, list_all}
use Rattle.trace.specs.declared.call.Mode.{Mode}
use Rattle.trace.specs.declared.call.Mode.TheVariants.{Overlap, Line, Journaled}
use Rattle.trace.specs.declared.call.TraceCall.{TraceCall}
use Rattle.trace.specs.declared.call.TraceCall.TheVariants.{Begin, Finish, Withdraw, Read, Step, Seal, Restart, Cut}
use Rattle.trace.specs.Calls.{number_of, fill_of}
use Rattle.trace.specs.declared.trace.Trace.{Trace as CodeTrace}
use Rattle.trace.specs.Format.{Trace, all_entries}
use Rattle.trace.specs.Traces.{trace_of}
use Rattle.assembly.specs.declared.mistake.AssemblyError.{AssemblyError}
use Rattle.assembly.specs.declared.mistake.AssemblyError.TheVariants as assembly_error

-- a number in base ten, with at most k digits
abbrev pub digits : ℕ → ℕ → List ℕ
digits zero n = []
digits (suc k) n = cond (nat_lt n 10) ((48 + n) ∷ []) (digits k (n / 10) ++ (48 + n % 10) ∷ [])

-- a number of two bytes has at most five digits
abbrev pub decimal : ℕ → List ℕ
decimal n = digits 5 n

abbrev pub mode_line : Mode → List ℕ
mode_line Overlap = codes "mode overlap"
mode_line Line = codes "mode line"
mode_line Journaled = codes "mode journaled"

abbrev pub retry_line : Bool → List ℕ
retry_line false = codes "retry 0"
retry_line true = codes "retry 1"

abbrev pub entry_name : ℕ → List ℕ
entry_name b = cond (b == 0) (codes "good") (codes "bad")

abbrev pub plan_line : List ℕ → List ℕ
plan_line plan = codes "plan" ++ flat_map (λ b. 32 ∷ entry_name b) plan

abbrev pub call_line : TraceCall → List ℕ
call_line (Begin place fill) = codes "begin " ++ (decimal place ++ (codes " fill " ++ decimal fill))
call_line (Finish ticket) = codes "finish " ++ decimal ticket
call_line (Withdraw ticket) = codes "withdraw " ++ decimal ticket
call_line (Read place) = codes "read " ++ decimal place
call_line Step = codes "step"
call_line Seal = codes "seal"
call_line (Restart choice) = codes "restart " ++ decimal choice
call_line (Cut choice) = codes "cut " ++ decimal choice

abbrev pub line_by_line : List (List ℕ) → List ℕ
line_by_line ls = flat_map (λ l. l ++ 10 ∷ []) ls

abbrev pub text_of : Trace → List ℕ
text_of t = line_by_line (mode_line t.mode ∷ (retry_line t.retry ∷ (plan_line t.plan ∷ map call_line t.calls)))

-- a call whose number has two bytes and whose fill has one
abbrev pub fits : TraceCall → Bool
fits call = nat_lt (number_of call) 65536 && nat_lt (fill_of call) 256

abbrev pub all_fit : List TraceCall → Bool
all_fit cs = list_all fits cs

-- a trace that fits its format
pub record WellFormed (t : Trace) : Type 0 where
  pub short : length t.plan ≤ 256
  pub entries : all_entries t.plan ≡ true
  pub few : length t.calls ≤ 1000
  pub fitting : all_fit t.calls ≡ true

-- the answer is this trace, but for want of memory
abbrev pub Gives : Trace → Result CodeTrace AssemblyError → Type 0
Gives t (Ok u) = trace_of u ≡ t
Gives t (Err assembly_error.TooLong) = ⊥
Gives t (Err (assembly_error.Line line mistake)) = ⊥
Gives t (Err assembly_error.NoMemory) = Unit {0}

-- the text of a trace is assembled to it
abbrev pub ReadsBack : List ℕ → Result CodeTrace AssemblyError → Type 0
ReadsBack text r = (t : Trace) → WellFormed t → text ≡ text_of t → Gives t r
