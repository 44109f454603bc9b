-- The format of a trace: options, a plan and a list of calls, each section after its count.
use Rattle.std.specs.Prelude.{ℕ, ◌+◌, ◌*◌, Bool, cond, ◌&&◌, ◌||◌, List, [], ◌∷◌, ◌++◌, length, take, drop, Some, None, Option, ◌==◌, nat_le, slice_index}
use Rattle.std.specs.List.{flat_map, list_all}
use Rattle.std.specs.Option.{option_and_then}
use Rattle.trace.specs.declared.call.Mode.{Mode}
use Rattle.trace.specs.declared.call.TraceCall.{TraceCall}
use Rattle.trace.specs.Calls.{mode_byte, mode_of, flag_byte, flag_of, two_bytes, call_bytes, call_of}

-- what a trace says; of the plan's bytes 0 is a good call of the disk, and 1 a bad one
pub record Trace : Type 0 where
  pub mode : Mode
  pub retry : Bool
  pub plan : List ℕ
  pub calls : List TraceCall

-- the options after their count, the plan after its own, and the calls after theirs
abbrev pub encode : Trace → List ℕ
encode t =
    2 ∷ (mode_byte t.mode ∷ (flag_byte t.retry ∷
    two_bytes (length t.plan) ++ (t.plan ++
    (two_bytes (length t.calls) ++ flat_map call_bytes t.calls))))

abbrev pub all_entries : List ℕ → Bool
all_entries bs = list_all (λ b. nat_le b 1) bs

-- the library's, the option first
abbrev pub and_then : {A B : Type 0} → Option A → (A → Option B) → Option B
and_then o f = option_and_then f o

-- a section: a two-byte count up to a limit, so many entries of one width, and what follows them
abbrev pub section : ℕ → ℕ → List ℕ → Option (List ℕ × List ℕ)
section most width [] = None
section most width (low ∷ []) = None
section most width (low ∷ (high ∷ rest)) =
    cond (nat_le (low + 256 * high) most && nat_le ((low + 256 * high) * width) (length rest))
    (Some (take ((low + 256 * high) * width) rest, drop ((low + 256 * high) * width) rest))
    None

-- the options, and the bytes of the plan and of the calls
pub record Sections : Type 0 where
  pub mode : Mode
  pub retry : Bool
  pub plan : List ℕ
  pub calls : List ℕ

-- the third section ends the input
abbrev pub sections : List ℕ → Option Sections
sections [] = None
sections (count ∷ []) = None
sections (count ∷ (mode ∷ [])) = None
sections (count ∷ (mode ∷ (retry ∷ rest))) =
    cond (count == 2)
    (and_then (mode_of mode) (λ m. and_then (flag_of retry) (λ r.
    and_then (section 256 1 rest) (λ plan. and_then (section 1000 4 plan.1) (λ calls.
    cond (length calls.1 == 0) (Some (record { mode = m; retry = r; plan = plan.0; calls = calls.0 })) None)))))
    None

-- four bytes a call: code, number, the lower byte first, and fill
abbrev pub calls_of : List ℕ → Option (List TraceCall)
calls_of [] = Some []
calls_of (code ∷ []) = None
calls_of (code ∷ (low ∷ [])) = None
calls_of (code ∷ (low ∷ (high ∷ []))) = None
calls_of (code ∷ (low ∷ (high ∷ (fill ∷ rest)))) =
    and_then (call_of code (low + 256 * high) fill) (λ call. and_then (calls_of rest) (λ calls. Some (call ∷ calls)))

-- the trace in the input; none where it is malformed
abbrev pub decode : List ℕ → Option Trace
decode bytes =
    and_then (sections bytes) (λ s.
    cond (all_entries s.plan)
    (and_then (calls_of s.calls) (λ calls. Some (record { mode = s.mode; retry = s.retry; plan = s.plan; calls = calls })))
    None)

-- the bytes of a call, those that are ignored set to 0: the number of codes above 4, the fill of codes 2 to 6
abbrev pub canonical_call : ℕ → ℕ → ℕ → ℕ → List ℕ
canonical_call code low high fill =
    code ∷ (cond (nat_le code 4) low 0 ∷ (cond (nat_le code 4) high 0 ∷ (cond (code == 1 || nat_le 7 code) fill 0 ∷ [])))

abbrev pub canonical_calls : List ℕ → List ℕ
canonical_calls [] = []
canonical_calls (code ∷ []) = code ∷ []
canonical_calls (code ∷ (low ∷ [])) = code ∷ (low ∷ [])
canonical_calls (code ∷ (low ∷ (high ∷ []))) = code ∷ (low ∷ (high ∷ []))
canonical_calls (code ∷ (low ∷ (high ∷ (fill ∷ rest)))) = canonical_call code low high fill ++ canonical_calls rest

-- where the calls begin: after two counts, the options and the plan
abbrev pub calls_start : List ℕ → ℕ
calls_start bytes = 7 + (slice_index bytes 3 + 256 * slice_index bytes 4)

-- the input, all that is ignored set to 0
abbrev pub canonical : List ℕ → List ℕ
canonical bytes = take (calls_start bytes) bytes ++ canonical_calls (drop (calls_start bytes) bytes)
