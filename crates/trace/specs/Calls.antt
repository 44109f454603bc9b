-- The bytes of a mode, a retry layer and a call, and back.
use Rattle.std.specs.Prelude.{ℕ, ◌+◌, ◌*◌, ◌/◌, ◌%◌, Bool, true, false, List, [], ◌∷◌, ◌++◌, get_or, Some, None, Option, slice_index, slice_index_or}
use Rattle.trace.specs.declared.call.Mode.{Mode}
use Rattle.trace.specs.declared.call.Mode.TheVariants.{Overlap, Line, Journaled}
use Rattle.trace.specs.declared.call.TraceCall.{TraceCall}
use Rattle.trace.specs.declared.call.TraceCall.TheVariants.{Begin, Finish, Withdraw, Read, Step, Seal, Restart, Cut}

abbrev pub mode_byte : Mode → ℕ
mode_byte Overlap = 0
mode_byte Line = 1
mode_byte Journaled = 2

-- by number from 0; past the list there is no mode
abbrev pub mode_of : ℕ → Option Mode
mode_of byte = slice_index_or (Some Overlap ∷ (Some Line ∷ (Some Journaled ∷ []))) byte None

-- of retry layers 0 or 1, and of a plan's entries 0 for a good call and 1 for a bad one
abbrev pub flag_byte : Bool → ℕ
flag_byte false = 0
flag_byte true = 1

abbrev pub flag_of : ℕ → Option Bool
flag_of byte = slice_index_or (Some false ∷ (Some true ∷ [])) byte None

-- the number of a call, 0 where it has none
abbrev pub number_of : TraceCall → ℕ
number_of (Begin place fill) = place
number_of (Finish ticket) = ticket
number_of (Withdraw ticket) = ticket
number_of (Read place) = place
number_of Step = 0
number_of Seal = 0
number_of (Restart choice) = 0
number_of (Cut choice) = 0

-- its last byte: the fill of a begin, the choice of a restart or a cut
abbrev pub fill_of : TraceCall → ℕ
fill_of (Begin place fill) = fill
fill_of (Finish ticket) = 0
fill_of (Withdraw ticket) = 0
fill_of (Read place) = 0
fill_of Step = 0
fill_of Seal = 0
fill_of (Restart choice) = choice
fill_of (Cut choice) = choice

abbrev pub code_of : TraceCall → ℕ
code_of (Begin place fill) = 1
code_of (Finish ticket) = 2
code_of (Withdraw ticket) = 3
code_of (Read place) = 4
code_of Step = 5
code_of Seal = 6
code_of (Restart choice) = 7
code_of (Cut choice) = 8

abbrev pub cut_choice : TraceCall → Option ℕ
cut_choice (Begin place fill) = None
cut_choice (Finish ticket) = None
cut_choice (Withdraw ticket) = None
cut_choice (Read place) = None
cut_choice Step = None
cut_choice Seal = None
cut_choice (Restart choice) = None
cut_choice (Cut choice) = Some choice

-- a number of two bytes, the lower first
abbrev pub two_bytes : ℕ → List ℕ
two_bytes n = n % 256 ∷ (n / 256 ∷ [])

abbrev pub call_bytes : TraceCall → List ℕ
call_bytes call = code_of call ∷ two_bytes (number_of call) ++ (fill_of call ∷ [])

-- by code from 0; what a call has no use for is ignored
abbrev pub call_of : ℕ → ℕ → ℕ → Option TraceCall
call_of code number fill = get_or (
    None
    ∷ (Some (Begin number fill)
    ∷ (Some (Finish number)
    ∷ (Some (Withdraw number)
    ∷ (Some (Read number)
    ∷ (Some Step
    ∷ (Some Seal
    ∷ (Some (Restart fill)
    ∷ (Some (Cut fill)
    ∷ []))))))))) code None

-- the call in four bytes
abbrev pub call_from : List ℕ → Option TraceCall
call_from bytes = call_of (slice_index bytes 0) (slice_index bytes 1 + 256 * slice_index bytes 2) (slice_index bytes 3)
