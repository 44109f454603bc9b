-- What follows the first word of a line.
use Rattle.std.specs.Prelude.{ℕ, Bool, cond, List, [], ◌∷◌, Some, None, codes, Option}
use Rattle.std.specs.Option.{option_map}
use Rattle.std.specs.Str.{bytes_eq}
use Rattle.trace.specs.declared.call.TraceCall.{TraceCall}
use Rattle.trace.specs.declared.call.TraceCall.TheVariants.{Begin, Finish, Withdraw, Read, Step, Seal, Restart, Cut}
use Rattle.trace.specs.declared.call.Mode.{Mode}
use Rattle.trace.specs.Calls.{flag_of}
use Rattle.trace.specs.Format.{and_then}
use Rattle.assembly.specs.declared.keywords.CallWord.{CallWord}
use Rattle.assembly.specs.declared.keywords.CallWord.TheVariants as word
use Rattle.assembly.specs.Words.{only}
use Rattle.assembly.specs.Numbers.{number_of, byte_of}
use Rattle.assembly.specs.Keywords.{mode_of}

abbrev pub number_in : List (List ℕ) → Option ℕ
number_in ws = and_then (only ws) number_of

abbrev pub byte_in : List (List ℕ) → Option ℕ
byte_in ws = and_then (only ws) byte_of

-- PLACE fill BYTE
abbrev pub begin_in : List (List ℕ) → Option TraceCall
begin_in [] = None
begin_in (place ∷ []) = None
begin_in (place ∷ (name ∷ ws)) =
    cond (bytes_eq name (codes "fill"))
    (and_then (number_of place) (λ p. and_then (byte_in ws) (λ b. Some (Begin p b))))
    None

abbrev pub alone_in : TraceCall → List (List ℕ) → Option TraceCall
alone_in call [] = Some call
alone_in call (w ∷ ws) = None

abbrev pub call_in : CallWord → List (List ℕ) → Option TraceCall
call_in word.Begin ws = begin_in ws
call_in word.Finish ws = option_map (λ n. Finish n) (number_in ws)
call_in word.Withdraw ws = option_map (λ n. Withdraw n) (number_in ws)
call_in word.Read ws = option_map (λ n. Read n) (number_in ws)
call_in word.Step ws = alone_in Step ws
call_in word.Seal ws = alone_in Seal ws
call_in word.Restart ws = option_map (λ n. Restart n) (byte_in ws)
call_in word.Cut ws = option_map (λ n. Cut n) (byte_in ws)

abbrev pub mode_in : List (List ℕ) → Option Mode
mode_in ws = and_then (only ws) mode_of

-- the number of retry layers
abbrev pub retry_in : List (List ℕ) → Option Bool
retry_in ws = and_then (byte_in ws) flag_of
