-- The words that have a meaning.
use Rattle.std.specs.Prelude.{ℕ, Bool, true, false, cond, List, Some, None, codes, Option}
use Rattle.std.specs.Option.{option_map}
use Rattle.std.specs.Str.{bytes_eq}
use Rattle.trace.specs.declared.call.Mode.{Mode}
use Rattle.trace.specs.declared.call.Mode.TheVariants as mode
use Rattle.assembly.specs.declared.keywords.CallWord.{CallWord}
use Rattle.assembly.specs.declared.keywords.CallWord.TheVariants as call
use Rattle.assembly.specs.declared.keywords.Keyword.{Keyword}
use Rattle.assembly.specs.declared.keywords.Keyword.TheVariants as keyword

-- what a word means, or else something else
abbrev pub means : {A : Type 0} → List ℕ → List ℕ → A → Option A → Option A
means word name meaning else = cond (bytes_eq word name) (Some meaning) else

abbrev pub mode_of : List ℕ → Option Mode
mode_of w = means w (codes "overlap") mode.Overlap (means w (codes "line") mode.Line (means w (codes "journaled") mode.Journaled None))

-- whether an entry of a plan is bad
abbrev pub entry_of : List ℕ → Option Bool
entry_of w = means w (codes "good") false (means w (codes "bad") true None)

abbrev pub call_word_of : List ℕ → Option CallWord
call_word_of w =
    means w (codes "begin") call.Begin
    (means w (codes "finish") call.Finish
    (means w (codes "withdraw") call.Withdraw
    (means w (codes "read") call.Read
    (means w (codes "step") call.Step
    (means w (codes "seal") call.Seal
    (means w (codes "restart") call.Restart
    (means w (codes "cut") call.Cut None)))))))

abbrev pub keyword_of : List ℕ → Option Keyword
keyword_of w =
    means w (codes "mode") keyword.Mode
    (means w (codes "retry") keyword.Retry
    (means w (codes "plan") keyword.Plan (option_map keyword.Call (call_word_of w))))
