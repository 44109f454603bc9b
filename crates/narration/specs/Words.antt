-- The words for a call and its answer.
use Rattle.std.specs.Prelude.{ℕ, cond, List, [], ◌∷◌, ◌++◌, codes, decimal, Some, None, Option, ◌==◌, slice_index_or}
use Rattle.trace.specs.declared.call.Mode.{Mode}
use Rattle.trace.specs.declared.call.Mode.TheVariants as mode
use Rattle.trace.specs.declared.call.TraceCall.{TraceCall}
use Rattle.trace.specs.declared.call.TraceCall.TheVariants.{Begin, Finish, Withdraw, Read, Step, Seal, Restart, Cut}
use Rattle.narration.specs.declared.deed.Deed.{Deed}
use Rattle.narration.specs.declared.deed.Deed.TheVariants as deed
use Rattle.listing.specs.declared.line.Line.{Line}

-- what a call asks for
abbrev pub asked_text : TraceCall → List ℕ
asked_text (Begin place fill) = codes "begin place " ++ decimal place
asked_text (Finish ticket) = codes "finish ticket " ++ decimal ticket
asked_text (Withdraw ticket) = codes "withdraw ticket " ++ decimal ticket
asked_text (Read place) = codes "read place " ++ decimal place
asked_text Step = codes "step"
asked_text Seal = codes "seal"
asked_text (Restart choice) = codes "restart, choice " ++ decimal choice
asked_text (Cut choice) = codes "cut, choice " ++ decimal choice

-- what a step wrote
abbrev pub deed_text : Deed → List ℕ
deed_text (deed.Place place) = codes "place " ++ decimal place
deed_text (deed.Slot slot) = codes "slot " ++ decimal slot
deed_text deed.Head = codes "the head"
deed_text deed.EmptyHead = codes "the empty head"

-- a step that wrote, with what it wrote, if that is known
abbrev pub wrote_text : Option Deed → List ℕ
wrote_text None = codes "wrote a block"
wrote_text (Some d) = codes "wrote " ++ deed_text d

-- what a step did that wrote nothing, by its answer
abbrev pub step_word : ℕ → List ℕ
step_word answer = cond (answer == 0) (codes "idle") (cond (answer == 2) (codes "flushed") (codes "blocked"))

-- what a step did
abbrev pub step_text : ℕ → Option Deed → List ℕ
step_text answer d = cond (answer == 1) (wrote_text d) (step_word answer)

-- what follows a cut: only the journaled cache recovers a group
abbrev pub cut_text : Mode → ℕ → List ℕ
cut_text mode.Overlap value = codes "opened again"
cut_text mode.Line value = codes "opened again"
cut_text mode.Journaled value = codes "recovered group " ++ decimal value

-- what an accepted call answered
abbrev pub accepted_text : Mode → TraceCall → ℕ → Option Deed → List ℕ
accepted_text m (Begin place fill) value d = codes "ticket " ++ decimal value
accepted_text m (Finish ticket) value d = codes "mark " ++ decimal value
accepted_text m (Withdraw ticket) value d = codes "gone"
accepted_text m (Read place) value d = codes "first byte " ++ decimal value
accepted_text m Step value d = step_text value d
accepted_text m Seal value d = codes "group " ++ decimal value
accepted_text m (Restart choice) value d = codes "cut and started again"
accepted_text m (Cut choice) value d = cut_text m value

-- why a seal was refused
abbrev pub seal_reason : ℕ → List ℕ
seal_reason number =
    cond (number == 8) (codes "nothing is collected")
    (cond (number == 9) (codes "a group is under way")
    (cond (number == 10) (codes "the last group number is used")
    (codes "only the journaled cache seals")))

-- why a call was refused: 1 to 6 have reasons in this order, and the other numbers are a seal's
abbrev pub reasons : List ℕ → List (List ℕ)
reasons other =
    other
    ∷ (codes "the bytes are not one block"
    ∷ (codes "the place is not one of the cache's"
    ∷ (codes "the place has an open write"
    ∷ (codes "there is no room for one more write"
    ∷ (codes "too few marks are left"
    ∷ (codes "no open write has the ticket" ∷ []))))))

abbrev pub reason_of : ℕ → List ℕ
reason_of number = slice_index_or (reasons (seal_reason number)) number (seal_reason number)

-- a refusal, which for a disk's fault tells the tries
abbrev pub refused_text : Line → List ℕ
refused_text l =
    cond (l.answer == 7)
    (codes "failed after " ++ (decimal l.value ++ codes " tries"))
    (codes "refused " ++ (decimal l.answer ++ (codes ", " ++ reason_of l.answer)))

-- a call and what became of it
abbrev pub told_text : Mode → TraceCall → Line → Option Deed → List ℕ
told_text m call l d = asked_text call ++ (codes ": " ++ cond (l.answer == 0) (accepted_text m call l.value d) (refused_text l))
