-- Calls that are read one after another.
use Rattle.std.proofs.Common.{◌≡◌, ◌≢◌, ℕ, zero, suc, ◌+◌, ◌*◌, ◌%◌, ◌<◌, List, [], ◌∷◌, ◌++◌, length, get_or, drop, Some, None, Option, sym, refl, ap, ◌∙◌, arith}
use Rattle.std.specs.Simd.{first_chunks}
use Rattle.std.proofs.lemmas.List.{append_assoc, at_drop_more}
use Rattle.trace.specs.declared.call.TraceCall.{TraceCall}
use Rattle.trace.specs.Calls.{call_from}
use Rattle.trace.specs.Format.{and_then, calls_of}

-- more calls behind these
abbrev pub after : List TraceCall → Option (List TraceCall) → Option (List TraceCall)
after xs o = and_then o (λ ys. Some (xs ++ ys))

after_push : (xs : List TraceCall) (c : TraceCall) (o : Option (List TraceCall)) → after (xs ++ c ∷ []) o ≡ after xs (and_then o (λ ys. Some (c ∷ ys)))
after_push xs c None = refl
after_push xs c (Some ys) = ap Some (append_assoc xs (c ∷ []) ys)

pub after_nothing : (o : Option (List TraceCall)) → after [] o ≡ o
after_nothing None = refl
after_nothing (Some ys) = refl

-- the calls in four bytes each
abbrev pub calls_in : List (List ℕ) → Option (List TraceCall)
calls_in [] = Some []
calls_in (p ∷ ps) = and_then (call_from p) (λ call. and_then (calls_in ps) (λ calls. Some (call ∷ calls)))

-- bytes that are so many calls
pub calls_by_fours : (n : ℕ) (bs : List ℕ) → length bs ≡ n * 4 → calls_in (first_chunks 4 n bs) ≡ calls_of bs
calls_by_fours zero [] e = refl
calls_by_fours zero (x ∷ bs) e = absurd (omega arith)
calls_by_fours (suc n) [] e = absurd (omega arith)
calls_by_fours (suc n) (x ∷ []) e = absurd (omega arith)
calls_by_fours (suc n) (x ∷ (y ∷ [])) e = absurd (omega arith)
calls_by_fours (suc n) (x ∷ (y ∷ (z ∷ []))) e = absurd (omega arith)
calls_by_fours (suc n) (code ∷ (low ∷ (high ∷ (fill ∷ bs)))) e =
    ap (λ o. and_then (call_from (code ∷ (low ∷ (high ∷ (fill ∷ []))))) (λ call. and_then o (λ calls. Some (call ∷ calls)))) (calls_by_fours n bs (omega arith))

-- bytes that are no whole number of calls
pub calls_left_over : (bs : List ℕ) → length bs % 4 ≢ 0 → calls_of bs ≡ None
calls_left_over [] h = absurd (omega arith)
calls_left_over (x ∷ []) h = refl
calls_left_over (x ∷ (y ∷ [])) h = refl
calls_left_over (x ∷ (y ∷ (z ∷ []))) h = refl
calls_left_over (code ∷ (low ∷ (high ∷ (fill ∷ bs)))) h = refused (call_from (code ∷ (low ∷ (high ∷ (fill ∷ []))))) (calls_left_over bs (λ e. h (omega arith)))
  where
    refused : (o : Option TraceCall) {p : Option (List TraceCall)} → p ≡ None → and_then o (λ call. and_then p (λ calls. Some (call ∷ calls))) ≡ None
    refused None e = refl
    refused (Some c) e = ap (λ p. and_then p (λ calls. Some (c ∷ calls))) e

-- what the next four bytes hold
after_next : (xs : List TraceCall) (ps : List (List ℕ)) (i : ℕ) (p : List ℕ) {o : Option TraceCall} → i < length ps → call_from (get_or ps i p) ≡ o →
    after xs (calls_in (drop i ps)) ≡ after xs (and_then o (λ call. and_then (calls_in (drop (i + 1) ps)) (λ calls. Some (call ∷ calls))))
after_next xs ps i p l e =
    at_drop_more (λ qs. after xs (calls_in qs)) ps i p l
    ∙ ap (λ o. after xs (and_then o (λ call. and_then (calls_in (drop (i + 1) ps)) (λ calls. Some (call ∷ calls))))) e

-- no call is read
pub after_none : (xs : List TraceCall) (ps : List (List ℕ)) (i : ℕ) (p : List ℕ) → i < length ps → call_from (get_or ps i p) ≡ None → after xs (calls_in (drop i ps)) ≡ None
after_none xs ps i p l e = after_next xs ps i p l e

-- one call more is read
pub after_more : (xs more : List TraceCall) (ps : List (List ℕ)) (i : ℕ) (p : List ℕ) (c : TraceCall) → i < length ps → call_from (get_or ps i p) ≡ Some c →
    more ≡ xs ++ c ∷ [] → after more (calls_in (drop (i + 1) ps)) ≡ after xs (calls_in (drop i ps))
after_more xs more ps i p c l e m =
    ap (λ ys. after ys (calls_in (drop (i + 1) ps))) m
    ∙ after_push xs c (calls_in (drop (i + 1) ps))
    ∙ sym (after_next xs ps i p l e)
