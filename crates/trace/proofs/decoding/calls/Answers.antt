use Rattle.std.proofs.Common.{◌≡◌, ◌/◌, ◌∷◌, [], length, vec_items, None, Err, Option, refl, sym, ap, ◌∙◌, arith}
use Rattle.std.specs.Option.{ok_or}
use Rattle.std.proofs.lemmas.Result.{err_from_is_err_and}
use Rattle.std.proofs.lemmas.Slice.{pushed}
use Rattle.trace.specs.declared.call.TraceCall.{TraceCall}
use Rattle.trace.specs.declared.decoding.DecodeError.{DecodeError}
use Rattle.trace.specs.declared.decoding.DecodeError.TheVariants.{Malformed}
use Rattle.trace.proofs.Listing.{after, after_nothing, calls_in, calls_by_fours, calls_left_over, after_none, after_more}
use Rattle.trace.proofs.decoding.calls.Goals as goal

refused : (o : Option TraceCall) (e : DecodeError) → ok_or o Malformed ≡ Err e → (o ≡ None) × (Malformed ≡ e)
refused o e h = grind arith

pub returns-then-not-is_empty : goal.returns-then-not-is_empty
returns-then-not-is_empty c = calls_left_over c.args.bytes.now (λ e. grind (arith, e))

pub loop-code-init : goal.loop-code-init
loop-code-init c =
    let bs = c.args.bytes.now in
    ap (λ xs. after xs (calls_in c.as_chunks.result.0.now)) c.new-calls.ensures.items
    ∙ ap (λ ps. after [] (calls_in ps)) c.as_chunks.ensures.front
    ∙ ap (after []) (calls_by_fours (length bs / 4) bs (grind arith))
    ∙ after_nothing _

pub returns-in_err-try_from : goal.returns-in_err-try_from
returns-in_err-try_from c =
    let p = err_from_is_err_and c.from_residual.result c.from_residual.ensures.1 in
    let q = refused _ _ (sym c.try_from.ensures ∙ c.in_err-try_from.was) in
    rw (p.1, p.2, ← q.1) (sym c.loop-code.invariant ∙ after_none (vec_items c.loop-code.calls) c.as_chunks.result.0.now c.loop-code.code-index [] c.loop-code-test.true q.0)

pub loop-code-preserved : goal.loop-code-preserved
loop-code-preserved c =
    let call = c.in_ok-try_from.field-0 in
    after_more (vec_items c.loop-code.calls) _ c.as_chunks.result.0.now c.loop-code.code-index [] call c.loop-code-test.true (grind arith)
    (pushed (call ∷ []) refl c.in_ok-push.was c.push.ensures.items)
    ∙ c.loop-code.invariant
