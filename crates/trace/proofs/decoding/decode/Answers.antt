use Rattle.std.proofs.Common.{◌≡◌, Some, vec_items, arith}
use Rattle.std.proofs.lemmas.Grind.{common_steps}
use Rattle.trace.specs.Format.{Trace, sections, decode}
use Rattle.trace.specs.Lent.{sections_now}
use Rattle.trace.proofs.Codec.{Bytes, plan_short, calls_few, decode_canonical}
use Rattle.trace.proofs.decoding.decode.Goals as goal

pub invariant_of-result : goal.invariant_of-result
invariant_of-result c =
    let bs = c.args.bytes.now in
    let s = sections_now c.in_ok-sections.sections in
    let found : sections bs ≡ Some s = grind (arith, common_steps) in
    let bytes : Bytes bs = λ k. (c.type_inv.bytes k).fits in
    record {
      short = omega (arith, c.in_ok-plan.ensures.len, plan_short bs s bytes found);
      planned = grind (arith, common_steps);
      listed = omega (arith, calls_few bs s (vec_items c.in_ok-calls.calls) bytes found c.in_ok-calls.ensures, c.in_ok-calls.calls.ok.0);
    }

pub returns-clause-canonical : goal.returns-clause-canonical
returns-clause-canonical c =
    let bs = c.args.bytes.now in
    let s = sections_now c.in_ok-sections.sections in
    let t : Trace = record { mode = s.mode; retry = s.retry; plan = vec_items c.in_ok-plan.plan; calls = vec_items c.in_ok-calls.calls } in
    let value : decode bs ≡ Some t = grind (arith, common_steps) in
    decode_canonical bs t (λ k. (c.type_inv.bytes k).fits) value
