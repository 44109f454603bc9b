use Rattle.std.proofs.Common.{◌≡◌, vec_items, ap, ◌∙◌, arith}
use Rattle.std.proofs.lemmas.Grind.{common_steps}
use Rattle.trace.specs.Format.{encode, decode}
use Rattle.trace.specs.Traces.{trace_of}
use Rattle.trace.proofs.Codec.{decode_encode}
use Rattle.trace.proofs.trace.Trace.encode.Goals as goal

pub returns-clause-read_back : goal.returns-clause-read_back
returns-clause-read_back c =
    let self = c.args.self.now in
    let value : vec_items c.push_calls.new.bytes ≡ encode (trace_of self) = grind (arith, common_steps) in
    ap decode value ∙ decode_encode (trace_of self) (omega (arith, self.short, self.plan.ok.0)) self.planned (omega (arith, self.listed, self.calls.ok.0))
