use Rattle.std.proofs.Common.{◌≡◌, ◌++◌, take, vec_items}
use Rattle.std.specs.List.{flat_map}
use Rattle.trace.specs.Calls.{call_bytes}
use Rattle.trace.proofs.encoding.push_calls.Given as goal

-- the bytes of the calls so far stand at the end
abbrev pub invariant-loop-call : goal.invariant-loop-call
invariant-loop-call l = vec_items l.bytes ≡ vec_items l.initial.bytes ++ flat_map call_bytes (take l.call-index l.calls)
