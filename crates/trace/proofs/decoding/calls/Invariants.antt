use Rattle.std.proofs.Common.{◌≡◌, drop, vec_items}
use Rattle.trace.specs.Format.{calls_of}
use Rattle.trace.proofs.Listing.{after, calls_in}
use Rattle.trace.proofs.decoding.calls.Given as goal

-- the calls found, and those in what is left, are those of the whole
abbrev pub invariant-loop-code : goal.invariant-loop-code
invariant-loop-code l = after (vec_items l.calls) (calls_in (drop l.code-index l.coded)) ≡ calls_of l.bytes
