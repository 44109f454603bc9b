use Rattle.std.proofs.Common.{◌≡◌, ◌<◌, [], length, drop, get_or, ◌∙◌, ap, subst, arith, rules}
use Rattle.std.specs.Int.{w16, from_le_bytes}
use Rattle.std.proofs.lemmas.List.{get_or-take, length-take, length-drop}
use Rattle.head.specs.Head.{places_read}
use Rattle.head.proofs.Bytes.{pairs_in, read_more, candidate_is}
use Rattle.head.proofs.codec.candidate.Goals as goal

pub loop-pair-preserved : goal.loop-pair-preserved
loop-pair-preserved c =
    let block = c.args.block.now in
    let whole : length block ≡ 512 = search rules in
    let i = c.loop-pair.pair-index in
    let pairs = c.as_chunks.result.0.now in
    let within : i < c.from.result = omega (arith, length-take c.from.result pairs) in
    c.push.ensures.items
    ∙ read_more 253 i c.from-in-loop-pair.result (drop 6 block) c.loop-pair.places.items [] (omega (arith, within, c.from.ensures, c.requires)) c.loop-pair.invariant
    (c.from-in-loop-pair.ensures ∙ c.from_le_bytes.ensures
    ∙ ap (from_le_bytes w16) (get_or-take c.from.result pairs i [] within ∙ ap (λ ps. get_or ps i []) (c.as_chunks.ensures.front ∙ pairs_in block whole)))

pub returns : goal.returns
returns c =
    let block = c.args.block.now in
    let whole : length block ≡ 512 = search rules in
    let pairs = c.as_chunks.result.0.now in
    let many : length pairs ≡ 253 = omega (arith, c.as_chunks.ensures.front_len, length-take 506 (drop 6 block), length-drop 6 block) in
    let all : c.loop-pair.pair-index ≡ get_or block 5 0 = omega (arith, many, length-take c.from.result pairs, c.from.ensures, c.requires) in
    c.new.ensures ∙ candidate_is _ block (omega (arith, c.from_le_bytes-number.ensures)) (subst (λ k. c.loop-pair.places.items ≡ places_read k (drop 6 block)) all c.loop-pair.invariant)
