use Rattle.std.proofs.Common.{◌≡◌, ◌+◌, ◌-◌, ◌*◌, length, get_or, sym, ap, ◌∙◌, subst, arith}
use Rattle.std.proofs.Math.Option.{some}
use borrow.Rule.Slice.PartMut.{put_mid}
use Rattle.head.specs.Head.{two_bytes, encode, decode}
use Rattle.head.proofs.RoundTrip.{decode_encode}
use Rattle.head.specs.Codes.{head_of}
use Rattle.head.proofs.Bytes.{front_more, front_whole}
use Rattle.head.proofs.head.Head.encode.Goals as goal

pub loop-i-preserved : goal.loop-i-preserved
loop-i-preserved c =
    let h = c.args.self.now in
    let i = c.loop-i.i in
    ap (λ block. put_mid (6 + 2 * i) (8 + 2 * i - (6 + 2 * i)) block c.copy_from_slice-in-loop-i.new.self) c.loop-i.invariant
    ∙ front_more h i (8 + 2 * i - (6 + 2 * i)) c.copy_from_slice-in-loop-i.new.self (omega (arith, ap length c.places-place-items.ensures)) h.few (omega arith)
    (c.copy_from_slice-in-loop-i.ensures.after ∙ c.low_bytes.ensures ∙ ap (λ ps. two_bytes (get_or ps i 0)) c.places-place-items.ensures)

pub returns : goal.returns
returns c =
    let h = c.args.self.now in
    let value : c.loop-i.block ≡ encode (head_of h) = c.loop-i.invariant ∙ front_whole h c.loop-i.i (omega (arith, ap length c.places-place-items.ensures)) in
    record { value = value; read_back = λ n small f. subst (λ b. decode n b ≡ some (head_of h)) (sym value) (decode_encode n (head_of h) small f) }
