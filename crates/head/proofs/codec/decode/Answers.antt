use Rattle.std.proofs.Common.{◌≡◌, Bool, cond, ◌&&◌, length, Decides, None, sym, ap, ◌∙◌, subst, arith, rules}
use Rattle.std.proofs.Math.Option.{some, none}
use Rattle.std.proofs.lemmas.Slice.Eq.{slice_eq-Decides}
use Rattle.std.proofs.lemmas.Bool.Decides.{Decides-eqb}
use Rattle.head.specs.Head.{decode}
use Rattle.head.specs.Codes.{head_of, found}
use Rattle.head.proofs.Bytes.{decoded, found_if, decode_none, decode_by, decode_unfit}
use Rattle.head.proofs.codec.decode.Goals.{then-fits, else-fits}
use Rattle.head.proofs.codec.decode.Goals as goal

pub returns-in_err-block : goal.returns-in_err-block
returns-in_err-block c =
    let n = c.args.home in
    let b = c.args.block.now in
    let other : length b ≡ 512 → ⊥ = search rules in
    let is : c.from_residual.result ≡ None = search rules in
    let d = decoded n b _ (ap found is ∙ sym (decode_none n b (λ whole few. other whole))) in
    record { value = d.value; no_other = d.no_other; every_head = d.every_head }

pub returns-then-from-gt-MOST_PLACES : goal.returns-then-from-gt-MOST_PLACES
returns-then-from-gt-MOST_PLACES c =
    let n = c.args.home in
    let b = c.args.block.now in
    let same : c.in_ok-block.block.now ≡ b = search rules in
    let d = decoded n b none (sym (ap (decode n) (sym same) ∙ decode_none n c.in_ok-block.block.now (λ whole few. absurd (omega (arith, few, c.from.ensures, c.if-from-gt-MOST_PLACES.true))))) in
    record { value = d.value; no_other = d.no_other; every_head = d.every_head }

pub returns : goal.returns
returns c =
    let n = c.args.home in
    let b = c.in_ok-block.block.now in
    let h = head_of c.candidate-head.result in
    let t : Bool = c.if-fits.then_some in
    let same : b ≡ c.args.block.now = search rules in
    let by : decode n b ≡ cond t (some h) none = elim c.if-fits.branch [
      | then-fits w ↦
          (let eq : Decides w.eq.result (w.encode.result ≡ b) = slice_eq-Decides Decides-eqb w.encode.result b w.eq.result w.eq.ensures in
          decode_by n b h c.candidate-head.ensures w.eq.result (subst (λ x. Decides w.eq.result (x ≡ b)) w.encode.ensures.value eq)
          ∙ ap (λ f. cond (f && w.eq.result) (some h) none) (sym c.fits.ensures ∙ w.if-fits.true) ∙ ap (λ u. cond u (some h) none) (sym w.then_some-is))
      | else-fits w ↦
          decode_unfit n b h c.candidate-head.ensures (sym c.fits.ensures ∙ w.if-fits.false) ∙ ap (λ u. cond u (some h) none) (sym (w.then_some-is ∙ w.if-fits.false))
    ] in
    let d = decoded n c.args.block.now _ (found_if t c.candidate-head.result c.then_some.result c.then_some.ensures ∙ sym by ∙ ap (decode n) same) in
    record { value = d.value; no_other = d.no_other; every_head = d.every_head }
