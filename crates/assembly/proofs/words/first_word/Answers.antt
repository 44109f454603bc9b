use Rattle.std.proofs.Common.{◌≡◌, ◌-◌, ◌∷◌, length, take, drop, refl, sym, ap, ◌∙◌, rules, tests}
use Rattle.std.specs.List.{position}
use Rattle.std.specs.Option.{option_map}
use Rattle.std.proofs.lemmas.Iterator.{YieldsList-from_slice}
use Rattle.std.proofs.lemmas.Iterator.Search.{position_from_yields_List}
use Rattle.assembly.specs.Words.{is_blank, is_dark, words, listed}
use Rattle.trace.specs.Lent.{both_now}
use Rattle.assembly.proofs.Splitting.{behind, no_word, end_found, found_word}
use Rattle.assembly.proofs.words.first_word.Goals as goal

pub returns-in_err-start : goal.returns-in_err-start
returns-in_err-start c =
    let bs = c.args.bytes.now in
    let start : c.position.result ≡ position is_dark bs = position_from_yields_List _ _ _ _ c.position.ensures.ran (YieldsList-from_slice bs cc) (λ x b q k. search (rules, tests)) in
    ap (λ p. listed (option_map both_now p)) c.from_residual.ensures ∙ no_word bs (sym c.in_err-start.was ∙ start)

pub returns : goal.returns
returns c =
    let bs = c.args.bytes.now in
    let rest = take (length bs - c.in_ok-start.start) (drop c.in_ok-start.start bs) in
    let start : c.position.result ≡ position is_dark bs = position_from_yields_List _ _ _ _ c.position.ensures.ran (YieldsList-from_slice bs cc) (λ x b q k. search (rules, tests)) in
    let end : c.position-2.result ≡ position is_blank rest = position_from_yields_List _ _ _ _ c.position-2.ensures.ran (YieldsList-from_slice rest cc) (λ x b q k. search (rules, tests)) in
    let after = behind rest c.split_at.result.1.now c.unwrap_or-end.result c.get.result c.unwrap_or.result _ c.split_at.ensures.back c.get.ensures.lookup c.unwrap_or.ensures refl in
    ap (λ w. w ∷ words c.unwrap_or.result.now) c.split_at.ensures.front
    ∙ found_word bs c.in_ok-start.start c.unwrap_or-end.result c.unwrap_or.result.now (sym c.in_ok-start.was ∙ start)
    (end_found is_blank rest c.position-2.result c.unwrap_or-end.result end c.unwrap_or-end.ensures) after
