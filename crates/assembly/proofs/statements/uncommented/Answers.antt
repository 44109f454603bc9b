use Rattle.std.proofs.Common.{◌≡◌, take, ap, rules, tests}
use Rattle.std.specs.List.{position}
use Rattle.std.proofs.lemmas.Iterator.{YieldsList-from_slice}
use Rattle.std.proofs.lemmas.Iterator.Search.{position_from_yields_List}
use Rattle.assembly.specs.Words.{is_comment}
use Rattle.assembly.proofs.Splitting.{end_found}
use Rattle.assembly.proofs.statements.uncommented.Goals as goal

pub returns : goal.returns
returns c =
    let line = c.args.line.now in
    let comment : c.position.result ≡ position is_comment line = position_from_yields_List _ _ _ _ c.position.ensures.ran (YieldsList-from_slice line cc) (λ x b q k. search (rules, tests)) in
    ap (λ n. take n line) (end_found is_comment line c.position.result c.unwrap_or-end.result comment c.unwrap_or-end.ensures)
