use Rattle.std.proofs.Common.{◌≡◌, ◌+◌, length, Ok, Err, sym, ap, ◌∙◌, is_ok, length-append, arith, rules, tests}
use Rattle.std.specs.List.{slice_split}
use Rattle.std.proofs.lemmas.Grind.{common_steps}
use Rattle.std.proofs.lemmas.List.{drop_all}
use Rattle.std.proofs.lemmas.Result.{err_from_is_err_and}
use Rattle.std.proofs.lemmas.Iterator.Consumers.{YieldsList-at, YieldsList-turn, YieldsList-end}
use Rattle.std.proofs.lemmas.List.FromFn.{length-enumerate_from}
use Rattle.trace.specs.Traces.{trace_of}
use Rattle.assembly.specs.declared.mistake.AssemblyError.TheVariants.{TooLong}
use Rattle.assembly.specs.Words.{is_line_end}
use Rattle.assembly.specs.Assembled.{from_line, assembled, located_at, Fails, Assembles}
use Rattle.assembly.proofs.Lining.{counted_lines, numbered, assembled_within, line_taken, line_failed, fails_as}
use Rattle.assembly.proofs.Telling.{reads_back}
use Rattle.assembly.proofs.assembling.assemble.Goals as goal

pub returns-then-text-gt-TEXT_MAX-clause-told : goal.returns-then-text-gt-TEXT_MAX-clause-told
returns-then-text-gt-TEXT_MAX-clause-told c =
    let text = c.args.text.now in
    let value : assembled text ≡ Err TooLong = grind (arith, common_steps) in
    reads_back text (Err TooLong) value

pub loop-i-preserved : goal.loop-i-preserved
loop-i-preserved c =
    let text = c.args.text.now in
    let ls = slice_split is_line_end text in
    let turn =
    YieldsList-turn
    (YieldsList-at c.into_iter-i-iterator.ensures.into_iter_gives
    (counted_lines _ text c.enumerate-i-items.ensures.source c.enumerate-i-items.ensures.count c.split.ensures.rest c.split.ensures.done c.split.ensures.closure (λ x b q k. search (rules, tests))))
    c.loop-i.yielded c.loop-i.i-iterator c.loop-i.yielded_by c.next.result c.next.new.self (c.in-Some.i, c.in-Some.line) c.in-Some.is c.next.ensures.steps in
    let line = numbered ls (length c.loop-i.yielded) c.in-Some.i c.in-Some.line.now turn.0 turn.1 in
    line_taken ls (length c.loop-i.yielded) c.in-Some.line.now (trace_of c.loop-i.trace) line.0 line.2 _ c.take_line.result (trace_of c.take_line.new.trace)
    (length-append c.loop-i.yielded _) (sym c.map_err.ensures.variant ∙ ap is_ok c.in_ok-map_err.was) c.take_line.ensures
    ∙ c.loop-i.invariant

pub returns-in_err-map_err : goal.returns-in_err-map_err
returns-in_err-map_err c =
    let text = c.args.text.now in
    let ls = slice_split is_line_end text in
    let turn =
    YieldsList-turn
    (YieldsList-at c.into_iter-i-iterator.ensures.into_iter_gives
    (counted_lines _ text c.enumerate-i-items.ensures.source c.enumerate-i-items.ensures.count c.split.ensures.rest c.split.ensures.done c.split.ensures.closure (λ x b q k. search (rules, tests))))
    c.loop-i.yielded c.loop-i.i-iterator c.loop-i.yielded_by c.next.result c.next.new.self (c.in-Some.i, c.in-Some.line) c.in-Some.is c.next.ensures.steps in
    let line = numbered ls (length c.loop-i.yielded) c.in-Some.i c.in-Some.line.now turn.0 turn.1 in
    let p = err_from_is_err_and c.from_residual.result c.from_residual.ensures.1 in
    let failed : Fails (assembled text) p.0 =
    fails_as p.0 (c.loop-i.invariant ∙ assembled_within text (omega arith))
    (line_failed ls (length c.loop-i.yielded) c.in-Some.line.now (trace_of c.loop-i.trace) line.0 line.2 c.take_line.result c.map_err.result p.0 (trace_of c.take_line.new.trace)
    (λ error b k. (let made : b ≡ located_at (c.in-Some.i + 1) error = search (rules, tests) in made) ∙ ap (λ n. located_at (n + 1) error) line.1)
    c.map_err.ensures.cases (c.in_err-map_err.was ∙ ap Err (sym p.2)) c.take_line.ensures) in
    let value : Assembles (assembled text) c.from_residual.result = rw p.1 failed in
    record { value = value; told = reads_back text c.from_residual.result value }

pub returns : goal.returns
returns c =
    let text = c.args.text.now in
    let ls = slice_split is_line_end text in
    let ending =
    YieldsList-end
    (YieldsList-at c.into_iter-i-iterator.ensures.into_iter_gives
    (counted_lines _ text c.enumerate-i-items.ensures.source c.enumerate-i-items.ensures.count c.split.ensures.rest c.split.ensures.done c.split.ensures.closure (λ x b q k. search (rules, tests))))
    c.loop-i.yielded c.loop-i.i-iterator c.loop-i.yielded_by c.next.result c.next.new.self c.in-None.is c.next.ensures.steps in
    let trace = c.loop-i.trace in
    let value : assembled text ≡ Ok (trace_of trace) =
    sym (assembled_within text (omega arith)) ∙ sym c.loop-i.invariant
    ∙ ap (λ xs. from_line (length c.loop-i.yielded + 1) xs (trace_of trace)) (drop_all (length c.loop-i.yielded) ls (omega (arith, ending.1, length-enumerate_from 0 ls))) in
    record { value = value; told = reads_back text (Ok trace) value }
