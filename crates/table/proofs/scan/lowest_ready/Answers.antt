use Rattle.std.proofs.Common.{◌≡◌, ◌+◌, true, false, drop, sym, ap, ◌∙◌, subst, arith, rules, tests}
use Rattle.table.specs.Versions.{ready}
use Rattle.table.specs.Rows.{in_rows}
use Rattle.table.specs.Scans.{in_table, lower_of, best_from, candidate, Lowest}
use Rattle.table.proofs.Rowing.{some_here, some_later, some_end}
use Rattle.table.proofs.Scanning.{before, skipped, taken, ended, preceded, is_ready, unbeaten, lowest_within, lowest_found}
use Rattle.table.proofs.scan.lowest_ready.Goals as goal

pub candidates-preserved-then-stops : goal.candidates-preserved-then-stops
candidates-preserved-then-stops g c =
    let precedes = g.P.Precedence.before c.args.order.now in
    let rows = c.args.table.now.rows in
    let p = ready precedes (in_rows rows) in
    let v = c.in-Some.v in
    let some_one = some_here (before precedes v) rows c.loop-other.other-index (omega arith) (sym c.if-stops.ensures) in
    let no : p v ≡ false = preceded precedes (in_rows rows) v (sym c.loop-other.invariant ∙ some_one) in
    skipped lower_of p rows c.candidates.row c.candidates.best (omega arith) v c.in-Some.is no ∙ c.candidates.invariant

pub loop-other-preserved : goal.loop-other-preserved
loop-other-preserved g c =
    let stops = before (g.P.Precedence.before c.args.order.now) c.in-Some.v in
    sym (some_later stops c.args.table.now.rows c.loop-other.other-index (omega arith) (sym c.if-stops.ensures)) ∙ c.loop-other.invariant

pub candidates-preserved : goal.candidates-preserved
candidates-preserved g c =
    let precedes = g.P.Precedence.before c.args.order.now in
    let rows = c.args.table.now.rows in
    let p = ready precedes (in_rows rows) in
    let v = c.in-Some.v in
    let i = c.candidates.row in
    let stops = before precedes v in
    let lower = unbeaten c.candidates.best (candidate i v) c.is_some_and.result (λ old k. search (rules, tests)) c.is_some_and.ensures c.if-is_some_and.false in
    let yes : p v ≡ true = is_ready precedes (in_rows rows) v c.if-not-passes.ensures (sym c.loop-other.invariant ∙ some_end stops rows c.loop-other.other-index (omega arith)) in
    ap (best_from lower_of p (i + 1) (drop (i + 1) rows)) (sym lower) ∙ taken lower_of p rows i c.candidates.best (omega arith) v c.in-Some.is yes ∙ c.candidates.invariant

pub returns : goal.returns
returns g c =
    let precedes = g.P.Precedence.before c.args.order.now in
    let rows = c.args.table.now.rows in
    let p = ready precedes (in_rows rows) in
    let is = ended lower_of p rows c.candidates.row c.candidates.best (omega arith) ∙ c.candidates.invariant in
    record { value = is; found = subst (Lowest p rows) (sym is) (lowest_found p rows); within = subst in_table (sym is) (lowest_within p rows (omega arith)) }
