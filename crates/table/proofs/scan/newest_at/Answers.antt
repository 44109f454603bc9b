use Rattle.std.proofs.Common.{◌≡◌, ◌+◌, cond, drop, sym, ap, ◌∙◌, subst, arith, rules, tests}
use Rattle.table.specs.Versions.{finished_in}
use Rattle.table.specs.Scans.{in_table, higher_of, best_from, candidate}
use Rattle.table.proofs.Scanning.{past, ended, beats, beats_not, highest_within}
use Rattle.table.proofs.scan.newest_at.Goals as goal
use Rattle.table.proofs.scan.newest_at.Goals.{then-passes+then-is_none_or, else-passes, else-passes-via-then-passes+else-is_none_or, else-passes-via-else-passes}

pub loop-row-preserved : goal.loop-row-preserved
loop-row-preserved c =
    let p = finished_in c.args.place in
    let rows = c.args.table.now.rows in
    let i = c.loop-row.row in
    let best = c.loop-row.best in
    let n = candidate i c.in-Some.v in
    let so : c.if-passes.best ≡ cond (p c.in-Some.v) (higher_of best n) best =
    elim c.if-passes.branch [
      | then-passes+then-is_none_or w ↦
          let e = beats best n w.is_none_or.result (λ old k. search (rules, tests)) w.is_none_or.ensures w.if-is_none_or.true in
          rw (← w.if-passes.ensures) (w.best-is ∙ sym e)
      | else-passes w ↦ elim w.else-passes.branch [
        | else-passes-via-then-passes+else-is_none_or w' ↦
            let e = beats_not best n w'.is_none_or.result (λ old k. search (rules, tests)) w'.is_none_or.ensures w'.if-is_none_or.false in
            rw (← w'.if-passes.ensures) (w.best-is ∙ sym e)
        | else-passes-via-else-passes w' ↦ rw (← w'.if-passes.ensures) w.best-is
      ]
    ] in
    ap (best_from higher_of p (i + 1) (drop (i + 1) rows)) so ∙ past higher_of p rows i best (omega arith) c.in-Some.v c.in-Some.is ∙ c.loop-row.invariant

pub returns : goal.returns
returns c =
    let p = finished_in c.args.place in
    let rows = c.args.table.now.rows in
    let is = ended higher_of p rows c.loop-row.row c.loop-row.best (omega arith) ∙ c.loop-row.invariant in
    record { value = is; within = subst in_table (sym is) (highest_within p rows (omega arith)) }
