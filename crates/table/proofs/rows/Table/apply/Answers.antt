use Rattle.std.proofs.Common.{◌++◌, map, get_or, drop, set, ap, ◌∙◌, None, arith, rules}
use Rattle.std.proofs.lemmas.List.{drop_all, take_all, append-nil, get_or_default}
use Rattle.std.proofs.lemmas.List.Edits.{map_over_more}
use Rattle.table.specs.Rows.{changed}
use Rattle.table.proofs.Rowing.{marks_changed, ends_changed, room_changed}
use Rattle.table.proofs.rows.Table.apply.Goals as goal

pub loop-row-preserved : goal.loop-row-preserved
loop-row-preserved c =
    let rows = c.loop-row.row-items in
    let i = c.loop-row.row-index in
    let n = c.args.self.now.full in (
      search rules,
      ap (set rows i) c.on.ensures
          ∙ map_over_more (changed c.args.change) c.args.self.now.rows rows i (get_or rows i None) (omega arith) c.loop-row.invariant.1 (get_or_default rows i None _ (omega arith)),
    )

pub returns : goal.returns
returns c =
    let rows = c.args.self.now.rows in
    let n = c.args.self.now.full in
    let i = c.loop-row.row-index in
    let is = c.loop-row.invariant.1 ∙ ap (λ l. map (changed c.args.change) l ++ drop i rows) (take_all i rows (omega arith)) ∙ ap (λ l. map (changed c.args.change) rows ++ l) (drop_all i rows (omega arith)) ∙ append-nil (map (changed c.args.change) rows) in
    record { after = is; marks = rw is (marks_changed c.args.change rows); ends = rw is (ends_changed c.args.change rows); room = rw is (room_changed c.args.change rows) }
