use Rattle.std.proofs.Common.{◌≡◌, ◌+◌, ◌-◌, ◌<◌, eqb, length, get_or, take, Some, None, sym, ap, ◌∙◌, rules, arith}
use mathlib.Core.Option.{some}
use borrow.Author.Tests.{tests}
use Rattle.std.proofs.lemmas.Iterator.{YieldsList-from_slice}
use Rattle.std.proofs.lemmas.Iterator.Search.{position_from_yields_List}
use Rattle.std.proofs.lemmas.List.{get_or-take, length-take-le}
use Rattle.std.specs.List.{position}
use Rattle.std.specs.Option.{option_map}
use Rattle.batch.specs.declared.entry.Entry.{Entry}
use Rattle.batch.specs.Options.{maybe}
use Rattle.batch.specs.Rows.{no_entry, entries, begun_in}
use Rattle.batch.proofs.Rowing.{entries_count, below_count, find_none, find_some, without_none, without_some}
use Rattle.batch.proofs.rows.Batch.take.Goals as goal

pub returns-in_err-row : goal.returns-in_err-row
returns-in_err-row c =
    let xs = entries c.args.self.now in
    let at : c.position.result ≡ position (λ (e : Entry). eqb e.mark c.args.mark) xs =
    position_from_yields_List (λ (e : Entry). eqb e.mark c.args.mark) _ _ c.position.result c.position.ensures.ran (YieldsList-from_slice xs cc) (λ x b q k. search (rules, tests)) in
    let none_is : position (λ (e : Entry). eqb e.mark c.args.mark) xs ≡ None = sym at ∙ c.in_err-row.was in
    record {
      taken = ap (λ o. maybe (option_map begun_in o)) c.from_residual.ensures ∙ sym (find_none c.args.mark xs none_is);
      rest = without_none c.args.mark xs none_is;
    }

pub returns : goal.returns
returns c =
    let b = c.args.self.now in
    let i = c.in_ok-row.row in
    let rows = c.copy_within.new.self in
    let h = c.copy_within.ensures in
    let at : c.position.result ≡ position (λ (e : Entry). eqb e.mark c.args.mark) (entries b) =
    position_from_yields_List (λ (e : Entry). eqb e.mark c.args.mark) _ _ c.position.result c.position.ensures.ran (YieldsList-from_slice (entries b) cc) (λ x b q k. search (rules, tests)) in
    let found : position (λ (e : Entry). eqb e.mark c.args.mark) (entries b) ≡ Some i = sym at ∙ c.in_ok-row.was in
    let lt : i < b.count = below_count (λ (e : Entry). eqb e.mark c.args.mark) b i found in
    let old : length (entries b) ≡ b.count = entries_count b in
    let new : length (take (b.count - 1) rows) ≡ b.count - 1 = length-take-le (b.count - 1) rows (omega (arith, b.few, b.full, h.len)) in
    record {
      taken = sym (find_some c.args.mark (entries b) i found no_entry ∙ ap (λ (e : Entry). some (begun_in e)) (get_or-take b.count b.rows i no_entry lt));
      rest = without_some c.args.mark (entries b) i found (take (b.count - 1) rows) (omega (arith, old, new, lt))
          (λ k l. get_or-take (b.count - 1) rows k no_entry (omega (arith, l, lt)) ∙ h.by_index.1 k no_entry l ∙ sym (get_or-take b.count b.rows k no_entry (omega (arith, l, lt))))
          (λ k l m. get_or-take (b.count - 1) rows k no_entry (omega (arith, m, new)) ∙ h.by_index.0 k no_entry l (omega (arith, m, new, lt, l))
          ∙ ap (λ x. get_or b.rows x no_entry) (let q : i + 1 + (k - i) ≡ k + 1 = omega (arith, l) in q) ∙ sym (get_or-take b.count b.rows (k + 1) no_entry (omega (arith, m, new, lt, l))));
    }
