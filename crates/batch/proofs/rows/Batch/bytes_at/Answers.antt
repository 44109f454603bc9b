use Rattle.std.proofs.Common.{List, ℕ, Bor, eqb, sym, ap, ◌∙◌}
use Rattle.std.specs.Option.{option_map}
use Rattle.std.proofs.lemmas.List.{get_or-take}
use Rattle.batch.specs.Options.{maybe}
use Rattle.batch.specs.declared.entry.Entry.{Entry}
use mathlib.Core.Option.{some}
use Rattle.batch.specs.Rows.{no_entry, entries}
use Rattle.batch.proofs.Rowing.{below_count, cached_none, cached_some}
use Rattle.batch.proofs.rows.Batch.bytes_at.Goals as goal

pub returns-in_err-row : goal.returns-in_err-row
returns-in_err-row c =
    ap (λ o. maybe (option_map (λ (b : Bor (List ℕ)). b.now) o)) c.from_residual.ensures ∙ sym (cached_none c.args.place (entries c.args.self.now) (sym c.in_err-row.ensures))

pub returns : goal.returns
returns c =
    let b = c.args.self.now in
    let i = c.in_ok-row.row in
    let within = below_count (λ (e : Entry). eqb e.place c.args.place) b i (sym c.in_ok-row.ensures) in
    sym (cached_some c.args.place (entries b) i (sym c.in_ok-row.ensures)
    ∙ ap (λ (e : Entry). some e.bytes) (get_or-take b.count b.rows i no_entry within))
