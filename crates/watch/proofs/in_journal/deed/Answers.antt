use Rattle.std.proofs.Common.{◌≡◌, ◌<◌, Some, true, length, sym, ap, ◌∙◌, subst}
use Rattle.std.proofs.lemmas.Bool.{ltb-true}
use Rattle.disk.specs.Medium.{Write}
use Rattle.batch.specs.declared.entry.Entry.{Entry}
use Rattle.batch.specs.Rows.{entries, write_list}
use Rattle.group.specs.declared.phase.Phase.{Phase}
use Rattle.group.specs.Phases.{in_turn}
use Rattle.group.proofs.Calling.{nth_entry}
use Rattle.narration.specs.declared.deed.Deed.TheVariants.{Place}
use Rattle.watch.specs.InJournal.{phase_deed}
use Rattle.watch.proofs.in_journal.deed.Goals as goal

pub returns-in-Home : goal.returns-in-Home
returns-in-Home c =
    let b = c.args.group.now in
    let i = c.in-Home.i in
    let lt : i < length (entries b) = ltb-true i (length (entries b)) (subst (λ (p : Phase). in_turn p (length (entries b)) ≡ true) c.in-Home.is c.requires) in
    ap (λ n. Some (Place n)) (ap (λ (e : Entry). e.place) c.entry.ensures ∙ sym (ap (λ (w : Write). w.place) (nth_entry (entries b) i lt)))
    ∙ sym (ap (phase_deed (write_list b)) c.in-Home.is)
