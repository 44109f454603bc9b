use Rattle.std.proofs.Common.{◌≡◌, suc, ◌+◌, ◌<◌, true, length, sym, ap, ◌∙◌, subst, arith}
use Rattle.std.proofs.lemmas.Bool.{ltb-true}
use Rattle.disk.specs.Medium.{Write}
use Rattle.journal_law.specs.Cache.{nth, phase_call}
use Rattle.batch.specs.declared.entry.Entry.{Entry}
use Rattle.batch.specs.Rows.{entries, write_in, write_list}
use Rattle.batch.proofs.Rowing.{entries_count}
use Rattle.group.specs.Groups.{group_of, Makes}
use Rattle.group.specs.Phases.{in_turn, phase_of}
use Rattle.group.specs.declared.phase.Phase.{Phase}
use Rattle.group.proofs.Calling.{write_made, nth_entry}
use Rattle.group.proofs.making.make.Goals as goal

pub returns-in-Slot : goal.returns-in-Slot
returns-in-Slot g c =
    let group = c.args.group.now in
    let b = group.writes in
    let disk = c.args.disk.now in
    let n = c.args.home in
    let i = c.in-Slot.i in
    let m = g.D.Disk.medium disk in
    let m' = g.D.Disk.medium c.write.new.self in
    let lt : i < b.count = ltb-true i b.count (subst (λ (p : Phase). in_turn p b.count ≡ true) c.in-Slot.is c.requires.turn) in
    let count : length (entries b) ≡ b.count = entries_count b in
    let bytes = ap (λ (e : Entry). e.bytes) c.entry.ensures ∙ sym (ap (λ (w : Write). w.bytes) (nth_entry (entries b) i (omega (arith, count, lt)))) in
    let w : Write = record { place = suc n + i; bytes = (nth (write_list b) i).bytes } in
    let w' : Write = record { place = n + 1 + i; bytes = c.entry.result.now.bytes } in
    let same : w' ≡ w = λ j. record { place = (let q : n + 1 + i ≡ suc n + i = omega arith in q) j; bytes = bytes j } in
    subst (λ (p : Phase). Makes (g.D.Disk.rule disk) g.D.Disk.attempts (phase_call n (group_of group p) (phase_of p)) m c.write.result m') (sym c.in-Slot.is)
    (write_made (g.D.Disk.rule disk) g.D.Disk.attempts w w' m c.write.result m' same c.write.ensures.outcome)

pub returns-in-Home : goal.returns-in-Home
returns-in-Home g c =
    let group = c.args.group.now in
    let b = group.writes in
    let disk = c.args.disk.now in
    let n = c.args.home in
    let i = c.in-Home.i in
    let m = g.D.Disk.medium disk in
    let m' = g.D.Disk.medium c.write-in-Home.new.self in
    let lt : i < b.count = ltb-true i b.count (subst (λ (p : Phase). in_turn p b.count ≡ true) c.in-Home.is c.requires.turn) in
    let count : length (entries b) ≡ b.count = entries_count b in
    let w' : Write = write_in c.entry-entry.result.now in
    let same : w' ≡ nth (write_list b) i = ap write_in c.entry-entry.ensures ∙ sym (nth_entry (entries b) i (omega (arith, count, lt))) in
    subst (λ (p : Phase). Makes (g.D.Disk.rule disk) g.D.Disk.attempts (phase_call n (group_of group p) (phase_of p)) m c.write-in-Home.result m') (sym c.in-Home.is)
    (write_made (g.D.Disk.rule disk) g.D.Disk.attempts (nth (write_list b) i) w' m c.write-in-Home.result m' same c.write-in-Home.ensures.outcome)
