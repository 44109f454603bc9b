use Rattle.std.proofs.Common.{◌≡◌, Bool, true, false, ◌||◌, ltb, map, length, sym, ap, ◌∙◌}
use Rattle.std.proofs.lemmas.List.{length-map}
use Rattle.head.specs.Head.{holds}
use Rattle.journal_law.specs.Cache.{place_of}
use Rattle.batch.specs.Rows.{entries, write_in, write_list}
use Rattle.group.proofs.Calling.{entry_places}
use Rattle.watch.proofs.in_journal.has_room.Goals as goal

pub returns-then-holds-clause-value : goal.returns-then-holds-clause-value
returns-then-holds-clause-value c =
    let b = c.args.collected.now in
    let is_held : holds c.args.place (map place_of (write_list b)) ≡ true =
    ap (holds c.args.place) (entry_places (entries b)) ∙ sym c.holds.ensures ∙ c.if-holds.true in
    c.if-holds.true ∙ sym (ap (λ (k : Bool). k || ltb (length (write_list b)) 8) is_held)

pub returns-else-holds-clause-value : goal.returns-else-holds-clause-value
returns-else-holds-clause-value c =
    let b = c.args.collected.now in
    let not-held : holds c.args.place (map place_of (write_list b)) ≡ false =
    ap (holds c.args.place) (entry_places (entries b)) ∙ sym c.holds.ensures ∙ c.if-holds.false in
    ap (λ n. ltb n 8) (c.len.ensures ∙ sym (length-map (entries b) write_in))
    ∙ sym (ap (λ (k : Bool). k || ltb (length (write_list b)) 8) not-held)
