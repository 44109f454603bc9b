use Rattle.std.proofs.Common.{◌≡◌, ◌≤◌, true, false, map, length, sym, ap, ◌∙◌, arith}
use Rattle.std.proofs.lemmas.List.{length-map}
use Rattle.head.specs.Head.{holds}
use Rattle.journal_law.specs.Cache.{place_of, begun_place}
use Rattle.batch.specs.Rows.{entries, place_in, write_in, place_list, write_list, begun_list, outside}
use Rattle.batch.proofs.Rowing.{entries_count}
use Rattle.group.proofs.Calling.{entry_places}
use Rattle.journal.proofs.Rooms.{begun_places, outside_le, room_is}
use Rattle.journal.proofs.live.Live.places_with.Goals as goal

pub overflow_add-taken : goal.overflow_add-taken
overflow_add-taken g c =
    let v = c.args.self.now in
    let a : length (entries v.collected) ≤ 8 = omega (arith, v.collected.few, entries_count v.collected) in
    let b : length (place_list v.opens) ≤ 8 = omega (arith, length-map (entries v.opens) place_in, v.opens.few, entries_count v.opens) in
    omega (arith, a, b, c.len.ensures, c.outside.ensures, outside_le (place_list v.opens) (place_list v.collected))

pub overflow_add-result : goal.overflow_add-result
overflow_add-result g c =
    let v = c.args.self.now in
    let a : length (entries v.collected) ≤ 8 = omega (arith, v.collected.few, entries_count v.collected) in
    let b : length (place_list v.opens) ≤ 8 = omega (arith, length-map (entries v.opens) place_in, v.opens.few, entries_count v.opens) in
    omega (arith, a, b, c.len.ensures, c.outside.ensures, outside_le (place_list v.opens) (place_list v.collected))

pub returns-then-holds : goal.returns-then-holds
returns-then-holds g c =
    let v = c.args.self.now in
    let coll = entries v.collected in
    let opens = entries v.opens in
    let held : holds c.args.place (map place_of (write_list v.collected)) ≡ true = ap (holds c.args.place) (entry_places coll) ∙ sym c.holds.ensures ∙ c.if-holds.true in
    let is = room_is v.home c.args.place (map place_of (write_list v.collected)) (map begun_place (begun_list v.opens)) true c.requires.inside c.requires.fresh held v.inside v.apart v.below v.once in
    let count : length (map place_of (write_list v.collected)) ≡ length coll = length-map (write_list v.collected) place_of ∙ length-map coll write_in in
    let same : outside (map begun_place (begun_list v.opens)) (map place_of (write_list v.collected)) ≡ outside (place_list v.opens) (place_list v.collected)
    = ap (λ ps. outside ps (map place_of (write_list v.collected))) (begun_places opens) ∙ ap (outside (place_list v.opens)) (entry_places coll) in
    omega (arith, is, count, same, c.len.ensures, c.outside.ensures)

pub returns-else-holds : goal.returns-else-holds
returns-else-holds g c =
    let v = c.args.self.now in
    let coll = entries v.collected in
    let opens = entries v.opens in
    let held : holds c.args.place (map place_of (write_list v.collected)) ≡ false = ap (holds c.args.place) (entry_places coll) ∙ sym c.holds.ensures ∙ c.if-holds.false in
    let is = room_is v.home c.args.place (map place_of (write_list v.collected)) (map begun_place (begun_list v.opens)) false c.requires.inside c.requires.fresh held v.inside v.apart v.below v.once in
    let count : length (map place_of (write_list v.collected)) ≡ length coll = length-map (write_list v.collected) place_of ∙ length-map coll write_in in
    let same : outside (map begun_place (begun_list v.opens)) (map place_of (write_list v.collected)) ≡ outside (place_list v.opens) (place_list v.collected)
    = ap (λ ps. outside ps (map place_of (write_list v.collected))) (begun_places opens) ∙ ap (outside (place_list v.opens)) (entry_places coll) in
    omega (arith, is, count, same, c.len.ensures, c.outside.ensures)
