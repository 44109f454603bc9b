use Rattle.std.proofs.Common.{◌≡◌, Bool, true, cond, ltb, [], ◌∷◌, ◌++◌, map, length, replicate, sym, ap, ◌∙◌, arith}
use Rattle.std.proofs.lemmas.List.{map-append, length-map}
use Rattle.std.proofs.lemmas.Bool.{lt-ltb}
use Rattle.batch.specs.declared.entry.Entry.{Entry}
use Rattle.batch.specs.Rows.{entries, begun_in, begun_list}
use Rattle.watch.specs.InJournal.{followed, with_writes}
use Rattle.watch.proofs.in_journal.JournalWatch.begun.Goals as goal

pub returns-then-len-lt-MOST_PLACES : goal.returns-then-len-lt-MOST_PLACES
returns-then-len-lt-MOST_PLACES c =
    let w = c.self.inside in
    let opens = w.opens in
    let entry : Entry = record { mark = c.args.mark; place = c.args.place; bytes = replicate 512 c.args.fill } in
    let room : ltb (length (begun_list opens)) 8 ≡ true =
    lt-ltb (length (begun_list opens)) 8 (omega (arith, length-map (entries opens) begun_in, c.len.ensures, c.if-len-lt-MOST_PLACES.true)) in
    let more =
    ap (map begun_in) (c.push.ensures ∙ ap (λ (e : Entry). entries opens ++ (e ∷ [])) c.new.ensures)
    ∙ map-append begun_in (entries opens) (entry ∷ [])
    ∙ ap (λ (b : Bool). cond b (begun_list opens ++ (begun_in entry ∷ [])) (begun_list opens)) (sym room) in
    let before = followed opens w.collected w.group w.phase in
    rw (← c.self.view_is) (ap (λ os. with_writes before os before.collected) more)
