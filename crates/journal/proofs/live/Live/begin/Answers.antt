use Rattle.std.proofs.Common.{◌≡◌, ◌+◌, ◌≤◌, true, false, List, [], ◌∷◌, ◌++◌, map, length, not, Err, sym, ap, ◌∙◌, subst, arith, rules}
use Rattle.std.proofs.lemmas.Bool.{ne_eqb}
use Rattle.std.proofs.lemmas.Bool.Decides.{nat_tests}
use Rattle.disk.specs.Medium.{Block}
use Rattle.std.proofs.lemmas.List.{length-map, length_push, map_push}
use Rattle.errors.specs.declared.CacheError.TheVariants.{Length}
use Rattle.head.specs.Head.{holds, all_below, none_twice}
use Rattle.journal_law.specs.Cache.{Begun, begin, place_of, begun_place, different}
use Rattle.journal_law.proofs.Entries.{room_begin}
use Rattle.batch.specs.declared.entry.Entry.{Entry}
use Rattle.batch.specs.Rows.{entries, begun_in, begun_list, write_list}
use Rattle.journal.specs.Model.{model, met, marked}
use Rattle.journal.proofs.Rooms.{begun_places, room_open, below_push, once_push}
use Rattle.journal.proofs.Outcomes.{runs_by, Long, Far, Taken, Full, Late, begin_0, begin_1, begin_2, begin_3, begin_4, begin_5}
use Rattle.journal.proofs.live.Live.begin.Goals as goal

pub returns-in_err-block : goal.returns-in_err-block
returns-in_err-block g c =
    let s = c.args.self.now in
    let device = met g.D.Disk.medium g.D.Disk.rule g.D.Disk.attempts s in
    let v = model g.D.Disk.medium s in
    let place = c.args.place in
    let bytes = c.args.bytes.now in
    let other : length bytes ≡ 512 → ⊥ = search rules in
    let is : c.from_residual.result ≡ Err Length = search rules in
    let e = ap (λ r. record { answer = marked r; live = v }) is ∙ begin_1 device v place bytes (ap not (ne_eqb (length bytes) 512 other)) in
    record { outcome = e; runs = runs_by device (begin place bytes) v _ e }

pub returns-then-place-self : goal.returns-then-place-self
returns-then-place-self g c =
    let s = c.args.self.now in
    let device = met g.D.Disk.medium g.D.Disk.rule g.D.Disk.attempts s in
    let v = model g.D.Disk.medium s in
    let place = c.args.place in
    let bytes = c.args.bytes.now in
    let whole : length bytes ≡ 512 = search rules in
    let long : Long device v place bytes ≡ false = grind (arith, nat_tests) in
    let far : Far device v place bytes ≡ true = grind (arith, nat_tests) in
    let e = begin_2 device v place bytes long far in
    record { outcome = e; runs = runs_by device (begin place bytes) v _ e }

pub returns-then-holds : goal.returns-then-holds
returns-then-holds g c =
    let s = c.args.self.now in
    let device = met g.D.Disk.medium g.D.Disk.rule g.D.Disk.attempts s in
    let v = model g.D.Disk.medium s in
    let place = c.args.place in
    let bytes = c.args.bytes.now in
    let whole : length bytes ≡ 512 = search rules in
    let long : Long device v place bytes ≡ false = grind (arith, nat_tests) in
    let far : Far device v place bytes ≡ false = grind (arith, nat_tests) in
    let taken : Taken device v place bytes ≡ true = ap (holds place) (begun_places (entries s.opens)) ∙ sym c.if-holds.ensures in
    let e = begin_3 device v place bytes long far taken in
    record { outcome = e; runs = runs_by device (begin place bytes) v _ e }

pub places_with-requires : goal.places_with-requires
places_with-requires g c =
    let s = c.args.self.now in
    record {
      inside = c.if-place-self.false;
      fresh = ap (holds c.args.place) (begun_places (entries s.opens)) ∙ sym c.if-holds.ensures;
    }

pub returns-then-places_with-gt-MOST_PLACES : goal.returns-then-places_with-gt-MOST_PLACES
returns-then-places_with-gt-MOST_PLACES g c =
    let s = c.args.self.now in
    let device = met g.D.Disk.medium g.D.Disk.rule g.D.Disk.attempts s in
    let v = model g.D.Disk.medium s in
    let place = c.args.place in
    let bytes = c.args.bytes.now in
    let whole : length bytes ≡ 512 = search rules in
    let long : Long device v place bytes ≡ false = grind (arith, nat_tests) in
    let far : Far device v place bytes ≡ false = grind (arith, nat_tests) in
    let taken : Taken device v place bytes ≡ false = ap (holds place) (begun_places (entries s.opens)) ∙ sym c.if-holds.ensures in
    let full : Full device v place bytes ≡ true = grind (arith, nat_tests, c.places_with.ensures) in
    let e = begin_4 device v place bytes long far taken full in
    record { outcome = e; runs = runs_by device (begin place bytes) v _ e }

pub returns-then-self-len-gt-LAST_MARK : goal.returns-then-self-len-gt-LAST_MARK
returns-then-self-len-gt-LAST_MARK g c =
    let s = c.args.self.now in
    let device = met g.D.Disk.medium g.D.Disk.rule g.D.Disk.attempts s in
    let v = model g.D.Disk.medium s in
    let place = c.args.place in
    let bytes = c.args.bytes.now in
    let whole : length bytes ≡ 512 = search rules in
    let long : Long device v place bytes ≡ false = grind (arith, nat_tests) in
    let far : Far device v place bytes ≡ false = grind (arith, nat_tests) in
    let taken : Taken device v place bytes ≡ false = ap (holds place) (begun_places (entries s.opens)) ∙ sym c.if-holds.ensures in
    let full : Full device v place bytes ≡ false = grind (arith, nat_tests, c.places_with.ensures) in
    let late : Late device v place bytes ≡ true = grind (arith, nat_tests, c.len.ensures, length-map (entries s.opens) begun_in) in
    let e = begin_5 device v place bytes long far taken full late in
    record { outcome = e; runs = runs_by device (begin place bytes) v _ e }

pub push-requires : goal.push-requires
push-requires g c =
    let s = c.args.self.now in
    let ps = map begun_place (begun_list s.opens) in
    let fresh : holds c.args.place ps ≡ false = ap (holds c.args.place) (begun_places (entries s.opens)) ∙ sym c.if-holds.ensures in
    let few : different s.home (c.args.place ∷ (map place_of (write_list s.collected) ++ ps)) ≤ 8 = omega (arith, c.places_with.ensures, c.if-places_with-gt-MOST_PLACES.false) in
    omega (
      arith,
      room_open s.home c.args.place (map place_of (write_list s.collected)) ps c.if-place-self.false fresh s.inside s.apart few,
      length-map (begun_list s.opens) begun_place,
      length-map (entries s.opens) begun_in,
    )

pub invariant_of-self : goal.invariant_of-self
invariant_of-self g c =
    let s = c.args.self.now in
    let place = c.args.place in
    let bytes = c.args.bytes.now in
    let ps = map begun_place (begun_list s.opens) in
    let b = c.push.new.self in
    let new : Begun = begun_in c.new.result in
    let list : begun_list b ≡ begun_list s.opens ++ new ∷ [] = ap (map begun_in) c.push.ensures ∙ map_push begun_in (entries s.opens) c.new.result in
    let at : new.write.place ≡ place = ap (λ (e : Entry). e.place) c.new.ensures in
    let places : map begun_place (begun_list b) ≡ ps ++ place ∷ [] = ap (map begun_place) list ∙ map_push begun_place (begun_list s.opens) new ∙ ap (λ p. ps ++ p ∷ []) at in
    let fresh : holds place ps ≡ false = ap (holds place) (begun_places (entries s.opens)) ∙ sym c.if-holds.ensures in
    let few : different s.home (place ∷ (map place_of (write_list s.collected) ++ ps)) ≤ 8 = omega (arith, c.places_with.ensures, c.if-places_with-gt-MOST_PLACES.false) in
    let longer : length (entries b) ≡ length (entries s.opens) + 1 = ap length c.push.ensures ∙ length_push (entries s.opens) c.new.result in record {
      room = s.room;
      marks = omega (arith, longer, c.len.ensures, c.if-self-len-gt-LAST_MARK.false);
      inside = ap (all_below s.home) places ∙ below_push s.home ps place s.inside c.if-place-self.false;
      apart = ap none_twice places ∙ once_push s.home ps place s.apart fresh;
      below = s.below;
      once = s.once;
      places = subst (λ (l : List Begun). different s.home (map place_of (write_list s.collected) ++ map begun_place l) ≤ 8) (sym list)
          (omega (arith, room_begin s.home (begun_list s.opens) (write_list s.collected) new, subst (λ p. different s.home (p ∷ (map place_of (write_list s.collected) ++ ps)) ≤ 8) (sym at) few));
    }

pub returns : goal.returns
returns g c =
    let s = c.args.self.now in
    let device = met g.D.Disk.medium g.D.Disk.rule g.D.Disk.attempts s in
    let v = model g.D.Disk.medium s in
    let place = c.args.place in
    let bytes = c.args.bytes.now in
    let whole : length bytes ≡ 512 = search rules in
    let long : Long device v place bytes ≡ false = grind (arith, nat_tests) in
    let far : Far device v place bytes ≡ false = grind (arith, nat_tests) in
    let taken : Taken device v place bytes ≡ false = ap (holds place) (begun_places (entries s.opens)) ∙ sym c.if-holds.ensures in
    let full : Full device v place bytes ≡ false = grind (arith, nat_tests, c.places_with.ensures) in
    let late : Late device v place bytes ≡ false = grind (arith, nat_tests, c.len.ensures, length-map (entries s.opens) begun_in) in
    let same : c.in_ok-block.block.now ≡ bytes = search rules in
    let list = ap (map begun_in) c.push.ensures ∙ map_push begun_in (entries s.opens) c.new.result ∙ ap (λ (e : Entry). begun_list s.opens ++ begun_in e ∷ []) c.new.ensures
    ∙ ap (λ (x : Block). begun_list s.opens ++ record { mark = s.counter + 1; write = record { place = place; bytes = x } } ∷ []) same in
    let e = begin_0 device v place bytes long far taken full late (begun_list c.push.new.self) list in
    record { outcome = e; runs = runs_by device (begin place bytes) v _ e }
