use Rattle.std.proofs.Common.{◌≡◌, ◌≤◌, true, false, eqb, List, [], ◌++◌, map, length, Some, sym, ap, ◌∙◌, subst, arith}
use Rattle.std.proofs.lemmas.List.{length-map}
use Rattle.std.proofs.lemmas.Bool.{eq-eqb, ne_eqb, le-leb, lt-leb}
use Rattle.disk.specs.Medium.{Write}
use Rattle.head.specs.Head.{all_below, none_twice}
use Rattle.journal_law.specs.Cache.{seal, place_of, begun_place, different}
use Rattle.journal_law.proofs.Entries.{room_seal}
use mathlib.Core.Option.{some}
use Rattle.group.specs.Groups.{under_way}
use Rattle.batch.specs.Rows.{entries, write_in, begun_list, write_list}
use Rattle.journal.specs.Model.{model, met}
use Rattle.journal.proofs.Outcomes.{runs_by, under_some, seal_0, seal_8, seal_9, seal_10}
use Rattle.journal.proofs.live.Live.seal.Goals as goal

pub returns-then-is_some : goal.returns-then-is_some
returns-then-is_some g c =
    let s = c.args.self.now in
    let device = met g.D.Disk.medium g.D.Disk.rule g.D.Disk.attempts s in
    let v = model g.D.Disk.medium s in
    let e = seal_9 device v (under_some s.group true c.if-is_some.ensures) in
    record { outcome = e; runs = runs_by device seal v _ e }

pub returns-then-len-eq0 : goal.returns-then-len-eq0
returns-then-len-eq0 g c =
    let s = c.args.self.now in
    let device = met g.D.Disk.medium g.D.Disk.rule g.D.Disk.attempts s in
    let v = model g.D.Disk.medium s in
    let bare : eqb (length v.collected) 0 ≡ true = eq-eqb (length v.collected) 0 (length-map (entries s.collected) write_in ∙ sym c.len.ensures ∙ c.if-len-eq0.true) in
    let e = seal_8 device v (under_some s.group false c.if-is_some.ensures) bare in
    record { outcome = e; runs = runs_by device seal v _ e }

pub returns-then-self-ge-LAST_NUMBER : goal.returns-then-self-ge-LAST_NUMBER
returns-then-self-ge-LAST_NUMBER g c =
    let s = c.args.self.now in
    let device = met g.D.Disk.medium g.D.Disk.rule g.D.Disk.attempts s in
    let v = model g.D.Disk.medium s in
    let bare : eqb (length v.collected) 0 ≡ false = ne_eqb (length v.collected) 0 (λ q. absurd (omega (arith, q, length-map (entries s.collected) write_in, c.len.ensures, c.if-len-eq0.false))) in
    let e = seal_10 device v (under_some s.group false c.if-is_some.ensures) bare (le-leb 4_294_967_295 s.last c.if-self-ge-LAST_NUMBER.true) in
    record { outcome = e; runs = runs_by device seal v _ e }

pub invariant_of-self : goal.invariant_of-self
invariant_of-self g c =
    let s = c.args.self.now in
    let bare : write_list c.clear.new.self ≡ [] = ap (map write_in) c.clear.ensures in record {
      room = s.room;
      marks = s.marks;
      inside = s.inside;
      apart = s.apart;
      below = ap (λ (l : List Write). all_below s.home (map place_of l)) bare;
      once = ap (λ (l : List Write). none_twice (map place_of l)) bare;
      places = subst (λ (l : List Write). different s.home (map place_of l ++ map begun_place (begun_list s.opens)) ≤ 8) (sym bare) (omega (arith, s.places, room_seal s.home (begun_list s.opens) (write_list s.collected)));
    }

pub returns : goal.returns
returns g c =
    let s = c.args.self.now in
    let device = met g.D.Disk.medium g.D.Disk.rule g.D.Disk.attempts s in
    let v = model g.D.Disk.medium s in
    let bare : eqb (length v.collected) 0 ≡ false = ne_eqb (length v.collected) 0 (λ q. absurd (omega (arith, q, length-map (entries s.collected) write_in, c.len.ensures, c.if-len-eq0.false))) in
    let e = seal_0 device v (under_some s.group false c.if-is_some.ensures) bare (lt-leb 4_294_967_295 s.last c.if-self-ge-LAST_NUMBER.false)
    (write_list c.clear.new.self) (under_way (Some c.new.result)) (ap (map write_in) c.clear.ensures)
    (ap some c.new.ensures) in
    record { outcome = e; runs = runs_by device seal v _ e }
