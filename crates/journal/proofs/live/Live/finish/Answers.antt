use Rattle.std.proofs.Common.{◌≡◌, ◌<◌, ◌≤◌, true, List, ◌++◌, map, length, Err, sym, ap, ◌∙◌, subst, subst₂, arith, rules}
use mathlib.Core.Option.{some}
use Rattle.std.proofs.lemmas.List.{length-map}
use Rattle.disk.specs.Medium.{Write}
use Rattle.errors.specs.declared.CacheError.TheVariants.{NoTicket}
use Rattle.head.specs.Head.{holds, all_below, none_twice}
use Rattle.journal_law.specs.Cache.{Begun, finish, place_of, begun_place, different, find, without, collect}
use Rattle.journal_law.proofs.Tables.{holds_found, below_collect, once_collect}
use Rattle.journal_law.proofs.Held.{length_without}
use Rattle.journal_law.proofs.Entries.{room_finish}
use Rattle.batch.specs.Rows.{entries, begun_in, write_in, begun_list, write_list}
use Rattle.group.proofs.Calling.{entry_places}
use Rattle.journal.specs.Model.{model, met, marked}
use Rattle.journal.proofs.Rooms.{room_collect, below_without, once_without, below_held}
use Rattle.journal.proofs.Outcomes.{runs_by, tables, taken_none, taken_some, kept_opens, finish_none, finish_some}
use Rattle.journal.proofs.live.Live.finish.Goals as goal

pub invariant_of-self : goal.invariant_of-self
invariant_of-self g c =
    let s = c.args.self.now in
    let b = c.take.new.self in
    let device = met g.D.Disk.medium g.D.Disk.rule g.D.Disk.attempts s in
    let v = model g.D.Disk.medium s in
    let same : begun_list b ≡ begun_list s.opens = kept_opens device v c.args.ticket (begun_list b) c.take.ensures.rest (sym (taken_none c.in_err-entry.ensures.ok_part c.take.ensures.taken)) in record {
      room = s.room;
      marks = omega (arith, s.marks, ap length same, length-map (entries b) begun_in, length-map (entries s.opens) begun_in);
      inside = ap (λ (l : List Begun). all_below s.home (map begun_place l)) same ∙ s.inside;
      apart = ap (λ (l : List Begun). none_twice (map begun_place l)) same ∙ s.apart;
      below = s.below;
      once = s.once;
      places = subst (λ (l : List Begun). different s.home (map place_of (write_list s.collected) ++ map begun_place l) ≤ 8) (sym same) s.places;
    }

pub returns-in_err-entry : goal.returns-in_err-entry
returns-in_err-entry g c =
    let s = c.args.self.now in
    let device = met g.D.Disk.medium g.D.Disk.rule g.D.Disk.attempts s in
    let v = model g.D.Disk.medium s in
    let is : c.from_residual.result ≡ Err NoTicket = search rules in
    let e = ap (λ r. record { answer = marked r; live = tables v v.counter (begun_list c.take.new.self) v.collected }) is
    ∙ finish_none device v c.args.ticket (begun_list c.take.new.self) c.take.ensures.rest (taken_none c.in_err-entry.ensures.ok_part c.take.ensures.taken) in
    record { outcome = e; runs = runs_by device (finish c.args.ticket) v _ e }

pub collect-requires : goal.collect-requires
collect-requires g c =
    let s = c.args.self.now in
    let o = begun_in c.in_ok-entry.entry in
    let here : holds o.write.place (map begun_place (begun_list s.opens)) ≡ true = holds_found c.args.ticket (begun_list s.opens) o (sym (taken_some c.in_ok-entry.ensures.ok_part c.take.ensures.taken)) in
    λ fresh.
    omega (
      arith,
      room_collect s.home o.write.place (map place_of (write_list s.collected)) (map begun_place (begun_list s.opens)) here
          (ap (holds o.write.place) (entry_places (entries s.collected)) ∙ fresh) s.inside s.below s.once s.places,
      length-map (write_list s.collected) place_of,
      length-map (entries s.collected) write_in,
    )

pub invariant_of-self-2 : goal.invariant_of-self-2
invariant_of-self-2 g c =
    let s = c.args.self.now in
    let ticket = c.args.ticket in
    let b = c.take.new.self in
    let k = c.collect.new.self in
    let o = begun_in c.in_ok-entry.entry in
    let found : find ticket (begun_list s.opens) ≡ some o = sym (taken_some c.in_ok-entry.ensures.ok_part c.take.ensures.taken) in
    let rest : begun_list b ≡ without ticket (begun_list s.opens) = c.take.ensures.rest in
    let batch : write_list k ≡ collect o.write (write_list s.collected) = c.collect.ensures in
    let inside : o.write.place < s.home = below_held s.home o.write.place (map begun_place (begun_list s.opens)) (holds_found ticket (begun_list s.opens) o found) s.inside in record {
      room = s.room;
      marks = omega (arith, s.marks, ap length rest, length-map (entries b) begun_in, length-map (entries s.opens) begun_in, length_without ticket (begun_list s.opens) o found);
      inside = ap (λ (l : List Begun). all_below s.home (map begun_place l)) rest ∙ below_without s.home ticket (begun_list s.opens) s.inside;
      apart = ap (λ (l : List Begun). none_twice (map begun_place l)) rest ∙ once_without s.home ticket (begun_list s.opens) s.apart;
      below = ap (λ (l : List Write). all_below s.home (map place_of l)) batch ∙ below_collect s.home o.write (write_list s.collected) inside s.below;
      once = ap (λ (l : List Write). none_twice (map place_of l)) batch ∙ once_collect o.write (write_list s.collected) s.once;
      places = subst₂ (λ (x : List Write) (y : List Begun). different s.home (map place_of x ++ map begun_place y) ≤ 8) (sym batch) (sym rest)
          (omega (arith, s.places, room_finish s.home (begun_list s.opens) (write_list s.collected) ticket o found));
    }

pub returns : goal.returns
returns g c =
    let s = c.args.self.now in
    let device = met g.D.Disk.medium g.D.Disk.rule g.D.Disk.attempts s in
    let v = model g.D.Disk.medium s in
    let e = finish_some device v c.args.ticket (begun_list c.take.new.self) c.take.ensures.rest (begun_in c.in_ok-entry.entry) (taken_some c.in_ok-entry.ensures.ok_part c.take.ensures.taken)
    (write_list c.collect.new.self) c.collect.ensures in
    record { outcome = e; runs = runs_by device (finish c.args.ticket) v _ e }
