use Rattle.std.proofs.Common.{◌≡◌, ◌≤◌, List, ◌++◌, map, length, Err, sym, ap, ◌∙◌, subst, arith, rules}
use Rattle.std.proofs.lemmas.List.{length-map}
use Rattle.errors.specs.declared.CacheError.TheVariants.{NoTicket}
use Rattle.head.specs.Head.{all_below, none_twice}
use Rattle.journal_law.specs.Cache.{Begun, withdraw, place_of, begun_place, different, without}
use Rattle.journal_law.proofs.Entries.{room_without}
use Rattle.batch.specs.Rows.{entries, begun_in, begun_list, write_list}
use Rattle.journal.specs.Model.{model, met, done}
use Rattle.journal.proofs.Rooms.{below_without, once_without, shorter_without}
use Rattle.journal.proofs.Outcomes.{runs_by, tables, taken_none, taken_some, withdraw_none, withdraw_some}
use Rattle.journal.proofs.live.Live.withdraw.Goals as goal

pub invariant_of-self : goal.invariant_of-self
invariant_of-self g c =
    let s = c.args.self.now in
    let b = c.take.new.self in
    let ticket = c.args.ticket in
    let rest : begun_list b ≡ without ticket (begun_list s.opens) = c.take.ensures.rest in record {
      room = s.room;
      marks = omega (arith, s.marks, ap length rest, length-map (entries b) begun_in, length-map (entries s.opens) begun_in, shorter_without ticket (begun_list s.opens));
      inside = ap (λ (l : List Begun). all_below s.home (map begun_place l)) rest ∙ below_without s.home ticket (begun_list s.opens) s.inside;
      apart = ap (λ (l : List Begun). none_twice (map begun_place l)) rest ∙ once_without s.home ticket (begun_list s.opens) s.apart;
      below = s.below;
      once = s.once;
      places = subst (λ (l : List Begun). different s.home (map place_of (write_list s.collected) ++ map begun_place l) ≤ 8) (sym rest)
          (omega (arith, s.places, room_without s.home (begun_list s.opens) (write_list s.collected) ticket));
    }

pub returns-in_err-ok_or : goal.returns-in_err-ok_or
returns-in_err-ok_or g c =
    let s = c.args.self.now in
    let device = met g.D.Disk.medium g.D.Disk.rule g.D.Disk.attempts s in
    let v = model g.D.Disk.medium s in
    let is : c.from_residual.result ≡ Err NoTicket = search rules in
    let e = ap (λ r. record { answer = done r; live = tables v v.counter (begun_list c.take.new.self) v.collected }) is
    ∙ withdraw_none device v c.args.ticket (begun_list c.take.new.self) c.take.ensures.rest (taken_none c.in_err-ok_or.ensures.ok_part c.take.ensures.taken) in
    record { outcome = e; runs = runs_by device (withdraw c.args.ticket) v _ e }

pub returns : goal.returns
returns g c =
    let s = c.args.self.now in
    let device = met g.D.Disk.medium g.D.Disk.rule g.D.Disk.attempts s in
    let v = model g.D.Disk.medium s in
    let e = withdraw_some device v c.args.ticket (begun_list c.take.new.self) c.take.ensures.rest _ (taken_some c.in_ok-ok_or.ensures.ok_part c.take.ensures.taken) in
    record { outcome = e; runs = runs_by device (withdraw c.args.ticket) v _ e }
