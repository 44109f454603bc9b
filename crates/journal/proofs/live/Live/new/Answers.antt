use Rattle.std.proofs.Common.{◌≡◌, ◌-◌, ◌≤◌, List, [], ◌++◌, map, length, refl, ap, ◌∙◌, arith}
use Rattle.disk.specs.Medium.{Write}
use Rattle.head.specs.Head.{all_below, none_twice}
use Rattle.journal_law.specs.Cache.{Begun, place_of, begun_place, different}
use Rattle.batch.specs.Rows.{begun_in, write_in, begun_list, write_list}
use Rattle.journal.proofs.Rooms.{different_none}
use Rattle.journal.proofs.Outcomes.{just_made}
use Rattle.journal.proofs.live.Live.new.Goals as goal

pub invariant_of-result : goal.invariant_of-result
invariant_of-result g c =
    let n = c.saturating_sub-home.result in
    let few : c.size.result ≤ 4096 = omega (arith, c.size.ensures, (g.met.D.Disk.sound c.into_recovered-disk.result.disk).few) in
    let b = c.new.result in
    let opens : begun_list c.new.result ≡ [] = ap (map begun_in) c.new.ensures in
    let batch : write_list c.new-2.result ≡ [] = ap (map write_in) c.new-2.ensures in record {
      room = omega (arith, few, c.saturating_sub-home.ensures);
      marks = omega (arith, ap length c.new.ensures);
      inside = ap (λ (l : List Begun). all_below n (map begun_place l)) opens;
      apart = ap (λ (l : List Begun). none_twice (map begun_place l)) opens;
      below = ap (λ (l : List Write). all_below n (map place_of l)) batch;
      once = ap (λ (l : List Write). none_twice (map place_of l)) batch;
      places = omega (arith, different_none n, ap (λ (l : List Write). different n (map place_of l ++ map begun_place (begun_list c.new.result))) batch, ap (λ (l : List Begun). different n (map begun_place l)) opens);
    }

pub returns : goal.returns
returns g c =
    just_made (g.D.Disk.medium c.into_recovered-disk.result.disk) (g.D.Disk.medium c.args.cold.disk) c.args.cold.accepted _
    (ap g.D.Disk.medium c.into_recovered-disk.ensures.disk) refl (c.saturating_sub-home.ensures ∙ ap (λ x. x - 9) c.size.ensures) refl
    (ap (map begun_in) c.new.ensures) (ap (map write_in) c.new-2.ensures) refl c.into_recovered-disk.ensures.number
