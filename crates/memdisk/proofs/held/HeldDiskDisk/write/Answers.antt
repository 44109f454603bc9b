use Rattle.std.proofs.Common.{◌≡◌, ◌<◌, ◌≤◌, [], ◌∷◌, ◌++◌, length, Ok, sym, refl, ap, ◌∙◌, subst, arith, rules, tests}
use Rattle.std.proofs.lemmas.List.{map_push, length-take-le}
use Rattle.std.proofs.lemmas.List.Elements.{All-push}
use Rattle.disk.specs.Medium.{Write, lay, Fitting, join}
use Rattle.disk.specs.Calls.{WritesBy}
use Rattle.memdisk.specs.Parts.{medium_of, blocks_of, as_write, writes_of, held_in, EachFits}
use Rattle.disk.proofs.Media.{same_medium, joined_or_settled}
use Rattle.memdisk.proofs.Fates.{wrote, put_joins, put_settles, length_writes}
use Rattle.memdisk.proofs.Lays.{lay_push}
use Rattle.memdisk.proofs.held.HeldDiskDisk.write.Goals as goal

-- the new loose write fits the disk
pub invariant_of-self-then-self-lt-LOOSE_MAX : goal.invariant_of-self-then-self-lt-LOOSE_MAX
invariant_of-self-then-self-lt-LOOSE_MAX c =
    let d = c.args.self.now in
    let n = length (blocks_of d.blocks) in
    record { fitting = subst (EachFits n) (sym c.push.ensures) (All-push (λ v. Fitting n (as_write v)) (held_in d.loose) _ d.fitting (search (rules, tests), search rules)) }

pub returns-then-self-lt-LOOSE_MAX : goal.returns-then-self-lt-LOOSE_MAX
returns-then-self-lt-LOOSE_MAX c =
    let d = c.args.self.now in
    let m = medium_of d.blocks (held_in d.loose) d.plan in
    let w : Write = record { place = c.args.place; bytes = c.args.bytes.now } in
    let room : length m.loose < 8 = omega (arith, length_writes (held_in d.loose), length-take-le d.loose.count d.loose.writes (omega arith)) in
    let long : length w.bytes ≡ 512 = search rules in
    let same : c.in_ok-block.block.now ≡ w.bytes = search rules in
    let pushed : writes_of (held_in c.push.new.self) ≡ m.loose ++ w ∷ [] =
    ap writes_of c.push.ensures ∙ map_push as_write (held_in d.loose) _ ∙ ap (λ b. m.loose ++ record { place = c.args.place; bytes = b } ∷ []) same in
    let done : WritesBy join 1 m w.place w.bytes (Ok tt) (medium_of d.blocks (held_in c.push.new.self) c.admit.new.self) =
    wrote m c.count.result _ w.place w.bytes _ c.in_ok-admit.ensures c.count.ensures long (λ later. same_medium refl pushed later ∙ sym (put_joins m w room)) in
    record { outcome = done; either = joined_or_settled _ _ w.place w.bytes _ _ _ done; keeps = λ f v. refl }

pub returns-else-self-lt-LOOSE_MAX : goal.returns-else-self-lt-LOOSE_MAX
returns-else-self-lt-LOOSE_MAX c =
    let d = c.args.self.now in
    let m = medium_of d.blocks (held_in d.loose) d.plan in
    let w : Write = record { place = c.args.place; bytes = c.args.bytes.now } in
    let full : 8 ≤ length m.loose = omega (arith, length_writes (held_in d.loose), length-take-le d.loose.count d.loose.writes (omega arith)) in
    let long : length w.bytes ≡ 512 = search rules in
    let same : c.in_ok-block.block.now ≡ w.bytes = search rules in
    let firm : blocks_of c.store.new.self ≡ lay m.firm (m.loose ++ w ∷ []) = grind (arith, lay_push) in
    let done : WritesBy join 1 m w.place w.bytes (Ok tt) (medium_of c.store.new.self (held_in c.clear.new.self) c.admit.new.self) =
    wrote m c.count.result _ w.place w.bytes _ c.in_ok-admit.ensures c.count.ensures long (λ later. same_medium firm (ap writes_of c.clear.ensures) later ∙ sym (put_settles m w full)) in
    record { outcome = done; either = joined_or_settled _ _ w.place w.bytes _ _ _ done; keeps = λ f v. refl }
