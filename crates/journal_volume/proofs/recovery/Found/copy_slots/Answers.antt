use Rattle.std.proofs.Common.{◌≡◌, ◌+◌, ◌<◌, [], length, get_or, replicate, Ok, Err, refl, ap, arith, rules}
use Rattle.std.proofs.lemmas.Result.{err_from_is_err_and}
use Rattle.disk.specs.Medium.{Write}
use Rattle.head.specs.Codes.{head_of}
use Rattle.journal_law.specs.Recovery.{write_home, home_flush}
use Rattle.journal_volume.specs.Recovering.{at, turn, OfRule, Leads}
use Rattle.journal_volume.proofs.Going.{handed_up, slot_goes, place_goes}
use Rattle.journal_volume.proofs.recovery.Found.copy_slots.Goals as goal

pub returns-in_err-read : goal.returns-in_err-read
returns-in_err-read g c =
    let rule = g.D.Disk.rule in
    let tries = g.D.Disk.attempts in
    let n = c.args.self.now.home in
    let h = head_of c.args.self.now.head in
    let x = at (turn 0 h) (g.D.Disk.medium c.args.disk.now) in
    let i = c.loop-i.i in
    let disk = c.loop-i.disk in
    let last = g.D.Disk.medium c.read.new.self in
    let block = c.read.new.buffer in
    let e = c.in_err-read.field-0.0 in
    let w : Write = record { place = 0; bytes = [] } in
    let more : i < length h.places = omega (arith, c.loop-i-test.true, ap length c.places-place-items.ensures) in
    handed_up (OfRule rule) tries n x (write_home i h block) (home_flush h) e c.from_residual.result last
    (err_from_is_err_and c.from_residual.result c.from_residual.ensures.1)
    (slot_goes (OfRule rule) (rule disk w, (disk, w, refl)) tries n x h i (g.D.Disk.medium disk) (Err e) last (replicate 512 0) block
    c.loop-i.invariant c.requires more c.args.self.now.head.few refl c.in_err-read.ensures)

pub returns-in_err-write : goal.returns-in_err-write
returns-in_err-write g c =
    let rule = g.D.Disk.rule in
    let tries = g.D.Disk.attempts in
    let n = c.args.self.now.home in
    let h = head_of c.args.self.now.head in
    let x = at (turn 0 h) (g.D.Disk.medium c.args.disk.now) in
    let i = c.loop-i.i in
    let disk = c.loop-i.disk in
    let mid = c.read.new.self in
    let last = g.D.Disk.medium c.write.new.self in
    let block = c.read.new.buffer in
    let place = get_or c.places-place-items.result.now i 0 in
    let e = c.in_err-write.field-0.0 in
    let w : Write = record { place = place; bytes = block } in
    let more : i < length h.places = omega (arith, c.loop-i-test.true, ap length c.places-place-items.ensures) in
    let whole : length block ≡ 512 = search rules in
    let first : Leads (OfRule rule) n x (at (write_home i h block) (g.D.Disk.medium mid)) =
    slot_goes (OfRule rule) (rule disk w, (disk, w, refl)) tries n x h i (g.D.Disk.medium disk) (Ok tt) (g.D.Disk.medium mid) (replicate 512 0) block
    c.loop-i.invariant c.requires more c.args.self.now.head.few refl c.in_ok-read.ensures in
    handed_up (OfRule rule) tries n x (turn (i + 1) h) (home_flush h) e c.from_residual-in_err-write.result last
    (err_from_is_err_and c.from_residual-in_err-write.result c.from_residual-in_err-write.ensures.1)
    (place_goes (OfRule rule) (rule mid w) (mid, w, refl) tries n x h i place (g.D.Disk.medium mid) (Err e) last block
    first c.requires c.args.self.now.fit more (ap (λ ps. get_or ps i 0) c.places-place-items.ensures) whole c.in_err-write.ensures.outcome)

pub loop-i-preserved : goal.loop-i-preserved
loop-i-preserved g c =
    let rule = g.D.Disk.rule in
    let tries = g.D.Disk.attempts in
    let n = c.args.self.now.home in
    let h = head_of c.args.self.now.head in
    let x = at (turn 0 h) (g.D.Disk.medium c.args.disk.now) in
    let i = c.loop-i.i in
    let disk = c.loop-i.disk in
    let mid = c.read.new.self in
    let last = g.D.Disk.medium c.write.new.self in
    let block = c.read.new.buffer in
    let place = get_or c.places-place-items.result.now i 0 in
    let w : Write = record { place = place; bytes = block } in
    let more : i < length h.places = omega (arith, c.loop-i-test.true, ap length c.places-place-items.ensures) in
    let whole : length block ≡ 512 = search rules in
    let first : Leads (OfRule rule) n x (at (write_home i h block) (g.D.Disk.medium mid)) =
    slot_goes (OfRule rule) (rule disk w, (disk, w, refl)) tries n x h i (g.D.Disk.medium disk) (Ok tt) (g.D.Disk.medium mid) (replicate 512 0) block
    c.loop-i.invariant c.requires more c.args.self.now.head.few refl c.in_ok-read.ensures in
    place_goes (OfRule rule) (rule mid w) (mid, w, refl) tries n x h i place (g.D.Disk.medium mid) (Ok tt) last block
    first c.requires c.args.self.now.fit more (ap (λ ps. get_or ps i 0) c.places-place-items.ensures) whole c.in_ok-write.ensures.outcome
