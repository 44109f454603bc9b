use Rattle.std.proofs.Common.{◌≡◌, true, false, not, eqb, leb, length, refl, arith}
use Rattle.std.proofs.lemmas.Bool.Decides.{nat_tests}
use Rattle.journal_law.specs.Cache.{read}
use Rattle.journal.specs.Model.{model, met}
use Rattle.journal.proofs.Outcomes.{runs_by, read_1, read_2, read_held, read_through}
use Rattle.journal.proofs.live.Live.read.Goals as goal

pub returns-then-buffer-ne-BLOCK : goal.returns-then-buffer-ne-BLOCK
returns-then-buffer-ne-BLOCK g c =
    let s = c.args.self.now in
    let device = met g.D.Disk.medium g.D.Disk.rule g.D.Disk.attempts s in
    let v = model g.D.Disk.medium s in
    let place = c.args.place in
    let b = c.args.buffer.now in
    let long : not (eqb (length b) 512) ≡ true = grind (arith, nat_tests) in
    let o = read_1 device v place (length b) b long in
    record { outcome = o.outcome_is; buffer = o.buffer_is; runs = runs_by device (read place (length b)) v _ o.outcome_is }

pub returns-then-place-self : goal.returns-then-place-self
returns-then-place-self g c =
    let s = c.args.self.now in
    let device = met g.D.Disk.medium g.D.Disk.rule g.D.Disk.attempts s in
    let v = model g.D.Disk.medium s in
    let place = c.args.place in
    let b = c.args.buffer.now in
    let long : not (eqb (length b) 512) ≡ false = grind (arith, nat_tests) in
    let far : leb s.home place ≡ true = grind (arith, nat_tests) in
    let o = read_2 device v place (length b) b long far in
    record { outcome = o.outcome_is; buffer = o.buffer_is; runs = runs_by device (read place (length b)) v _ o.outcome_is }

pub returns-in-Some : goal.returns-in-Some
returns-in-Some g c =
    let s = c.args.self.now in
    let device = met g.D.Disk.medium g.D.Disk.rule g.D.Disk.attempts s in
    let v = model g.D.Disk.medium s in
    let place = c.args.place in
    let b = c.args.buffer.now in
    let long : not (eqb (length b) 512) ≡ false = grind (arith, nat_tests) in
    let far : leb s.home place ≡ false = grind (arith, nat_tests) in
    let o = read_held device v place (length b) b c.in-Some.bytes.now _ long far c.in-Some.ensures c.copy_from_slice.ensures.after in
    record { outcome = o.outcome_is; buffer = o.buffer_is; runs = runs_by device (read place (length b)) v _ o.outcome_is }

pub returns : goal.returns
returns g c =
    let s = c.args.self.now in
    let device = met g.D.Disk.medium g.D.Disk.rule g.D.Disk.attempts s in
    let v = model g.D.Disk.medium s in
    let place = c.args.place in
    let b = c.args.buffer.now in
    let long : not (eqb (length b) 512) ≡ false = grind (arith, nat_tests) in
    let far : leb s.home place ≡ false = grind (arith, nat_tests) in
    let o = read_through device v place (length b) b _ c.read.result _ c.during.result long far c.in_default.ensures c.read.ensures refl c.during.ensures in
    record { outcome = o.outcome_is; buffer = o.buffer_is; runs = runs_by device (read place (length b)) v _ o.outcome_is }
