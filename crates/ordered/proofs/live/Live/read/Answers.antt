use Rattle.std.proofs.Common.{◌≡◌, true, false, not, eqb, ltb, length, Ok, Err, sym, refl, ◌∙◌, arith}
use Rattle.std.proofs.lemmas.Bool.Decides.{nat_tests}
use Rattle.disk.specs.Medium.{size}
use Rattle.errors.specs.declared.CacheError.TheVariants.{Length, Place}
use Rattle.errors.specs.Errors.{raised}
use Rattle.errors.specs.declared.CacheCall.TheVariants as during
use Rattle.ordered_law.specs.Events.{Read}
use Rattle.ordered.specs.Model.{model, device}
use Rattle.ordered.specs.Reading.{read_answer}
use Rattle.ordered.proofs.Outcomes.{goes_on, shows_newest, read_1, read_2, read_table, read_below}
use Rattle.ordered.proofs.live.Live.read.Goals as goal

pub returns-then-buffer-ne-BLOCK : goal.returns-then-buffer-ne-BLOCK
returns-then-buffer-ne-BLOCK g c =
    let m = model g.D.Disk.medium c.args.self.now in
    let place = c.args.place in
    let b = c.args.buffer.now in
    let met = device g.D.Disk.rule g.D.Disk.attempts g.P.Precedence.before c.args.self.now in
    let lawful = g.met.P.Precedence.lawful c.args.self.now.order in
    let short : not (eqb (length b) 512) ≡ true = grind (arith, nat_tests) in
    let e = read_1 met place b m short in
    record { outcome = e.0; buffer = e.1; newest = shows_newest lawful met place (length b) (Err Length) b e.0; order = refl; runs = goes_on lawful met (Read place (length b)) e.0 }

pub returns-then-place-size : goal.returns-then-place-size
returns-then-place-size g c =
    let m = model g.D.Disk.medium c.args.self.now in
    let place = c.args.place in
    let b = c.args.buffer.now in
    let met = device g.D.Disk.rule g.D.Disk.attempts g.P.Precedence.before c.args.self.now in
    let lawful = g.met.P.Precedence.lawful c.args.self.now.order in
    let short : not (eqb (length b) 512) ≡ false = grind (arith, nat_tests) in
    let beyond : not (ltb place (size m.medium)) ≡ true = grind (arith, nat_tests, c.size.ensures) in
    let e = read_2 met place b m short beyond in
    record { outcome = e.0; buffer = e.1; newest = shows_newest lawful met place (length b) (Err Place) b e.0; order = refl; runs = goes_on lawful met (Read place (length b)) e.0 }

pub returns-in-Some : goal.returns-in-Some
returns-in-Some g c =
    let m = model g.D.Disk.medium c.args.self.now in
    let place = c.args.place in
    let b = c.args.buffer.now in
    let met = device g.D.Disk.rule g.D.Disk.attempts g.P.Precedence.before c.args.self.now in
    let lawful = g.met.P.Precedence.lawful c.args.self.now.order in
    let short : not (eqb (length b) 512) ≡ false = grind (arith, nat_tests) in
    let beyond : not (ltb place (size m.medium)) ≡ false = grind (arith, nat_tests, c.size.ensures) in
    let shown-block = c.copy_from_slice.ensures.after ∙ c.bytes.ensures in
    let e = read_table met place b m short beyond c.in-Some.newest (sym c.in-Some.ensures.value) shown-block in
    record { outcome = e.0; buffer = e.1; newest = shows_newest lawful met place (length b) (Ok tt) c.copy_from_slice.new.self e.0; order = refl; runs = goes_on lawful met (Read place (length b)) e.0 }

pub returns : goal.returns
returns g c =
    let m = model g.D.Disk.medium c.args.self.now in
    let place = c.args.place in
    let b = c.args.buffer.now in
    let met = device g.D.Disk.rule g.D.Disk.attempts g.P.Precedence.before c.args.self.now in
    let lawful = g.met.P.Precedence.lawful c.args.self.now.order in
    let short : not (eqb (length b) 512) ≡ false = grind (arith, nat_tests) in
    let beyond : not (ltb place (size m.medium)) ≡ false = grind (arith, nat_tests, c.size.ensures) in
    let did = c.read.ensures in
    let handed : c.during.result ≡ raised during.Read (read_answer met.tries m.medium place (length b)) = rw (c.during.ensures, did.answers) in
    let e = read_below met place b m short beyond (sym c.in_default.ensures.value) handed did.after did.buffer refl refl refl in
    record { outcome = e.0; buffer = e.1; newest = shows_newest lawful met place (length b) c.during.result c.read.new.buffer e.0; order = refl; runs = goes_on lawful met (Read place (length b)) e.0 }
