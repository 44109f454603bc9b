use Rattle.std.proofs.Common.{◌≡◌, ◌+◌, true, false, not, length, Err, sym, refl, ap, ◌∙◌, subst, arith, rules}
use Rattle.std.proofs.lemmas.Bool.{ne_eqb}
use Rattle.std.proofs.lemmas.Bool.Decides.{nat_tests}
use Rattle.errors.specs.declared.CacheError.TheVariants.{Length, NoRoom}
use Rattle.table.specs.Versions.{begun, room}
use Rattle.table.specs.Rows.{put, in_rows, Vacancy}
use Rattle.ordered_law.specs.Events.{Begin}
use Rattle.ordered.specs.Model.{model, gives, marked}
use Rattle.ordered.proofs.Outcomes.{goes_on, any_disk, begin_0, begin_1, begin_2, begin_3, begin_4, begin_5, Long, Far, Late}
use Rattle.ordered.proofs.live.Live.begin.Goals as goal

pub returns-in_err-block : goal.returns-in_err-block
returns-in_err-block g c =
    let m = model g.D.Disk.medium c.args.self.now in
    let place = c.args.place in
    let bytes = c.args.bytes.now in
    let lawful = g.met.P.Precedence.lawful c.args.self.now.order in
    let other : length bytes ≡ 512 → ⊥ = search rules in
    let is : c.from_residual.result ≡ Err Length = search rules in
    let e = ap (λ r. gives (marked r) m) is ∙ begin_1 place bytes m (ap not (ne_eqb (length bytes) 512 other)) in
    record { outcome = e; order = refl; runs = goes_on lawful any_disk (Begin place bytes) e }

pub returns-then-place-size : goal.returns-then-place-size
returns-then-place-size g c =
    let m = model g.D.Disk.medium c.args.self.now in
    let place = c.args.place in
    let bytes = c.args.bytes.now in
    let lawful = g.met.P.Precedence.lawful c.args.self.now.order in
    let whole : length bytes ≡ 512 = search rules in
    let long : Long place bytes m ≡ false = grind (arith, nat_tests) in
    let far : Far place bytes m ≡ true = grind (arith, nat_tests, c.size.ensures) in
    let e = begin_2 place bytes m long far in
    record { outcome = e; order = refl; runs = goes_on lawful any_disk (Begin place bytes) e }

pub returns-then-any : goal.returns-then-any
returns-then-any g c =
    let m = model g.D.Disk.medium c.args.self.now in
    let place = c.args.place in
    let bytes = c.args.bytes.now in
    let lawful = g.met.P.Precedence.lawful c.args.self.now.order in
    let whole : length bytes ≡ 512 = search rules in
    let long : Long place bytes m ≡ false = grind (arith, nat_tests) in
    let far : Far place bytes m ≡ false = grind (arith, nat_tests, c.size.ensures) in
    let e = begin_3 place bytes m long far (sym c.if-any.ensures) in
    record { outcome = e; order = refl; runs = goes_on lawful any_disk (Begin place bytes) e }

pub returns-in_err-row : goal.returns-in_err-row
returns-in_err-row g c =
    let m = model g.D.Disk.medium c.args.self.now in
    let place = c.args.place in
    let bytes = c.args.bytes.now in
    let lawful = g.met.P.Precedence.lawful c.args.self.now.order in
    let whole : length bytes ≡ 512 = search rules in
    let long : Long place bytes m ≡ false = grind (arith, nat_tests) in
    let far : Far place bytes m ≡ false = grind (arith, nat_tests, c.size.ensures) in
    let full : room (in_rows m.rows) ≡ false = subst (Vacancy m.rows) c.in_err-row.ensures.ok_part c.vacant.ensures in
    let is : c.from_residual-in_err-row.result ≡ Err NoRoom = search rules in
    let e = ap (λ r. gives (marked r) m) is ∙ begin_4 place bytes m long far (sym c.if-any.ensures) full in
    record { outcome = e; order = refl; runs = goes_on lawful any_disk (Begin place bytes) e }

pub returns-then-self-count-gt-LAST_MARK : goal.returns-then-self-count-gt-LAST_MARK
returns-then-self-count-gt-LAST_MARK g c =
    let m = model g.D.Disk.medium c.args.self.now in
    let place = c.args.place in
    let bytes = c.args.bytes.now in
    let lawful = g.met.P.Precedence.lawful c.args.self.now.order in
    let whole : length bytes ≡ 512 = search rules in
    let long : Long place bytes m ≡ false = grind (arith, nat_tests) in
    let far : Far place bytes m ≡ false = grind (arith, nat_tests, c.size.ensures) in
    let taken = subst (Vacancy m.rows) c.in_ok-row.ensures.ok_part c.vacant.ensures in
    let late : Late place bytes m ≡ true = grind (arith, nat_tests, c.count.ensures) in
    let e = begin_5 place bytes m long far (sym c.if-any.ensures) taken.1 late in
    record { outcome = e; order = refl; runs = goes_on lawful any_disk (Begin place bytes) e }

pub returns : goal.returns
returns g c =
    let m = model g.D.Disk.medium c.args.self.now in
    let place = c.args.place in
    let bytes = c.args.bytes.now in
    let lawful = g.met.P.Precedence.lawful c.args.self.now.order in
    let whole : length bytes ≡ 512 = search rules in
    let long : Long place bytes m ≡ false = grind (arith, nat_tests) in
    let far : Far place bytes m ≡ false = grind (arith, nat_tests, c.size.ensures) in
    let taken = subst (Vacancy m.rows) c.in_ok-row.ensures.ok_part c.vacant.ensures in
    let late : Late place bytes m ≡ false = grind (arith, nat_tests, c.count.ensures) in
    let same : c.in_ok-block.block.now ≡ bytes = search rules in
    let v : c.begin.result ≡ begun place bytes (m.counter + 1) = c.begin.ensures ∙ ap (λ b. begun place b (m.counter + 1)) same in
    let rows : c.hold.new.self.rows ≡ put (begun place bytes (m.counter + 1)) m.rows = rw (c.hold.ensures, v) (sym (taken.2 (begun place bytes (m.counter + 1)))) in
    let e = begin_0 place bytes m long far (sym c.if-any.ensures) taken.1 late rows in
    record { outcome = e; order = refl; runs = goes_on lawful any_disk (Begin place bytes) e }

pub invariant_of-self : goal.invariant_of-self
invariant_of-self g c =
    let taken = subst (Vacancy c.args.self.now.table.rows) c.in_ok-row.ensures.ok_part c.vacant.ensures in
    let marks = taken.3 c.begin.result in
    let held = taken.4 c.begin.result in
    let now = c.args.self.now in
    record { marks = rw c.hold.ensures (omega (arith, c.count.ensures)); begins = omega (arith, now.begins); sums = rw c.hold.ensures (omega (arith, now.sums)) }
