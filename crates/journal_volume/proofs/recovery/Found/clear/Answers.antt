use Rattle.std.proofs.Common.{[], Ok, Err, refl, ap, ◌∙◌}
use Rattle.std.proofs.lemmas.Result.{err_from_is_err_and}
use Rattle.disk.specs.Medium.{Write}
use Rattle.head.specs.Head.{encode}
use Rattle.head.specs.Codes.{head_of}
use Rattle.journal_law.specs.Recovery.{home_flush, write_empty, last_flush, recovered}
use Rattle.journal_volume.specs.Recovering.{at, OfRule, Leads}
use Rattle.journal_volume.proofs.Going.{goes_on, handed_up, home_flush_goes, empty_goes, last_flush_goes}
use Rattle.journal_volume.proofs.recovery.Found.clear.Goals as goal

pub returns-in_err-flush : goal.returns-in_err-flush
returns-in_err-flush g c =
    let rule = g.D.Disk.rule in
    let tries = g.D.Disk.attempts in
    let n = c.args.self.now.home in
    let h = head_of c.args.self.now.head in
    let disk = c.args.disk.now in
    let m = g.D.Disk.medium disk in
    let last = g.D.Disk.medium c.flush.new.self in
    let e = c.in_err-flush.field-0.0 in
    let w : Write = record { place = 0; bytes = [] } in
    handed_up (OfRule rule) tries n (at (home_flush h) m) (write_empty h) (recovered h.number) e c.from_residual.result last
    (err_from_is_err_and c.from_residual.result c.from_residual.ensures.1)
    (home_flush_goes (OfRule rule) (rule disk w, (disk, w, refl)) tries n m (Err e) last h c.in_err-flush.ensures)

pub returns-in_err-write : goal.returns-in_err-write
returns-in_err-write g c =
    let rule = g.D.Disk.rule in
    let tries = g.D.Disk.attempts in
    let n = c.args.self.now.home in
    let h = head_of c.args.self.now.head in
    let m = g.D.Disk.medium c.args.disk.now in
    let mid = c.flush.new.self in
    let last = g.D.Disk.medium c.write.new.self in
    let e = c.in_err-write.field-0.0 in
    let b = c.encode-empty.result in
    let w : Write = record { place = n; bytes = b } in
    handed_up (OfRule rule) tries n (at (home_flush h) m) (last_flush h) (recovered h.number) e c.from_residual-in_err-write.result last
    (err_from_is_err_and c.from_residual-in_err-write.result c.from_residual-in_err-write.ensures.1)
    (empty_goes (OfRule rule) (rule mid w, (mid, w, refl)) (rule mid w) (mid, w, refl) tries n h m (g.D.Disk.medium mid) (Err e) last b
    c.requires c.in_ok-flush.ensures (c.encode-empty.ensures.value ∙ ap encode c.empty.ensures) c.in_err-write.ensures.outcome)

pub returns : goal.returns
returns g c =
    let rule = g.D.Disk.rule in
    let tries = g.D.Disk.attempts in
    let n = c.args.self.now.home in
    let h = head_of c.args.self.now.head in
    let m = g.D.Disk.medium c.args.disk.now in
    let mid = c.flush.new.self in
    let late = g.D.Disk.medium c.write.new.self in
    let last = g.D.Disk.medium c.flush-2.new.self in
    let b = c.encode-empty.result in
    let w : Write = record { place = n; bytes = b } in
    let first : Leads (OfRule rule) n (at (home_flush h) m) (at (last_flush h) late)
    = empty_goes (OfRule rule) (rule mid w, (mid, w, refl)) (rule mid w) (mid, w, refl) tries n h m (g.D.Disk.medium mid) (Ok tt) late b
    c.requires c.in_ok-flush.ensures (c.encode-empty.ensures.value ∙ ap encode c.empty.ensures) c.in_ok-write.ensures.outcome in
    goes_on (OfRule rule) n (at (home_flush h) m) (at (last_flush h) late) first tries (recovered h.number) c.flush-2.result last
    (last_flush_goes (OfRule rule) (rule mid w, (mid, w, refl)) tries n late c.flush-2.result last h c.flush-2.ensures)
