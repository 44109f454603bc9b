use Rattle.std.proofs.Common.{[], replicate, Ok, Err, sym, refl, ap, ◌∙◌, subst}
use Rattle.std.proofs.lemmas.Result.{err_from_is_err_and}
use Rattle.disk.specs.Medium.{Write}
use Rattle.head.specs.Codes.{head_of, found}
use Rattle.journal_law.specs.Recovery.{started, head_seen}
use Rattle.journal_volume.specs.Recovering.{at, OfRule, Leads, Sees}
use Rattle.journal_volume.proofs.Going.{first_flush_goes, head_goes}
use Rattle.journal_volume.proofs.recovery.Found.read.Goals as goal

pub returns-in_err-flush : goal.returns-in_err-flush
returns-in_err-flush g c =
    let rule = g.D.Disk.rule in
    let tries = g.D.Disk.attempts in
    let n = c.args.home in
    let disk = c.args.disk.now in
    let m = g.D.Disk.medium disk in
    let last = g.D.Disk.medium c.flush.new.self in
    let e = c.in_err-flush.field-0.0 in
    let w : Write = record { place = 0; bytes = [] } in
    let p = err_from_is_err_and c.from_residual.result c.from_residual.ensures.1 in
    subst (λ z. Sees (OfRule rule) tries n m z last) (sym (p.1 ∙ ap (λ y. Err y) p.2))
    (first_flush_goes (OfRule rule) (rule disk w, (disk, w, refl)) tries n m (Err e) last c.in_err-flush.ensures)

pub returns-in_err-read : goal.returns-in_err-read
returns-in_err-read g c =
    let rule = g.D.Disk.rule in
    let tries = g.D.Disk.attempts in
    let n = c.args.home in
    let disk = c.args.disk.now in
    let m = g.D.Disk.medium disk in
    let mid = g.D.Disk.medium c.flush.new.self in
    let last = g.D.Disk.medium c.read.new.self in
    let e = c.in_err-read.field-0.0 in
    let w : Write = record { place = 0; bytes = [] } in
    let p = err_from_is_err_and c.from_residual-in_err-read.result c.from_residual-in_err-read.ensures.1 in
    subst (λ z. Sees (OfRule rule) tries n m z last) (sym (p.1 ∙ ap (λ y. Err y) p.2))
    (head_goes (OfRule rule) (rule disk w, (disk, w, refl)) tries n m mid (Err e) last (replicate 512 0) c.read.new.buffer
    c.requires.sized c.in_ok-flush.ensures refl c.in_err-read.ensures)

pub returns-in_default : goal.returns-in_default
returns-in_default g c =
    let rule = g.D.Disk.rule in
    let tries = g.D.Disk.attempts in
    let n = c.args.home in
    let disk = c.args.disk.now in
    let m = g.D.Disk.medium disk in
    let mid = g.D.Disk.medium c.flush.new.self in
    let last = g.D.Disk.medium c.read.new.self in
    let w : Write = record { place = 0; bytes = [] } in
    subst (λ o. Leads (OfRule rule) n (started m) (at (head_seen o) last)) (sym c.decode.ensures.value ∙ ap found c.in_default.is)
    (head_goes (OfRule rule) (rule disk w, (disk, w, refl)) tries n m mid (Ok tt) last (replicate 512 0) c.read.new.buffer
    c.requires.sized c.in_ok-flush.ensures refl c.in_ok-read.ensures)

pub invariant_of-result : goal.invariant_of-result
invariant_of-result g c = record {
  room = c.requires.room;
  fit = (c.decode.ensures.no_other (head_of c.in-Some.head) (ap found c.in-Some.is)).1;
}

pub returns : goal.returns
returns g c =
    let rule = g.D.Disk.rule in
    let tries = g.D.Disk.attempts in
    let n = c.args.home in
    let disk = c.args.disk.now in
    let m = g.D.Disk.medium disk in
    let mid = g.D.Disk.medium c.flush.new.self in
    let last = g.D.Disk.medium c.read.new.self in
    let w : Write = record { place = 0; bytes = [] } in (
      subst (λ o. Leads (OfRule rule) n (started m) (at (head_seen o) last)) (sym c.decode.ensures.value ∙ ap found c.in-Some.is)
          (head_goes (OfRule rule) (rule disk w, (disk, w, refl)) tries n m mid (Ok tt) last (replicate 512 0) c.read.new.buffer
          c.requires.sized c.in_ok-flush.ensures refl c.in_ok-read.ensures),
      refl,
    )
