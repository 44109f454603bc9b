use Rattle.std.proofs.Common.{◌≡◌, ◌-◌, ◌≤◌, Ok, Err, sym, refl, ap, subst, arith, rules}
use Rattle.std.proofs.lemmas.Result.{err_from_is_err_and}
use Rattle.journal_law.specs.Recovery.{started, recovered, no_head}
use Rattle.head.specs.Codes.{head_of}
use Rattle.errors.specs.declared.VolumeError.TheVariants as volume
use Rattle.journal_volume.specs.Recovering.{at, OfRule, seen_stage, Leads, Goes, Sees, accepted_by}
use Rattle.journal_volume.proofs.Going.{leads_on, ends_on, leads_size}
use Rattle.journal_volume.proofs.Ending.{too_small, recovered_done, recovered_none, recovered_failed}
use Rattle.journal_volume.proofs.cold.Cold.recover.Goals as goal

pub returns-then-size-le-KEPT_BLOCKS-clause-restores : goal.returns-then-size-le-KEPT_BLOCKS-clause-restores
returns-then-size-le-KEPT_BLOCKS-clause-restores g c =
    let m = g.D.Disk.medium c.args.self.now.disk in
    (too_small g.D.Disk.rule g.D.Disk.attempts m (omega (arith, c.size-size.ensures)) m refl).restores

pub returns-in_err-found : goal.returns-in_err-found
returns-in_err-found g c =
    let rule = g.D.Disk.rule in
    let m = g.D.Disk.medium c.args.self.now.disk in
    let last = g.D.Disk.medium c.read.new.disk in
    let s = c.size-size.result in
    let few : s ≤ 4096 = search rules in
    let p = err_from_is_err_and c.from_residual.result c.from_residual.ensures.1 in
    let d = recovered_failed rule g.D.Disk.attempts m last s c.size-size.ensures (omega arith) few c.in_err-found.field-0.0 c.from_residual.result p c.in_err-found.ensures in
    record { small = d.small; outcome = d.outcome; fixed = d.fixed; restores = d.restores; opens = d.opens; accepted = ap accepted_by (sym p.1) }

pub returns-in_default : goal.returns-in_default
returns-in_default g c =
    let rule = g.D.Disk.rule in
    let tries = g.D.Disk.attempts in
    let m = g.D.Disk.medium c.args.self.now.disk in
    let last = g.D.Disk.medium c.read.new.disk in
    let s = c.size-size.result in
    let few : s ≤ 4096 = search rules in
    let l : Leads (OfRule rule) (s - 9) (started m) (at no_head last) =
    subst (λ o. Sees (OfRule rule) tries (s - 9) m (Ok o) last) c.in_default.is c.in_ok-found.ensures in
    let d = recovered_none rule tries m last s c.size-size.ensures (omega arith) few l in
    record { small = d.small; outcome = d.outcome; fixed = d.fixed; restores = d.restores; opens = d.opens; accepted = refl }

pub restore-requires : goal.restore-requires
restore-requires g c =
    let rule = g.D.Disk.rule in
    let m = g.D.Disk.medium c.args.self.now.disk in
    let mid = g.D.Disk.medium c.read.new.disk in
    let n = c.size-size.result - 9 in
    let x = c.in-Some.found in
    let seen : Leads (OfRule rule) n (started m) (at (seen_stage (head_of x.head)) mid) × (x.home ≡ n) =
    subst (λ o. Sees (OfRule rule) g.D.Disk.attempts n m (Ok o) mid) c.in-Some.is c.in_ok-found.ensures in
    omega (arith, leads_size (OfRule rule) n (started m) (at (seen_stage (head_of x.head)) mid) seen.0, seen.1, c.size-size.ensures)

pub returns-in_err-restore : goal.returns-in_err-restore
returns-in_err-restore g c =
    let rule = g.D.Disk.rule in
    let tries = g.D.Disk.attempts in
    let m = g.D.Disk.medium c.args.self.now.disk in
    let mid = g.D.Disk.medium c.read.new.disk in
    let last = g.D.Disk.medium c.restore.new.disk in
    let s = c.size-size.result in
    let n = s - 9 in
    let x = c.in-Some.found in
    let h = head_of x.head in
    let e = c.in_err-restore.field-0.0 in
    let few : s ≤ 4096 = search rules in
    let seen : Leads (OfRule rule) n (started m) (at (seen_stage h) mid) × (x.home ≡ n) =
    subst (λ o. Sees (OfRule rule) tries n m (Ok o) mid) c.in-Some.is c.in_ok-found.ensures in
    let p = err_from_is_err_and c.from_residual-in_err-restore.result c.from_residual-in_err-restore.ensures.1 in
    let d = recovered_failed rule tries m last s c.size-size.ensures (omega arith) few e c.from_residual-in_err-restore.result p
    (ends_on (OfRule rule) n (started m) (at (seen_stage h) mid) seen.0 tries (Err (volume.Disk e)) last
    (subst (λ k. Goes (OfRule rule) tries k (at (seen_stage h) mid) (recovered h.number) (Err e) last) seen.1 c.in_err-restore.ensures)) in
    record { small = d.small; outcome = d.outcome; fixed = d.fixed; restores = d.restores; opens = d.opens; accepted = ap accepted_by (sym p.1) }

pub returns : goal.returns
returns g c =
    let rule = g.D.Disk.rule in
    let tries = g.D.Disk.attempts in
    let m = g.D.Disk.medium c.args.self.now.disk in
    let mid = g.D.Disk.medium c.read.new.disk in
    let last = g.D.Disk.medium c.restore.new.disk in
    let s = c.size-size.result in
    let n = s - 9 in
    let x = c.in-Some.found in
    let h = head_of x.head in
    let few : s ≤ 4096 = search rules in
    let seen : Leads (OfRule rule) n (started m) (at (seen_stage h) mid) × (x.home ≡ n) =
    subst (λ o. Sees (OfRule rule) tries n m (Ok o) mid) c.in-Some.is c.in_ok-found.ensures in
    let d = recovered_done rule tries m last s c.size-size.ensures (omega arith) few h.number
    (leads_on (OfRule rule) n (started m) (at (seen_stage h) mid) seen.0 (at (recovered h.number) last)
    (subst (λ k. Leads (OfRule rule) k (at (seen_stage h) mid) (at (recovered h.number) last)) seen.1 c.in_ok-restore.ensures)) in
    record { small = d.small; outcome = d.outcome; fixed = d.fixed; restores = d.restores; opens = d.opens; accepted = refl }
