-- A recovery over a disk whose writes join.
use Rattle.std.proofs.Common.{◌≡◌, ℕ, suc, ◌-◌, ◌<◌, ◌≤◌, Bool, true, false, cond, eqb, ltb, List, [], ◌∷◌, length, get_or, replicate, Ok, Err, sym, refl, ap, ◌∙◌, arith}
use mathlib.Core.Option.{Option, some, none}
use borrow.Author.Tests.{clash}
use Rattle.disk.specs.declared.error.DiskError.{DiskError}
use Rattle.disk.specs.Medium.{Write, Effect, join, Entry, good, bad, Medium, size, due, later, current, put}
use Rattle.errors.specs.declared.VolumeError.{VolumeError}
use Rattle.errors.specs.declared.VolumeError.TheVariants as volume
use Rattle.head.specs.Head.{Head, decode, empty_head}
use Rattle.journal_law.specs.Recovery.{home_blocks, head_write, by_entry, Stage, first_flush, read_head, read_slot, write_home, home_flush, write_empty, last_flush, recovered, no_head, failed, Recovery, started, head_seen, good_call, bad_call, one_call, calls, ended}
use Rattle.journal_law.proofs.Media.{wrote_plan}
use Rattle.journal_volume.specs.Recovering.{RecoveredAs}
use Rattle.journal_volume.specs.Restoring.{Restores}
use Rattle.journal_volume.proofs.Going.{calls_size}
use Rattle.journal_volume.proofs.Ending.{left_size}
use Rattle.play.specs.Histories.{Recoverable}
use Rattle.play.specs.InJournal.{is_broken, number_in, Recovered, recovery, recovered_from, recovery_breaks, recovery_leaves}

-- ---- a recovery that is broken off took an entry off the plan

later_shorter : (es : List Entry) → length (later es) ≤ length es
later_shorter [] = omega arith
later_shorter (e ∷ es) = omega arith

bad_shorter : (es : List Entry) → due es ≡ bad → length (later es) < length es
bad_shorter [] e = let z : ◌≡◌ {A = ℕ} 0 1 = cc in absurd (omega arith)
bad_shorter (good ∷ es) e = let z : ◌≡◌ {A = ℕ} 0 1 = cc in absurd (omega arith)
bad_shorter (bad ∷ es) e = omega arith

seen_unbroken : (o : Option Head) → is_broken (head_seen o) ≡ false
seen_unbroken none = refl
seen_unbroken (some h) = go (eqb (length h.places) 0)
  where
    go : (t : Bool) → is_broken (cond t (recovered h.number) (read_slot 0 h)) ≡ false
    go true = refl
    go false = refl

turn_unbroken : (t : Bool) (i : ℕ) (h : Head) → is_broken (cond t (read_slot i h) (home_flush h)) ≡ false
turn_unbroken true i h = refl
turn_unbroken false i h = refl

module _ (n : ℕ) (effect : Effect) (m : Medium) where
  written_shorter : (w : Write) → length (put effect m w).plan ≤ length m.plan
  written_shorter w = omega (arith, ap length (wrote_plan effect w m), later_shorter m.plan)

  good_shorter : (s : Stage) → length (good_call n effect m s).medium.plan ≤ length m.plan
  good_shorter first_flush = later_shorter m.plan
  good_shorter read_head = later_shorter m.plan
  good_shorter (read_slot i h) = later_shorter m.plan
  good_shorter (write_home i h bytes) = written_shorter (record { place = get_or h.places i 0; bytes = bytes })
  good_shorter (home_flush h) = later_shorter m.plan
  good_shorter (write_empty h) = written_shorter (head_write n (empty_head h.number))
  good_shorter (last_flush h) = later_shorter m.plan
  good_shorter (recovered k) = omega arith
  good_shorter no_head = omega arith
  good_shorter (failed k place) = omega arith

  good_unbroken : (s : Stage) → is_broken s ≡ false → is_broken (good_call n effect m s).stage ≡ false
  good_unbroken first_flush e = refl
  good_unbroken read_head e = seen_unbroken (decode n (get_or (current m) n []))
  good_unbroken (read_slot i h) e = refl
  good_unbroken (write_home i h bytes) e = turn_unbroken (ltb (suc i) (length h.places)) (suc i) h
  good_unbroken (home_flush h) e = refl
  good_unbroken (write_empty h) e = refl
  good_unbroken (last_flush h) e = refl
  good_unbroken (recovered k) e = refl
  good_unbroken no_head e = refl
  good_unbroken (failed k place) e = e

  bad_no_longer : (s : Stage) → length (bad_call n m s).medium.plan ≤ length m.plan
  bad_no_longer first_flush = later_shorter m.plan
  bad_no_longer read_head = later_shorter m.plan
  bad_no_longer (read_slot i h) = later_shorter m.plan
  bad_no_longer (write_home i h bytes) = later_shorter m.plan
  bad_no_longer (home_flush h) = later_shorter m.plan
  bad_no_longer (write_empty h) = later_shorter m.plan
  bad_no_longer (last_flush h) = later_shorter m.plan
  bad_no_longer (recovered k) = omega arith
  bad_no_longer no_head = omega arith
  bad_no_longer (failed k place) = omega arith

  breaks_shorter : (s : Stage) → due m.plan ≡ bad → is_broken s ≡ false → is_broken (bad_call n m s).stage ≡ true → length (bad_call n m s).medium.plan < length m.plan
  breaks_shorter first_flush d e b = bad_shorter m.plan d
  breaks_shorter read_head d e b = bad_shorter m.plan d
  breaks_shorter (read_slot i h) d e b = bad_shorter m.plan d
  breaks_shorter (write_home i h bytes) d e b = bad_shorter m.plan d
  breaks_shorter (home_flush h) d e b = bad_shorter m.plan d
  breaks_shorter (write_empty h) d e b = bad_shorter m.plan d
  breaks_shorter (last_flush h) d e b = bad_shorter m.plan d
  breaks_shorter (recovered k) d e b = absurd (clash b)
  breaks_shorter no_head d e b = absurd (clash b)
  breaks_shorter (failed k place) d e b = absurd (clash (sym e))

-- one disk call
call_no_longer : (n : ℕ) (effect : Effect) (r : Recovery) → length (one_call n effect r).medium.plan ≤ length r.medium.plan
call_no_longer n effect r = go (due r.medium.plan)
  where
    go : (d : Entry) → length (by_entry {A = Recovery} d (good_call n effect r.medium r.stage) (bad_call n r.medium r.stage)).medium.plan ≤ length r.medium.plan
    go good = good_shorter n effect r.medium r.stage
    go bad = bad_no_longer n effect r.medium r.stage

call_breaks : (n : ℕ) (effect : Effect) (r : Recovery) → is_broken r.stage ≡ false → is_broken (one_call n effect r).stage ≡ true → length (one_call n effect r).medium.plan < length r.medium.plan
call_breaks n effect r e b = go (due r.medium.plan) refl b
  where
    go : (d : Entry) → due r.medium.plan ≡ d → is_broken (by_entry {A = Recovery} d (good_call n effect r.medium r.stage) (bad_call n r.medium r.stage)).stage ≡ true →
        length (by_entry {A = Recovery} d (good_call n effect r.medium r.stage) (bad_call n r.medium r.stage)).medium.plan < length r.medium.plan
    go good d broke = absurd (clash (sym (good_unbroken n effect r.medium r.stage e) ∙ broke))
    go bad d broke = breaks_shorter n effect r.medium r.stage d e broke

calls_no_longer : (n : ℕ) (es : List Effect) (r : Recovery) → length (calls n es r).medium.plan ≤ length r.medium.plan
calls_no_longer n [] r = omega arith
calls_no_longer n (e ∷ es) r = omega (arith, calls_no_longer n es (one_call n e r), call_no_longer n e r)

calls_break : (n : ℕ) (es : List Effect) (r : Recovery) → is_broken r.stage ≡ false → is_broken (calls n es r).stage ≡ true → length (calls n es r).medium.plan < length r.medium.plan
calls_break n [] r e b = absurd (clash (sym e ∙ b))
calls_break n (f ∷ es) r e b = go (is_broken (one_call n f r).stage) refl (λ q. calls_break n es (one_call n f r) q b)
  where
    go : (t : Bool) → is_broken (one_call n f r).stage ≡ t →
        (is_broken (one_call n f r).stage ≡ false → length (calls n es (one_call n f r)).medium.plan < length (one_call n f r).medium.plan) →
        length (calls n es (one_call n f r)).medium.plan < length r.medium.plan
    go true q rest = omega (arith, call_breaks n f r e q, calls_no_longer n es (one_call n f r))
    go false q rest = omega (arith, rest q, call_no_longer n f r)

pub recovery_shorter : (m : Medium) → recovery_breaks m ≡ true → length (recovery_leaves m).plan < length m.plan
recovery_shorter m b = calls_break (home_blocks m) (replicate 21 join) (started m) refl b

-- ---- what a recovery answered tells where it ended

pub ended_well : (tries : ℕ) (s : Stage) (k : ℕ) → some (Ok k) ≡ ended tries s → (is_broken s ≡ false) × (number_in s ≡ k)
ended_well tries (recovered j) k e = (refl, cc)
ended_well tries no_head k e = let z : ◌≡◌ {A = ℕ} 0 1 = cc in absurd (omega arith)
ended_well tries (failed c place) k e = let z : ◌≡◌ {A = ℕ} 0 1 = cc in absurd (omega arith)
ended_well tries first_flush k e = let z : ◌≡◌ {A = ℕ} 0 1 = cc in absurd (omega arith)
ended_well tries read_head k e = let z : ◌≡◌ {A = ℕ} 0 1 = cc in absurd (omega arith)
ended_well tries (read_slot i h) k e = let z : ◌≡◌ {A = ℕ} 0 1 = cc in absurd (omega arith)
ended_well tries (write_home i h bytes) k e = let z : ◌≡◌ {A = ℕ} 0 1 = cc in absurd (omega arith)
ended_well tries (home_flush h) k e = let z : ◌≡◌ {A = ℕ} 0 1 = cc in absurd (omega arith)
ended_well tries (write_empty h) k e = let z : ◌≡◌ {A = ℕ} 0 1 = cc in absurd (omega arith)
ended_well tries (last_flush h) k e = let z : ◌≡◌ {A = ℕ} 0 1 = cc in absurd (omega arith)

pub ended_by_fault : (tries : ℕ) (s : Stage) (f : DiskError) → some (Err (volume.Disk f)) ≡ ended tries s → is_broken s ≡ true
ended_by_fault tries (failed c place) f e = refl
ended_by_fault tries (recovered j) f e = let z : ◌≡◌ {A = ℕ} 0 1 = cc in absurd (omega arith)
ended_by_fault tries no_head f e = let z : ◌≡◌ {A = ℕ} 0 1 = cc in absurd (omega arith)
ended_by_fault tries first_flush f e = let z : ◌≡◌ {A = ℕ} 0 1 = cc in absurd (omega arith)
ended_by_fault tries read_head f e = let z : ◌≡◌ {A = ℕ} 0 1 = cc in absurd (omega arith)
ended_by_fault tries (read_slot i h) f e = let z : ◌≡◌ {A = ℕ} 0 1 = cc in absurd (omega arith)
ended_by_fault tries (write_home i h bytes) f e = let z : ◌≡◌ {A = ℕ} 0 1 = cc in absurd (omega arith)
ended_by_fault tries (home_flush h) f e = let z : ◌≡◌ {A = ℕ} 0 1 = cc in absurd (omega arith)
ended_by_fault tries (write_empty h) f e = let z : ◌≡◌ {A = ℕ} 0 1 = cc in absurd (omega arith)
ended_by_fault tries (last_flush h) f e = let z : ◌≡◌ {A = ℕ} 0 1 = cc in absurd (omega arith)

-- ---- tries of a volume that can be recovered

-- a volume that can be recovered is large enough
pub recoverable_room : (m : Medium) → Recoverable m → 10 ≤ size m
recoverable_room m r = omega (arith, left_size r.homes r.number r.opening r.events m r.left, r.left.start.home_blocks.0)

-- a try that is refused was broken off by a fault, and leaves a volume that can be recovered
pub broken_off : (tries : ℕ) (m m' : Medium) (e : VolumeError) → Recoverable m → Restores m (Err e) m' → RecoveredAs tries join m (Err e) m' → Recoverable m' × (recovery_breaks m ≡ true)
broken_off tries m m' (volume.Disk f) r restores told =
    let left = (restores.atomic r.homes r.number r.opening r.events r.left).1 in
    (record { homes = r.homes; number = r.number; opening = r.opening; events = r.events; left = left }, ended_by_fault tries (recovery m).stage f told.answers)
broken_off tries m m' volume.NoHead r restores told = absurd (restores.atomic r.homes r.number r.opening r.events r.left)
broken_off tries m m' volume.TooSmall r restores told = absurd (restores.atomic r.homes r.number r.opening r.events r.left)

-- a try that is accepted
pub accepted_as : (tries : ℕ) (m m' : Medium) (k : ℕ) → RecoveredAs tries join m (Ok k) m' → (recovery_breaks m ≡ false) × (◌≡◌ {A = Recovered} (record { number = k; medium = m' }) (recovered_from m))
accepted_as tries m m' k told =
    let well = ended_well tries (recovery m).stage k told.answers in
    (well.0, λ i. record { number = sym well.1 i; medium = told.leaves i })

pub same_homes : (tries : ℕ) (m m' : Medium) (k : ℕ) → RecoveredAs tries join m (Ok k) m' → home_blocks m ≡ home_blocks m'
same_homes tries m m' k told = sym (ap home_blocks told.leaves ∙ ap (λ s. s - 9) (calls_size (home_blocks m) (replicate 21 join) (started m)))
