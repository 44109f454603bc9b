-- A group under way leaves the cache: the disk calls that it has left, with the bad entries left in the plan, fall at every step and rise at
-- no other call but restart.
use Rattle.std.proofs.Common.{◌≡◌, ℕ, suc, ◌+◌, ◌≤◌, Bool, true, false, cond, ltb, List, [], ◌∷◌, ◌++◌, length, sym, refl, ap, ◌∙◌, subst, arith}
use mathlib.Core.Option.{Option, some, none}
use Rattle.std.proofs.Math.Option.{none-ne-some, some-injective}
use Rattle.std.proofs.lemmas.Bool.{ltb-true}
use Rattle.disk.specs.Medium.{Effect, Block, Write, Entry, good, bad, due, later, Medium, size}
use Rattle.disk.specs.Calls.{Fate, fate, served, failed, wrong_length, wrong_place, by_entry as fate_by}
use Rattle.journal_law.specs.Device.{Device, bads}
use Rattle.journal_law.specs.Cache.{Begun, Phase, slot, slots_flush, head, head_flush, home, homes_flush, empty, empty_flush, Group, Live, Call, begin, finish, withdraw, read, seal, step, restart, begin_refusal, begun, find, finished, withdrawn, cached, group_writes, read_shown, read_disk, read_refusal, seal_refusal, sealed, DiskCall, write, flush, phase_call, next_phase, in_phase, good_medium, step_met, stepped, outcome_in}
use Rattle.journal_law.specs.Ledger.{Sealing, UnderWay, Ledger}
use Rattle.journal_law.specs.Laws.{calls_left, step_count, IsRestart}
use Rattle.std.specs.List.{AllByRecursion}
use Rattle.journal_law.proofs.Media.{wrote_plan}
use Rattle.journal_law.proofs.Invariant.{State, Invariant}
use Rattle.journal_law.proofs.Calls.{decided_both}
use Rattle.journal_law.proofs.Held.{Held, InTurn, turn_of, phase_fate}

pub some_left : (blocks : ℕ) (ph : Phase) → InTurn blocks ph → 1 ≤ calls_left blocks ph
some_left blocks (slot i) l = omega arith
some_left blocks slots_flush l = omega arith
some_left blocks head l = omega arith
some_left blocks head_flush l = omega arith
some_left blocks (home i) l = omega arith
some_left blocks homes_flush l = omega arith
some_left blocks empty l = omega arith
some_left blocks empty_flush l = omega arith

-- what a phase has left, and 0 where the group has left
abbrev left_in : ℕ → Option Phase → ℕ
left_in blocks none = 0
left_in blocks (some ph) = calls_left blocks ph

one_fewer : (blocks : ℕ) (ph : Phase) → InTurn blocks ph → suc (left_in blocks (next_phase blocks ph)) ≤ calls_left blocks ph
one_fewer blocks (slot i) l = go (ltb (suc i) blocks) refl
  where
    go : (b : Bool) → ltb (suc i) blocks ≡ b → suc (left_in blocks (some (cond b (slot (suc i)) slots_flush))) ≤ calls_left blocks (slot i)
    go true e = omega (arith, ltb-true (suc i) blocks e)
    go false e = omega (arith, l)
one_fewer blocks slots_flush l = omega arith
one_fewer blocks head l = omega arith
one_fewer blocks head_flush l = omega arith
one_fewer blocks (home i) l = go (ltb (suc i) blocks) refl
  where
    go : (b : Bool) → ltb (suc i) blocks ≡ b → suc (left_in blocks (some (cond b (home (suc i)) homes_flush))) ≤ calls_left blocks (home i)
    go true e = omega (arith, ltb-true (suc i) blocks e)
    go false e = omega (arith, l)
one_fewer blocks homes_flush l = omega arith
one_fewer blocks empty l = omega arith
one_fewer blocks empty_flush l = omega arith

-- the steps made once this call was
abbrev pub counted : Call → ℕ → ℕ
counted step done = suc done
counted (begin place bytes) done = done
counted (finish ticket) done = done
counted (withdraw ticket) done = done
counted (read place room) done = done
counted seal done = done
counted (restart choice) done = done

pub counted_is : (call : Call) (done : ℕ) → counted call done ≡ done + step_count call
counted_is step done = omega arith
counted_is (begin place bytes) done = omega arith
counted_is (finish ticket) done = omega arith
counted_is (withdraw ticket) done = omega arith
counted_is (read place room) done = omega arith
counted_is seal done = omega arith
counted_is (restart choice) done = omega arith

-- a call takes one entry off the plan
fewer_bads : (es : List Entry) → bads (later es) ≤ bads es
fewer_bads [] = omega arith
fewer_bads (good ∷ es) = omega arith
fewer_bads (bad ∷ es) = omega arith

abbrev IsGood : Entry → Type 0
IsGood good = Unit {0}
IsGood bad = ⊥

bad_spent : (es : List Entry) → due es ≡ bad → suc (bads (later es)) ≤ bads es
bad_spent [] e = absurd (subst IsGood e tt)
bad_spent (good ∷ es) e = absurd (subst IsGood e tt)
bad_spent (bad ∷ es) e = omega arith

-- after so many steps the group numbered k, if it is still there, has at most the rest of the bound left; and no later group takes its number
pub record Due (k bound done : ℕ) (group : Option Group) (plan : List Entry) (last : ℕ) : Type 0 where
  pub left : (g : Group) → group ≡ some g → g.number ≡ k → calls_left (length g.writes) g.phase + bads plan + done ≤ bound
  pub given : k ≤ last

abbrev pub DueIn : ℕ → ℕ → ℕ → Live → Type 0
DueIn k bound done v = Due k bound done v.group v.medium.plan v.last

good_plan : (effect : Effect) (c : DiskCall) (m : Medium) → (good_medium effect c m).plan ≡ later m.plan
good_plan effect flush m = refl
good_plan effect (write w) m = wrote_plan effect w m

module _ (n : ℕ) (opening : List Block) (device : Device) (v : Live) (l : Ledger) (i : Invariant n opening v l) (h : Held n v) (sized : size v.medium ≡ n + 9)
    (k bound done : ℕ) (d : DueIn k bound done v) where
  step_due : DueIn k bound (suc done) (outcome_in n device v step).live
  step_due = go v.group l.under_way refl i.state
    where
      go : (g : Option Group) (u : Option UnderWay) → v.group ≡ g → State n opening v.medium.firm v.medium.loose v.last g u l.committed →
          DueIn k bound (suc done) (stepped n device v g).live
      go none u e a = record { left = λ g f. absurd (none-ne-some g (sym e ∙ f)); given = d.given }
      go (some g) none e a = absurd a
      go (some g) (some u) e (is_last, number, blocks, phase, names, a) =
          subst (λ f. DueIn k bound (suc done) (step_met device v g call f).live)
          (sym (phase_fate n g v.medium g.phase names (subst (λ x. AllByRecursion (λ (w : Write). length w.bytes ≡ 512) (group_writes x)) e h.grouped) sized turn))
          (at_entry (due v.medium.plan) refl)
        where
          call : DiskCall
          call = phase_call n g g.phase

          turn : InTurn (length g.writes) g.phase
          turn = turn_of n opening g u.sealing l.committed v.medium.firm v.medium.loose g.phase a

          moved : (next : Option Phase) (x : Group) → in_phase g next ≡ some x → (x.number ≡ g.number) × (left_in (length g.writes) next ≡ calls_left (length x.writes) x.phase)
          moved none x f = absurd (none-ne-some x f)
          moved (some ph) x f =
              let q : record { number = g.number; writes = g.writes; phase = ph } ≡ x = some-injective (record { number = g.number; writes = g.writes; phase = ph }) x f in
              (ap (λ (y : Group). y.number) (sym q), ap (λ (y : Group). calls_left (length y.writes) y.phase) q)

          at_good : DueIn k bound (suc done) (step_met device v g call served).live
          at_good = record {
            left = λ x f q.
                let r : (x.number ≡ g.number) × (left_in (length g.writes) (next_phase (length g.writes) g.phase) ≡ calls_left (length x.writes) x.phase)
                = moved (next_phase (length g.writes) g.phase) x f in
                let p : bads (good_medium device.effect call v.medium).plan ≡ bads (later v.medium.plan) = ap bads (good_plan device.effect call v.medium) in
                omega (arith, one_fewer (length g.writes) g.phase turn, r.1, d.left g e (sym r.0 ∙ q), p, fewer_bads v.medium.plan);
            given = d.given;
          }

          at_entry : (x : Entry) → due v.medium.plan ≡ x → DueIn k bound (suc done) (step_met device v g call (fate_by x)).live
          at_entry good p = at_good
          at_entry bad p = record { left = λ x f q. omega (arith, d.left x (e ∙ f) q, bad_spent v.medium.plan p); given = d.given }

  read_due : (place room : ℕ) (b : Option Block) → DueIn k bound done (read_shown device v place room b).live
  read_due place room (some b) = d
  read_due place room none = go (fate v.medium place room)
    where
      passes : Due k bound done v.group (later v.medium.plan) v.last
      passes = record { left = λ g e f. omega (arith, d.left g e f, fewer_bads v.medium.plan); given = d.given }

      go : (f : Fate) → DueIn k bound done (read_disk device v place f).live
      go wrong_length = d
      go wrong_place = d
      go failed = passes
      go served = passes

  seal_due : DueIn k bound done (sealed v).live
  seal_due = record {
    left = λ g e f. absurd (omega (arith, d.given, f, ap (λ (x : Group). x.number) (some-injective (record { number = suc v.last; writes = v.collected; phase = slot 0 }) g e)));
    given = omega (arith, d.given);
  }

  pub call_due : (call : Call) → (IsRestart call → ⊥) → DueIn k bound (counted call done) (outcome_in n device v call).live
  call_due step no-restart = step_due
  call_due (begin place bytes) no-restart = decided_both (λ o. DueIn k bound done o.live) (begin_refusal n v place bytes) (begun v place bytes) v (λ _. d) (λ _. d)
  call_due (finish ticket) no-restart = go (find ticket v.open_writes)
    where
      go : (o : Option Begun) → DueIn k bound done (finished v ticket o).live
      go none = d
      go (some o) = d
  call_due (withdraw ticket) no-restart = go (find ticket v.open_writes)
    where
      go : (o : Option Begun) → DueIn k bound done (withdrawn v ticket o).live
      go none = d
      go (some o) = d
  call_due (read place room) no-restart =
      decided_both (λ o. DueIn k bound done o.live) (read_refusal n place room) (read_shown device v place room (cached place (v.collected ++ group_writes v.group))) v
      (λ _. read_due place room (cached place (v.collected ++ group_writes v.group))) (λ _. d)
  call_due seal no-restart = decided_both (λ o. DueIn k bound done o.live) (seal_refusal v) (sealed v) v (λ _. seal_due) (λ _. d)
  call_due (restart choice) no-restart = absurd (no-restart tt)

-- the ledger's sealing under way is the cache's group
pub same_group : (n : ℕ) (opening firm : List Block) (loose : List Write) (last : ℕ) (g : Option Group) (u : Option UnderWay) (c : Sealing) →
    State n opening firm loose last g u c → (x : UnderWay) → u ≡ some x →
    (y : Group) × (g ≡ some y) × (x.sealing.number ≡ y.number) × (x.blocks ≡ length y.writes) × (x.phase ≡ y.phase) × (last ≡ y.number) × InTurn (length y.writes) y.phase
same_group n opening firm loose last none none c a x e = absurd (none-ne-some x e)
same_group n opening firm loose last none (some u) c a x e = absurd a
same_group n opening firm loose last (some g) none c a x e = absurd a
same_group n opening firm loose last (some g) (some u) c (is_last, number, blocks, phase, names, a) x e =
    let q : u ≡ x = some-injective u x e in (
      g,
      refl,
      ap (λ (z : UnderWay). z.sealing.number) (sym q) ∙ number,
      ap (λ (z : UnderWay). z.blocks) (sym q) ∙ blocks,
      ap (λ (z : UnderWay). z.phase) (sym q) ∙ phase,
      is_last,
      turn_of n opening g u.sealing c firm loose g.phase a,
    )
