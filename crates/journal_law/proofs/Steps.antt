-- A good step in each phase.
use Rattle.std.proofs.Common.{◌≡◌, ℕ, suc, ◌+◌, Bool, true, false, cond, ltb, List, [], length, get_or, sym, refl, ap, ◌∙◌, subst, arith}
use mathlib.Core.Option.{Option, some, none}
use Rattle.std.proofs.lemmas.Bool.{ltb-true, ltb-false}
use Rattle.disk.specs.Medium.{Effect, Block, Write, Medium, current, flushed}
use Rattle.journal_law.proofs.Media.{wrote, Keeps}
use Rattle.head.specs.Head.{encode, decode, empty_head}
use Rattle.journal_law.specs.Recovery.{slot_place, head_write}
use Rattle.journal_law.specs.Cache.{Phase, slot, slots_flush, head, head_flush, home, homes_flush, empty, empty_flush, Group, nth, group_head, phase_call, next_phase, in_phase, good_medium}
use Rattle.journal_law.specs.Ledger.{Sealing, UnderWay, committed_by, in_phase_now}
use Rattle.journal_law.proofs.Forms.{Idle, Replayed, Cleared, Names, ToLay, SlotsWritten, replayed_start, replayed_write, replayed_fixed, replayed_flush, cleared_write, cleared_flush}
use Rattle.journal_law.proofs.Invariant.{content, InPhase, State, last_sealed}
use Rattle.journal_law.proofs.Phases.{Log, slot_done, slots_flushed, head_written, head_flushed}

-- a phase asks for the group's number and writes alone
pub same_phase : (n : ℕ) (opening : List Block) (g h : Group) (s c : Sealing) (firm : List Block) (loose : List Write) → g.number ≡ h.number → g.writes ≡ h.writes →
    (ph : Phase) → InPhase n opening g s c firm loose ph → InPhase n opening h s c firm loose ph
same_phase n opening g h s c firm loose e f ph a =
    go ph (subst (λ ws. InPhase n opening (record { number = h.number; writes = ws; phase = slot 0 }) s c firm loose ph) f
    (subst (λ k. InPhase n opening (record { number = k; writes = g.writes; phase = slot 0 }) s c firm loose ph) e (back ph a)))
  where
    back : (ph : Phase) → InPhase n opening g s c firm loose ph → InPhase n opening (record { number = g.number; writes = g.writes; phase = slot 0 }) s c firm loose ph
    back (slot i) a = a
    back slots_flush a = a
    back head a = a
    back head_flush a = a
    back (home i) a = a
    back homes_flush a = a
    back empty a = a
    back empty_flush a = a

    go : (ph : Phase) → InPhase n opening (record { number = h.number; writes = h.writes; phase = slot 0 }) s c firm loose ph → InPhase n opening h s c firm loose ph
    go (slot i) a = a
    go slots_flush a = a
    go head a = a
    go head_flush a = a
    go (home i) a = a
    go homes_flush a = a
    go empty a = a
    go empty_flush a = a

module _ (n : ℕ) (opening : List Block) (g : Group) (u : UnderWay) (c : Sealing) (names : Names n g.number g.writes) (last : ℕ)
    (is_last : last ≡ g.number) (number : u.sealing.number ≡ g.number) (blocks : u.blocks ≡ length g.writes) where
  -- the state once the group has come to its next phase
  abbrev Next : Medium → Option Phase → Sealing → Type 0
  Next m next c' = State n opening m.firm m.loose last (in_phase g next) (in_phase_now u next) c'

  in_next : (m : Medium) (ph : Phase) (c' : Sealing) → InPhase n opening g u.sealing c' m.firm m.loose ph → Next m (some ph) c'
  in_next m ph c' a = (
    is_last,
    number,
    blocks,
    refl,
    names,
    same_phase n opening g (record { number = g.number; writes = g.writes; phase = ph }) u.sealing c' m.firm m.loose refl refl ph a,
  )

  slot_step : (effect : Effect) (i : ℕ) (m : Medium) → InPhase n opening g u.sealing c m.firm m.loose (slot i) →
      Next (good_medium effect (phase_call n g (slot i)) m) (next_phase (length g.writes) (slot i)) c
  slot_step effect i m (o, l, (tried, h, d)) = go (ltb (suc i) (length g.writes)) refl
    where
      m' : Medium
      m' = wrote effect (record { place = slot_place n i; bytes = (nth g.writes i).bytes }) m

      r : Keeps (n + 9) (Log n opening g u.sealing c names tried tried) m' × SlotsWritten n g.writes (suc i) m'
      r = slot_done n opening g u.sealing c names effect i m tried l h d

      go : (b : Bool) → ltb (suc i) (length g.writes) ≡ b → Next m' (some (cond b (slot (suc i)) slots_flush)) c
      go true e = in_next m' (slot (suc i)) c (o, ltb-true (suc i) (length g.writes) e, (tried, r.0, r.1))
      go false e = in_next m' slots_flush c (
        o,
        (
          tried,
          r.0,
          subst (λ x. SlotsWritten n g.writes x m') (let q : suc i ≡ length g.writes = omega (arith, ltb-false (suc i) (length g.writes) e, l) in q) r.1,
        ),
      )

  home_step : (effect : Effect) (i : ℕ) (m : Medium) → InPhase n opening g u.sealing c m.firm m.loose (home i) →
      Next (good_medium effect (phase_call n g (home i)) m) (next_phase (length g.writes) (home i)) c
  home_step effect i m (q, l, h, d) = go (ltb (suc i) (length g.writes)) refl
    where
      m' : Medium
      m' = wrote effect (nth g.writes i) m

      r : Keeps (n + 9) (Replayed n g.number g.writes (content opening u.sealing)) m' × ToLay n g.writes (content opening u.sealing) (suc i) m'
      r = replayed_write n g.number g.writes (content opening u.sealing) effect i m names h d l

      go : (b : Bool) → ltb (suc i) (length g.writes) ≡ b → Next m' (some (cond b (home (suc i)) homes_flush)) c
      go true e = in_next m' (home (suc i)) c (q, ltb-true (suc i) (length g.writes) e, r.0, r.1)
      go false e = in_next m' homes_flush c (
        q,
        r.0,
        subst (λ x. ToLay n g.writes (content opening u.sealing) x m') (let z : suc i ≡ length g.writes = omega (arith, ltb-false (suc i) (length g.writes) e, l) in z) r.1,
      )

  leave_step : (m : Medium) → InPhase n opening g u.sealing c m.firm m.loose empty_flush → Next (flushed m) none c
  leave_step m (q, f, h, d) = (
    is_last ∙ sym same,
    subst (λ x. decode n (encode (empty_head x)) ≡ some (empty_head x)) (sym same) names.blank,
    subst (λ (z : Sealing). Keeps (n + 9) (Idle n c.number (content opening z)) (flushed m)) (sym q)
        (subst (λ x. Keeps (n + 9) (Idle n x (content opening u.sealing)) (flushed m)) (sym same)
        (cleared_flush n g.number g.writes (content opening u.sealing) m h d)),
  )
    where
      same : c.number ≡ g.number
      same = ap (λ (z : Sealing). z.number) q ∙ number

  pub phase_step : (effect : Effect) (ph : Phase) (m : Medium) → InPhase n opening g u.sealing c m.firm m.loose ph →
      Next (good_medium effect (phase_call n g ph) m) (next_phase (length g.writes) ph) (committed_by u c ph)
  phase_step effect (slot i) m a = slot_step effect i m a
  phase_step effect slots_flush m (o, (tried, h, d)) =
      in_next (flushed m) head c (o, (tried, slots_flushed n opening g u.sealing c names m tried h d))
  phase_step effect head m (o, (tried, h)) =
      let r : Keeps (n + 9) (Log n opening g u.sealing c names true true) (wrote effect (head_write n (group_head g)) m)
      × (get_or (current (wrote effect (head_write n (group_head g)) m)) n [] ≡ encode (group_head g))
      = head_written n opening g u.sealing c names effect m tried h in
      in_next (wrote effect (head_write n (group_head g)) m) head_flush c (o, r.0, r.1)
  phase_step effect head_flush m (o, h, d) =
      let r : Keeps (n + 9) (Replayed n g.number g.writes (content opening u.sealing)) (flushed m)
      = head_flushed n opening g u.sealing c names m o h d in
      in_next (flushed m) (home 0) u.sealing (refl, names.many, r, replayed_start n g.number g.writes (content opening u.sealing) (flushed m) r)
  phase_step effect (home i) m a = home_step effect i m a
  phase_step effect homes_flush m (q, h, d) =
      in_next (flushed m) empty c (
        q,
        replayed_fixed n g.number g.writes (content opening u.sealing) m h,
        replayed_flush n g.number g.writes (content opening u.sealing) m h d,
      )
  phase_step effect empty m (q, f, h) =
      let r : Keeps (n + 9) (Cleared n g.number g.writes (content opening u.sealing)) (wrote effect (head_write n (empty_head g.number)) m)
      × (get_or (current (wrote effect (head_write n (empty_head g.number)) m)) n [] ≡ encode (empty_head g.number))
      = cleared_write n g.number g.writes (content opening u.sealing) effect m h in
      in_next (wrote effect (head_write n (empty_head g.number)) m) empty_flush c (q, f, r.0, r.1)
  phase_step effect empty_flush m a = leave_step m a

  -- the last sealing stays the same one when its group is committed, and when it leaves
  pub phase_sealed : (ph : Phase) (m : Medium) → InPhase n opening g u.sealing c m.firm m.loose ph →
      last_sealed (in_phase_now u (next_phase (length g.writes) ph)) (committed_by u c ph) ≡ u.sealing.writes
  phase_sealed (slot i) m a = refl
  phase_sealed slots_flush m a = refl
  phase_sealed head m a = refl
  phase_sealed head_flush m a = refl
  phase_sealed (home i) m a = refl
  phase_sealed homes_flush m a = refl
  phase_sealed empty m a = refl
  phase_sealed empty_flush m (q, f, h, d) = ap (λ (z : Sealing). z.writes) q
