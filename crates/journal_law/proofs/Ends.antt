-- Every recovery ends: each call brings it nearer to its end. It leaves nothing loose, is broken off by bad entries alone, and finds no head
-- only where there is none.
use Rattle.std.proofs.Common.{◌≡◌, ℕ, suc, ◌+◌, ◌-◌, ◌*◌, ◌<◌, ◌≤◌, Bool, true, false, cond, eqb, ltb, List, [], ◌∷◌, length, get_or, sym, refl, ap, ◌∙◌, subst, arith}
use mathlib.Core.Option.{Option, some, none}
use Rattle.std.proofs.lemmas.Bool.{ltb-true, eqb-false}
use Rattle.disk.specs.Medium.{Effect, Block, Entry, good, bad, due, later, Medium, current}
use Rattle.head.specs.Head.{Head, encode, decode, empty_head}
use Rattle.head.proofs.RoundTrip.{decode_sound}
use Rattle.journal_law.specs.Device.{bads}
use Rattle.journal_law.specs.Recovery.{by_entry, Stage, first_flush, read_head, read_slot, write_home, home_flush, write_empty, last_flush, recovered, no_head, failed, Recovery, started, head_write, head_seen, good_call, bad_call, one_call, calls, ended}
use Rattle.journal_law.specs.Cache.{is_some}
use Rattle.journal_law.specs.Laws.{RecoveryIdles, RecoveryEnds}
use Rattle.journal_law.proofs.Media.{Keeps, kept_current, wrote_plan}
use Rattle.journal_law.proofs.Forms.{Idle}
use Rattle.journal_law.proofs.Restore.{by_entry_both}
use Rattle.journal_law.proofs.Start.{fits_parts, found}

-- ---- the disk calls that recovery has left, at most
abbrev to_go : Stage → ℕ
to_go first_flush = 21
to_go read_head = 20
to_go (read_slot i h) = 2 * (length h.places - i) + 3
to_go (write_home i h bytes) = 2 * (length h.places - i) + 2
to_go (home_flush h) = 3
to_go (write_empty h) = 2
to_go (last_flush h) = 1
to_go (recovered k) = 0
to_go no_head = 0
to_go (failed call place) = 0

-- a turn within at most eight places
abbrev Fair : Stage → Type 0
Fair (read_slot i h) = (i < length h.places) × (length h.places ≤ 8)
Fair (write_home i h bytes) = (i < length h.places) × (length h.places ≤ 8)
Fair first_flush = Unit {0}
Fair read_head = Unit {0}
Fair (home_flush h) = Unit {0}
Fair (write_empty h) = Unit {0}
Fair (last_flush h) = Unit {0}
Fair (recovered k) = Unit {0}
Fair no_head = Unit {0}
Fair (failed call place) = Unit {0}

abbrev Nearer : Stage → Stage → Type 0
Nearer s s' = Fair s' × (to_go s' ≤ to_go s - 1)

module _ (n : ℕ) where
  head_nearer : (b : Block) (o : Option Head) → decode n b ≡ o → Nearer read_head (head_seen o)
  head_nearer b none e = (tt, omega arith)
  head_nearer b (some h) e = go (eqb (length h.places) 0) refl
    where
      few : length h.places ≤ 8
      few = (fits_parts n h (decode_sound n b h e).1).few

      go : (c : Bool) → eqb (length h.places) 0 ≡ c → Nearer read_head (cond c (recovered h.number) (read_slot 0 h))
      go true q = (tt, omega arith)
      go false q = ((omega (arith, eqb-false (length h.places) 0 q), few), omega (arith, few))

  good_nearer : (effect : Effect) (s : Stage) (m : Medium) → Fair s → Nearer s (good_call n effect m s).stage
  good_nearer effect first_flush m f = (tt, omega arith)
  good_nearer effect read_head m f = head_nearer (get_or (current m) n []) (decode n (get_or (current m) n [])) refl
  good_nearer effect (read_slot i h) m f = (f, omega (arith, f.0))
  good_nearer effect (write_home i h bytes) m f = go (ltb (suc i) (length h.places)) refl
    where
      go : (c : Bool) → ltb (suc i) (length h.places) ≡ c → Nearer (write_home i h bytes) (cond c (read_slot (suc i) h) (home_flush h))
      go true q = ((ltb-true (suc i) (length h.places) q, f.1), omega (arith, ltb-true (suc i) (length h.places) q))
      go false q = (tt, omega (arith, f.0))
  good_nearer effect (home_flush h) m f = (tt, omega arith)
  good_nearer effect (write_empty h) m f = (tt, omega arith)
  good_nearer effect (last_flush h) m f = (tt, omega arith)
  good_nearer effect (recovered k) m f = (tt, omega arith)
  good_nearer effect no_head m f = (tt, omega arith)
  good_nearer effect (failed call place) m f = (tt, omega arith)

  bad_nearer : (s : Stage) (m : Medium) → Nearer s (bad_call n m s).stage
  bad_nearer first_flush m = (tt, omega arith)
  bad_nearer read_head m = (tt, omega arith)
  bad_nearer (read_slot i h) m = (tt, omega arith)
  bad_nearer (write_home i h bytes) m = (tt, omega arith)
  bad_nearer (home_flush h) m = (tt, omega arith)
  bad_nearer (write_empty h) m = (tt, omega arith)
  bad_nearer (last_flush h) m = (tt, omega arith)
  bad_nearer (recovered k) m = (tt, omega arith)
  bad_nearer no_head m = (tt, omega arith)
  bad_nearer (failed call place) m = (tt, omega arith)

  calls_nearer : (effects : List Effect) (r : Recovery) → Fair r.stage → to_go (calls n effects r).stage ≤ to_go r.stage - length effects
  calls_nearer [] r f = omega arith
  calls_nearer (e ∷ es) r f =
      let near : Nearer r.stage (one_call n e r).stage
      = by_entry_both (λ (x : Recovery). Nearer r.stage x.stage) (due r.medium.plan) (good_call n e r.medium r.stage) (bad_call n r.medium r.stage)
      (good_nearer e r.stage r.medium f) (bad_nearer r.stage r.medium) in
      omega (arith, calls_nearer es (one_call n e r) near.0, near.1)

  at_end : (tries : ℕ) (s : Stage) → to_go s ≤ 0 → is_some (ended tries s) ≡ true
  at_end tries first_flush l = absurd (omega arith)
  at_end tries read_head l = absurd (omega arith)
  at_end tries (read_slot i h) l = absurd (omega arith)
  at_end tries (write_home i h bytes) l = absurd (omega arith)
  at_end tries (home_flush h) l = absurd (omega arith)
  at_end tries (write_empty h) l = absurd (omega arith)
  at_end tries (last_flush h) l = absurd (omega arith)
  at_end tries (recovered k) l = refl
  at_end tries no_head l = refl
  at_end tries (failed call place) l = refl

  -- ---- without bad entries
  pub no_bads : (es : List Entry) → bads es ≡ 0 → (due es ≡ good) × (bads (later es) ≡ 0)
  no_bads [] e = (refl, refl)
  no_bads (good ∷ es) e = (refl, e)
  no_bads (bad ∷ es) e = absurd (omega arith)

  abbrev Unbroken : Stage → Type 0
  Unbroken (failed call place) = ⊥
  Unbroken first_flush = Unit {0}
  Unbroken read_head = Unit {0}
  Unbroken (read_slot i h) = Unit {0}
  Unbroken (write_home i h bytes) = Unit {0}
  Unbroken (home_flush h) = Unit {0}
  Unbroken (write_empty h) = Unit {0}
  Unbroken (last_flush h) = Unit {0}
  Unbroken (recovered k) = Unit {0}
  Unbroken no_head = Unit {0}

  abbrev Fine : Recovery → Type 0
  Fine r = Unbroken r.stage × (bads r.medium.plan ≡ 0)

  seen_unbroken : (o : Option Head) → Unbroken (head_seen o)
  seen_unbroken none = tt
  seen_unbroken (some h) = go (eqb (length h.places) 0)
    where
      go : (c : Bool) → Unbroken (cond c (recovered h.number) (read_slot 0 h))
      go true = tt
      go false = tt

  good_fine : (effect : Effect) (s : Stage) (m : Medium) → Unbroken s → bads m.plan ≡ 0 → Fine (good_call n effect m s)
  good_fine effect first_flush m u e = (tt, (no_bads m.plan e).1)
  good_fine effect read_head m u e = (seen_unbroken (decode n (get_or (current m) n [])), (no_bads m.plan e).1)
  good_fine effect (read_slot i h) m u e = (tt, (no_bads m.plan e).1)
  good_fine effect (write_home i h bytes) m u e =
      (go (ltb (suc i) (length h.places)), ap bads (wrote_plan effect (record { place = get_or h.places i 0; bytes = bytes }) m) ∙ (no_bads m.plan e).1)
    where
      go : (c : Bool) → Unbroken (cond c (read_slot (suc i) h) (home_flush h))
      go true = tt
      go false = tt
  good_fine effect (home_flush h) m u e = (tt, (no_bads m.plan e).1)
  good_fine effect (write_empty h) m u e = (tt, ap bads (wrote_plan effect (head_write n (empty_head h.number)) m) ∙ (no_bads m.plan e).1)
  good_fine effect (last_flush h) m u e = (tt, (no_bads m.plan e).1)
  good_fine effect (recovered k) m u e = (tt, e)
  good_fine effect no_head m u e = (tt, e)
  good_fine effect (failed call place) m u e = absurd u

  calls_fine : (effects : List Effect) (r : Recovery) → Fine r → Fine (calls n effects r)
  calls_fine [] r f = f
  calls_fine (e ∷ es) r f =
      calls_fine es (one_call n e r)
      (subst (λ x. Fine (by_entry x (good_call n e r.medium r.stage) (bad_call n r.medium r.stage))) (sym (no_bads r.medium.plan f.1).0)
      (good_fine e r.stage r.medium f.0 f.1))

  -- ---- no head is found only where there is none
  module _ (b : Block) where
    abbrev Sees : Stage → Medium → Type 0
    Sees first_flush m = get_or (current m) n [] ≡ b
    Sees read_head m = get_or (current m) n [] ≡ b
    Sees no_head m = decode n b ≡ none
    Sees (read_slot i h) m = Unit {0}
    Sees (write_home i h bytes) m = Unit {0}
    Sees (home_flush h) m = Unit {0}
    Sees (write_empty h) m = Unit {0}
    Sees (last_flush h) m = Unit {0}
    Sees (recovered k) m = Unit {0}
    Sees (failed call place) m = Unit {0}

    head_sees : (m : Medium) (o : Option Head) → decode n b ≡ o → Sees (head_seen o) m
    head_sees m none e = e
    head_sees m (some h) e = go (eqb (length h.places) 0)
      where
        go : (c : Bool) → Sees (cond c (recovered h.number) (read_slot 0 h)) m
        go true = tt
        go false = tt

    good_sees : (effect : Effect) (s : Stage) (m : Medium) → Sees s m → Sees (good_call n effect m s).stage (good_call n effect m s).medium
    good_sees effect first_flush m e = e
    good_sees effect read_head m e = head_sees _ (decode n (get_or (current m) n [])) (ap (decode n) (sym e))
    good_sees effect (read_slot i h) m e = tt
    good_sees effect (write_home i h bytes) m e = go (ltb (suc i) (length h.places))
      where
        go : (c : Bool) → Sees (cond c (read_slot (suc i) h) (home_flush h)) (good_call n effect m (write_home i h bytes)).medium
        go true = tt
        go false = tt
    good_sees effect (home_flush h) m e = tt
    good_sees effect (write_empty h) m e = tt
    good_sees effect (last_flush h) m e = tt
    good_sees effect (recovered k) m e = tt
    good_sees effect no_head m e = e
    good_sees effect (failed call place) m e = tt

    bad_sees : (s : Stage) (m : Medium) → Sees s m → Sees (bad_call n m s).stage (bad_call n m s).medium
    bad_sees first_flush m e = tt
    bad_sees read_head m e = tt
    bad_sees (read_slot i h) m e = tt
    bad_sees (write_home i h bytes) m e = tt
    bad_sees (home_flush h) m e = tt
    bad_sees (write_empty h) m e = tt
    bad_sees (last_flush h) m e = tt
    bad_sees (recovered k) m e = tt
    bad_sees no_head m e = e
    bad_sees (failed call place) m e = tt

    calls_see : (effects : List Effect) (r : Recovery) → Sees r.stage r.medium → Sees (calls n effects r).stage (calls n effects r).medium
    calls_see [] r e = e
    calls_see (x ∷ xs) r e = calls_see xs (one_call n x r)
        (by_entry_both (λ (y : Recovery). Sees y.stage y.medium) (due r.medium.plan) (good_call n x r.medium r.stage) (bad_call n r.medium r.stage)
        (good_sees x r.stage r.medium e) (bad_sees r.stage r.medium e))

  -- ---- a success leaves nothing loose
  abbrev Quiet : Stage → Medium → Type 0
  Quiet read_head m = m.loose ≡ []
  Quiet (recovered k) m = m.loose ≡ []
  Quiet first_flush m = Unit {0}
  Quiet (read_slot i h) m = Unit {0}
  Quiet (write_home i h bytes) m = Unit {0}
  Quiet (home_flush h) m = Unit {0}
  Quiet (write_empty h) m = Unit {0}
  Quiet (last_flush h) m = Unit {0}
  Quiet no_head m = Unit {0}
  Quiet (failed call place) m = Unit {0}

  head_quiet : (m : Medium) (o : Option Head) → m.loose ≡ [] → Quiet (head_seen o) m
  head_quiet m none e = tt
  head_quiet m (some h) e = go (eqb (length h.places) 0)
    where
      go : (c : Bool) → Quiet (cond c (recovered h.number) (read_slot 0 h)) m
      go true = e
      go false = tt

  good_quiet : (effect : Effect) (s : Stage) (m : Medium) → Quiet s m → Quiet (good_call n effect m s).stage (good_call n effect m s).medium
  good_quiet effect first_flush m q = refl
  good_quiet effect read_head m q = head_quiet _ (decode n (get_or (current m) n [])) q
  good_quiet effect (read_slot i h) m q = tt
  good_quiet effect (write_home i h bytes) m q = go (ltb (suc i) (length h.places))
    where
      go : (c : Bool) → Quiet (cond c (read_slot (suc i) h) (home_flush h)) (good_call n effect m (write_home i h bytes)).medium
      go true = tt
      go false = tt
  good_quiet effect (home_flush h) m q = tt
  good_quiet effect (write_empty h) m q = tt
  good_quiet effect (last_flush h) m q = refl
  good_quiet effect (recovered k) m q = q
  good_quiet effect no_head m q = tt
  good_quiet effect (failed call place) m q = tt

  bad_quiet : (s : Stage) (m : Medium) → Quiet s m → Quiet (bad_call n m s).stage (bad_call n m s).medium
  bad_quiet first_flush m q = tt
  bad_quiet read_head m q = tt
  bad_quiet (read_slot i h) m q = tt
  bad_quiet (write_home i h bytes) m q = tt
  bad_quiet (home_flush h) m q = tt
  bad_quiet (write_empty h) m q = tt
  bad_quiet (last_flush h) m q = tt
  bad_quiet (recovered k) m q = q
  bad_quiet no_head m q = tt
  bad_quiet (failed call place) m q = tt

  calls_quiet : (effects : List Effect) (r : Recovery) → Quiet r.stage r.medium → Quiet (calls n effects r).stage (calls n effects r).medium
  calls_quiet [] r q = q
  calls_quiet (x ∷ xs) r q = calls_quiet xs (one_call n x r)
      (by_entry_both (λ (y : Recovery). Quiet y.stage y.medium) (due r.medium.plan) (good_call n x r.medium r.stage) (bad_call n r.medium r.stage)
      (good_quiet x r.stage r.medium q) (bad_quiet r.stage r.medium q))

pub recovery_ends : RecoveryEnds
recovery_ends n m effects = record {
  ends = λ tries l. at_end n tries (calls n effects (started m)).stage (omega (arith, calls_nearer n effects (started m) tt, l));
  unbroken = λ e call place q. subst (Unbroken n) q (calls_fine n effects (started m) (tt, e)).0;
  headless = λ q. subst (λ s. Sees n (get_or (current m) n []) s (calls n effects (started m)).medium) q (calls_see n (get_or (current m) n []) effects (started m) refl);
}

pub recovery_idles : RecoveryIdles
recovery_idles n m effects k m' small sized e =
    let f : (decode n (encode (empty_head k)) ≡ some (empty_head k)) × ((t : ℕ → Block) × Keeps (n + 9) (Idle n k t) m')
    = found n (omega arith) effects m k m' sized e in
    record {
      quiet = subst (λ (r : Recovery). Quiet n r.stage r.medium) e (calls_quiet n effects (started m) tt);
      headed = (kept_current (n + 9) (Idle n k f.1.0) m' f.1.1 n (omega arith)).heading refl;
      number = (fits_parts n (empty_head k) (decode_sound n (encode (empty_head k)) (empty_head k) f.0).1).number;
    }
