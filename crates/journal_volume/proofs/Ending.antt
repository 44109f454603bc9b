-- How a recovery ended, and what its end restores.
use Rattle.std.proofs.Common.{◌≡◌, ℕ, zero, suc, ◌+◌, ◌-◌, ◌<◌, ◌≤◌, true, false, ◌≢◌, List, [], ◌∷◌, ◌++◌, length, replicate, Ok, Err, Result, sym, refl, ap, ◌∙◌, subst, ⊎_elim, arith}
use mathlib.Core.Option.{Option as Maybe, some, none}
use Rattle.std.specs.List.{AllByRecursion}
use Rattle.std.proofs.lemmas.List.{length-replicate}
use Rattle.std.proofs.lemmas.Bool.{both_ways, cases_lt}
use Rattle.std.proofs.ByRecursion.{All-weaker}
use Rattle.disk.specs.declared.error.Kind.{Kind}
use Rattle.disk.specs.declared.error.DiskError.{DiskError}
use Rattle.disk.specs.Medium.{Write, Effect, Entry, good, bad, Medium, size, due, standing, cut}
use Rattle.disk.specs.Calls.{number}
use Rattle.errors.specs.declared.VolumeError.{VolumeError}
use Rattle.errors.specs.declared.VolumeError.TheVariants as volume
use Rattle.journal_law.specs.Device.{bads}
use Rattle.journal_law.specs.Recovery.{by_entry, home_blocks, Stage, first_flush, read_head, read_slot, write_home, home_flush, write_empty, last_flush, recovered, no_head, failed, Recovery, started, good_call, bad_call, one_call, calls, ended, Broken, maybe_cut, after_broken}
use Rattle.journal_law.specs.Cache.{Event, Live, is_some, opened}
use Rattle.journal_law.specs.Laws.{JustRecovered, Ran, one_more, FailsAt, between, within, Left, IdleVolume}
use Rattle.journal_law.proofs.Media.{length_lay}
use Rattle.journal_law.proofs.Ends.{recovery_ends, recovery_idles}
use Rattle.journal_law.proofs.Running.{ran_size, atomic_law, succeeds_law}
use Rattle.journal_volume.specs.Recovering.{at, OfRule, Ends, Leads, IsTooSmall, RecoveredAs}
use Rattle.journal_volume.specs.Restoring.{Restored, Restores, Opens}
use Rattle.journal_volume.proofs.Going.{calls_append, calls_size}

-- answers told apart
abbrev tag : Maybe (Result ℕ VolumeError) → ℕ
tag none = 0
tag (some (Ok k)) = 1
tag (some (Err (volume.Disk e))) = 2
tag (some (Err volume.NoHead)) = 3
tag (some (Err volume.TooSmall)) = 4

abbrev value : Maybe (Result ℕ VolumeError) → ℕ
value none = 0
value (some (Ok k)) = k
value (some (Err e)) = 0

abbrev error_number : Maybe (Result ℕ VolumeError) → ℕ
error_number none = 0
error_number (some (Ok k)) = 0
error_number (some (Err (volume.Disk e))) = number e
error_number (some (Err volume.NoHead)) = 0
error_number (some (Err volume.TooSmall)) = 0

module _ (tries : ℕ) where
  -- a success, no head, a fault
  ok_stage : (s : Stage) (k : ℕ) → ended tries s ≡ some (Ok k) → s ≡ recovered k
  ok_stage (recovered j) k q = ap (λ x. recovered (value x)) q
  ok_stage no_head k q = absurd (let f : 3 ≡ 1 = ap tag q in omega (arith, f))
  ok_stage (failed call place) k q = absurd (let f : 2 ≡ 1 = ap tag q in omega (arith, f))
  ok_stage first_flush k q = absurd (let f : 0 ≡ 1 = ap tag q in omega (arith, f))
  ok_stage read_head k q = absurd (let f : 0 ≡ 1 = ap tag q in omega (arith, f))
  ok_stage (read_slot i h) k q = absurd (let f : 0 ≡ 1 = ap tag q in omega (arith, f))
  ok_stage (write_home i h b) k q = absurd (let f : 0 ≡ 1 = ap tag q in omega (arith, f))
  ok_stage (home_flush h) k q = absurd (let f : 0 ≡ 1 = ap tag q in omega (arith, f))
  ok_stage (write_empty h) k q = absurd (let f : 0 ≡ 1 = ap tag q in omega (arith, f))
  ok_stage (last_flush h) k q = absurd (let f : 0 ≡ 1 = ap tag q in omega (arith, f))

  none_stage : (s : Stage) → ended tries s ≡ some (Err volume.NoHead) → s ≡ no_head
  none_stage no_head q = refl
  none_stage (recovered j) q = absurd (let f : 1 ≡ 3 = ap tag q in omega (arith, f))
  none_stage (failed call place) q = absurd (let f : 2 ≡ 3 = ap tag q in omega (arith, f))
  none_stage first_flush q = absurd (let f : 0 ≡ 3 = ap tag q in omega (arith, f))
  none_stage read_head q = absurd (let f : 0 ≡ 3 = ap tag q in omega (arith, f))
  none_stage (read_slot i h) q = absurd (let f : 0 ≡ 3 = ap tag q in omega (arith, f))
  none_stage (write_home i h b) q = absurd (let f : 0 ≡ 3 = ap tag q in omega (arith, f))
  none_stage (home_flush h) q = absurd (let f : 0 ≡ 3 = ap tag q in omega (arith, f))
  none_stage (write_empty h) q = absurd (let f : 0 ≡ 3 = ap tag q in omega (arith, f))
  none_stage (last_flush h) q = absurd (let f : 0 ≡ 3 = ap tag q in omega (arith, f))

  fault_number : (s : Stage) (d : DiskError) → ended tries s ≡ some (Err (volume.Disk d)) → number d ≡ 7
  fault_number (failed call place) d q = sym (ap error_number q)
  fault_number no_head d q = absurd (let f : 3 ≡ 2 = ap tag q in omega (arith, f))
  fault_number (recovered j) d q = absurd (let f : 1 ≡ 2 = ap tag q in omega (arith, f))
  fault_number first_flush d q = absurd (let f : 0 ≡ 2 = ap tag q in omega (arith, f))
  fault_number read_head d q = absurd (let f : 0 ≡ 2 = ap tag q in omega (arith, f))
  fault_number (read_slot i h) d q = absurd (let f : 0 ≡ 2 = ap tag q in omega (arith, f))
  fault_number (write_home i h b) d q = absurd (let f : 0 ≡ 2 = ap tag q in omega (arith, f))
  fault_number (home_flush h) d q = absurd (let f : 0 ≡ 2 = ap tag q in omega (arith, f))
  fault_number (write_empty h) d q = absurd (let f : 0 ≡ 2 = ap tag q in omega (arith, f))
  fault_number (last_flush h) d q = absurd (let f : 0 ≡ 2 = ap tag q in omega (arith, f))

  fault_broken : (s : Stage) (d : DiskError) → ended tries s ≡ some (Err (volume.Disk d)) → ((call : Kind) (place : ℕ) → s ≢ failed call place) → ⊥
  fault_broken (failed call place) d q u = u call place refl
  fault_broken no_head d q u = absurd (let f : 3 ≡ 2 = ap tag q in omega (arith, f))
  fault_broken (recovered j) d q u = absurd (let f : 1 ≡ 2 = ap tag q in omega (arith, f))
  fault_broken first_flush d q u = absurd (let f : 0 ≡ 2 = ap tag q in omega (arith, f))
  fault_broken read_head d q u = absurd (let f : 0 ≡ 2 = ap tag q in omega (arith, f))
  fault_broken (read_slot i h) d q u = absurd (let f : 0 ≡ 2 = ap tag q in omega (arith, f))
  fault_broken (write_home i h b) d q u = absurd (let f : 0 ≡ 2 = ap tag q in omega (arith, f))
  fault_broken (home_flush h) d q u = absurd (let f : 0 ≡ 2 = ap tag q in omega (arith, f))
  fault_broken (write_empty h) d q u = absurd (let f : 0 ≡ 2 = ap tag q in omega (arith, f))
  fault_broken (last_flush h) d q u = absurd (let f : 0 ≡ 2 = ap tag q in omega (arith, f))

  not_small : (s : Stage) → ended tries s ≡ some (Err volume.TooSmall) → ⊥
  not_small (failed call place) q = absurd (let f : 2 ≡ 4 = ap tag q in omega (arith, f))
  not_small no_head q = absurd (let f : 3 ≡ 4 = ap tag q in omega (arith, f))
  not_small (recovered j) q = absurd (let f : 1 ≡ 4 = ap tag q in omega (arith, f))
  not_small first_flush q = absurd (let f : 0 ≡ 4 = ap tag q in omega (arith, f))
  not_small read_head q = absurd (let f : 0 ≡ 4 = ap tag q in omega (arith, f))
  not_small (read_slot i h) q = absurd (let f : 0 ≡ 4 = ap tag q in omega (arith, f))
  not_small (write_home i h b) q = absurd (let f : 0 ≡ 4 = ap tag q in omega (arith, f))
  not_small (home_flush h) q = absurd (let f : 0 ≡ 4 = ap tag q in omega (arith, f))
  not_small (write_empty h) q = absurd (let f : 0 ≡ 4 = ap tag q in omega (arith, f))
  not_small (last_flush h) q = absurd (let f : 0 ≡ 4 = ap tag q in omega (arith, f))

  -- a recovery that has ended makes no call
  stays_good : (n : ℕ) (effect : Effect) (s : Stage) (m : Medium) → is_some (ended tries s) ≡ true → good_call n effect m s ≡ at s m
  stays_good n effect (recovered j) m e = refl
  stays_good n effect no_head m e = refl
  stays_good n effect (failed call place) m e = refl
  stays_good n effect first_flush m e = absurd (both_ways false refl e)
  stays_good n effect read_head m e = absurd (both_ways false refl e)
  stays_good n effect (read_slot i h) m e = absurd (both_ways false refl e)
  stays_good n effect (write_home i h b) m e = absurd (both_ways false refl e)
  stays_good n effect (home_flush h) m e = absurd (both_ways false refl e)
  stays_good n effect (write_empty h) m e = absurd (both_ways false refl e)
  stays_good n effect (last_flush h) m e = absurd (both_ways false refl e)

  stays_bad : (n : ℕ) (s : Stage) (m : Medium) → is_some (ended tries s) ≡ true → bad_call n m s ≡ at s m
  stays_bad n (recovered j) m e = refl
  stays_bad n no_head m e = refl
  stays_bad n (failed call place) m e = refl
  stays_bad n first_flush m e = absurd (both_ways false refl e)
  stays_bad n read_head m e = absurd (both_ways false refl e)
  stays_bad n (read_slot i h) m e = absurd (both_ways false refl e)
  stays_bad n (write_home i h b) m e = absurd (both_ways false refl e)
  stays_bad n (home_flush h) m e = absurd (both_ways false refl e)
  stays_bad n (write_empty h) m e = absurd (both_ways false refl e)
  stays_bad n (last_flush h) m e = absurd (both_ways false refl e)

  calls_stay : (n : ℕ) (effects : List Effect) (x : Recovery) → is_some (ended tries x.stage) ≡ true → calls n effects x ≡ x
  calls_stay n [] x e = refl
  calls_stay n (f ∷ fs) x e =
      let one : one_call n f x ≡ x = go (due x.medium.plan) in
      ap (calls n fs) one ∙ calls_stay n fs x e
    where
      go : (y : Entry) → by_entry y (good_call n f x.medium x.stage) (bad_call n x.medium x.stage) ≡ x
      go good = stays_good n f x.stage x.medium e
      go bad = stays_bad n x.stage x.medium e

all_same : (effect : Effect) (es : List Effect) → AllByRecursion (λ x. x ≡ effect) es → es ≡ replicate (length es) effect
all_same effect [] a = refl
all_same effect (x ∷ es) a = λ i. a.0 i ∷ all_same effect es a.1 i

replicate_append : (effect : Effect) (a b : ℕ) → replicate (a + b) effect ≡ replicate a effect ++ replicate b effect
replicate_append effect zero b = ap (λ k. replicate k effect) (let e : 0 + b ≡ b = omega arith in e)
replicate_append effect (suc a) b = ap (λ k. replicate k effect) (let e : suc a + b ≡ suc (a + b) = omega arith in e) ∙ ap (λ l. effect ∷ l) (replicate_append effect a b)

-- a disk whose rule never changes
module _ (tries n : ℕ) (effect : Effect) (x : Recovery) where
  -- two recoveries of the same effect that have ended are one
  longer : (a b : ℕ) → is_some (ended tries (calls n (replicate a effect) x).stage) ≡ true → calls n (replicate (a + b) effect) x ≡ calls n (replicate a effect) x
  longer a b e =
      ap (λ l. calls n l x) (replicate_append effect a b) ∙ calls_append n (replicate a effect) (replicate b effect) x
      ∙ calls_stay tries n (replicate b effect) (calls n (replicate a effect) x) e

  same_end : (a b : ℕ) → is_some (ended tries (calls n (replicate a effect) x).stage) ≡ true → is_some (ended tries (calls n (replicate b effect) x).stage) ≡ true →
      calls n (replicate a effect) x ≡ calls n (replicate b effect) x
  same_end a b e f = ⊎_elim
      (λ (l : a < b). sym (ap (λ k. calls n (replicate k effect) x) (let q : b ≡ a + (b - a) = omega (arith, l) in q) ∙ longer a (b - a) e))
      (λ (l : b ≤ a). ap (λ k. calls n (replicate k effect) x) (let q : a ≡ b + (a - b) = omega (arith, l) in q) ∙ longer b (a - b) f)
      (cases_lt a b)

module _ (tries n : ℕ) (m m' : Medium) where
  pub fixed_end : (By : Effect → Type 0) (r : Result ℕ VolumeError) (effect : Effect) → ((e : Effect) → By e → e ≡ effect) → Ends By tries n (started m) r m' →
      (some r ≡ ended tries (calls n (replicate 21 effect) (started m)).stage) × (m' ≡ (calls n (replicate 21 effect) (started m)).medium)
  fixed_end By r effect only e =
      let es : e.effects ≡ replicate (length e.effects) effect = all_same effect e.effects (All-weaker By (λ x. x ≡ effect) only e.effects e.by_rule) in
      let ended_here : is_some (ended tries (calls n (replicate (length e.effects) effect) (started m)).stage) ≡ true
      = ap is_some (ap (λ l. ended tries (calls n l (started m)).stage) (sym es) ∙ e.answers) in
      let ended_there : is_some (ended tries (calls n (replicate 21 effect) (started m)).stage) ≡ true
      = (recovery_ends n m (replicate 21 effect)).ends tries (omega (arith, length-replicate 21 effect)) in
      let same : calls n e.effects (started m) ≡ calls n (replicate 21 effect) (started m)
      = ap (λ l. calls n l (started m)) es ∙ same_end tries n effect (started m) (length e.effects) 21 ended_here ended_there in
      (sym e.answers ∙ ap (λ (x : Recovery). ended tries x.stage) same, e.leaves ∙ ap (λ (x : Recovery). x.medium) same)

broken_append : (n : ℕ) (bs : List Broken) (b : Broken) (m : Medium) →
    after_broken n (bs ++ (b ∷ [])) m ≡ maybe_cut b.cut_by (calls n b.effects (started (after_broken n bs m))).medium
broken_append n [] b m = refl
broken_append n (x ∷ bs) b m = broken_append n bs b (maybe_cut x.cut_by (calls n x.effects (started m)).medium)

-- ---- the size of what a power failure left

broken_size : (n : ℕ) (bs : List Broken) (m : Medium) → size (after_broken n bs m) ≡ size m
broken_size n [] m = refl
broken_size n (b ∷ bs) m =
    broken_size n bs (maybe_cut b.cut_by (calls n b.effects (started m)).medium)
    ∙ cut_size b.cut_by (calls n b.effects (started m)).medium ∙ calls_size n b.effects (started m)
  where
    cut_size : (c : Maybe ℕ) (x : Medium) → size (maybe_cut c x) ≡ size x
    cut_size none x = refl
    cut_size (some choice) x = length_lay x.firm (standing choice x.loose)

failure_size : (n k : ℕ) (m : Medium) (es : List Event) (v : Live) (x : Medium) → JustRecovered n k m → Ran (opened n k m) es v → FailsAt v x → size x ≡ n + 9
failure_size n k m es v x j r between = ran_size n k m j r
failure_size n k m es v x j r (within device call) = ran_size n k m j (one_more r device call)

pub left_size : (n k : ℕ) (m : Medium) (es : List Event) (m' : Medium) → Left n k m es m' → size m' ≡ n + 9
left_size n k m es m' f =
    ap size f.medium_is ∙ broken_size n f.broken (cut f.choice f.at_failure)
    ∙ length_lay f.at_failure.firm (standing f.choice f.at_failure.loose)
    ∙ failure_size n k m es f.live f.at_failure f.start f.ran f.fails

-- ---- what a recovery's end restores

module _ {By : Effect → Type 0} (tries n : ℕ) (m m' : Medium) where
  success : (k : ℕ) (e : Ends By tries n (started m) (Ok k) m') → calls n e.effects (started m) ≡ at (recovered k) m'
  success k e = λ i. at (ok_stage tries (calls n e.effects (started m)).stage k e.answers i) (sym e.leaves i)

  restored : (r : Result ℕ VolumeError) → Ends By tries n (started m) r m' → (k : ℕ) (m₀ : Medium) (es : List Event) → Left n k m₀ es m → Restored n k m₀ es r m'
  restored (Ok j) e k m₀ es f =
      atomic_law n k m₀ f.start f.ran f.at_failure f.fails f.choice f.broken e.effects j m'
      (subst (λ x. calls n e.effects (started x) ≡ at (recovered j) m') f.medium_is (success j e))
  restored (Err (volume.Disk d)) e k m₀ es f = (
    fault_number tries (calls n e.effects (started m)).stage d e.answers,
    record {
      start = f.start;
      live = f.live;
      ran = f.ran;
      at_failure = f.at_failure;
      fails = f.fails;
      choice = f.choice;
      broken = f.broken ++ record { effects = e.effects; cut_by = none } ∷ [];
      medium_is = e.leaves
          ∙ ap (λ x. (calls n e.effects (started x)).medium) f.medium_is
          ∙ sym (broken_append n f.broken (record { effects = e.effects; cut_by = none }) (cut f.choice f.at_failure));
    },
  )
  restored (Err volume.NoHead) e k m₀ es f =
      (succeeds_law n k m₀ f.start f.ran f.at_failure f.fails f.choice f.broken e.effects).0
      (subst (λ x. (calls n e.effects (started x)).stage ≡ no_head) f.medium_is (none_stage tries (calls n e.effects (started m)).stage e.answers))
  restored (Err volume.TooSmall) e k m₀ es f = not_small tries (calls n e.effects (started m)).stage e.answers

  succeeded : (r : Result ℕ VolumeError) → Ends By tries n (started m) r m' → (k : ℕ) (m₀ : Medium) (es : List Event) → Left n k m₀ es m → bads m.plan ≡ 0 →
      (j : ℕ) × (r ≡ Ok j)
  succeeded (Ok j) e k m₀ es f b = (j, refl)
  succeeded (Err (volume.Disk d)) e k m₀ es f b =
      absurd (fault_broken tries (calls n e.effects (started m)).stage d e.answers ((recovery_ends n m e.effects).unbroken b))
  succeeded (Err volume.NoHead) e k m₀ es f b = absurd (restored (Err volume.NoHead) e k m₀ es f)
  succeeded (Err volume.TooSmall) e k m₀ es f b = absurd (restored (Err volume.TooSmall) e k m₀ es f)

  opened_by : (r : Result ℕ VolumeError) → Ends By tries n (started m) r m' → size m ≡ n + 9 → 1 ≤ n → n ≤ 4087 → home_blocks m ≡ n → Opens m r m'
  opened_by (Ok k) e s low high is =
      subst (λ x. JustRecovered x k m' × IdleVolume x k m') (sym is) (
        record { home_blocks = (low, high); before = m; sized = s; effects = e.effects; success = success k e },
        recovery_idles n m e.effects k m' high s (success k e),
      )
  opened_by (Err e) _ s low high is = tt

-- what the contract of a recovery says
pub record Recovered {D : Type 0} (rule : D → Write → Effect) (tries : ℕ) (m : Medium) (r : Result ℕ VolumeError) (m' : Medium) : Type 0 where
  pub small : size m < 10 → IsTooSmall m r m'
  pub outcome : 10 ≤ size m → Ends (OfRule rule) tries (home_blocks m) (started m) r m'
  pub fixed : 10 ≤ size m → (effect : Effect) → ((d : D) (w : Write) → rule d w ≡ effect) → RecoveredAs tries effect m r m'
  pub restores : Restores m r m'
  pub opens : Opens m r m'

module _ {D : Type 0} (rule : D → Write → Effect) (tries : ℕ) (m : Medium) where
  -- a small disk holds no volume of a cache
  pub too_small : size m < 10 → (m' : Medium) → m' ≡ m → Recovered rule tries m (Err volume.TooSmall) m'
  too_small s m' same =
      let none_left : (n k : ℕ) (m₀ : Medium) (es : List Event) → Left n k m₀ es m → ⊥
      = λ n k m₀ es f. absurd (omega (arith, left_size n k m₀ es m f, f.start.home_blocks.0, s)) in
      record {
        small = λ _. record { answers = refl; leaves = same };
        outcome = λ l. absurd (omega (arith, l, s));
        fixed = λ l. absurd (omega (arith, l, s));
        restores = record { atomic = λ n k m₀ es f. none_left n k m₀ es f; succeeds = λ n k m₀ es f b. absurd (none_left n k m₀ es f) };
        opens = tt;
      }

  module _ (m' : Medium) (s : ℕ) (is : s ≡ size m) (low : 9 < s) (high : s ≤ 4096) where
    abbrev n : ℕ
    n = s - 9

    home_is : home_blocks m ≡ n
    home_is = ap (λ x. x - 9) (sym is)

    by_ends : (r : Result ℕ VolumeError) → Ends (OfRule rule) tries n (started m) r m' → Recovered rule tries m r m'
    by_ends r e =
        let sized : size m ≡ n + 9 = omega (arith, is, low) in
        let at_home : Ends (OfRule rule) tries (home_blocks m) (started m) r m' = subst (λ x. Ends (OfRule rule) tries x (started m) r m') (sym home_is) e in
        let same : (i k : ℕ) (m₀ : Medium) (es : List Event) → Left i k m₀ es m → n ≡ i = λ i k m₀ es f. (let q : n ≡ i = omega (arith, left_size i k m₀ es m f, sized) in q) in
        record {
          small = λ l. absurd (omega (arith, l, is, low));
          outcome = λ _. at_home;
          fixed = λ _ effect only.
              let p = fixed_end tries (home_blocks m) m m' (OfRule rule) r effect (λ x b. sym b.2 ∙ only b.0 b.1) at_home in
              record { answers = p.0; leaves = p.1 };
          restores = record {
            atomic = λ i k m₀ es f. restored tries i m m' r (subst (λ x. Ends (OfRule rule) tries x (started m) r m') (same i k m₀ es f) e) k m₀ es f;
            succeeds = λ i k m₀ es f. succeeded tries i m m' r (subst (λ x. Ends (OfRule rule) tries x (started m) r m') (same i k m₀ es f) e) k m₀ es f;
          };
          opens = opened_by tries n m m' r e sized (omega (arith, low)) (omega (arith, high)) home_is;
        }

    leads_end : (r : Result ℕ VolumeError) (z : Stage) → ended tries z ≡ some r → Leads (OfRule rule) n (started m) (at z m') → Ends (OfRule rule) tries n (started m) r m'
    leads_end r z q l = record {
      effects = l.effects;
      by_rule = l.by_rule;
      answers = ap (λ (x : Recovery). ended tries x.stage) l.run ∙ q;
      leaves = sym (ap (λ (x : Recovery). x.medium) l.run);
    }

    pub recovered_done : (k : ℕ) → Leads (OfRule rule) n (started m) (at (recovered k) m') → Recovered rule tries m (Ok k) m'
    recovered_done k l = by_ends (Ok k) (leads_end (Ok k) (recovered k) refl l)

    pub recovered_none : Leads (OfRule rule) n (started m) (at no_head m') → Recovered rule tries m (Err volume.NoHead) m'
    recovered_none l = by_ends (Err volume.NoHead) (leads_end (Err volume.NoHead) no_head refl l)

    -- the exit of a `?`
    pub recovered_failed : (e : DiskError) (r : Result ℕ VolumeError) → (y : VolumeError) × (r ≡ Err y) × (y ≡ volume.Disk e) →
        Ends (OfRule rule) tries n (started m) (Err (volume.Disk e)) m' → Recovered rule tries m r m'
    recovered_failed e r p k = subst (λ x. Recovered rule tries m x m') (sym (p.1 ∙ ap (λ y. Err y) p.2)) (by_ends (Err (volume.Disk e)) k)
