-- With none open, steps in a row bring every finished write home.
use Rattle.std.proofs.Common.{◌≡◌, ℕ, zero, suc, ◌+◌, ◌*◌, ◌<◌, ◌≤◌, Bool, true, false, cond, ◌&&◌, ◌||◌, eqb, ◌≢◌, ◌⊎◌, List, [], ◌∷◌, ◌++◌, map, length, filter, sym, refl, ap, ◌∙◌, subst, inl, inr, arith, Option, None, Some}
use Rattle.disk.specs.declared.error.Kind.TheVariants as kind
use Rattle.errors.specs.declared.CacheError.{CacheError}
use Rattle.errors.specs.declared.CacheCall.TheVariants as during
use Rattle.std.specs.List.{AllByRecursion}
use Rattle.std.proofs.lemmas.Bool.{both_ways, and_parts, and_from, or_cases, or_parts, or_from, not_from_false, eq-eqb, cond_both, cond-true}
use Rattle.std.proofs.ByRecursion.{all_kept_by, kept_by_passes}
use Rattle.disk.specs.Medium.{Block, Entry, good, bad, Medium, Effect, join, settle, allowed, take_effect, later, current}
use Rattle.table.specs.declared.held.State.{State}
use Rattle.table.specs.declared.held.State.TheVariants.{Open, Waiting, Sent, Home, Withdrawn}
use Rattle.table.specs.declared.held.Version.{Version}
use Rattle.std.specs.List.{find}
use Rattle.ordered_law.proofs.Lists.{In, here, there, pairs_kept, all_both, all_map, in_kept, none_pass, first_in}
use Rattle.ordered_law.proofs.Invariant.{Sound, Before, Keeps, valid}
use Rattle.ordered_law.proofs.Calls.{keep_calls, at_start, ledger_of}
use Rattle.ordered_law.proofs.Sorted.{failed_call, written, next_bad, Sorted, SortedOutcome, sorted_opened, fault, sorted_with, sorted_step, Asked, after, events, steps}
use Rattle.ordered_law.specs.Device.{Device}
use Rattle.precedence.specs.Stamps.{Precedence, Lawful}
use Rattle.ordered_law.specs.Promise.{write_of, Pairs, bads, unhomed}
use Rattle.ordered_law.specs.Events.{Step}
use Rattle.ordered_law.specs.Cache.{any_sent, any_busy}
use Rattle.table.specs.Versions.{live, is_waiting, is_sent, finished, some_pass, send_one, bring_home, free, ready, held}
use Rattle.ordered_law.specs.Ledger.{chosen, note, send_chosen, replay}

-- the steps that a version still takes: its write and its flush
abbrev weight : State → ℕ
weight Open = 0
weight Waiting = 2
weight Sent = 1
weight Home = 0
weight Withdrawn = 0

abbrev load : List Version → ℕ
load [] = 0
load (v ∷ l) = weight v.state + load l

abbrev busy : Version → Bool
busy v = is_waiting v.state || is_sent v.state

abbrev NoneOpen : List Version → Type 0
NoneOpen l = AllByRecursion (λ v. v.state ≢ Open) l

load_bound : (l : List Version) → load l ≤ 2 * unhomed l
load_bound [] = omega arith
load_bound (v ∷ l) = go v.state (load_bound l)
  where
    go : (s : State) → load l ≤ 2 * unhomed l → weight s + load l ≤ 2 * length (cond (is_waiting s || is_sent s) (v ∷ filter busy l) (filter busy l))
    go Open ih = omega arith
    go Waiting ih = omega arith
    go Sent ih = omega arith
    go Home ih = omega arith
    go Withdrawn ih = omega arith

-- ---- the load falls

load_least : (g : Version → Version) → ((v : Version) → weight (g v).state ≤ weight v.state) → (l : List Version) → load (map g l) ≤ load l
load_least g h [] = omega arith
load_least g h (v ∷ l) = omega (arith, h v, load_least g h l)

load_less : (g : Version → Version) → ((v : Version) → weight (g v).state ≤ weight v.state) → (v : Version) (l : List Version) → In v l →
    weight (g v).state < weight v.state → load (map g l) < load l
load_less g h v l (here {vs = vs}) lt = omega (arith, load_least g h vs)
load_less g h v l (there {u = u} {vs = vs} i) lt = omega (arith, h u, load_less g h v vs i lt)

some_in : (p : Version → Bool) (l : List Version) → some_pass p l ≡ true → (v : Version) × In v l × (p v ≡ true)
some_in p [] e = absurd (both_ways false refl e)
some_in p (v ∷ l) e = go (or_cases (p v) (some_pass p l) e) (some_in p l)
  where
    go : (p v ≡ true) ⊎ (some_pass p l ≡ true) → (some_pass p l ≡ true → (u : Version) × In u l × (p u ≡ true)) → (u : Version) × In u (v ∷ l) × (p u ≡ true)
    go (inl q) ih = (v, here, q)
    go (inr q) ih = let r = ih q in (r.0, there r.1, r.2)

all_none : (p : Version → Bool) (l : List Version) → some_pass p l ≡ false → AllByRecursion (λ v. p v ≡ false) l
all_none p [] e = tt
all_none p (v ∷ l) e = let r = or_parts (p v) (some_pass p l) e in (r.0, all_none p l r.1)

none_some : (p : Version → Bool) (l : List Version) → AllByRecursion (λ v. p v ≡ false) l → some_pass p l ≡ false
none_some p [] a = refl
none_some p (v ∷ l) a = or_from (p v) (some_pass p l) a.0 (none_some p l a.1)

busy_load : (l : List Version) → some_pass busy (held l) ≡ true → 0 < load l
busy_load l e =
    let r = some_in busy (held l) e in
    let i = in_kept (λ v. live v.state) r.0 l r.1 in
    let w : 0 < weight r.0.state = weighs r.0.state r.2 in
    omega (arith, part r.0 l i)
  where
    weighs : (s : State) → (is_waiting s || is_sent s) ≡ true → 0 < weight s
    weighs s h = grind arith

    part : (v : Version) (l : List Version) → In v l → weight v.state ≤ load l
    part v l (here {vs = vs}) = omega arith
    part v l (there {vs = vs} i) = omega (arith, part v vs i)

idle_load : (l : List Version) → some_pass busy (held l) ≡ false → load l ≡ 0
idle_load l e = go l (none_pass (λ v. live v.state) busy l e)
  where
    none : (s : State) → (live s ≡ true → (is_waiting s || is_sent s) ≡ false) → weight s ≡ 0
    none s h = grind arith

    go : (l : List Version) → AllByRecursion (λ v. live v.state ≡ true → busy v ≡ false) l → load l ≡ 0
    go [] a = refl
    go (v ∷ l) a = omega (arith, none v.state a.0, go l a.1)

all_home : (l : List Version) → load l ≡ 0 → AllByRecursion (λ v. finished v.state ≡ true → v.state ≡ Home) l
all_home [] e = tt
all_home (v ∷ l) e = (home v.state (omega arith), all_home l (omega arith))
  where
    home : (s : State) → weight s ≡ 0 → finished s ≡ true → s ≡ Home
    home s w f = grind arith

-- ---- a busy cache with none open is never blocked

not_blocked : (precedes : Precedence) → Lawful precedes → (n : ℕ) (table : List Version) → Pairs Before table → AllByRecursion (Sound n) table → AllByRecursion (λ v. is_waiting v.state ≡ true) table →
    some_pass busy table ≡ true → chosen precedes table ≡ None → ⊥
not_blocked precedes lawful n [] p s w b e = both_ways false refl b
not_blocked precedes lawful n (x ∷ table) p s w b e = let r : ready precedes (x ∷ table) x ≡ true = and_from _ _ w.0 (not_from_false _ unpreceded) in
    let q : Some x ≡ None = sym (cond-true (ready precedes (x ∷ table) x) (Some x) (find (ready precedes (x ∷ table)) table) r) ∙ e in
    cc
  where
    never : (u : Version) → Sound n u → x.stamp.begin ≤ u.stamp.begin → (k : Bool) → precedes u.stamp x.stamp ≡ k → precedes u.stamp x.stamp ≡ false
    never u su le false q = q
    never u su le true q = absurd (let h = lawful.only_earlier u.stamp x.stamp (valid n u su) (valid n x s.0) q in omega arith)

    unpreceded : some_pass (λ u. precedes u.stamp x.stamp) (x ∷ table) ≡ false
    unpreceded = none_some (λ u. precedes u.stamp x.stamp) (x ∷ table)
        (never x s.0 (omega arith) _ refl, all_both (Before x) (Sound n) _ (λ u b su. never u su (let h = b.earlier in omega arith) _ refl) table p.0 s.1)

-- ---- one step

bads_bad : (plan : List Entry) → next_bad plan ≡ true → bads (later plan) < bads plan
bads_bad [] e = absurd (both_ways false refl e)
bads_bad (good ∷ plan) e = absurd (both_ways false refl e)
bads_bad (bad ∷ plan) e = omega arith

bads_rest : (plan : List Entry) → bads (later plan) ≤ bads plan
bads_rest [] = omega arith
bads_rest (good ∷ plan) = omega arith
bads_rest (bad ∷ plan) = omega arith

module _ (precedes : Precedence) (lawful : Lawful precedes) where
  -- the step leaves less to do, and none open
  abbrev Closer : List Version → Sorted → SortedOutcome → Type 0
  Closer l c o = (load (note precedes l Step o.answer) + bads o.cache.medium.plan < load l + bads c.medium.plan) × NoneOpen (note precedes l Step o.answer)

  step_closer : (device : Device) (l : List Version) (c : Sorted) (opening : List (List ℕ)) → Keeps precedes opening l c → NoneOpen l → any_busy c.table ≡ true →
      Closer l c (sorted_with device c (chosen precedes c.table))
  step_closer device l c opening i shut b = go (chosen precedes c.table) refl
    where
      faulted : (x : CacheError) → next_bad c.medium.plan ≡ true → Closer l c (fault x c)
      faulted x e = (omega (arith, bads_bad c.medium.plan e), shut)

      go : (o : Option Version) → chosen precedes c.table ≡ o → Closer l c (sorted_with device c o)
      go (Some v) e = cond_both (next_bad c.medium.plan) _ _ (Closer l c) (faulted (failed_call during.Step kind.Write v.stamp.place device.tries))
          (λ _. subst (λ (o : Option Version). (load (send_chosen l o) + bads after_write.plan < load l + bads c.medium.plan) × NoneOpen (send_chosen l o)) (sym q)
          (omega (arith, load_less g (λ u. lighter u) v l inside falls, plan), all_map _ _ g (λ u h k. h (grind arith)) l shut))
        where
          q : chosen precedes (held l) ≡ Some v
          q = ap (chosen precedes) (sym i.table_is) ∙ e

          after_write : Medium
          after_write = written device c.medium (write_of v)

          plan : bads after_write.plan ≤ bads c.medium.plan
          plan = effect (allowed device.rule c.medium)
            where
              effect : (e : Effect) → bads (take_effect e c.medium (write_of v)).plan ≤ bads c.medium.plan
              effect join = bads_rest c.medium.plan
              effect settle = bads_rest c.medium.plan

          g : Version → Version
          g = send_one v.stamp.begin

          lighter : (u : Version) → weight (g u).state ≤ weight u.state
          lighter u = cond_both (is_waiting u.state && eqb u.stamp.begin v.stamp.begin) Sent u.state (λ s. weight s ≤ weight u.state)
              (λ h. less u.state (and_parts (is_waiting u.state) (eqb u.stamp.begin v.stamp.begin) h).0) (λ _. omega arith)
            where
              less : (s : State) → is_waiting s ≡ true → 1 ≤ weight s
              less s h = grind arith

          found : In v (held l) × (ready precedes (held l) v ≡ true)
          found = first_in (ready precedes (held l)) v (held l) q

          inside : In v l
          inside = in_kept (λ u. live u.state) v l found.0

          falls : weight (g v).state < weight v.state
          falls =
              let h = (and_parts (is_waiting v.state) (free precedes (held l) v) found.1).0 in
              let k = eq-eqb v.stamp.begin v.stamp.begin refl in
              grind arith
      go None e = cond_both (any_sent c.table) _ _ (Closer l c)
          (λ s. cond_both (next_bad c.medium.plan) _ _ (Closer l c) (faulted (failed_call during.Step kind.Flush 0 device.tries)) (λ _. flush s))
          (λ s. absurd (not_blocked precedes lawful c.counter (held l) (pairs_kept Before (λ v. live v.state) l i.book.order) (all_kept_by (λ v. live v.state) (Sound c.counter) l i.book.sound)
          (waits (ap any_sent (sym i.table_is) ∙ s)) (ap any_busy (sym i.table_is) ∙ b) (ap (chosen precedes) (sym i.table_is) ∙ e)))
        where
          waits : any_sent (held l) ≡ false → AllByRecursion (λ v. is_waiting v.state ≡ true) (held l)
          waits s = all_both (λ v. live v.state ≡ true) (λ v. (v.state ≢ Open) × (is_sent v.state ≡ false)) _ (λ v a h. waiting v.state a h.0 h.1) (held l)
              (kept_by_passes (λ v. live v.state) l)
              (all_both _ _ _ (λ v a h. (a, h)) (held l) (all_kept_by (λ v. live v.state) (λ v. v.state ≢ Open) l shut) (all_none (λ v. is_sent v.state) (held l) s))
            where
              waiting : (s : State) → live s ≡ true → s ≢ Open → is_sent s ≡ false → is_waiting s ≡ true
              waiting s a h k = grind arith

          flush : any_sent c.table ≡ true → (load (map bring_home l) + bads (later c.medium.plan) < load l + bads c.medium.plan) × NoneOpen (map bring_home l)
          flush s =
              let r = some_in (λ v. is_sent v.state) (held l) (ap any_sent (sym i.table_is) ∙ s) in (
                omega (arith, load_less bring_home (λ u. lighter u.state) r.0 l (in_kept (λ v. live v.state) r.0 l r.1) (falls r.0.state r.2), bads_rest c.medium.plan),
                all_map _ _ bring_home (λ u h k. h (grind arith)) l shut,
              )
            where
              lighter : (s : State) → weight (cond (is_sent s) Home s) ≤ weight s
              lighter s = grind arith

              falls : (s : State) → is_sent s ≡ true → weight (cond (is_sent s) Home s) < weight s
              falls s h = grind arith

  -- ---- steps in a row

  drain : (opening : List Block) (choices : List Device) (l : List Version) (c : Sorted) → Keeps precedes opening l c → NoneOpen l →
      (0 < load l → load l + bads c.medium.plan ≤ length choices) → load (replay precedes l (events precedes c (steps choices))) ≡ 0
  drain opening [] l c i shut h = go (load l) refl
    where
      go : (k : ℕ) → load l ≡ k → load l ≡ 0
      go zero e = e
      go (suc k) e = absurd (let q = h (omega arith) in omega arith)
  drain opening (device ∷ choices) l c i shut h =
      drain opening choices (note precedes l Step (sorted_step precedes device c).answer) (sorted_step precedes device c).cache
      (keep_calls precedes lawful opening (record { call = Step; device = device } ∷ []) l c i) next.0 next.1
    where
      Next : SortedOutcome → Type 0
      Next o = NoneOpen (note precedes l Step o.answer) × (0 < load (note precedes l Step o.answer) → load (note precedes l Step o.answer) + bads o.cache.medium.plan ≤ length choices)

      next : Next (sorted_step precedes device c)
      next = cond_both (any_busy c.table) _ _ Next
          (λ b. let s = step_closer device l c opening i shut b in (s.1, λ _. omega (arith, s.0, h (busy_load l (ap any_busy (sym i.table_is) ∙ b)))))
          (λ b. (shut, λ p. absurd (omega (arith, idle_load l (ap any_busy (sym i.table_is) ∙ b)))))

-- a list of calls after another
replay_append : (precedes : Precedence) (xs ys : List Asked) (l : List Version) (c : Sorted) →
    replay precedes l (events precedes c (xs ++ ys)) ≡ replay precedes (replay precedes l (events precedes c xs)) (events precedes (after precedes c xs) ys)
replay_append precedes [] ys l c = refl
replay_append precedes (x ∷ xs) ys l c = replay_append precedes xs ys _ _

-- With w finished writes not home, none open and b bad entries left in the plan, 2 * w + b steps in a row bring all home.
pub drains : (precedes : Precedence) → Lawful precedes → (m : Medium) (asked : List Asked) (devices : List Device) →
    AllByRecursion (λ v. v.state ≢ Open) (ledger_of precedes m asked) →
    length devices ≡ 2 * unhomed (ledger_of precedes m asked) + bads (after precedes (sorted_opened m) asked).medium.plan →
    AllByRecursion (λ v. finished v.state ≡ true → v.state ≡ Home) (ledger_of precedes m (asked ++ steps devices))
drains precedes lawful m asked choices shut e =
    rw (replay_append precedes asked (steps choices) [] (sorted_opened m))
    (all_home _ (drain precedes lawful (current m) choices (ledger_of precedes m asked) (after precedes (sorted_opened m) asked)
    (keep_calls precedes lawful (current m) asked [] (sorted_opened m) (at_start precedes m)) shut
    (λ _. omega (arith, load_bound (ledger_of precedes m asked), e))))
