-- What the cache holds: whole blocks, room for the marks of open writes, a number of four bytes. So the disk refuses a call of the cache by a
-- fault alone.
use Rattle.std.proofs.Common.{◌≡◌, ℕ, zero, suc, ◌+◌, ◌<◌, ◌≤◌, Bool, true, false, cond, not, eqb, ltb, leb, List, [], ◌∷◌, ◌++◌, map, length, sym, refl, ap, ◌∙◌, subst, arith}
use mathlib.Core.Option.{Option, some, none}
use Rattle.std.proofs.Math.Option.{none-ne-some}
use Rattle.std.proofs.lemmas.List.{length_push, length-map}
use Rattle.std.proofs.lemmas.Bool.{eqb-true, not-false, ltb-false, leb-false, eq-eqb, lt-ltb}
use Rattle.std.proofs.ByRecursion.{All-push}
use Rattle.disk.specs.Medium.{Block, Write, Entry, good, bad, due, Medium, size}
use Rattle.disk.specs.Calls.{Fate, fate, served, failed, wrong_length, wrong_place, by_entry as fate_by}
use Rattle.errors.specs.declared.CacheError.{CacheError}
use Rattle.errors.specs.declared.CacheError.TheVariants as error
use Rattle.errors.specs.Errors.{volume_number}
use Rattle.head.specs.Head.{holds, empty_head}
use Rattle.head.proofs.Bytes.{length_encode}
use Rattle.journal_law.specs.Device.{Device}
use Rattle.journal_law.specs.Cache.{Begun, Phase, slot, slots_flush, head, head_flush, home, homes_flush, empty, empty_flush, Group, Live, Call, begin, finish, withdraw, read, seal, step, restart, Answer, accepted, shown, refused, Outcome, place_of, begun_place, different, decided, begin_refusal, begun, find, without, collect, finished, withdrawn, cached, group_writes, read_shown, read_disk, read_refusal, is_some, seal_refusal, sealed, nth, group_head, phase_call, call_fate, next_phase, in_phase, step_met, stepped, group_restarted, outcome_in}
use Rattle.journal_law.specs.Ledger.{Sealing, UnderWay, Ledger}
use Rattle.std.specs.List.{AllByRecursion}
use Rattle.journal_law.proofs.Forms.{Names}
use Rattle.journal_law.proofs.Tables.{find_in, all_without}
use Rattle.journal_law.proofs.Invariant.{InPhase, State, Invariant}
use Rattle.journal_law.proofs.Calls.{passed_test, decided_both}

abbrev Whole : Write → Type 0
Whole w = length w.bytes ≡ 512

abbrev WholeBegun : Begun → Type 0
WholeBegun o = Whole o.write

pub record Held (n : ℕ) (v : Live) : Type 0 where
  pub homed : v.home_count ≡ n
  pub opens : AllByRecursion WholeBegun v.open_writes
  pub batch : AllByRecursion Whole v.collected
  pub grouped : AllByRecursion Whole (group_writes v.group)
  pub marks : v.counter + length v.open_writes ≤ 1_000_000
  pub number : v.last < 4_294_967_296

all_collect : (P : Write → Type 0) (w : Write) (xs : List Write) → P w → AllByRecursion P xs → AllByRecursion P (collect w xs)
all_collect P w [] p a = (p, tt)
all_collect P w (x ∷ xs) p a = go (eqb x.place w.place) (all_collect P w xs p a.1)
  where
    go : (b : Bool) → AllByRecursion P (collect w xs) → AllByRecursion P (cond b (w ∷ xs) (x ∷ collect w xs))
    go true r = (p, a.1)
    go false r = (a.0, r)

pub length_without : (ticket : ℕ) (os : List Begun) (o : Begun) → find ticket os ≡ some o → suc (length (without ticket os)) ≡ length os
length_without ticket [] o e = absurd (none-ne-some o e)
length_without ticket (x ∷ os) o e = go (eqb x.mark ticket) e (length_without ticket os o)
  where
    go : (b : Bool) → cond b (some x) (find ticket os) ≡ some o → (find ticket os ≡ some o → suc (length (without ticket os)) ≡ length os) →
        suc (length (cond b os (x ∷ without ticket os))) ≡ suc (length os)
    go true f r = refl
    go false f r = ap suc (r f)

module _ (n : ℕ) (device : Device) (v : Live) (h : Held n v) where
  begin_held : (place : ℕ) (bytes : Block) → Held n (decided (begin_refusal n v place bytes) (begun v place bytes) v).live
  begin_held place bytes = decided_both (λ (o : Outcome). Held n o.live) (begin_refusal n v place bytes) (begun v place bytes) v accept (λ _. h)
    where
      accept : begin_refusal n v place bytes ≡ none → Held n (begun v place bytes).live
      accept e =
          let e₁ = passed_test (not (eqb (length bytes) 512)) _ _ e in
          let e₂ = passed_test (leb n place) _ _ e₁.1 in
          let e₃ = passed_test (holds place (map begun_place v.open_writes)) _ _ e₂.1 in
          let e₄ = passed_test (ltb 8 (different n (place ∷ (map place_of v.collected ++ map begun_place v.open_writes)))) _ _ e₃.1 in
          let e₅ = passed_test (ltb 1_000_000 (v.counter + length v.open_writes + 2)) _ _ e₄.1 in
          let new : Begun = record { mark = suc v.counter; write = record { place = place; bytes = bytes } } in
          record {
            homed = h.homed;
            opens = All-push WholeBegun v.open_writes new h.opens (eqb-true (length bytes) 512 (not-false (eqb (length bytes) 512) e₁.0));
            batch = h.batch;
            grouped = h.grouped;
            marks = omega (arith, ltb-false 1_000_000 (v.counter + length v.open_writes + 2) e₅.0, length_push v.open_writes new);
            number = h.number;
          }

  finish_held : (ticket : ℕ) (o : Option Begun) → find ticket v.open_writes ≡ o → Held n (finished v ticket o).live
  finish_held ticket none e = h
  finish_held ticket (some o) e = record {
    homed = h.homed;
    opens = all_without WholeBegun ticket v.open_writes h.opens;
    batch = all_collect Whole o.write v.collected (find_in WholeBegun ticket v.open_writes o e h.opens) h.batch;
    grouped = h.grouped;
    marks = omega (arith, h.marks, length_without ticket v.open_writes o e);
    number = h.number;
  }

  withdraw_held : (ticket : ℕ) (o : Option Begun) → find ticket v.open_writes ≡ o → Held n (withdrawn v ticket o).live
  withdraw_held ticket none e = h
  withdraw_held ticket (some o) e = record {
    homed = h.homed;
    opens = all_without WholeBegun ticket v.open_writes h.opens;
    batch = h.batch;
    grouped = h.grouped;
    marks = omega (arith, h.marks, length_without ticket v.open_writes o e);
    number = h.number;
  }

  read_held : (place room : ℕ) (b : Option Block) → Held n (read_shown device v place room b).live
  read_held place room (some b) = h
  read_held place room none = record { homed = h.homed; opens = h.opens; batch = h.batch; grouped = h.grouped; marks = h.marks; number = h.number }

  seal_held : Held n (decided (seal_refusal v) (sealed v) v).live
  seal_held = decided_both (λ (o : Outcome). Held n o.live) (seal_refusal v) (sealed v) v accept (λ _. h)
    where
      accept : seal_refusal v ≡ none → Held n (sealed v).live
      accept e =
          let e₁ = passed_test (is_some v.group) _ _ e in
          let e₂ = passed_test (eqb (length v.collected) 0) _ _ e₁.1 in
          let e₃ = passed_test (leb 4_294_967_295 v.last) _ _ e₂.1 in
          record { homed = h.homed; opens = h.opens; batch = tt; grouped = h.batch; marks = h.marks; number = omega (arith, leb-false 4_294_967_295 v.last e₃.0) }

  step_held : (g : Option Group) → v.group ≡ g → Held n (stepped n device v g).live
  step_held none e = h
  step_held (some g) e = by_fate (call_fate v.medium (phase_call n g g.phase))
    where
      same : AllByRecursion Whole g.writes
      same = subst (λ x. AllByRecursion Whole (group_writes x)) e h.grouped

      moved : (p : Option Phase) → AllByRecursion Whole (group_writes (in_phase g p))
      moved none = tt
      moved (some p) = same

      by_fate : (f : Fate) → Held n (step_met device v g (phase_call n g g.phase) f).live
      by_fate served = record { homed = h.homed; opens = h.opens; batch = h.batch; grouped = moved (next_phase (length g.writes) g.phase); marks = h.marks; number = h.number }
      by_fate failed = record { homed = h.homed; opens = h.opens; batch = h.batch; grouped = same; marks = h.marks; number = h.number }
      by_fate wrong_length = record { homed = h.homed; opens = h.opens; batch = h.batch; grouped = same; marks = h.marks; number = h.number }
      by_fate wrong_place = record { homed = h.homed; opens = h.opens; batch = h.batch; grouped = same; marks = h.marks; number = h.number }

  restart_grouped : (g : Option Group) → AllByRecursion Whole (group_writes g) → AllByRecursion Whole (group_writes (group_restarted g))
  restart_grouped none a = tt
  restart_grouped (some g) a = a

  pub call_held : (call : Call) → Held n (outcome_in n device v call).live
  call_held (begin place bytes) = begin_held place bytes
  call_held (finish ticket) = finish_held ticket (find ticket v.open_writes) refl
  call_held (withdraw ticket) = withdraw_held ticket (find ticket v.open_writes) refl
  call_held (read place room) = decided_both (λ (o : Outcome). Held n o.live) (read_refusal n place room)
      (read_shown device v place room (cached place (v.collected ++ group_writes v.group))) v (λ _. read_held place room (cached place (v.collected ++ group_writes v.group))) (λ _. h)
  call_held seal = seal_held
  call_held step = step_held v.group refl
  call_held (restart choice) = record { homed = h.homed; opens = h.opens; batch = h.batch; grouped = restart_grouped v.group h.grouped; marks = h.marks; number = h.number }

-- ---- what a disk call meets

pub fate_is : (m : Medium) (place n : ℕ) → n ≡ 512 → place < size m → fate m place n ≡ fate_by (due m.plan)
fate_is m place n e l =
    ap (λ t. cond t (cond (ltb place (size m)) (fate_by (due m.plan)) wrong_place) wrong_length) (eq-eqb n 512 e)
    ∙ ap (λ t. cond t (fate_by (due m.plan)) wrong_place) (lt-ltb place (size m) l)

nth_whole : (ws : List Write) (i : ℕ) → i < length ws → AllByRecursion Whole ws → length (nth ws i).bytes ≡ 512
nth_whole [] i l a = absurd (omega arith)
nth_whole (w ∷ ws) zero l a = a.0
nth_whole (w ∷ ws) (suc i) l a = nth_whole ws i (omega arith) a.1

-- the turn lies within the group
abbrev pub InTurn : ℕ → Phase → Type 0
InTurn blocks (slot i) = i < blocks
InTurn blocks (home i) = i < blocks
InTurn blocks slots_flush = Unit {0}
InTurn blocks head = Unit {0}
InTurn blocks head_flush = Unit {0}
InTurn blocks homes_flush = Unit {0}
InTurn blocks empty = Unit {0}
InTurn blocks empty_flush = Unit {0}

pub turn_of : (n : ℕ) (opening : List Block) (g : Group) (s c : Sealing) (firm : List Block) (loose : List Write) (ph : Phase) →
    InPhase n opening g s c firm loose ph → InTurn (length g.writes) ph
turn_of n opening g s c firm loose (slot i) (o, l, h) = l
turn_of n opening g s c firm loose (home i) (q, l, h, d) = l
turn_of n opening g s c firm loose slots_flush a = tt
turn_of n opening g s c firm loose head a = tt
turn_of n opening g s c firm loose head_flush a = tt
turn_of n opening g s c firm loose homes_flush a = tt
turn_of n opening g s c firm loose empty a = tt
turn_of n opening g s c firm loose empty_flush a = tt

pub phase_fate : (n : ℕ) (g : Group) (m : Medium) (ph : Phase) → Names n g.number g.writes → AllByRecursion Whole g.writes → size m ≡ n + 9 →
    InTurn (length g.writes) ph → call_fate m (phase_call n g ph) ≡ fate_by (due m.plan)
phase_fate n g m (slot i) names whole sized l = fate_is m (suc n + i) (length (nth g.writes i).bytes) (nth_whole g.writes i l whole) (omega (arith, l, names.few, sized))
phase_fate n g m (home i) names whole sized l = fate_is m (nth g.writes i).place (length (nth g.writes i).bytes) (nth_whole g.writes i l whole) (omega (arith, names.inside i l, sized))
phase_fate n g m head names whole sized l = fate_is m n (length _) (length_encode (group_head g) (omega (arith, names.few, length-map g.writes place_of))) (omega (arith, sized))
phase_fate n g m empty names whole sized l = fate_is m n (length _) (length_encode (empty_head g.number) (omega arith)) (omega (arith, sized))
phase_fate n g m slots_flush names whole sized l = refl
phase_fate n g m head_flush names whole sized l = refl
phase_fate n g m homes_flush names whole sized l = refl
phase_fate n g m empty_flush names whole sized l = refl

-- ---- the volume's refusals

abbrev Seven : CacheError → Type 0
Seven (error.Volume c e) = volume_number e ≡ 7
Seven error.Length = Unit {0}
Seven error.Place = Unit {0}
Seven error.PlaceOpen = Unit {0}
Seven error.NoRoom = Unit {0}
Seven error.NoMarks = Unit {0}
Seven error.NoTicket = Unit {0}
Seven error.NothingCollected = Unit {0}
Seven error.GroupUnderWay = Unit {0}
Seven error.NoNumbers = Unit {0}

abbrev pub FaultOnly : Answer → Type 0
FaultOnly (refused e) = Seven e
FaultOnly (accepted k) = Unit {0}
FaultOnly (shown b) = Unit {0}

-- a test whose refusal is the cache's own
own : (b : Bool) (e : CacheError) (rest : Option CacheError) (o : Outcome) (v : Live) → Seven e → FaultOnly (decided rest o v).answer →
    FaultOnly (decided (cond b (some e) rest) o v).answer
own true e rest o v s f = s
own false e rest o v s f = f

module _ (n : ℕ) (opening : List Block) (device : Device) (v : Live) (l : Ledger) (i : Invariant n opening v l) (h : Held n v) (sized : size v.medium ≡ n + 9) where
  read_seven : (place room : ℕ) → room ≡ 512 → place < n → (b : Option Block) → FaultOnly (read_shown device v place room b).answer
  read_seven place room e l (some b) = tt
  read_seven place room e l none = subst (λ f. FaultOnly (read_disk device v place f).answer) (sym (fate_is v.medium place room e (omega (arith, l, sized)))) (go (due v.medium.plan))
    where
      go : (x : Entry) → FaultOnly (read_disk device v place (fate_by x)).answer
      go good = tt
      go bad = refl

  step_seven : (g : Option Group) (u : Option UnderWay) → v.group ≡ g → State n opening v.medium.firm v.medium.loose v.last g u l.committed →
      FaultOnly (stepped n device v g).answer
  step_seven none u e a = tt
  step_seven (some g) none e a = absurd a
  step_seven (some g) (some u) e (is_last, number, blocks, phase, names, a) =
      subst (λ f. FaultOnly (step_met device v g (phase_call n g g.phase) f).answer)
      (sym (phase_fate n g v.medium g.phase names (subst (λ x. AllByRecursion Whole (group_writes x)) e h.grouped) sized
      (turn_of n opening g u.sealing l.committed v.medium.firm v.medium.loose g.phase a)))
      (go (due v.medium.plan))
    where
      go : (x : Entry) → FaultOnly (step_met device v g (phase_call n g g.phase) (fate_by x)).answer
      go good = tt
      go bad = refl

  pub faults_only : (call : Call) → FaultOnly (outcome_in n device v call).answer
  faults_only (begin place bytes) =
      own (not (eqb (length bytes) 512)) error.Length _ (begun v place bytes) v tt
      (own (leb n place) error.Place _ (begun v place bytes) v tt
      (own (holds place (map begun_place v.open_writes)) error.PlaceOpen _ (begun v place bytes) v tt
      (own (ltb 8 (different n (place ∷ (map place_of v.collected ++ map begun_place v.open_writes)))) error.NoRoom _ (begun v place bytes) v tt
      (own (ltb 1_000_000 (v.counter + length v.open_writes + 2)) error.NoMarks none (begun v place bytes) v tt tt))))
  faults_only (finish ticket) = go (find ticket v.open_writes)
    where
      go : (o : Option Begun) → FaultOnly (finished v ticket o).answer
      go none = tt
      go (some o) = tt
  faults_only (withdraw ticket) = go (find ticket v.open_writes)
    where
      go : (o : Option Begun) → FaultOnly (withdrawn v ticket o).answer
      go none = tt
      go (some o) = tt
  faults_only (read place room) = go (not (eqb room 512)) (leb n place) refl refl
    where
      o : Outcome
      o = read_shown device v place room (cached place (v.collected ++ group_writes v.group))

      go : (a b : Bool) → not (eqb room 512) ≡ a → leb n place ≡ b → FaultOnly (decided (cond a (some error.Length) (cond b (some error.Place) none)) o v).answer
      go true b e f = tt
      go false true e f = tt
      go false false e f =
          read_seven place room (eqb-true room 512 (not-false (eqb room 512) e)) (leb-false n place f) (cached place (v.collected ++ group_writes v.group))
  faults_only seal =
      own (is_some v.group) error.GroupUnderWay _ (sealed v) v tt
      (own (eqb (length v.collected) 0) error.NothingCollected _ (sealed v) v tt
      (own (leb 4_294_967_295 v.last) error.NoNumbers none (sealed v) v tt tt))
  faults_only step = step_seven v.group l.under_way refl i.state
  faults_only (restart choice) = tt
