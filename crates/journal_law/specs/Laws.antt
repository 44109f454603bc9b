-- What holds of every run of the journaled cache, and of every recovery.
use Rattle.std.specs.Prelude.{◌≡◌, ℕ, ◌+◌, ◌-◌, ◌*◌, ◌<◌, ◌≤◌, true, ◌≢◌, ◌⊎◌, List, [], ◌∷◌, ◌++◌, map, length, get_or, take, slice_index_or}
use Rattle.std.proofs.Math.Option.{some, none}
use Rattle.disk.specs.Medium.{Block, Effect, Medium, size, current, cut}
use Rattle.disk.specs.declared.error.Kind.{Kind}
use Rattle.errors.specs.declared.CacheCall.{CacheCall}
use Rattle.errors.specs.declared.VolumeError.{VolumeError}
use Rattle.errors.specs.declared.CacheError.TheVariants as error
use Rattle.errors.specs.Errors.{volume_number}
use Rattle.head.specs.Head.{Head, encode, decode, empty_head, fits}
use Rattle.journal_law.specs.Device.{Device, bads}
use Rattle.journal_law.specs.Recovery.{recovered, no_head, failed, started, calls, ended, Broken, after_broken}
use Rattle.journal_law.specs.Cache.{Phase, slot, slots_flush, head, head_flush, home, homes_flush, empty, empty_flush, Live, Call, begin, finish, withdraw, read, seal, step, restart, Answer, shown, refused, Event, outcome, opened, place_of, begun_place, different, group_writes, is_some}
use Rattle.journal_law.specs.Ledger.{Sealing, UnderWay, Ledger, opening_ledger, replay, laid}

-- ---- runs

-- a cache just recovered: on some medium of n home blocks, a head and eight slots, a recovery answered k and left m
pub record JustRecovered (n k : ℕ) (m : Medium) : Type 0 where
  pub home_blocks : (1 ≤ n) × (n ≤ 4087)
  pub before : Medium
  pub sized : size before ≡ n + 9
  pub effects : List Effect
  pub success : calls n effects (started before) ≡ record { stage = recovered k; medium = m }

-- a call with the answer that it gets
abbrev pub event_of : Device → Live → Call → Event
event_of device v call = record { call = call; answer = (outcome device v call).answer }

-- These calls with these answers led from v to w, whatever disk was met at each.
pub data Ran (v : Live) : List Event → Live → Type 0 where
  no_call : Ran v [] v
  one_more : {es : List Event} {w : Live} → Ran v es w → (device : Device) (call : Call) →
      Ran v (es ++ event_of device w call ∷ []) (outcome device w call).live

-- where the power may fail: between two calls, or within one, after its disk call and before its answer
pub data FailsAt (v : Live) : Medium → Type 0 where
  between : FailsAt v v.medium
  within : (device : Device) (call : Call) → FailsAt v (outcome device v call).live.medium

-- ---- recovery is atomic

-- storage shows the writes of the sealing, laid on the opening blocks by begin mark, and recovery answered its number
pub record Shows (n : ℕ) (opening : List Block) (s : Sealing) (k : ℕ) (m : Medium) : Type 0 where
  pub number : k ≡ s.number
  pub blocks : take n (current m) ≡ laid opening s.writes

-- recovery answered k and left m: the last committed sealing of the ledger, or the one under way
abbrev pub ShowsLast : ℕ → List Block → Ledger → ℕ → Medium → Type 0
ShowsLast n opening l k m =
    Shows n opening l.committed k m ⊎ ((u : UnderWay) × (l.under_way ≡ some u) × Shows n opening u.sealing k m)

-- Whatever a cut of this medium drops, and however many recoveries are then broken off by faults or cuts, the one that succeeds shows the
-- last committed sealing of the ledger, or the one under way.
abbrev pub Safe : ℕ → List Block → Ledger → Medium → Type 0
Safe n opening l m =
    (choice : ℕ) (broken : List Broken) (effects : List Effect) (k : ℕ) (m' : Medium) →
    calls n effects (started (after_broken n broken (cut choice m))) ≡ record { stage = recovered k; medium = m' } →
    ShowsLast n opening l k m'

-- And one does succeed: recovery ends within 21 disk calls, never for want of a head, and by no fault where no bad entry is left.
abbrev pub Succeeds : ℕ → Medium → Type 0
Succeeds n m =
    (choice : ℕ) (broken : List Broken) (effects : List Effect) →
    ((calls n effects (started (after_broken n broken (cut choice m)))).stage ≢ no_head)
    × (bads (after_broken n broken (cut choice m)).plan ≡ 0 → 21 ≤ length effects →
    (k : ℕ) × ((calls n effects (started (after_broken n broken (cut choice m)))).stage ≡ recovered k))

-- ---- a group leaves

-- the disk calls that a group of so many blocks has left, from each phase on: 2 * blocks + 6 when it is sealed
abbrev pub calls_left : ℕ → Phase → ℕ
calls_left blocks (slot i) = 2 * blocks + 6 - i
calls_left blocks slots_flush = blocks + 6
calls_left blocks head = blocks + 5
calls_left blocks head_flush = blocks + 4
calls_left blocks (home i) = blocks + 3 - i
calls_left blocks homes_flush = 3
calls_left blocks empty = 2
calls_left blocks empty_flush = 1

-- the step calls in a list
abbrev pub step_count : Call → ℕ
step_count step = 1
step_count (begin place bytes) = 0
step_count (finish ticket) = 0
step_count (withdraw ticket) = 0
step_count (read place room) = 0
step_count seal = 0
step_count (restart choice) = 0

abbrev pub steps : List Event → ℕ
steps [] = 0
steps (e ∷ es) = step_count e.call + steps es

abbrev pub IsRestart : Call → Type 0
IsRestart (restart choice) = Unit {0}
IsRestart step = ⊥
IsRestart (begin place bytes) = ⊥
IsRestart (finish ticket) = ⊥
IsRestart (withdraw ticket) = ⊥
IsRestart (read place room) = ⊥
IsRestart seal = ⊥

abbrev pub NoRestart : List Event → Type 0
NoRestart [] = Unit {0}
NoRestart (e ∷ es) = (IsRestart e.call → ⊥) × NoRestart es

-- ---- all laws

pub record Bounds (n : ℕ) (v : Live) : Type 0 where
  -- every open write has room for its finish mark
  pub marks : v.counter + length v.open_writes ≤ 1_000_000
  -- at most eight different places are collected or open
  pub places : different n (map place_of v.collected ++ map begun_place v.open_writes) ≤ 8
  -- a group has at most eight blocks
  pub blocks : length (group_writes v.group) ≤ 8
  -- a number fits four bytes
  pub number : v.last < 4_294_967_296

-- What holds of a cache that was recovered with number k over m, n home blocks, after these calls with these answers led to v.
pub record Laws (n k : ℕ) (m : Medium) (es : List Event) (v : Live) : Type 0 where
  -- wherever the power fails now, recovery shows the last committed sealing or the one under way, whole
  pub atomic : (m' : Medium) → FailsAt v m' → Safe n (take n (current m)) (replay (opening_ledger k) es) m'
  -- and recovery succeeds once no bad entry is left
  pub succeeds : (m' : Medium) → FailsAt v m' → Succeeds n m'
  -- the group under way leaves the cache within the disk calls that it has left and a step for each bad entry, other calls among the steps
  -- or not, if no restart comes
  pub leaves : (u : UnderWay) → (replay (opening_ledger k) es).under_way ≡ some u →
      (later : List Event) (w : Live) → Ran v later w → NoRestart later →
      calls_left u.blocks u.phase + bads v.medium.plan ≤ steps later →
      (x : UnderWay) → (replay (opening_ledger k) (es ++ later)).under_way ≡ some x → x.sealing.number ≢ u.sealing.number
  -- a read shows the place's newest finished write, sealed or not, or else its opening block; no open or withdrawn write
  pub newest : (device : Device) (place room : ℕ) (bytes : Block) → (outcome device v (read place room)).answer ≡ shown bytes →
      bytes ≡ slice_index_or (laid (take n (current m)) (replay (opening_ledger k) es).finished) place []
  -- what the volume refuses to a call of the cache is a fault, 7
  pub faults : (device : Device) (call : Call) (c : CacheCall) (e : VolumeError) →
      (outcome device v call).answer ≡ refused (error.Volume c e) → volume_number e ≡ 7
  pub bounds : Bounds n v

-- A call that was answered `a` and led from v to w: on every list of calls that led from a recovery to v, the list with this call leads
-- to w, and the laws hold after it.
abbrev pub RunsOn : Call → Live → Answer → Live → Type 0
RunsOn call v a w =
    (n k : ℕ) (m : Medium) (es : List Event) → JustRecovered n k m → Ran (opened n k m) es v →
    Ran (opened n k m) (es ++ record { call = call; answer = a } ∷ []) w × Laws n k m (es ++ record { call = call; answer = a } ∷ []) w

-- every run of the cache obeys the laws
abbrev pub LawfulRuns : Type 0
LawfulRuns = (n k : ℕ) (m : Medium) (es : List Event) (v : Live) → JustRecovered n k m → Ran (opened n k m) es v → Laws n k m es v

-- ---- recovery after a power failure

-- A medium that a running cache left when the power failed, after any number of recoveries that were broken off.
pub record Left (n k : ℕ) (m : Medium) (es : List Event) (m' : Medium) : Type 0 where
  pub start : JustRecovered n k m
  pub live : Live
  pub ran : Ran (opened n k m) es live
  pub at_failure : Medium
  pub fails : FailsAt live at_failure
  pub choice : ℕ
  pub broken : List Broken
  pub medium_is : m' ≡ after_broken n broken (cut choice at_failure)

-- ---- recovery of any volume

-- an idle volume: the empty head of the number, and nothing loose
pub record IdleVolume (n k : ℕ) (m : Medium) : Type 0 where
  pub quiet : m.loose ≡ []
  pub headed : get_or (current m) n [] ≡ encode (empty_head k)
  pub number : k < 4_294_967_296

-- a recovery that succeeds on any medium leaves an idle volume of the number that it answered
abbrev pub RecoveryIdles : Type 0
RecoveryIdles =
    (n : ℕ) (m : Medium) (effects : List Effect) (k : ℕ) (m' : Medium) → n ≤ 4087 → size m ≡ n + 9 →
    calls n effects (started m) ≡ record { stage = recovered k; medium = m' } → IdleVolume n k m'

-- A recovery of any medium ends within 21 disk calls; where no bad entry is left it is not broken off; and it finds no head only where the
-- current block at the head's place is none.
pub record EndsWell (n : ℕ) (m : Medium) (effects : List Effect) : Type 0 where
  pub ends : (tries : ℕ) → 21 ≤ length effects → is_some (ended tries (calls n effects (started m)).stage) ≡ true
  pub unbroken : bads m.plan ≡ 0 → (call : Kind) (place : ℕ) → (calls n effects (started m)).stage ≢ failed call place
  pub headless : (calls n effects (started m)).stage ≡ no_head → decode n (slice_index_or (current m) n []) ≡ none

abbrev pub RecoveryEnds : Type 0
RecoveryEnds = (n : ℕ) (m : Medium) (effects : List Effect) → EndsWell n m effects

-- ---- the head

-- a block is read as a head exactly where it is that head, byte for byte, and the head fits the volume
abbrev pub HeadExact : Type 0
HeadExact =
    (n : ℕ) (b : Block) (h : Head) → n ≤ 4087 →
    (decode n b ≡ some h → (b ≡ encode h) × (fits n h ≡ true)) × ((b ≡ encode h) × (fits n h ≡ true) → decode n b ≡ some h)
