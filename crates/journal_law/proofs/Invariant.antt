-- What holds of the cache, its medium and the ledger after every list of calls.
use Rattle.std.proofs.Common.{◌≡◌, ℕ, ◌+◌, ◌<◌, ◌≤◌, Bool, true, List, [], ◌++◌, map, length, get_or}
use mathlib.Core.Option.{Option, some, none}
use Rattle.disk.specs.Medium.{Block, Write, lay, Medium}
use Rattle.head.specs.Head.{encode, decode, empty_head, all_below, none_twice}
use Rattle.journal_law.specs.Cache.{Begun, Phase, slot, slots_flush, head, head_flush, home, homes_flush, empty, empty_flush, Group, Live, place_of, begun_place, different}
use Rattle.journal_law.specs.Ledger.{Sealing, UnderWay, Ledger, laid}
use Rattle.std.specs.List.{AllByRecursion}
use Rattle.journal_law.proofs.Media.{Kept, over}
use Rattle.journal_law.proofs.Forms.{head_of, Idle, Logged, Replayed, Cleared, Names, Fixed, ToLay, SlotsWritten}
use Rattle.journal_law.proofs.Tables.{Before, Apart}

-- the table: marks, one open write to a place, and room for the places
pub record Table (n : ℕ) (open_writes finished : List Begun) (collected : List Write) (counter : ℕ) : Type 0 where
  pub open_marks : AllByRecursion (λ (o : Begun). o.mark ≤ counter) open_writes
  pub done_marks : AllByRecursion (λ (o : Begun). o.mark ≤ counter) finished
  pub apart : Apart open_writes
  pub later : AllByRecursion (λ (o : Begun). AllByRecursion (Before o) finished) open_writes
  pub open_inside : AllByRecursion (λ (o : Begun). o.write.place < n) open_writes
  pub inside : all_below n (map place_of collected) ≡ true
  pub once : none_twice (map place_of collected) ≡ true
  pub room : different n (map place_of collected ++ map begun_place open_writes) ≤ 8

-- the block that a sealing shows at a place
abbrev pub content : List Block → Sealing → ℕ → Block
content opening s p = get_or (laid opening s.writes) p []

abbrev pub blocks_at : List Block → List Write → Medium
blocks_at firm loose = record { firm = firm; loose = loose; plan = [] }

-- a group not yet committed over the last committed sealing c
pub record Over (n : ℕ) (opening : List Block) (ws : List Write) (s c : Sealing) : Type 0 where
  pub next : (p : ℕ) → p < n → over ws p (content opening c p) ≡ content opening s p
  pub blank : decode n (encode (empty_head c.number)) ≡ some (empty_head c.number)

-- the medium in each phase of the group g of sealing s, the last committed sealing being c
abbrev pub InPhase : ℕ → List Block → Group → Sealing → Sealing → List Block → List Write → Phase → Type 0
InPhase n opening g s c firm loose (slot i) =
    Over n opening g.writes s c × (i < length g.writes) × ((tried : Bool)
    × Kept (n + 9) (Logged n c.number g.number g.writes (content opening c) tried tried) firm loose
    × SlotsWritten n g.writes i (blocks_at firm loose))
InPhase n opening g s c firm loose slots_flush =
    Over n opening g.writes s c × ((tried : Bool)
    × Kept (n + 9) (Logged n c.number g.number g.writes (content opening c) tried tried) firm loose
    × SlotsWritten n g.writes (length g.writes) (blocks_at firm loose))
InPhase n opening g s c firm loose head =
    Over n opening g.writes s c × ((tried : Bool)
    × Kept (n + 9) (Logged n c.number g.number g.writes (content opening c) true tried) firm loose)
InPhase n opening g s c firm loose head_flush =
    Over n opening g.writes s c × Kept (n + 9) (Logged n c.number g.number g.writes (content opening c) true true) firm loose
    × (get_or (lay firm loose) n [] ≡ encode (head_of g.number g.writes))
InPhase n opening g s c firm loose (home i) =
    (c ≡ s) × (i < length g.writes) × Kept (n + 9) (Replayed n g.number g.writes (content opening s)) firm loose
    × ToLay n g.writes (content opening s) i (blocks_at firm loose)
InPhase n opening g s c firm loose homes_flush =
    (c ≡ s) × Kept (n + 9) (Replayed n g.number g.writes (content opening s)) firm loose
    × ToLay n g.writes (content opening s) (length g.writes) (blocks_at firm loose)
InPhase n opening g s c firm loose empty =
    (c ≡ s) × Fixed n g.writes (content opening s) × Kept (n + 9) (Cleared n g.number g.writes (content opening s)) firm loose
InPhase n opening g s c firm loose empty_flush =
    (c ≡ s) × Fixed n g.writes (content opening s) × Kept (n + 9) (Cleared n g.number g.writes (content opening s)) firm loose
    × (get_or (lay firm loose) n [] ≡ encode (empty_head g.number))

-- the cache's group, the ledger's sealing under way and the medium together
abbrev pub State : ℕ → List Block → List Block → List Write → ℕ → Option Group → Option UnderWay → Sealing → Type 0
State n opening firm loose last none none c =
    (last ≡ c.number) × (decode n (encode (empty_head c.number)) ≡ some (empty_head c.number))
    × Kept (n + 9) (Idle n c.number (content opening c)) firm loose
State n opening firm loose last none (some u) c = ⊥
State n opening firm loose last (some g) none c = ⊥
State n opening firm loose last (some g) (some u) c =
    (last ≡ g.number) × (u.sealing.number ≡ g.number) × (u.blocks ≡ length g.writes) × (u.phase ≡ g.phase)
    × Names n g.number g.writes × InPhase n opening g u.sealing c firm loose g.phase

-- the writes of the last sealing, committed or not
abbrev pub last_sealed : Option UnderWay → Sealing → List Begun
last_sealed none c = c.writes
last_sealed (some u) c = u.sealing.writes

pub record Invariant (n : ℕ) (opening : List Block) (v : Live) (l : Ledger) : Type 0 where
  pub same_open : l.open_writes ≡ v.open_writes
  pub same_since : l.since ≡ v.collected
  pub table : Table n v.open_writes l.finished v.collected v.counter
  pub shown_next : lay (laid opening (last_sealed l.under_way l.committed)) v.collected ≡ laid opening l.finished
  pub state : State n opening v.medium.firm v.medium.loose v.last v.group l.under_way l.committed
