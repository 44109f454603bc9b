-- Runs of the cache, and the laws that hold along them.
use Rattle.std.specs.Prelude.{◌≡◌, ℕ, ◌+◌, ◌*◌, true, ◌≢◌, List, [], ◌∷◌, ◌++◌, length}
use Rattle.std.specs.List.{AllByRecursion}
use Rattle.disk.specs.Medium.{Block, Medium, size, current, cut}
use Rattle.precedence.specs.Stamps.{Precedence, Lawful, overlap, line}
use Rattle.table.specs.declared.held.State.TheVariants.{Open, Home}
use Rattle.table.specs.declared.held.Version.{Version}
use Rattle.table.specs.Versions.{finished}
use Rattle.table.specs.Rows.{in_rows}
use Rattle.ordered_law.specs.Device.{Device}
use Rattle.ordered_law.specs.Events.{Call, Read, Step, Answer, shown, Event}
use Rattle.ordered_law.specs.Cache.{Cache, Opening, fresh, opened, tally, outcome}
use Rattle.ordered_law.specs.Ledger.{replay}
use Rattle.ordered_law.specs.Promise.{Shows, newest_block, unhomed, bads}
use Rattle.ordered_law.specs.Tallies.{ledger_tally, AddsUp}
use Rattle.ordered_law.specs.Bounds.{Bounded}

-- a call with the answer that it gets
abbrev pub event_of : Precedence → Device → Call → Cache → Event
event_of precedes device call c = record { call = call; answer = (outcome precedes device call c).answer }

-- These calls with these answers led from c to d, whatever disk was met at each.
pub data Ran (precedes : Precedence) (c : Cache) : List Event → Cache → Type 0 where
  started : Ran precedes c [] c
  called : {es : List Event} {d : Cache} → Ran precedes c es d → (device : Device) (call : Call) →
      Ran precedes c (es ++ event_of precedes device call d ∷ []) (outcome precedes device call d).cache

-- what became of each write since the opening, by the calls and their answers
abbrev pub ledger : Precedence → Opening → List Event → List Version
ledger precedes o es = replay precedes (in_rows o.rows) es

-- What holds of a cache after these calls with these answers since its opening.
pub record Laws (precedes : Precedence) (o : Opening) (es : List Event) (c : Cache) : Type 0 where
  -- a cut keeps a closed set: whatever it drops, storage shows finished writes with all that precede them, every home
  -- one among them
  pub cut_safe : (choice : ℕ) → Shows precedes (current o.medium) (ledger precedes o es) (current (cut choice c.medium))
  -- and so does a power failure within one more call, after its disk call and before its answer
  pub cut_within : (device : Device) (call : Call) (choice : ℕ) → Shows precedes (current o.medium) (ledger precedes o es) (current (cut choice (outcome precedes device call c).cache.medium))
  -- a read shows the newest: an accepted one shows the place's finished write of highest begin mark, whether it waits, was
  -- sent or is home, or else the opening block
  pub reads_newest : (device : Device) (place n : ℕ) (block : Block) → (outcome precedes device (Read place n) c).answer ≡ shown block → block ≡ newest_block (current o.medium) (ledger precedes o es) place
  -- a drain ends: with w finished writes not home, none open and b bad entries left, 2 * w + b steps in a row bring all
  -- home
  pub drains : (steps : List Event) (d : Cache) → Ran precedes c steps d → AllByRecursion (λ e. e.call ≡ Step) steps →
      AllByRecursion (λ v. v.state ≢ Open) (ledger precedes o es) →
      length steps ≡ 2 * unhomed (ledger precedes o es) + bads c.medium.plan →
      AllByRecursion (λ v. finished v.state ≡ true → v.state ≡ Home) (ledger precedes o (es ++ steps))
  -- the tally is true: each count is the ledger's, and begun is the sum of the other five
  pub tally_true : tally c ≡ ledger_tally (ledger precedes o es)
  pub tally_adds_up : AddsUp (tally c)
  -- bounds: at most 32 writes held, marks up to 1,000,000, and no write that the disk would refuse for length or place
  pub bounded : Bounded (size c.medium) (in_rows c.rows) c.counter

-- What one more call, answered `a`, adds to a run that had come so far.
pub record GoesOn (precedes : Precedence) (o : Opening) (es : List Event) (call : Call) (a : Answer) (d : Cache) : Type 0 where
  -- the run goes on with this call and its answer
  pub ran : Ran precedes (opened o) (es ++ record { call = call; answer = a } ∷ []) d
  -- all laws hold after it
  pub laws : Laws precedes o (es ++ record { call = call; answer = a } ∷ []) d
  -- and had the power failed before the answer, a cut would have kept a closed set of the writes before the call
  pub unanswered : (choice : ℕ) → Shows precedes (current o.medium) (ledger precedes o es) (current (cut choice d.medium))

-- A call that was answered `a` and led from c to d goes on with every run that led from an opening to c.
abbrev pub RunsOn : Precedence → Call → Cache → Answer → Cache → Type 0
RunsOn precedes call c a d =
    (m : Medium) (es : List Event) → Ran precedes (opened (fresh m)) es c → GoesOn precedes (fresh m) es call a d

-- Along every run the laws hold: for every lawful precedence, every opening medium with any plan, every rule of the
-- disk and every list of calls, refused or not.
abbrev pub LawfulRuns : Type 0
LawfulRuns =
    (precedes : Precedence) → Lawful precedes → (m : Medium) (es : List Event) (c : Cache) →
    Ran precedes (opened (fresh m)) es c → Laws precedes (fresh m) es c

-- overlap and line keep the three laws of a precedence
pub record LawfulOrders : Type 0 where
  pub by_overlap : Lawful overlap
  pub by_line : Lawful line
