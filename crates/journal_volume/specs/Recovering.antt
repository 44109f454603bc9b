-- A recovery in code, against the recovery that makes one disk call at a time.
use Rattle.std.specs.Prelude.{◌≡◌, ℕ, cond, List, length, replicate, Some, None, Ok, Err, Option, Result, nat_lt}
use Rattle.std.proofs.Math.Option.{some}
use Rattle.std.specs.List.{AllByRecursion}
use Rattle.disk.specs.declared.error.DiskError.{DiskError}
use Rattle.disk.specs.Medium.{Write, Effect, Medium}
use Rattle.errors.specs.declared.VolumeError.{VolumeError}
use Rattle.errors.specs.declared.VolumeError.TheVariants as volume
use Rattle.head.specs.Head.{Head}
use Rattle.head.specs.Codes.{head_of}
use Rattle.journal_law.specs.Recovery.{home_blocks, Stage, read_slot, home_flush, Recovery, started, head_seen, no_head, calls, ended}
use Rattle.journal_volume.specs.declared.recovery.Found.{Found}

abbrev pub at : Stage → Medium → Recovery
at s m = record { stage = s; medium = m }

-- the effects that a disk of this rule has on its writes: its rule at some value of it and some write
abbrev pub OfRule : {D : Type 0} → (D → Write → Effect) → Effect → Type 0
OfRule {D} rule e = (d : D) × (w : Write) × (rule d w ≡ e)

-- from where it stands, and by such effects, a recovery comes to end, to answer r and to leave m'
pub record Ends (By : Effect → Type 0) (tries n : ℕ) (x : Recovery) (r : Result ℕ VolumeError) (m' : Medium) : Type 0 where
  pub effects : List Effect
  pub by_rule : AllByRecursion By effects
  pub answers : ended tries (calls n effects x).stage ≡ some r
  pub leaves : m' ≡ (calls n effects x).medium

-- from where it stands, a recovery comes to stand at y
pub record Leads (By : Effect → Type 0) (n : ℕ) (x y : Recovery) : Type 0 where
  pub effects : List Effect
  pub by_rule : AllByRecursion By effects
  pub run : calls n effects x ≡ y

-- a part of the recovery: it comes to a stage, or ends by a fault
abbrev pub Goes : (Effect → Type 0) → ℕ → ℕ → Recovery → Stage → Result (Unit {0}) DiskError → Medium → Type 0
Goes By tries n x s (Ok u) m' = Leads By n x (at s m')
Goes By tries n x s (Err e) m' = Ends By tries n x (Err (volume.Disk e)) m'

abbrev pub seen_stage : Head → Stage
seen_stage h = head_seen (some h)

-- the part up to the head: where a block holds one that fits, it is found on the volume of n home blocks
abbrev pub Sees : (Effect → Type 0) → ℕ → ℕ → Medium → Result (Option Found) DiskError → Medium → Type 0
Sees By tries n m (Ok None) m' = Leads By n (started m) (at no_head m')
Sees By tries n m (Ok (Some x)) m' = Leads By n (started m) (at (seen_stage (head_of x.head)) m') × (x.home ≡ n)
Sees By tries n m (Err e) m' = Ends By tries n (started m) (Err (volume.Disk e)) m'

-- slot i, or past the last the flush
abbrev pub turn : ℕ → Head → Stage
turn i h = cond (nat_lt i (length h.places)) (read_slot i h) (home_flush h)

-- a volume that is too small is refused, and left as it is
pub record IsTooSmall (m : Medium) (r : Result ℕ VolumeError) (m' : Medium) : Type 0 where
  pub answers : r ≡ Err volume.TooSmall
  pub leaves : m' ≡ m

-- a disk whose rule never changes: the answer and the medium after 21 disk calls, within which every recovery ends
pub record RecoveredAs (tries : ℕ) (effect : Effect) (m : Medium) (r : Result ℕ VolumeError) (m' : Medium) : Type 0 where
  pub answers : some r ≡ ended tries (calls (home_blocks m) (replicate 21 effect) (started m)).stage
  pub leaves : m' ≡ (calls (home_blocks m) (replicate 21 effect) (started m)).medium

-- the number of an accepted recovery
abbrev pub accepted_by : Result ℕ VolumeError → Option ℕ
accepted_by (Ok k) = Some k
accepted_by (Err e) = None

abbrev pub not_accepted : Option ℕ
not_accepted = None

abbrev pub with_number : ℕ → Option ℕ
with_number k = Some k
