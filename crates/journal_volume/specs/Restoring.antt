-- What a recovery restores.
use Rattle.std.specs.Prelude.{◌≡◌, ℕ, List, take, Ok, Err, Result}
use Rattle.disk.specs.Medium.{Medium, current}
use Rattle.disk.specs.Calls.{number}
use Rattle.errors.specs.declared.VolumeError.{VolumeError}
use Rattle.errors.specs.declared.VolumeError.TheVariants as volume
use Rattle.journal_law.specs.Device.{bads}
use Rattle.journal_law.specs.Recovery.{home_blocks}
use Rattle.journal_law.specs.Cache.{Event}
use Rattle.journal_law.specs.Ledger.{opening_ledger, replay}
use Rattle.journal_law.specs.Laws.{JustRecovered, ShowsLast, Left, IdleVolume}

-- A success answers the number of the last committed sealing or of the one under way, and leaves exactly its blocks. A fault leaves a
-- medium of which the same is true again. Nothing else comes about.
abbrev pub Restored : ℕ → ℕ → Medium → List Event → Result ℕ VolumeError → Medium → Type 0
Restored n k m es (Ok j) m' = ShowsLast n (take n (current m)) (replay (opening_ledger k) es) j m'
Restored n k m es (Err (volume.Disk e)) m' = (number e ≡ 7) × Left n k m es m'
Restored n k m es (Err volume.NoHead) m' = ⊥
Restored n k m es (Err volume.TooSmall) m' = ⊥

-- A recovery of a medium that a power failure left: it restores, and it succeeds where no bad entry is left.
pub record Restores (before : Medium) (r : Result ℕ VolumeError) (after : Medium) : Type 0 where
  pub atomic : (n k : ℕ) (m : Medium) (es : List Event) → Left n k m es before → Restored n k m es r after
  pub succeeds : (n k : ℕ) (m : Medium) (es : List Event) → Left n k m es before → bads before.plan ≡ 0 → (j : ℕ) × (r ≡ Ok j)

-- After a success, on whatever medium, the volume is idle and a cache can be made: its home blocks are the opening blocks of a new ledger.
abbrev pub Opens : Medium → Result ℕ VolumeError → Medium → Type 0
Opens before (Ok k) after = JustRecovered (home_blocks before) k after × IdleVolume (home_blocks before) k after
Opens before (Err e) after = Unit {0}
