-- What a cache never exceeds.
use Rattle.std.specs.Prelude.{◌≡◌, ℕ, ◌+◌, ◌<◌, ◌≤◌, List, length}
use Rattle.std.specs.List.{AllByRecursion}
use Rattle.table.specs.declared.held.Version.{Version}
use Rattle.table.specs.Versions.{capacity, reserved}
use Rattle.ordered_law.specs.Cache.{last_mark}

-- a disk of so many blocks refuses the write neither for its length nor for its place
abbrev pub Fitting : ℕ → Version → Type 0
Fitting blocks v = (v.stamp.place < blocks) × (length v.bytes ≡ 512)

-- of a table and a mark counter over a disk of so many blocks
pub record Bounded (blocks : ℕ) (table : List Version) (counter : ℕ) : Type 0 where
  -- at most 32 writes are held
  pub few : length table ≤ capacity
  -- a mark is left for each write that still takes one
  pub marks : counter + reserved table ≤ last_mark
  -- every write that is held fits the disk
  pub fitting : AllByRecursion (Fitting blocks) table
