-- Which memory and plan make a disk, and which disk.
use Rattle.std.specs.Prelude.{◌≡◌, ℕ, ◌*◌, Bool, false, cond, List, [], length}
use Rattle.disk.specs.Medium.{Medium, size}
use Rattle.memdisk.specs.Memory.{blocks_in, memory_blocks, whole_blocks, entries, all_entries}

-- 1 to 4,096 whole blocks, and a plan with no byte above 1
abbrev pub usable : List ℕ → List ℕ → Bool
usable memory plan = cond (whole_blocks (length memory)) (all_entries plan) false

-- the number by which the refusal of a making is known
abbrev pub unusable_number : ℕ
unusable_number = 13

-- the medium of a disk that was just made
abbrev pub fresh : List ℕ → List ℕ → Medium
fresh memory plan = record { firm = memory_blocks memory; loose = []; plan = entries plan }

-- memory that holds just the firm blocks of a medium
pub record Holds (m : Medium) (memory : List ℕ) : Type 0 where
  pub whole : length memory ≡ 512 * size m
  pub blocks : blocks_in (size m) memory ≡ m.firm
