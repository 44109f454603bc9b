-- The memory of the disks of tests.
use Rattle.std.specs.Prelude.{ℕ, ◌*◌, ◌-◌, ◌^◌, min}

-- the bytes of so many blocks, if an address reaches that far
abbrev pub bytes_of : ℕ → ℕ
bytes_of blocks = min (blocks * 512) (2 ^ 64 - 1)
