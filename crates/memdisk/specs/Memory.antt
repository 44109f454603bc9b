-- Blocks that lie one after another in memory, and a plan given as bytes.
use Rattle.std.specs.Prelude.{ℕ, zero, suc, ◌*◌, ◌/◌, ◌%◌, Bool, true, false, cond, List, length, map, ◌==◌, nat_le, nat_lt}
use Rattle.std.specs.List.{list_all}
use Rattle.std.specs.Simd.{first_chunks}
use Rattle.disk.specs.Medium.{Block, Entry, good, bad}

-- the first n blocks of the memory
unfoldable pub blocks_in : ℕ → List ℕ → List Block
blocks_in n memory = first_chunks 512 n memory

-- all blocks of memory that is whole ones
abbrev pub memory_blocks : List ℕ → List Block
memory_blocks memory = blocks_in (length memory / 512) memory

-- a number of bytes that is 1 to 4,096 whole blocks
abbrev pub whole_blocks : ℕ → Bool
whole_blocks n = cond (n % 512 == 0) (cond (nat_lt 0 n) (nat_le n (4096 * 512)) false) false

abbrev pub entry : ℕ → Entry
entry zero = good
entry (suc n) = bad

-- the plan of these bytes
abbrev pub entries : List ℕ → List Entry
entries bytes = map entry bytes

abbrev pub is_bad : Entry → Bool
is_bad good = false
is_bad bad = true

-- no byte of a plan is above 1
abbrev pub all_entries : List ℕ → Bool
all_entries bytes = list_all (λ b. nat_le b 1) bytes
