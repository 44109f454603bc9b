-- The medium of a disk that is made of blocks in memory, loose writes and a plan.
use Rattle.std.specs.Prelude.{ℕ, List, [], map, take, vec_items}
use Rattle.std.specs.List.{All}
use Rattle.std.specs.Vec.Iter.{into_iter_items}
use Rattle.disk.specs.Medium.{Block, Write, Entry, Medium, Fitting}
use Rattle.memdisk.specs.declared.blocks.Blocks.{Blocks}
use Rattle.memdisk.specs.declared.loose.LooseWrite.{LooseWrite}
use Rattle.memdisk.specs.declared.loose.LooseWrites.{LooseWrites}
use Rattle.memdisk.specs.declared.plan.Plan.{Plan}
use Rattle.memdisk.specs.Memory.{memory_blocks, entries}

abbrev pub blocks_of : Blocks → List Block
blocks_of b = memory_blocks (vec_items b.memory)

abbrev pub as_write : LooseWrite → Write
as_write w = record { place = w.place; bytes = w.bytes }

abbrev pub writes_of : List LooseWrite → List Write
writes_of ws = map as_write ws

-- the writes of the array that are held
abbrev pub held_in : LooseWrites → List LooseWrite
held_in l = take l.count l.writes

-- what an element past the end reads as
abbrev pub no_write : LooseWrite
no_write = record { place = 0; bytes = [] }

-- each of the writes may be held by a disk of n blocks
abbrev pub EachFits : ℕ → List LooseWrite → Type 0
EachFits n ws = All (λ w. Fitting n (as_write w)) ws

abbrev pub plan_of : Plan → List Entry
plan_of p = entries (into_iter_items p.bytes)

abbrev pub medium_of : Blocks → List LooseWrite → Plan → Medium
medium_of b ws p = record { firm = blocks_of b; loose = writes_of ws; plan = plan_of p }
