-- The writes of a batch, as the cache's model has them.
use Rattle.std.specs.Prelude.{ℕ, ◌+◌, cond, List, [], ◌∷◌, map, take}
use Rattle.disk.specs.Medium.{Write}
use Rattle.head.specs.Head.{holds}
use Rattle.journal_law.specs.Cache.{Begun}
use Rattle.batch.specs.declared.entry.Entry.{Entry}
use Rattle.batch.specs.declared.rows.Batch.{Batch}

abbrev pub write_in : Entry → Write
write_in e = record { place = e.place; bytes = e.bytes }

abbrev pub begun_in : Entry → Begun
begun_in e = record { mark = e.mark; write = write_in e }

abbrev pub place_in : Entry → ℕ
place_in e = e.place

-- what a row past the end reads as
abbrev pub no_entry : Entry
no_entry = record { mark = 0; place = 0; bytes = [] }

abbrev pub entries : Batch → List Entry
entries b = take b.count b.rows

-- a batch as writes with their begin marks, as writes, and as places
abbrev pub begun_list : Batch → List Begun
begun_list b = map begun_in (entries b)

abbrev pub write_list : Batch → List Write
write_list b = map write_in (entries b)

abbrev pub place_list : Batch → List ℕ
place_list b = map place_in (entries b)

-- how many of the places are not among the others
abbrev pub outside : List ℕ → List ℕ → ℕ
outside [] others = 0
outside (p ∷ ps) others = cond (holds p others) 0 1 + outside ps others
