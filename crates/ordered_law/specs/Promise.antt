-- What the ordered cache promises of storage.
use Rattle.std.specs.Prelude.{◌≡◌, ℕ, ◌+◌, ◌<◌, Bool, true, cond, ◌||◌, ◌≢◌, List, [], ◌∷◌, length, filter, slice_index_or}
use Rattle.std.specs.List.{AllByRecursion}
use Rattle.disk.specs.Medium.{Block, Write, lay, Entry, good, bad}
use Rattle.precedence.specs.Stamps.{Precedence}
use Rattle.table.specs.declared.held.State.TheVariants.{Home, Withdrawn}
use Rattle.table.specs.declared.held.Version.{Version}
use Rattle.table.specs.Versions.{finished, is_waiting, is_sent}

abbrev pub write_of : Version → Write
write_of v = record { place = v.stamp.place; bytes = v.bytes }

-- the ledger's writes that pass, in the ledger's order
abbrev pub writes : (Version → Bool) → List Version → List Write
writes p [] = []
writes p (v ∷ ledger) = cond (p v) (write_of v ∷ writes p ledger) (writes p ledger)

-- those of a set, which goes by begin mark
abbrev pub kept_writes : (ℕ → Bool) → List Version → List Write
kept_writes kept ledger = writes (λ v. kept v.stamp.begin) ledger

-- R holds of each element and every later one
abbrev pub Pairs : {A : Type 0} → (A → A → Type 0) → List A → Type 0
Pairs R [] = Unit {0}
Pairs R (x ∷ xs) = AllByRecursion (R x) xs × Pairs R xs

-- Storage shows the opening blocks with a closed set of writes laid on.
pub record Shows (precedes : Precedence) (opening : List Block) (ledger : List Version) (blocks : List Block) : Type 0 where
  -- the ledger stands in the order of begin marks
  pub by_begin_mark : Pairs (λ u v. u.stamp.begin < v.stamp.begin) ledger
  -- which writes, by begin mark
  pub kept : ℕ → Bool
  -- storage shows the opening blocks with these writes laid on by begin mark
  pub laid : blocks ≡ lay opening (kept_writes kept ledger)
  -- only finished writes are among them
  pub only_finished : AllByRecursion (λ v. kept v.stamp.begin ≡ true → finished v.state ≡ true) ledger
  -- every home write is among them
  pub all_home : AllByRecursion (λ v. v.state ≡ Home → kept v.stamp.begin ≡ true) ledger
  -- and with each write among them every write that precedes it and was not withdrawn
  pub with_preceding :
      AllByRecursion (λ v. kept v.stamp.begin ≡ true →
      AllByRecursion (λ u. precedes u.stamp v.stamp ≡ true → u.state ≢ Withdrawn → kept u.stamp.begin ≡ true) ledger) ledger

-- The newest block of a place: that of the opening blocks with all finished writes laid on by begin mark.
abbrev pub newest_block : List Block → List Version → ℕ → Block
newest_block opening ledger place = slice_index_or (lay opening (writes (λ v. finished v.state) ledger)) place []

-- the bad entries of a plan
abbrev pub bads : List Entry → ℕ
bads [] = 0
bads (good ∷ plan) = bads plan
bads (bad ∷ plan) = bads plan + 1

-- finished writes that are not home
abbrev pub unhomed : List Version → ℕ
unhomed ledger = length (filter (λ v. is_waiting v.state || is_sent v.state) ledger)
