-- Known outcomes, as a table of the definitions.
use Rattle.std.specs.Prelude.{◌≡◌, ℕ, true, false, List, [], ◌∷◌, replicate, Some, None, Option}
use Rattle.disk.specs.Medium.{Block}
use Rattle.errors.specs.declared.CacheError.{CacheError}
use Rattle.errors.specs.Errors.{cache_number}
use Rattle.precedence.specs.declared.Stamp.{Stamp}
use Rattle.precedence.specs.Stamps.{begun_at, finished_at, overlap, line}
use Rattle.table.specs.declared.held.Version.{Version}
use Rattle.table.specs.Versions.{begun}
use Rattle.ordered_law.specs.Cache.{begin_refusal}

abbrev pub zeros : Block
zeros = replicate 512 0

-- a write begun at 1 and finished at this mark
abbrev pub first_write : ℕ → Stamp
first_write f = finished_at f (begun_at 0 1)

-- a write begun at 3
abbrev pub second_write : Stamp
second_write = begun_at 0 3

-- the number of the refusal of a begin at place 0 of two blocks, 0 where it is accepted
abbrev pub refusal_number : Option CacheError → ℕ
refusal_number None = 0
refusal_number (Some e) = cache_number e

abbrev pub begin_number : List Version → ℕ → ℕ
begin_number table counter = refusal_number (begin_refusal 2 0 zeros table counter)

-- a table with one open write, at place 1
abbrev pub one_open : List Version
one_open = begun 1 zeros 1 ∷ []

pub record KnownOrdered : Type 0 where
  -- u finished at 2, v begun at 3
  pub overlap_before : overlap (first_write 2) second_write ≡ true
  -- u finished at 4, v begun at 3
  pub overlap_across : overlap (first_write 4) second_write ≡ false
  pub line_across : line (first_write 4) second_write ≡ true
  -- counter 999,998, none open
  pub last_begin : begin_number [] 999998 ≡ 0
  -- counter 999,999
  pub no_begin : begin_number [] 999999 ≡ 5
  -- counter 999,998 with one open
  pub no_second : begin_number one_open 999998 ≡ 5
