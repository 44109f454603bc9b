-- The two ends of a live cache.
use Rattle.std.specs.Prelude.{◌≡◌, ℕ, List, [], Option}
use Rattle.disk.specs.Medium.{Medium}
use Rattle.journal_law.specs.Recovery.{home_blocks}
use Rattle.journal_law.specs.Cache.{Live, Event, opened}
use Rattle.journal_law.specs.Laws.{JustRecovered, Ran, Laws, Left}
use Rattle.journal_volume.specs.Recovering.{with_number}

-- a volume accepted with a number becomes a cache just recovered, and a run starts: the laws hold of no call
pub record Starts (accepted : Option ℕ) (m : Medium) (v : Live) : Type 0 where
  pub empty : (k : ℕ) → accepted ≡ with_number k → v ≡ opened (home_blocks m) k m
  pub runs : (k : ℕ) → accepted ≡ with_number k → JustRecovered (home_blocks m) k m → Ran (opened (home_blocks m) k m) [] v × Laws (home_blocks m) k m [] v

-- A cache in state v was cut, and its disk is m': on every list of calls that led to v, recovery of m' is atomic.
abbrev pub EndsIn : Live → Medium → Type 0
EndsIn v m' = (n k : ℕ) (m : Medium) (es : List Event) → JustRecovered n k m → Ran (opened n k m) es v → Left n k m es m'
