-- The history of a volume that is played: what the laws of the journaled cache are about.
use Rattle.std.specs.Prelude.{ℕ, List}
use Rattle.disk.specs.Medium.{Medium}
use Rattle.journal_law.specs.Cache.{Live, Event, opened}
use Rattle.journal_law.specs.Laws.{JustRecovered, Ran, Left}

-- some calls since some recovery led to this cache
pub record Running (v : Live) : Type 0 where
  pub homes : ℕ
  pub number : ℕ
  pub opening : Medium
  pub events : List Event
  pub recovered : JustRecovered homes number opening
  pub ran : Ran (opened homes number opening) events v

-- a running cache left this medium when the power failed
pub record Recoverable (m : Medium) : Type 0 where
  pub homes : ℕ
  pub number : ℕ
  pub opening : Medium
  pub events : List Event
  pub left : Left homes number opening events m
