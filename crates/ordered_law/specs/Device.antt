-- What a disk brings to a call of the cache.
use Rattle.std.specs.Prelude.{ℕ}
use Rattle.disk.specs.Medium.{Effect}

-- the disk's own rule at the write that the call may make, and how often it makes a call that fails
pub record Device : Type 0 where
  pub rule : Effect
  pub tries : ℕ
