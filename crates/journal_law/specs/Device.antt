-- What a disk brings to a call of the cache, and the bad entries of a plan.
use Rattle.std.specs.Prelude.{ℕ, suc, List, [], ◌∷◌}
use Rattle.disk.specs.Medium.{Effect, Entry, good, bad}

-- the disk's own rule at the write that the call may make, and how often it makes a call that fails
pub record Device : Type 0 where
  pub effect : Effect
  pub tries : ℕ

-- the bad entries left in a plan
abbrev pub bads : List Entry → ℕ
bads [] = 0
bads (good ∷ es) = bads es
bads (bad ∷ es) = suc (bads es)
