-- The checks of a disk in memory, which makes each call once.
use Rattle.std.specs.Prelude.{◌≡◌, ℕ, List}
use Rattle.disk.specs.declared.error.Kind.{Kind}
use Rattle.disk.specs.declared.error.DiskError.{DiskError}
use Rattle.disk.specs.declared.error.DiskError.TheVariants.{Fault}
use Rattle.disk.specs.Medium.{Entry}
use Rattle.disk.specs.Calls.{Answer, answer, fate_under, spent}

-- the error of a call that failed
abbrev pub failure : Kind → ℕ → DiskError
failure k place = Fault (record { kind = k; place = place; tries = 1 })

-- a read or a write of n bytes was answered r by its checks and its entry, and left this much of the plan
pub record Admits (size : ℕ) (plan : List Entry) (k : Kind) (place n : ℕ) (r : Answer) (left : List Entry) : Type 0 where
  pub answers : r ≡ answer 1 k place (fate_under size plan place n)
  pub after : left ≡ spent plan (fate_under size plan place n)
