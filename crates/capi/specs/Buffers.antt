-- A listing in the caller's buffer.
use Rattle.std.specs.Prelude.{◌≡◌, ℕ, ◌<◌, ◌≤◌, min, Bool, true, false, ◌⊎◌, List, ◌++◌, length, drop}
use Rattle.trace.specs.declared.call.Mode.{Mode}
use Rattle.trace.specs.declared.call.Mode.TheVariants.{Overlap, Line}
use Rattle.play.specs.Plays.{output_for}
use Rattle.drain.specs.Drains.{drained}

-- 0: what the player writes for the input stands at the front of the buffer, and the rest of it is as it was
pub record Done (input before : List ℕ) (long : ℕ) (after : List ℕ) : Type 0 where
  pub long_is : long ≡ length (output_for input)
  pub fits : long ≤ length before
  pub front : after ≡ output_for input ++ drop long before

-- 1: it is longer than the buffer, which is as it was
pub record Short (input before : List ℕ) (long : ℕ) (after : List ℕ) : Type 0 where
  pub long_is : long ≡ length (output_for input)
  pub exceeds : length before < long
  pub same : after ≡ before

-- the code says which; 2 is want of memory, and leaves the buffer
abbrev pub Written : List ℕ → List ℕ → ℕ → ℕ → List ℕ → Type 0
Written input before code long after =
    ((code ≡ 0) × Done input before long after) ⊎ (((code ≡ 1) × Short input before long after) ⊎ ((code ≡ 2) × (long ≡ 0) × (after ≡ before)))

-- the mode that a flag names
abbrev pub mode_for : Bool → Mode
mode_for true = Line
mode_for false = Overlap

-- 0: so many writes went to the disk; 2 is want of memory
abbrev pub Drained : Bool → ℕ → ℕ → ℕ → Type 0
Drained line rounds code long =
    ((code ≡ 0) × (long ≡ drained (mode_for line) (min rounds 1000))) ⊎ ((code ≡ 2) × (long ≡ 0))
