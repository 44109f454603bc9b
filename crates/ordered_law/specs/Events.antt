-- The calls of an ordered cache, and their answers.
use Rattle.std.specs.Prelude.{ℕ}
use Rattle.disk.specs.Medium.{Block}
use Rattle.errors.specs.declared.CacheError.{CacheError}
use Rattle.table.specs.declared.tally.Tally.{Tally}

pub data Call : Type 0 where
  -- a place and its new bytes
  Begin : ℕ → Block → Call
  -- a ticket
  Finish : ℕ → Call
  Withdraw : ℕ → Call
  -- a place, and the length of the buffer
  Read : ℕ → ℕ → Call
  Step : Call
  -- the choice of a cut
  Restart : ℕ → Call
  Count : Call

pub data Answer : Type 0 where
  -- accepted, with the ticket of a begin, the mark of a finish or the number of what a step did; 0 for the others
  took : ℕ → Answer
  -- the block that a read shows
  shown : Block → Answer
  -- what a tally counts
  counted : Tally → Answer
  -- refused; a disk's fault is told whole, with its kind, its place and its tries
  refused : CacheError → Answer

pub record Event : Type 0 where
  pub call : Call
  pub answer : Answer
