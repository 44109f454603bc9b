-- The phases of code as those of the model, and their turns.
use Rattle.std.specs.Prelude.{ℕ, ◌+◌, Bool, true, cond, Some, None, Ok, Err, Option, Result, nat_lt}
use Rattle.errors.specs.declared.CacheError.{CacheError}
use Rattle.journal_law.specs.Cache as model
use Rattle.group.specs.declared.phase.Phase.{Phase}
use Rattle.group.specs.declared.phase.Phase.TheVariants.{Slot, SlotsFlush, Head, HeadFlush, Home, HomesFlush, Empty, EmptyFlush}
use Rattle.errors.specs.declared.Progress.TheVariants as progress
use Rattle.group.specs.declared.turn.Turn.{Turn}

abbrev pub phase_of : Phase → model.Phase
phase_of (Slot i) = model.slot i
phase_of SlotsFlush = model.slots_flush
phase_of Head = model.head
phase_of HeadFlush = model.head_flush
phase_of (Home i) = model.home i
phase_of HomesFlush = model.homes_flush
phase_of Empty = model.empty
phase_of EmptyFlush = model.empty_flush

-- the turn lies within a group of so many blocks, which has one at least
abbrev pub in_turn : Phase → ℕ → Bool
in_turn (Slot i) blocks = nat_lt i blocks
in_turn SlotsFlush blocks = nat_lt 0 blocks
in_turn Head blocks = nat_lt 0 blocks
in_turn HeadFlush blocks = nat_lt 0 blocks
in_turn (Home i) blocks = nat_lt i blocks
in_turn HomesFlush blocks = nat_lt 0 blocks
in_turn Empty blocks = nat_lt 0 blocks
in_turn EmptyFlush blocks = nat_lt 0 blocks

abbrev pub fitting : Option Phase → ℕ → Bool
fitting None blocks = true
fitting (Some p) blocks = in_turn p blocks

abbrev pub wrote_to : Phase → Result Turn CacheError
wrote_to p = Ok (record { phase = Some p; progress = progress.Written })

abbrev pub flushed_to : Option Phase → Result Turn CacheError
flushed_to p = Ok (record { phase = p; progress = progress.Flushed })

-- from a phase to the next, by a good call
abbrev pub next : ℕ → Phase → Result Turn CacheError
next blocks (Slot i) = cond (nat_lt (i + 1) blocks) (wrote_to (Slot (i + 1))) (wrote_to SlotsFlush)
next blocks SlotsFlush = flushed_to (Some Head)
next blocks Head = wrote_to HeadFlush
next blocks HeadFlush = flushed_to (Some (Home 0))
next blocks (Home i) = cond (nat_lt (i + 1) blocks) (wrote_to (Home (i + 1))) (wrote_to HomesFlush)
next blocks HomesFlush = flushed_to (Some Empty)
next blocks Empty = wrote_to EmptyFlush
next blocks EmptyFlush = flushed_to None

abbrev pub advanced : ℕ → Phase → Result (Unit {0}) CacheError → Result Turn CacheError
advanced blocks p (Ok u) = next blocks p
advanced blocks p (Err e) = Err e
