-- The journaled cache's writes and its group, followed by the calls that it accepted and their answers alone.
use Rattle.std.specs.Prelude.{ℕ, ◌+◌, Bool, cond, ◌||◌, List, [], ◌∷◌, ◌++◌, map, length, replicate, Some, None, Ok, Err, Option, Result, ◌==◌, nat_lt}
use Rattle.std.proofs.Math.Option.{Option as Maybe, some, none}
use Rattle.disk.specs.Medium.{Write}
use Rattle.errors.specs.declared.CacheError.{CacheError}
use Rattle.head.specs.Head.{holds}
use Rattle.journal_law.specs.Cache.{Begun, place_of, find, without, collect, nth}
use Rattle.batch.specs.declared.rows.Batch.{Batch}
use Rattle.batch.specs.Rows.{begun_list, write_list}
use Rattle.group.specs.declared.phase.Phase.{Phase}
use Rattle.group.specs.declared.phase.Phase.TheVariants as phase
use Rattle.group.specs.declared.turn.Turn.{Turn}
use Rattle.group.specs.Phases.{next}
use Rattle.trace.specs.declared.call.TraceCall.{TraceCall}
use Rattle.trace.specs.declared.call.TraceCall.TheVariants as call
use Rattle.narration.specs.declared.deed.Deed.{Deed}
use Rattle.narration.specs.declared.deed.Deed.TheVariants as deed

-- the open writes, the collected ones, and the group's with its phase, if one is under way
pub record Followed : Type 0 where
  pub open_writes : List Begun
  pub collected : List Write
  pub group : List Write
  pub phase : Option Phase

abbrev pub followed : Batch → Batch → Batch → Option Phase → Followed
followed opens collected group p = record { open_writes = begun_list opens; collected = write_list collected; group = write_list group; phase = p }

-- of a cache that was just recovered
abbrev pub unfollowed : Followed
unfollowed = record { open_writes = []; collected = []; group = []; phase = None }

-- one more open write, if there is room
abbrev pub opens_more : ℕ → ℕ → ℕ → List Begun → List Begun
opens_more place fill mark os = cond (nat_lt (length os) 8) (os ++ record { mark = mark; write = record { place = place; bytes = replicate 512 fill } } ∷ []) os

-- a finished write is collected if its place is, or if there is room
abbrev pub has_room : ℕ → List Write → Bool
has_room place ws = holds place (map place_of ws) || nat_lt (length ws) 8

abbrev pub collected_more : Maybe Begun → List Write → List Write
collected_more none ws = ws
collected_more (some o) ws = cond (has_room o.write.place ws) (collect o.write ws) ws

-- the phase after a good call
abbrev pub phase_in : Result Turn CacheError → Option Phase
phase_in (Ok turn) = turn.phase
phase_in (Err e) = None

abbrev pub phase_after : ℕ → Option Phase → Option Phase
phase_after blocks None = None
phase_after blocks (Some p) = phase_in (next blocks p)

-- what the call of a phase writes, if it writes
abbrev pub phase_deed : List Write → Phase → Option Deed
phase_deed group (phase.Slot i) = Some (deed.Slot (i + 1))
phase_deed group phase.SlotsFlush = None
phase_deed group phase.Head = Some deed.Head
phase_deed group phase.HeadFlush = None
phase_deed group (phase.Home i) = Some (deed.Place (nth group i).place)
phase_deed group phase.HomesFlush = None
phase_deed group phase.Empty = Some deed.EmptyHead
phase_deed group phase.EmptyFlush = None

abbrev pub step_deed : List Write → Option Phase → Option Deed
step_deed group None = None
step_deed group (Some p) = phase_deed group p

-- where a restart goes back to
abbrev pub restarted : Phase → Phase
restarted (phase.Slot i) = phase.Slot 0
restarted phase.SlotsFlush = phase.Slot 0
restarted phase.Head = phase.Slot 0
restarted phase.HeadFlush = phase.Slot 0
restarted (phase.Home i) = phase.Home 0
restarted phase.HomesFlush = phase.Home 0
restarted phase.Empty = phase.Empty
restarted phase.EmptyFlush = phase.Empty

abbrev pub phase_restarted : Option Phase → Option Phase
phase_restarted None = None
phase_restarted (Some p) = Some (restarted p)

-- a sealing makes the collected writes the group
abbrev pub sealed : Followed → Followed
sealed f =
    cond (length f.collected == 0) f
    (record { open_writes = f.open_writes; collected = []; group = f.collected; phase = Some (phase.Slot 0) })

abbrev pub in_phase : Followed → Option Phase → Followed
in_phase f p = record { open_writes = f.open_writes; collected = f.collected; group = f.group; phase = p }

abbrev pub with_writes : Followed → List Begun → List Write → Followed
with_writes f os ws = record { open_writes = os; collected = ws; group = f.group; phase = f.phase }

-- what is followed after an accepted call with this answer
abbrev pub followed_after : TraceCall → ℕ → Followed → Followed
followed_after (call.Begin place fill) value f = with_writes f (opens_more place fill value f.open_writes) f.collected
followed_after (call.Finish ticket) value f = with_writes f (without ticket f.open_writes) (collected_more (find ticket f.open_writes) f.collected)
followed_after (call.Withdraw ticket) value f = with_writes f (without ticket f.open_writes) f.collected
followed_after (call.Read place) value f = f
followed_after call.Step value f = in_phase f (phase_after (length f.group) f.phase)
followed_after call.Seal value f = sealed f
followed_after (call.Restart choice) value f = in_phase f (phase_restarted f.phase)
followed_after (call.Cut choice) value f = unfollowed

-- what it wrote, if it wrote
abbrev pub deed_in_journal : TraceCall → Followed → Option Deed
deed_in_journal (call.Begin place fill) f = None
deed_in_journal (call.Finish ticket) f = None
deed_in_journal (call.Withdraw ticket) f = None
deed_in_journal (call.Read place) f = None
deed_in_journal call.Step f = step_deed f.group f.phase
deed_in_journal call.Seal f = None
deed_in_journal (call.Restart choice) f = None
deed_in_journal (call.Cut choice) f = None
