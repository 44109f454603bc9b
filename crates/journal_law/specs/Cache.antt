-- The journaled cache over a volume with n home blocks: what each call answers and leaves.
use Rattle.std.specs.Prelude.{ℕ, zero, suc, ◌+◌, Bool, true, false, cond, not, List, [], ◌∷◌, ◌++◌, map, length, Ok, Err, ◌==◌, nat_le, nat_lt, slice_index_or}
use Rattle.std.proofs.Math.Option.{Option, some, none}
use Rattle.disk.specs.declared.error.Kind.{Kind}
use Rattle.disk.specs.declared.error.Kind.TheVariants as kind
use Rattle.disk.specs.Medium.{Block, Write, Effect, Medium, current, passed, flushed, put, cut}
use Rattle.disk.specs.Calls as disk
use Rattle.disk.specs.Calls.{Fate, fate, planned, leaves, served, failed, wrong_length, wrong_place}
use Rattle.errors.specs.declared.CacheCall.{CacheCall}
use Rattle.errors.specs.declared.CacheCall.TheVariants as during
use Rattle.errors.specs.declared.CacheError.{CacheError}
use Rattle.errors.specs.declared.CacheError.TheVariants as error
use Rattle.errors.specs.Errors.{during_call}
use Rattle.head.specs.Head.{Head, empty_head, holds}
use Rattle.journal_law.specs.Device.{Device}
use Rattle.journal_law.specs.Recovery.{slot_place, head_write}

-- a write that has begun: its begin mark is its ticket
pub record Begun : Type 0 where
  pub mark : ℕ
  pub write : Write

-- the disk call that a group's step makes next; slots and homes in turn, from 0
pub data Phase : Type 0 where
  slot : ℕ → Phase
  slots_flush head head_flush : Phase
  home : ℕ → Phase
  homes_flush empty empty_flush : Phase

pub record Group : Type 0 where
  pub number : ℕ
  pub writes : List Write
  pub phase : Phase

pub record Live : Type 0 where
  pub medium : Medium
  -- the home blocks lie below this place, the head at it
  pub home_count : ℕ
  pub counter : ℕ
  -- in the order of their begins
  pub open_writes : List Begun
  -- in the order of the first finish at each place
  pub collected : List Write
  pub group : Option Group
  -- the number of the last sealing, or the one recovered
  pub last : ℕ

-- a cache of n home blocks, just recovered with number k
abbrev pub opened : ℕ → ℕ → Medium → Live
opened n k m = record { medium = m; home_count = n; counter = 0; open_writes = []; collected = []; group = none; last = k }

pub data Call : Type 0 where
  begin : ℕ → Block → Call
  finish withdraw : ℕ → Call
  -- place, and the length of the buffer
  read : ℕ → ℕ → Call
  seal step : Call
  restart : ℕ → Call

pub data Answer : Type 0 where
  -- accepted, with a ticket, a mark, a group's number or the number of a step's answer
  accepted : ℕ → Answer
  -- a read block
  shown : Block → Answer
  refused : CacheError → Answer

pub record Outcome : Type 0 where
  pub answer : Answer
  pub live : Live

-- ---- refusals

-- the first test that is met refuses
pub record Test : Type 0 where
  pub met : Bool
  pub refusal : CacheError

abbrev pub first_met : List Test → Option CacheError
first_met [] = none
first_met (t ∷ ts) = cond t.met (some t.refusal) (first_met ts)

-- a refusal leaves everything as it is
abbrev pub decided : Option CacheError → Outcome → Live → Outcome
decided none outcome live = outcome
decided (some e) outcome live = record { answer = refused e; live = live }

-- the disk's answer to a call that was under way, handed up; a good one is answered `good`
abbrev pub handed : CacheCall → Answer → disk.Answer → Answer
handed call good (Ok u) = good
handed call good (Err e) = refused (during_call call e)

-- ---- changes of the cache

abbrev pub with_table : Live → ℕ → List Begun → List Write → Live
with_table v counter open_writes collected = record {
  medium = v.medium;
  home_count = v.home_count;
  counter = counter;
  open_writes = open_writes;
  collected = collected;
  group = v.group;
  last = v.last;
}

abbrev pub with_medium : Live → Medium → Live
with_medium v m = record {
  medium = m;
  home_count = v.home_count;
  counter = v.counter;
  open_writes = v.open_writes;
  collected = v.collected;
  group = v.group;
  last = v.last;
}

abbrev pub with_group : Live → Medium → Option Group → Live
with_group v m g = record {
  medium = m;
  home_count = v.home_count;
  counter = v.counter;
  open_writes = v.open_writes;
  collected = v.collected;
  group = g;
  last = v.last;
}

-- ---- begin, finish and withdraw

abbrev pub place_of : Write → ℕ
place_of w = w.place

abbrev pub begun_place : Begun → ℕ
begun_place o = o.write.place

-- how many different places below n stand in the list
abbrev pub different : ℕ → List ℕ → ℕ
different zero xs = 0
different (suc n) xs = cond (holds n xs) 1 0 + different n xs

abbrev pub begin_refusal : ℕ → Live → ℕ → Block → Option CacheError
begin_refusal n v place bytes = first_met (
    record { met = not (length bytes == 512); refusal = error.Length } ∷
    record { met = nat_le n place; refusal = error.Place } ∷
    record { met = holds place (map begun_place v.open_writes); refusal = error.PlaceOpen } ∷
    record { met = nat_lt 8 (different n (place ∷ (map place_of v.collected ++ map begun_place v.open_writes))); refusal = error.NoRoom } ∷
    record { met = nat_lt 1_000_000 (v.counter + length v.open_writes + 2); refusal = error.NoMarks } ∷ [])

abbrev pub begun : Live → ℕ → Block → Outcome
begun v place bytes = record {
  answer = accepted (suc v.counter);
  live = with_table v (suc v.counter)
      (v.open_writes ++ record { mark = suc v.counter; write = record { place = place; bytes = bytes } } ∷ []) v.collected;
}

abbrev pub find : ℕ → List Begun → Option Begun
find ticket [] = none
find ticket (o ∷ os) = cond (o.mark == ticket) (some o) (find ticket os)

abbrev pub without : ℕ → List Begun → List Begun
without ticket [] = []
without ticket (o ∷ os) = cond (o.mark == ticket) os (o ∷ without ticket os)

-- a place already collected gets the new bytes and keeps its turn
abbrev pub collect : Write → List Write → List Write
collect w [] = w ∷ []
collect w (x ∷ xs) = cond (x.place == w.place) (w ∷ xs) (x ∷ collect w xs)

abbrev pub finished : Live → ℕ → Option Begun → Outcome
finished v ticket none = record { answer = refused error.NoTicket; live = v }
finished v ticket (some o) = record {
  answer = accepted (suc v.counter);
  live = with_table v (suc v.counter) (without ticket v.open_writes) (collect o.write v.collected);
}

abbrev pub withdrawn : Live → ℕ → Option Begun → Outcome
withdrawn v ticket none = record { answer = refused error.NoTicket; live = v }
withdrawn v ticket (some o) = record {
  answer = accepted 0;
  live = with_table v v.counter (without ticket v.open_writes) v.collected;
}

-- ---- read

-- the bytes for a place among some writes
abbrev pub cached : ℕ → List Write → Option Block
cached place [] = none
cached place (w ∷ ws) = cond (w.place == place) (some w.bytes) (cached place ws)

abbrev pub group_writes : Option Group → List Write
group_writes none = []
group_writes (some g) = g.writes

-- a read of the disk, by what the call meets there
abbrev pub read_disk : Device → Live → ℕ → Fate → Outcome
read_disk device v place met = record {
  answer = handed during.Read (shown (slice_index_or (current v.medium) place [])) (disk.answer device.tries kind.Read place met);
  live = with_medium v (leaves v.medium (passed v.medium) met);
}

abbrev pub read_shown : Device → Live → ℕ → ℕ → Option Block → Outcome
read_shown device v place room (some bytes) = record { answer = shown bytes; live = v }
read_shown device v place room none = read_disk device v place (fate v.medium place room)

abbrev pub read_refusal : ℕ → ℕ → ℕ → Option CacheError
read_refusal n place room = first_met (
    record { met = not (room == 512); refusal = error.Length } ∷ record { met = nat_le n place; refusal = error.Place } ∷ [])

-- ---- seal

abbrev pub is_some : {A : Type 0} → Option A → Bool
is_some none = false
is_some (some a) = true

abbrev pub seal_refusal : Live → Option CacheError
seal_refusal v = first_met (
    record { met = is_some v.group; refusal = error.GroupUnderWay } ∷
    record { met = (length v.collected == 0); refusal = error.NothingCollected } ∷
    record { met = nat_le 4_294_967_295 v.last; refusal = error.NoNumbers } ∷ [])

abbrev pub sealed : Live → Outcome
sealed v = record {
  answer = accepted (suc v.last);
  live = record {
    medium = v.medium;
    home_count = v.home_count;
    counter = v.counter;
    open_writes = v.open_writes;
    collected = [];
    group = some (record { number = suc v.last; writes = v.collected; phase = slot 0 });
    last = suc v.last;
  };
}

-- ---- step and restart

-- the i-th write of a group
abbrev pub nth : List Write → ℕ → Write
nth [] i = record { place = 0; bytes = [] }
nth (w ∷ ws) zero = w
nth (w ∷ ws) (suc i) = nth ws i

abbrev pub group_head : Group → Head
group_head g = record { number = g.number; places = map place_of g.writes }

-- what each phase asks of the disk
pub data DiskCall : Type 0 where
  write : Write → DiskCall
  flush : DiskCall

abbrev pub phase_call : ℕ → Group → Phase → DiskCall
phase_call n g (slot i) = write (record { place = slot_place n i; bytes = (nth g.writes i).bytes })
phase_call n g slots_flush = flush
phase_call n g head = write (head_write n (group_head g))
phase_call n g head_flush = flush
phase_call n g (home i) = write (nth g.writes i)
phase_call n g homes_flush = flush
phase_call n g empty = write (head_write n (empty_head g.number))
phase_call n g empty_flush = flush

-- the phase after a good call, in a group of so many blocks; nothing when the group leaves the cache
abbrev pub next_phase : ℕ → Phase → Option Phase
next_phase blocks (slot i) = some (cond (nat_lt (suc i) blocks) (slot (suc i)) slots_flush)
next_phase blocks slots_flush = some head
next_phase blocks head = some head_flush
next_phase blocks head_flush = some (home 0)
next_phase blocks (home i) = some (cond (nat_lt (suc i) blocks) (home (suc i)) homes_flush)
next_phase blocks homes_flush = some empty
next_phase blocks empty = some empty_flush
next_phase blocks empty_flush = none

-- where a restart goes back to
abbrev pub restarted_phase : Phase → Phase
restarted_phase (slot i) = slot 0
restarted_phase slots_flush = slot 0
restarted_phase head = slot 0
restarted_phase head_flush = slot 0
restarted_phase (home i) = home 0
restarted_phase homes_flush = home 0
restarted_phase empty = empty
restarted_phase empty_flush = empty

abbrev pub in_phase : Group → Option Phase → Option Group
in_phase g none = none
in_phase g (some p) = some (record { number = g.number; writes = g.writes; phase = p })

-- a disk call: the number of a good answer, its kind and place, and what it meets, does and leaves
abbrev pub good_answer : DiskCall → ℕ
good_answer (write w) = 1
good_answer flush = 2

abbrev pub call_kind : DiskCall → Kind
call_kind (write w) = kind.Write
call_kind flush = kind.Flush

abbrev pub call_place : DiskCall → ℕ
call_place (write w) = w.place
call_place flush = 0

abbrev pub call_fate : Medium → DiskCall → Fate
call_fate m (write w) = fate m w.place (length w.bytes)
call_fate m flush = planned m

abbrev pub good_medium : Effect → DiskCall → Medium → Medium
good_medium effect (write w) m = put effect m w
good_medium effect flush m = flushed m

abbrev pub call_answer : ℕ → DiskCall → Fate → disk.Answer
call_answer tries call met = disk.answer tries (call_kind call) (call_place call) met

-- a good call moves the group on; any other leaves phase and turn
abbrev pub group_after : Group → Fate → Option Group
group_after g served = in_phase g (next_phase (length g.writes) g.phase)
group_after g failed = some g
group_after g wrong_length = some g
group_after g wrong_place = some g

-- the group's disk call, by what it meets
abbrev pub step_met : Device → Live → Group → DiskCall → Fate → Outcome
step_met device v g call met = record {
  answer = handed during.Step (accepted (good_answer call)) (call_answer device.tries call met);
  live = with_group v (leaves v.medium (good_medium device.effect call v.medium) met) (group_after g met);
}

abbrev pub stepped : ℕ → Device → Live → Option Group → Outcome
stepped n device v none = record { answer = accepted 0; live = v }
stepped n device v (some g) = step_met device v g (phase_call n g g.phase) (call_fate v.medium (phase_call n g g.phase))

abbrev pub group_restarted : Option Group → Option Group
group_restarted none = none
group_restarted (some g) = in_phase g (some (restarted_phase g.phase))

-- ---- all calls

abbrev pub outcome_in : ℕ → Device → Live → Call → Outcome
outcome_in n device v (begin place bytes) = decided (begin_refusal n v place bytes) (begun v place bytes) v
outcome_in n device v (finish ticket) = finished v ticket (find ticket v.open_writes)
outcome_in n device v (withdraw ticket) = withdrawn v ticket (find ticket v.open_writes)
outcome_in n device v (read place room) =
    decided (read_refusal n place room) (read_shown device v place room (cached place (v.collected ++ group_writes v.group))) v
outcome_in n device v seal = decided (seal_refusal v) (sealed v) v
outcome_in n device v step = stepped n device v v.group
outcome_in n device v (restart choice) = record {
  answer = accepted 0;
  live = with_group v (cut choice v.medium) (group_restarted v.group);
}

-- each call, on the volume that the cache has
abbrev pub outcome : Device → Live → Call → Outcome
outcome device v call = outcome_in v.home_count device v call

-- the write that a disk call asks for; a flush asks for none
abbrev pub asked_write : DiskCall → Write
asked_write (write w) = w
asked_write flush = record { place = 0; bytes = [] }

-- the write that the cache's next step asks for
abbrev pub group_asks : ℕ → Option Group → Write
group_asks n none = asked_write flush
group_asks n (some g) = asked_write (phase_call n g g.phase)

abbrev pub step_asks : Live → Write
step_asks v = group_asks v.home_count v.group

-- a call as its caller sees it
pub record Event : Type 0 where
  pub call : Call
  pub answer : Answer
