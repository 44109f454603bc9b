-- The ledger: which writes and sealings there are, and what became of them, by the calls and their answers alone.
-- Nothing in it looks into the cache or onto the disk.
use Rattle.std.specs.Prelude.{ℕ, zero, suc, cond, List, [], ◌∷◌, ◌++◌, map, length, nat_lt}
use Rattle.std.proofs.Math.Option.{Option, some, none}
use Rattle.disk.specs.Medium.{Block, Write, lay}
use Rattle.journal_law.specs.Cache.{Begun, Phase, slot, slots_flush, head, head_flush, home, homes_flush, empty, empty_flush, Call, begin, finish, withdraw, read, seal, step, restart, Answer, accepted, shown, refused, Event, find, without, collect, next_phase, restarted_phase}

-- a sealing: its number and the writes finished before it
pub record Sealing : Type 0 where
  pub number : ℕ
  pub writes : List Begun

-- a sealing whose group has not left the cache: how many blocks the group has, and its phase
pub record UnderWay : Type 0 where
  pub sealing : Sealing
  pub blocks : ℕ
  pub phase : Phase

pub record Ledger : Type 0 where
  pub open_writes : List Begun
  pub finished : List Begun
  -- what was finished since the last sealing, a place once
  pub since : List Write
  -- the last committed sealing
  pub committed : Sealing
  pub under_way : Option UnderWay

-- the opening counts as the last committed sealing, with no write and the number recovered
abbrev pub opening_ledger : ℕ → Ledger
opening_ledger k = record {
  open_writes = [];
  finished = [];
  since = [];
  committed = record { number = k; writes = [] };
  under_way = none;
}

abbrev pub now_finished : Ledger → ℕ → Option Begun → Ledger
now_finished l ticket none = l
now_finished l ticket (some o) = record {
  open_writes = without ticket l.open_writes;
  finished = o ∷ l.finished;
  since = collect o.write l.since;
  committed = l.committed;
  under_way = l.under_way;
}

-- the good flush after the head's write commits the sealing
abbrev pub committed_by : UnderWay → Sealing → Phase → Sealing
committed_by u before head_flush = u.sealing
committed_by u before (slot i) = before
committed_by u before slots_flush = before
committed_by u before head = before
committed_by u before (home i) = before
committed_by u before homes_flush = before
committed_by u before empty = before
committed_by u before empty_flush = before

abbrev pub in_phase_now : UnderWay → Option Phase → Option UnderWay
in_phase_now u none = none
in_phase_now u (some p) = some (record { sealing = u.sealing; blocks = u.blocks; phase = p })

abbrev pub with_under_way : Ledger → Sealing → Option UnderWay → Ledger
with_under_way l c u = record {
  open_writes = l.open_writes;
  finished = l.finished;
  since = l.since;
  committed = c;
  under_way = u;
}

-- a step that made a good call
abbrev pub moved : Ledger → Option UnderWay → Ledger
moved l none = l
moved l (some u) =
    with_under_way l (committed_by u l.committed u.phase) (in_phase_now u (next_phase u.blocks u.phase))

abbrev pub gone_back : Ledger → Option UnderWay → Ledger
gone_back l none = l
gone_back l (some u) = with_under_way l l.committed (in_phase_now u (some (restarted_phase u.phase)))

abbrev pub step_noted : Ledger → ℕ → Ledger
step_noted l zero = l
step_noted l (suc a) = moved l l.under_way

abbrev pub noted : Ledger → Call → ℕ → Ledger
noted l (begin place bytes) value = record {
  open_writes = l.open_writes ++ record { mark = value; write = record { place = place; bytes = bytes } } ∷ [];
  finished = l.finished;
  since = l.since;
  committed = l.committed;
  under_way = l.under_way;
}
noted l (finish ticket) value = now_finished l ticket (find ticket l.open_writes)
noted l (withdraw ticket) value = record {
  open_writes = without ticket l.open_writes;
  finished = l.finished;
  since = l.since;
  committed = l.committed;
  under_way = l.under_way;
}
noted l (read place room) value = l
noted l seal value = record {
  open_writes = l.open_writes;
  finished = l.finished;
  since = [];
  committed = l.committed;
  under_way = some (record {
    sealing = record { number = value; writes = l.finished };
    blocks = length l.since;
    phase = slot 0;
  });
}
noted l step value = step_noted l value
noted l (restart choice) value = gone_back l l.under_way

abbrev pub note : Ledger → Call → Answer → Ledger
note l c (accepted value) = noted l c value
note l c (shown bytes) = l
note l c (refused e) = l

abbrev pub replay : Ledger → List Event → Ledger
replay l [] = l
replay l (e ∷ es) = replay (note l e.call e.answer) es

-- writes in the order of their begin marks
abbrev pub insert_by_mark : Begun → List Begun → List Begun
insert_by_mark o [] = o ∷ []
insert_by_mark o (x ∷ xs) = cond (nat_lt x.mark o.mark) (x ∷ insert_by_mark o xs) (o ∷ x ∷ xs)

abbrev pub by_mark : List Begun → List Begun
by_mark [] = []
by_mark (o ∷ os) = insert_by_mark o (by_mark os)

abbrev pub write_of : Begun → Write
write_of o = o.write

-- the writes laid on the opening blocks by begin mark
abbrev pub laid : List Block → List Begun → List Block
laid opening writes = lay opening (map write_of (by_mark writes))
