-- The ordered write-back cache: what each call answers and leaves. Whatever the disk answers is handed up.
use Rattle.std.specs.Prelude.{ℕ, ◌+◌, Bool, cond, not, ◌&&◌, ◌||◌, List, [], length, Some, None, Ok, Err, Option, ◌==◌, nat_lt, slice_index_or}
use Rattle.disk.specs.declared.error.Kind.TheVariants as kind
use Rattle.disk.specs.Medium as medium
use Rattle.disk.specs.Medium.{Block, Medium, size, current, cut, passed, flushed}
use Rattle.disk.specs.Calls as calls
use Rattle.disk.specs.Calls.{Fate, fate, planned, leaves}
use Rattle.errors.specs.declared.CacheCall.{CacheCall}
use Rattle.errors.specs.declared.CacheCall.TheVariants as during
use Rattle.errors.specs.declared.CacheError.{CacheError}
use Rattle.errors.specs.declared.CacheError.TheVariants as error
use Rattle.errors.specs.Errors.{during_call}
use Rattle.precedence.specs.Stamps.{Precedence}
use Rattle.table.specs.declared.held.Version.{Version}
use Rattle.table.specs.declared.scan.Candidate.{Candidate}
use Rattle.table.specs.declared.tally.Counts.{Counts}
use Rattle.table.specs.declared.tally.Tally.{Tally}
use Rattle.table.specs.Versions.{is_open, is_waiting, is_sent, some_pass, count, reserved, room, has_ticket, begun, finish_one, withdraw_one, bring_home, wait_again}
use Rattle.table.specs.Rows.{Row, in_rows, no_rows, stamp_of, bytes_of, put, change, leave, mark_sent}
use Rattle.table.specs.Scans.{lowest_ready, newest_at}
use Rattle.ordered_law.specs.Device.{Device}
use Rattle.ordered_law.specs.Events.{Call, Begin, Finish, Withdraw, Read, Step, Restart, Count, Answer, took, shown, counted, refused}

pub record Cache : Type 0 where
  -- the disk below
  pub medium : Medium
  -- 32 rows in no order
  pub rows : List Row
  -- the last mark given
  pub counter : ℕ
  -- the writes begun, and those that have left the table
  pub counts : Counts

pub record Outcome : Type 0 where
  pub answer : Answer
  pub cache : Cache

-- ---- the opening

-- What a cache starts from: the disk as the opening's flush finds it, and the writes that the cache holds already.
pub record Opening : Type 0 where
  pub medium : Medium
  pub rows : List Row
  pub counter : ℕ

-- an opening over this medium that holds no write
abbrev pub fresh : Medium → Opening
fresh m = record { medium = m; rows = no_rows; counter = 0 }

-- the cache once the flush was good
abbrev pub opened : Opening → Cache
opened o = record {
  medium = flushed o.medium;
  rows = o.rows;
  counter = o.counter;
  counts = record { begun = length (in_rows o.rows); withdrawn = 0; home = 0 };
}

-- ---- answers that leave the table

-- a refusal alters nothing
abbrev pub refuse : CacheError → Cache → Outcome
refuse e c = record { answer = refused e; cache = c }

-- the disk's answer to a call that was under way, handed up whole; a good one is answered `good`
abbrev pub handed : CacheCall → Answer → calls.Answer → Answer
handed call good (Ok u) = good
handed call good (Err e) = refused (during_call call e)

-- the same cache over another medium
abbrev pub over : Medium → Cache → Cache
over m c = record { medium = m; rows = c.rows; counter = c.counter; counts = c.counts }

-- ---- begin

-- no mark lies above this
abbrev pub last_mark : ℕ
last_mark = 1000000

-- Why a begin is refused, over a disk of so many blocks: its own mark and its finish mark must be left, beside one for
-- each write that still takes one.
abbrev pub begin_refusal : ℕ → ℕ → Block → List Version → ℕ → Option CacheError
begin_refusal blocks place bytes table counter =
    cond (not (length bytes == 512)) (Some error.Length)
    (cond (not (nat_lt place blocks)) (Some error.Place)
    (cond (some_pass (λ v. is_open v.state && v.stamp.place == place) table) (Some error.PlaceOpen)
    (cond (not (room table)) (Some error.NoRoom)
    (cond (nat_lt last_mark (counter + reserved table + 2)) (Some error.NoMarks)
    None))))

abbrev pub unless : {A : Type 0} → Option CacheError → A → (CacheError → A) → A
unless None done refuse = done
unless (Some e) done refuse = refuse e

abbrev pub one_begun : Counts → Counts
one_begun n = record { begun = n.begun + 1; withdrawn = n.withdrawn; home = n.home }

abbrev pub begin_call : ℕ → Block → Cache → Outcome
begin_call place bytes c =
    unless (begin_refusal (size c.medium) place bytes (in_rows c.rows) c.counter)
    (record {
      answer = took (c.counter + 1);
      cache = record { medium = c.medium; rows = put (begun place bytes (c.counter + 1)) c.rows; counter = c.counter + 1; counts = one_begun c.counts };
    })
    (λ e. refuse e c)

-- ---- finish and withdraw

abbrev pub finish_call : ℕ → Cache → Outcome
finish_call t c =
    cond (some_pass (has_ticket t) (in_rows c.rows))
    (record {
      answer = took (c.counter + 1);
      cache = record { medium = c.medium; rows = change (finish_one t (c.counter + 1)) c.rows; counter = c.counter + 1; counts = c.counts };
    })
    (refuse error.NoTicket c)

abbrev pub one_withdrawn : Counts → Counts
one_withdrawn n = record { begun = n.begun; withdrawn = n.withdrawn + 1; home = n.home }

abbrev pub withdraw_call : ℕ → Cache → Outcome
withdraw_call t c =
    cond (some_pass (has_ticket t) (in_rows c.rows))
    (record {
      answer = took 0;
      cache = record { medium = c.medium; rows = leave (change (withdraw_one t) c.rows); counter = c.counter; counts = one_withdrawn c.counts };
    })
    (refuse error.NoTicket c)

-- ---- read

-- the disk is read
abbrev pub read_disk : Device → ℕ → Cache → Fate → Outcome
read_disk device place c met = record {
  answer = handed during.Read (shown (slice_index_or (current c.medium) place [])) (calls.answer device.tries kind.Read place met);
  cache = over (leaves c.medium (passed c.medium) met) c;
}

-- the newest finished write of the place in the table, or else the disk
abbrev pub read_through : Device → ℕ → ℕ → Cache → Option Candidate → Outcome
read_through device place n c (Some newest) = record { answer = shown (bytes_of (slice_index_or c.rows newest.row None)); cache = c }
read_through device place n c None = read_disk device place c (fate c.medium place n)

abbrev pub read_call : Device → ℕ → ℕ → Cache → Outcome
read_call device place n c =
    cond (not (n == 512)) (refuse error.Length c)
    (cond (not (nat_lt place (size c.medium))) (refuse error.Place c)
    (read_through device place n c (newest_at place c.rows)))

-- ---- step

-- the rows once the grant of row i is settled by the disk's answer
abbrev pub settled_rows : List Row → ℕ → calls.Answer → List Row
settled_rows rows i (Ok u) = mark_sent rows i
settled_rows rows i (Err e) = rows

-- row i is written to the disk
abbrev pub send_meeting : Device → ℕ → Row → Cache → Fate → Outcome
send_meeting device i row c met = record {
  answer = handed during.Step (took 1) (calls.answer device.tries kind.Write (stamp_of row).place met);
  cache = record {
    medium = leaves c.medium (medium.put device.rule c.medium (record { place = (stamp_of row).place; bytes = bytes_of row })) met;
    rows = settled_rows c.rows i (calls.answer device.tries kind.Write (stamp_of row).place met);
    counter = c.counter;
    counts = c.counts;
  };
}

abbrev pub send_call : Device → ℕ → Row → Cache → Outcome
send_call device i row c = send_meeting device i row c (fate c.medium (stamp_of row).place (length (bytes_of row)))

-- the rows once a flush was answered: after a good one every sent write is home, and home writes leave the table
abbrev pub flushed_rows : List Row → calls.Answer → List Row
flushed_rows rows (Ok u) = leave (change bring_home rows)
flushed_rows rows (Err e) = rows

abbrev pub more_home : ℕ → Counts → Counts
more_home k n = record { begun = n.begun; withdrawn = n.withdrawn; home = n.home + k }

abbrev pub flushed_counts : List Row → Counts → calls.Answer → Counts
flushed_counts rows n (Ok u) = more_home (count is_sent (in_rows rows)) n
flushed_counts rows n (Err e) = n

abbrev pub flush_call : Device → Cache → Fate → Outcome
flush_call device c met = record {
  answer = handed during.Step (took 2) (calls.answer device.tries kind.Flush 0 met);
  cache = record {
    medium = leaves c.medium (flushed c.medium) met;
    rows = flushed_rows c.rows (calls.answer device.tries kind.Flush 0 met);
    counter = c.counter;
    counts = flushed_counts c.rows c.counts (calls.answer device.tries kind.Flush 0 met);
  };
}

abbrev pub any_sent : List Version → Bool
any_sent table = some_pass (λ v. is_sent v.state) table

abbrev pub any_busy : List Version → Bool
any_busy table = some_pass (λ v. is_waiting v.state || is_sent v.state) table

abbrev pub step_with : Device → Cache → Option Candidate → Outcome
step_with device c (Some n) = send_call device n.row (slice_index_or c.rows n.row None) c
step_with device c None = cond (any_sent (in_rows c.rows)) (flush_call device c (planned c.medium)) (record { answer = took 3; cache = c })

-- Idle with nothing waiting or sent; else the ready write of lowest begin mark is written; else the disk is flushed, if
-- anything is sent; else the cache is blocked.
abbrev pub step_call : Precedence → Device → Cache → Outcome
step_call precedes device c =
    cond (any_busy (in_rows c.rows)) (step_with device c (lowest_ready precedes c.rows))
    (record { answer = took 0; cache = c })

-- ---- restart and tally

abbrev pub restart_call : ℕ → Cache → Outcome
restart_call choice c = record {
  answer = took 0;
  cache = record { medium = cut choice c.medium; rows = change wait_again c.rows; counter = c.counter; counts = c.counts };
}

-- of these versions in the table
abbrev pub tallied : Counts → List Version → Tally
tallied n table = record {
  begun = n.begun;
  withdrawn = n.withdrawn;
  «open» = count is_open table;
  waiting = count is_waiting table;
  sent = count is_sent table;
  home = n.home;
}

abbrev pub tally : Cache → Tally
tally c = tallied c.counts (in_rows c.rows)

-- ---- one call

abbrev pub outcome : Precedence → Device → Call → Cache → Outcome
outcome precedes device (Begin place bytes) c = begin_call place bytes c
outcome precedes device (Finish t) c = finish_call t c
outcome precedes device (Withdraw t) c = withdraw_call t c
outcome precedes device (Read place n) c = read_call device place n c
outcome precedes device Step c = step_call precedes device c
outcome precedes device (Restart choice) c = restart_call choice c
outcome precedes device Count c = record { answer = counted (tally c); cache = c }
