-- The same cache with its table as a list in the order of begin marks: the form in which the laws are proved.
use Rattle.std.proofs.Common.{ℕ, ◌+◌, Bool, true, false, cond, not, eqb, ltb, List, [], ◌∷◌, ◌++◌, map, length, get_or, Option, None, Some}
use Rattle.std.specs.declared.option.Option as answer
use Rattle.disk.specs.declared.error.Kind.{Kind}
use Rattle.disk.specs.declared.error.Kind.TheVariants as kind
use Rattle.disk.specs.declared.error.DiskError.TheVariants as disk_error
use Rattle.disk.specs.Medium.{Block, Write, Entry, good, bad, Medium, current, cut, due, passed, flushed, put}
use Rattle.errors.specs.declared.CacheCall.{CacheCall}
use Rattle.errors.specs.declared.CacheCall.TheVariants as during
use Rattle.errors.specs.declared.CacheError.{CacheError}
use Rattle.errors.specs.declared.CacheError.TheVariants as error
use Rattle.errors.specs.Errors.{during_call}
use Rattle.precedence.specs.Stamps.{Precedence}
use Rattle.std.specs.Option.{option_or}
use Rattle.table.specs.declared.held.Version.{Version}
use Rattle.table.specs.declared.tally.Counts.{Counts}
use Rattle.table.specs.Versions.{held, is_sent, some_pass, count, has_ticket, begun, finish_one, withdraw_one, send_one, bring_home, wait_again, finished_in}
use Rattle.ordered_law.specs.Device.{Device}
use Rattle.ordered_law.specs.Events.{Call, Begin, Finish, Withdraw, Read, Step, Restart, Count, Answer, took, shown, counted, refused, Event}
use Rattle.ordered_law.specs.Cache.{begin_refusal, unless, one_begun, one_withdrawn, more_home, any_sent, any_busy, tallied}
use Rattle.ordered_law.specs.Ledger.{chosen}
use Rattle.ordered_law.specs.Promise.{write_of}

pub record Sorted : Type 0 where
  pub medium : Medium
  pub table : List Version
  pub counter : ℕ
  pub counts : Counts

pub record SortedOutcome : Type 0 where
  pub answer : Answer
  pub cache : Sorted

abbrev pub sorted_opened : Medium → Sorted
sorted_opened m = record { medium = flushed m; table = []; counter = 0; counts = record { begun = 0; withdrawn = 0; home = 0 } }

abbrev pub is_bad : Entry → Bool
is_bad good = false
is_bad bad = true

abbrev pub next_bad : List Entry → Bool
next_bad plan = is_bad (due plan)

-- a good write
abbrev pub written : Device → Medium → Write → Medium
written device m w = put device.rule m w

-- the disk's call failed after so many tries
abbrev pub failed_call : CacheCall → Kind → ℕ → ℕ → CacheError
failed_call call kind place tries = during_call call (disk_error.Fault (record { kind = kind; place = place; tries = tries }))

abbrev pub sorted_refuse : CacheError → Sorted → SortedOutcome
sorted_refuse e c = record { answer = refused e; cache = c }

-- the disk's call was bad: the table has not moved
abbrev pub fault : CacheError → Sorted → SortedOutcome
fault e c = record { answer = refused e; cache = record { medium = passed c.medium; table = c.table; counter = c.counter; counts = c.counts } }

abbrev pub sorted_refusal : ℕ → Block → Sorted → answer.Option CacheError
sorted_refusal place bytes c = begin_refusal (length c.medium.firm) place bytes c.table c.counter

abbrev pub sorted_begin : ℕ → Block → Sorted → SortedOutcome
sorted_begin place bytes c =
    unless (sorted_refusal place bytes c)
    (record {
      answer = took (c.counter + 1);
      cache = record { medium = c.medium; table = c.table ++ begun place bytes (c.counter + 1) ∷ []; counter = c.counter + 1; counts = one_begun c.counts };
    })
    (λ e. sorted_refuse e c)

abbrev pub sorted_finish : ℕ → Sorted → SortedOutcome
sorted_finish t c =
    cond (some_pass (has_ticket t) c.table)
    (record {
      answer = took (c.counter + 1);
      cache = record { medium = c.medium; table = map (finish_one t (c.counter + 1)) c.table; counter = c.counter + 1; counts = c.counts };
    })
    (sorted_refuse error.NoTicket c)

abbrev pub sorted_withdraw : ℕ → Sorted → SortedOutcome
sorted_withdraw t c =
    cond (some_pass (has_ticket t) c.table)
    (record {
      answer = took 0;
      cache = record { medium = c.medium; table = held (map (withdraw_one t) c.table); counter = c.counter; counts = one_withdrawn c.counts };
    })
    (sorted_refuse error.NoTicket c)

-- the last that passes
abbrev pub last : {A : Type 0} → (A → Bool) → List A → Option A
last p [] = None
last p (x ∷ xs) = option_or (last p xs) (cond (p x) (Some x) None)

-- the place's finished write of highest begin mark in the table
abbrev pub newest : ℕ → List Version → Option Version
newest place table = last (finished_in place) table

abbrev pub sorted_through : Device → ℕ → Sorted → Option Version → SortedOutcome
sorted_through device place c (Some v) = record { answer = shown v.bytes; cache = c }
sorted_through device place c None =
    cond (next_bad c.medium.plan) (fault (failed_call during.Read kind.Read place device.tries) c)
    (record {
      answer = shown (get_or (current c.medium) place []);
      cache = record { medium = passed c.medium; table = c.table; counter = c.counter; counts = c.counts };
    })

abbrev pub sorted_read : Device → ℕ → ℕ → Sorted → SortedOutcome
sorted_read device place size c =
    cond (not (eqb size 512)) (sorted_refuse error.Length c)
    (cond (not (ltb place (length c.medium.firm))) (sorted_refuse error.Place c)
    (sorted_through device place c (newest place c.table)))

-- the chosen write is written to the disk
abbrev pub sorted_send : Device → Version → Sorted → SortedOutcome
sorted_send device v c =
    cond (next_bad c.medium.plan) (fault (failed_call during.Step kind.Write v.stamp.place device.tries) c)
    (record {
      answer = took 1;
      cache = record { medium = written device c.medium (write_of v); table = map (send_one v.stamp.begin) c.table; counter = c.counter; counts = c.counts };
    })

-- the disk is flushed: all sent writes are home, and leave the table
abbrev pub sorted_flush : Device → Sorted → SortedOutcome
sorted_flush device c =
    cond (next_bad c.medium.plan) (fault (failed_call during.Step kind.Flush 0 device.tries) c)
    (record {
      answer = took 2;
      cache = record { medium = flushed c.medium; table = held (map bring_home c.table); counter = c.counter; counts = more_home (count is_sent c.table) c.counts };
    })

abbrev pub sorted_with : Device → Sorted → Option Version → SortedOutcome
sorted_with device c (Some v) = sorted_send device v c
sorted_with device c None = cond (any_sent c.table) (sorted_flush device c) (record { answer = took 3; cache = c })

abbrev pub sorted_step : Precedence → Device → Sorted → SortedOutcome
sorted_step precedes device c =
    cond (any_busy c.table) (sorted_with device c (chosen precedes c.table))
    (record { answer = took 0; cache = c })

abbrev pub sorted_restart : ℕ → Sorted → SortedOutcome
sorted_restart choice c =
    record {
      answer = took 0;
      cache = record { medium = cut choice c.medium; table = map wait_again c.table; counter = c.counter; counts = c.counts };
    }

abbrev pub sorted_outcome : Precedence → Device → Call → Sorted → SortedOutcome
sorted_outcome precedes device (Begin place bytes) c = sorted_begin place bytes c
sorted_outcome precedes device (Finish t) c = sorted_finish t c
sorted_outcome precedes device (Withdraw t) c = sorted_withdraw t c
sorted_outcome precedes device (Read place size) c = sorted_read device place size c
sorted_outcome precedes device Step c = sorted_step precedes device c
sorted_outcome precedes device (Restart choice) c = sorted_restart choice c
sorted_outcome precedes device Count c = record { answer = counted (tallied c.counts c.table); cache = c }

-- ---- lists of calls

-- a call, and what the disk brings to it
pub record Asked : Type 0 where
  pub call : Call
  pub device : Device

abbrev pub after : Precedence → Sorted → List Asked → Sorted
after precedes c [] = c
after precedes c (a ∷ as') = after precedes (sorted_outcome precedes a.device a.call c).cache as'

abbrev pub events : Precedence → Sorted → List Asked → List Event
events precedes c [] = []
events precedes c (a ∷ as') =
    record { call = a.call; answer = (sorted_outcome precedes a.device a.call c).answer }
    ∷ events precedes (sorted_outcome precedes a.device a.call c).cache as'

-- steps in a row, over any disk
abbrev pub steps : List Device → List Asked
steps devices = map (λ device. record { call = Step; device = device }) devices
