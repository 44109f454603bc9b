-- A live cache as a state of the model, and its answers as answers of the model.
use Rattle.std.specs.Prelude.{ℕ, List, Ok, Err, Result}
use Rattle.disk.specs.Medium.{Write, Effect, Medium}
use Rattle.errors.specs.declared.CacheError.{CacheError}
use Rattle.journal_law.specs.Device.{Device}
use Rattle.journal_law.specs.Cache as cache
use Rattle.journal_law.specs.Cache.{Answer, accepted, shown, refused, Call, Outcome, outcome, step_asks}
use Rattle.batch.specs.Rows.{begun_list, write_list}
use Rattle.errors.specs.declared.Progress.{Progress}
use Rattle.errors.specs.Errors.{progress_number}
use Rattle.group.specs.Groups.{under_way}
use Rattle.journal.specs.declared.live.Live.{Live}

abbrev pub model : {D : Type 0} → (D → Medium) → Live D → cache.Live
model medium c = record {
  medium = medium c.disk;
  home_count = c.home;
  counter = c.counter;
  open_writes = begun_list c.opens;
  collected = write_list c.collected;
  group = under_way c.group;
  last = c.last;
}

-- the disk that a call meets: its rule at the write that the next step asks for
abbrev pub met : {D : Type 0} → (D → Medium) → (D → Write → Effect) → ℕ → Live D → Device
met medium rule tries c = record { effect = rule c.disk (step_asks (model medium c)); tries = tries }

-- what a call of the cache answers and leaves
abbrev pub does : {D : Type 0} → (D → Medium) → (D → Write → Effect) → ℕ → Live D → Call → Outcome
does medium rule tries c call = outcome (met medium rule tries c) (model medium c) call

-- ---- answers

abbrev pub marked : Result ℕ CacheError → Answer
marked (Ok k) = accepted k
marked (Err e) = refused e

abbrev pub done : Result (Unit {0}) CacheError → Answer
done (Ok u) = accepted 0
done (Err e) = refused e

abbrev pub stepped : Result Progress CacheError → Answer
stepped (Ok p) = accepted (progress_number p)
stepped (Err e) = refused e

-- an accepted read shows what it left in the buffer
abbrev pub read_as : Result (Unit {0}) CacheError → List ℕ → Answer
read_as (Ok u) buffer = shown buffer
read_as (Err e) buffer = refused e

-- the buffer after a read: only a block that is shown fills it
abbrev pub filled : List ℕ → Answer → List ℕ
filled buffer (shown bytes) = bytes
filled buffer (accepted k) = buffer
filled buffer (refused e) = buffer
