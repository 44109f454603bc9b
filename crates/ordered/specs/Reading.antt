-- What a read of the cache answers.
use Rattle.std.specs.Prelude.{◌≡◌, ℕ, true, List, is_ok, Ok, Err, Result}
use Rattle.disk.specs.declared.error.Kind.TheVariants as kind
use Rattle.disk.specs.Calls as calls
use Rattle.disk.specs.Medium.{Medium, current, passed}
use Rattle.precedence.specs.Stamps.{Precedence}
use Rattle.errors.specs.declared.CacheError.{CacheError}
use Rattle.ordered_law.specs.Events.{Answer, took, shown, counted, refused, Event}
use Rattle.ordered_law.specs.Cache.{Cache, fresh, opened}
use Rattle.ordered_law.specs.Promise.{newest_block}
use Rattle.ordered_law.specs.Runs.{Ran, ledger}

-- an accepted read shows what it left in the buffer
abbrev pub read_as : Result (Unit {0}) CacheError → List ℕ → Answer
read_as (Ok u) buffer = shown buffer
read_as (Err e) buffer = refused e

-- the buffer after a read that gets this answer: only an accepted one fills it
abbrev pub buffer_after : List ℕ → Answer → List ℕ
buffer_after buffer (shown block) = block
buffer_after buffer (took n) = buffer
buffer_after buffer (counted t) = buffer
buffer_after buffer (refused e) = buffer

-- a read of the disk: its answer, and the medium after it
abbrev pub read_answer : ℕ → Medium → ℕ → ℕ → calls.Answer
read_answer tries m place n = calls.answer tries kind.Read place (calls.fate m place n)

abbrev pub read_leaves : Medium → ℕ → ℕ → Medium
read_leaves m place n = calls.leaves m (passed m) (calls.fate m place n)

-- On every list of calls that led from an opening to c, an accepted read of the place leaves the newest finished write of
-- that place in the buffer, or else the opening block.
abbrev pub ReadsNewest : Precedence → Cache → ℕ → Result (Unit {0}) CacheError → List ℕ → Type 0
ReadsNewest precedes c place r buffer =
    (m : Medium) (es : List Event) → Ran precedes (opened (fresh m)) es c → is_ok r ≡ true → buffer ≡ newest_block (current m) (ledger precedes (fresh m) es) place
