-- The two ends of a live cache.
use Rattle.std.specs.Prelude.{◌≡◌, ℕ, List, [], Ok, Err, Result}
use Rattle.disk.specs.Calls as calls
use Rattle.disk.specs.declared.error.Kind.TheVariants as kind
use Rattle.disk.specs.Medium.{Medium, current, flushed}
use Rattle.errors.specs.declared.VolumeError.{VolumeError}
use Rattle.errors.specs.Errors.{from_disk}
use Rattle.precedence.specs.Stamps.{Precedence}
use Rattle.table.specs.Rows.{no_rows}
use Rattle.ordered_law.specs.Events.{Event}
use Rattle.ordered_law.specs.Cache.{Cache, fresh, opened}
use Rattle.ordered_law.specs.Promise.{Shows}
use Rattle.ordered_law.specs.Runs.{Ran, Laws, ledger}

-- a flush of the disk: its answer, and the medium after it
abbrev pub flush_answer : ℕ → Medium → calls.Answer
flush_answer tries m = calls.answer tries kind.Flush 0 (calls.planned m)

abbrev pub flush_leaves : Medium → Medium
flush_leaves m = calls.leaves m (flushed m) (calls.planned m)

abbrev pub opening : calls.Answer → Result (Unit {0}) VolumeError
opening (Ok u) = Ok tt
opening (Err e) = Err (from_disk e)

abbrev pub open_answer : ℕ → Medium → Result (Unit {0}) VolumeError
open_answer tries m = opening (flush_answer tries m)

-- an empty cache over this medium
abbrev pub made : Medium → Cache
made n = record { medium = n; rows = no_rows; counter = 0; counts = record { begun = 0; withdrawn = 0; home = 0 } }

-- A cache c was made over the medium n: if n is what the opening's flush left of some medium m, a run starts at c whose
-- opening blocks are those of m, and the laws hold.
abbrev pub Starts : Precedence → Medium → Cache → Type 0
Starts precedes n c = (m : Medium) → n ≡ flushed m → Ran precedes (opened (fresh m)) [] c × Laws precedes (fresh m) [] c

-- A cache in state c ended, and its disk is n: on every list of calls that led from an opening to c, storage shows
-- finished writes with all that precede them, every home one among them.
abbrev pub Ends : Precedence → Cache → Medium → Type 0
Ends precedes c n = (m : Medium) (es : List Event) → Ran precedes (opened (fresh m)) es c → Shows precedes (current m) (ledger precedes (fresh m) es) (current n)
