-- What each call of a disk answers and leaves.
use Rattle.std.specs.Prelude.{◌≡◌, ℕ, ◌<◌, Bool, true, false, cond, ◌⊎◌, List, [], length, Ok, Err, Result, ◌==◌, nat_lt, slice_index_or}
use Rattle.disk.specs.declared.error.Kind.{Kind}
use Rattle.disk.specs.declared.error.Kind.TheVariants as kind
use Rattle.disk.specs.declared.error.DiskError.{DiskError}
use Rattle.disk.specs.declared.error.DiskError.TheVariants as error
use Rattle.disk.specs.Medium.{Entry, good, bad, Medium, Effect, size, current, due, later, passed, joined, settled, flushed, put}

abbrev pub Answer : Type 0
Answer = Result (Unit {0}) DiskError

-- the number by which an error is known
abbrev pub number : DiskError → ℕ
number error.Length = 1
number error.Place = 2
number (error.Fault f) = 7

-- the number of a kind of call
abbrev pub kind_number : Kind → ℕ
kind_number kind.Read = 1
kind_number kind.Write = 2
kind_number kind.Flush = 3

-- what a call meets: the length is tested first, then the place, then comes the plan
pub data Fate : Type 0 where
  wrong_length : Fate
  wrong_place : Fate
  failed : Fate
  served : Fate

abbrev pub by_entry : Entry → Fate
by_entry good = served
by_entry bad = failed

-- of a flush
abbrev pub planned : Medium → Fate
planned m = by_entry (due m.plan)

-- of a read or a write of n bytes at a place, on a disk of a size and a plan
abbrev pub fate_under : ℕ → List Entry → ℕ → ℕ → Fate
fate_under size plan place n = cond (n == 512) (cond (nat_lt place size) (by_entry (due plan)) wrong_place) wrong_length

abbrev pub fate : Medium → ℕ → ℕ → Fate
fate m place n = fate_under (size m) m.plan place n

-- the answer to a call of a kind at a place, on a disk that makes this many tries
abbrev pub answer : ℕ → Kind → ℕ → Fate → Answer
answer tries k place wrong_length = Err error.Length
answer tries k place wrong_place = Err error.Place
answer tries k place failed = Err (error.Fault (record { kind = k; place = place; tries = tries }))
answer tries k place served = Ok tt

-- the plan after a call: a refused one takes no entry
abbrev pub spent : List Entry → Fate → List Entry
spent plan wrong_length = plan
spent plan wrong_place = plan
spent plan failed = later plan
spent plan served = later plan

-- the medium after a call, of which a good one leaves `done`
abbrev pub leaves : Medium → Medium → Fate → Medium
leaves m done wrong_length = m
leaves m done wrong_place = m
leaves m done failed = passed m
leaves m done served = done

-- the buffer after a read: only a good one fills it
abbrev pub shows : Medium → ℕ → List ℕ → Fate → List ℕ
shows m place buffer wrong_length = buffer
shows m place buffer wrong_place = buffer
shows m place buffer failed = buffer
shows m place buffer served = slice_index_or (current m) place []

-- a read, from medium m and buffer b to answer r, medium n and buffer c
pub record Reads (tries : ℕ) (m : Medium) (place : ℕ) (b : List ℕ) (r : Answer) (n : Medium) (c : List ℕ) : Type 0 where
  pub answers : r ≡ answer tries kind.Read place (fate m place (length b))
  pub after : n ≡ leaves m (passed m) (fate m place (length b))
  pub buffer : c ≡ shows m place b (fate m place (length b))

-- a write on a disk whose rule for it is the effect
pub record WritesBy (effect : Effect) (tries : ℕ) (m : Medium) (place : ℕ) (b : List ℕ) (r : Answer) (n : Medium) : Type 0 where
  pub answers : r ≡ answer tries kind.Write place (fate m place (length b))
  pub after : n ≡ leaves m (put effect m (record { place = place; bytes = b })) (fate m place (length b))

pub record Flushes (tries : ℕ) (m : Medium) (r : Answer) (n : Medium) : Type 0 where
  pub answers : r ≡ answer tries kind.Flush 0 (planned m)
  pub after : n ≡ leaves m (flushed m) (planned m)

-- whatever the rule, a write joined the loose ones, of which there were fewer than eight, or it settled
abbrev pub JoinedOrSettled : Medium → ℕ → List ℕ → Medium → Type 0
JoinedOrSettled m place b n =
    ((length m.loose < 8) × (n ≡ leaves m (joined m (record { place = place; bytes = b })) (fate m place (length b))))
    ⊎ (n ≡ leaves m (settled m (record { place = place; bytes = b })) (fate m place (length b)))

-- whether an answer is a fault
abbrev pub is_fault : Answer → Bool
is_fault (Ok x) = false
is_fault (Err error.Length) = false
is_fault (Err error.Place) = false
is_fault (Err (error.Fault f)) = true
