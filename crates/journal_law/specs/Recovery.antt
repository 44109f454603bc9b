-- The journal volume: its layout, its format, and its recovery one disk call at a time.
-- Of n home blocks: home places 0 to n - 1, the head at n, slot i (from 0) at n + 1 + i.
use Rattle.std.specs.Prelude.{ℕ, suc, ◌+◌, ◌-◌, cond, List, [], ◌∷◌, length, Ok, Err, Result, ◌==◌, nat_lt, slice_index, slice_index_or}
use Rattle.std.proofs.Math.Option.{Option, some, none}
use Rattle.disk.specs.declared.error.Kind.{Kind}
use Rattle.disk.specs.declared.error.Kind.TheVariants as kind
use Rattle.disk.specs.declared.error.DiskError.{DiskError}
use Rattle.disk.specs.declared.error.DiskError.TheVariants as error
use Rattle.disk.specs.Medium.{Block, Write, Entry, good, bad, Effect, Medium, size, due, current, passed, flushed, put, cut}
use Rattle.errors.specs.declared.VolumeError.{VolumeError}
use Rattle.errors.specs.declared.VolumeError.TheVariants as volume
use Rattle.head.specs.Head.{Head, encode, decode, empty_head}

-- the home blocks of a volume: a head and eight slots lie behind them
abbrev pub home_blocks : Medium → ℕ
home_blocks m = size m - 9

abbrev pub slot_place : ℕ → ℕ → ℕ
slot_place n i = suc n + i

abbrev pub head_write : ℕ → Head → Write
head_write n h = record { place = n; bytes = encode h }

-- one of two, by what the plan has for the next call
abbrev pub by_entry : {A : Type 0} → Entry → A → A → A
by_entry good x y = x
by_entry bad x y = y

-- ---- recovery

-- the disk call that recovery makes next, or how it ended
pub data Stage : Type 0 where
  first_flush read_head : Stage
  read_slot : ℕ → Head → Stage
  write_home : ℕ → Head → Block → Stage
  home_flush write_empty last_flush : Head → Stage
  recovered : ℕ → Stage
  no_head : Stage
  -- a call of this kind at this place met a fault
  failed : Kind → ℕ → Stage

pub record Recovery : Type 0 where
  pub stage : Stage
  pub medium : Medium

abbrev pub started : Medium → Recovery
started m = record { stage = first_flush; medium = m }

-- what follows from the head that was read
abbrev pub head_seen : Option Head → Stage
head_seen none = no_head
head_seen (some h) = cond (length h.places == 0) (recovered h.number) (read_slot 0 h)

-- a good call of each stage; the effect is the disk's own if it is a write
abbrev pub good_call : ℕ → Effect → Medium → Stage → Recovery
good_call n effect m first_flush = record { stage = read_head; medium = flushed m }
good_call n effect m read_head = record { stage = head_seen (decode n (slice_index_or (current m) n [])); medium = passed m }
good_call n effect m (read_slot i h) = record { stage = write_home i h (slice_index_or (current m) (slot_place n i) []); medium = passed m }
good_call n effect m (write_home i h bytes) = record {
  stage = cond (nat_lt (suc i) (length h.places)) (read_slot (suc i) h) (home_flush h);
  medium = put effect m (record { place = slice_index h.places i; bytes = bytes });
}
good_call n effect m (home_flush h) = record { stage = write_empty h; medium = flushed m }
good_call n effect m (write_empty h) = record { stage = last_flush h; medium = put effect m (head_write n (empty_head h.number)) }
good_call n effect m (last_flush h) = record { stage = recovered h.number; medium = flushed m }
good_call n effect m (recovered k) = record { stage = recovered k; medium = m }
good_call n effect m no_head = record { stage = no_head; medium = m }
good_call n effect m (failed k place) = record { stage = failed k place; medium = m }

-- a bad call breaks recovery off, and only the plan has changed
abbrev pub bad_call : ℕ → Medium → Stage → Recovery
bad_call n m first_flush = record { stage = failed kind.Flush 0; medium = passed m }
bad_call n m read_head = record { stage = failed kind.Read n; medium = passed m }
bad_call n m (read_slot i h) = record { stage = failed kind.Read (slot_place n i); medium = passed m }
bad_call n m (write_home i h bytes) = record { stage = failed kind.Write (slice_index h.places i); medium = passed m }
bad_call n m (home_flush h) = record { stage = failed kind.Flush 0; medium = passed m }
bad_call n m (write_empty h) = record { stage = failed kind.Write n; medium = passed m }
bad_call n m (last_flush h) = record { stage = failed kind.Flush 0; medium = passed m }
bad_call n m (recovered k) = record { stage = recovered k; medium = m }
bad_call n m no_head = record { stage = no_head; medium = m }
bad_call n m (failed k place) = record { stage = failed k place; medium = m }

abbrev pub one_call : ℕ → Effect → Recovery → Recovery
one_call n effect r = by_entry (due r.medium.plan) (good_call n effect r.medium r.stage) (bad_call n r.medium r.stage)

-- as many disk calls as the list has effects
abbrev pub calls : ℕ → List Effect → Recovery → Recovery
calls n [] r = r
calls n (e ∷ es) r = calls n es (one_call n e r)

-- a recovery that was broken off: after so many disk calls, by a fault or by a cut
pub record Broken : Type 0 where
  pub effects : List Effect
  pub cut_by : Option ℕ

abbrev pub maybe_cut : Option ℕ → Medium → Medium
maybe_cut none m = m
maybe_cut (some choice) m = cut choice m

abbrev pub after_broken : ℕ → List Broken → Medium → Medium
after_broken n [] m = m
after_broken n (b ∷ bs) m = after_broken n bs (maybe_cut b.cut_by (calls n b.effects (started m)).medium)

-- ---- answers

abbrev pub fault : ℕ → Kind → ℕ → DiskError
fault tries k place = error.Fault (record { kind = k; place = place; tries = tries })

-- what a recovery that has ended answers; nothing while it goes on
abbrev pub ended : ℕ → Stage → Option (Result ℕ VolumeError)
ended tries (recovered k) = some (Ok k)
ended tries no_head = some (Err volume.NoHead)
ended tries (failed k place) = some (Err (volume.Disk (fault tries k place)))
ended tries first_flush = none
ended tries read_head = none
ended tries (read_slot i h) = none
ended tries (write_home i h bytes) = none
ended tries (home_flush h) = none
ended tries (write_empty h) = none
ended tries (last_flush h) = none

-- ---- format

pub record Formatted : Type 0 where
  pub answer : Result (Unit {0}) VolumeError
  pub medium : Medium

abbrev pub format_flush : ℕ → Medium → Formatted
format_flush tries m = by_entry (due m.plan)
    (record { answer = Ok tt; medium = flushed m })
    (record { answer = Err (volume.Disk (fault tries kind.Flush 0)); medium = passed m })

-- the empty head of number 0 is written, and flushed
abbrev pub format_write : ℕ → ℕ → Effect → Medium → Formatted
format_write tries n effect m = by_entry (due m.plan)
    (format_flush tries (put effect m (head_write n (empty_head 0))))
    (record { answer = Err (volume.Disk (fault tries kind.Write n)); medium = passed m })

-- a volume with no room for a head, eight slots and a home block is refused
abbrev pub formatted : ℕ → Effect → Medium → Formatted
formatted tries effect m = cond (nat_lt (size m) 10) (record { answer = Err volume.TooSmall; medium = m }) (format_write tries (home_blocks m) effect m)
