-- Which writes must come home before which.
use Rattle.std.specs.Prelude.{◌≡◌, ℕ, ◌<◌, Bool, true, not, ◌&&◌, ◌≢◌, ◌⊎◌, ◌==◌, nat_lt}
use Rattle.precedence.specs.declared.Stamp.{Stamp}

-- ---- records of writes

-- a write just begun
abbrev pub begun_at : ℕ → ℕ → Stamp
begun_at place mark = record { place = place; begin = mark; finish = 0 }

-- the same write with another finish mark
abbrev pub finished_at : ℕ → Stamp → Stamp
finished_at f s = record { place = s.place; begin = s.begin; finish = f }

-- the finish mark is 0, or it lies above the begin mark
abbrev pub Valid : Stamp → Type 0
Valid s = (s.finish ≡ 0) ⊎ (s.begin < s.finish)

-- ---- precedences

-- does the first write precede the second?
abbrev pub Precedence : Type 0
Precedence = Stamp → Stamp → Bool

-- What every precedence owes, for all valid records.
pub record Lawful (precedes : Precedence) : Type 0 where
  -- only a write of lower begin mark precedes
  pub only_earlier : (u v : Stamp) → Valid u → Valid v → precedes u v ≡ true → u.begin < v.begin
  -- at one place, what was finished before the other was begun precedes it
  pub same_place : (u v : Stamp) → Valid u → Valid v → u.place ≡ v.place → u.finish ≢ 0 → u.finish < v.begin → precedes u v ≡ true
  -- the answer stays when an open first write gets a finish mark above the second's begin mark
  pub first_finishes : (u v : Stamp) (f : ℕ) → Valid u → Valid v → u.finish ≡ 0 → u.begin < f → v.begin < f → precedes (finished_at f u) v ≡ precedes u v
  -- and when an open second write gets any
  pub second_finishes : (u v : Stamp) (f : ℕ) → Valid u → Valid v → v.finish ≡ 0 → v.begin < f → precedes u (finished_at f v) ≡ precedes u v

-- u was finished before v was begun
abbrev pub overlap : Precedence
overlap u v = not (u.finish == 0) && nat_lt u.finish v.begin

-- u was begun before v
abbrev pub line : Precedence
line u v = nat_lt u.begin v.begin
