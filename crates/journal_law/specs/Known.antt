-- Worked cases of the journal's definitions.
use Rattle.std.specs.Prelude.{◌≡◌, ℕ, zero, suc, List, [], ◌∷◌, take, replicate}
use Rattle.std.proofs.Math.Option.{some, none}
use Rattle.disk.specs.Medium.{Block, join, Medium, current, cut}
use Rattle.errors.specs.declared.CacheError.TheVariants as error
use Rattle.head.specs.Head.{Head, encode, decode, empty_head}
use Rattle.journal_law.specs.Device.{Device}
use Rattle.journal_law.specs.Recovery.{Recovery, recovered, started, calls}
use Rattle.journal_law.specs.Cache.{Begun, Live, Call, finish, seal, step, empty_flush, Answer, accepted, refused, begin, outcome, opened}

abbrev pub two_places : Head
two_places = record { number = 258; places = 3 ∷ 260 ∷ [] }

-- over a disk where every write joins
abbrev pub joining : Device
joining = record { effect = join; tries = 1 }

-- a cache whose counter stands at so much
abbrev pub counted : ℕ → List Begun → Live
counted counter open_writes = record {
  medium = record { firm = []; loose = []; plan = [] };
  home_count = 10;
  counter = counter;
  open_writes = open_writes;
  collected = [];
  group = none;
  last = 0;
}

abbrev pub begin_answer : Live → Answer
begin_answer v = (outcome joining v (begin 5 (replicate 512 0))).answer

pub record KnownJournal : Type 0 where
  -- the head's bytes
  pub empty_bytes : encode (empty_head 0) ≡ 1 ∷ 0 ∷ 0 ∷ 0 ∷ 0 ∷ 0 ∷ replicate 506 0
  pub group_bytes : encode two_places ≡ 1 ∷ 2 ∷ 1 ∷ 0 ∷ 0 ∷ 2 ∷ 3 ∷ 0 ∷ 4 ∷ 1 ∷ replicate 502 0
  pub group_read : decode 300 (encode two_places) ≡ some two_places
  -- no heads
  pub too_small : decode 260 (encode two_places) ≡ none
  pub zero_block : decode 300 (replicate 512 0) ≡ none
  pub place_twice : decode 300 (encode (record { number = 258; places = 3 ∷ 3 ∷ [] })) ≡ none
  -- the end of the marks
  pub last_mark : begin_answer (counted 999_998 []) ≡ accepted 999_999
  pub no_mark : begin_answer (counted 999_999 []) ≡ refused error.NoMarks
  pub open_mark : begin_answer (counted 999_998 (record { mark = 1; write = record { place = 6; bytes = [] } } ∷ [])) ≡ refused error.NoMarks

-- A whole run on a volume of one home block, formatted.
abbrev pub old_block : Block
old_block = replicate 512 3

abbrev pub new_block : Block
new_block = replicate 512 7

abbrev pub formatted_volume : Medium
formatted_volume = record { firm = old_block ∷ encode (empty_head 0) ∷ replicate 8 []; loose = []; plan = [] }

abbrev pub after : Live → List Call → Live
after v [] = v
after v (c ∷ cs) = after (outcome joining v c).live cs

-- a write begun, finished and sealed, and then so many steps
abbrev pub steps_of : ℕ → List Call
steps_of zero = []
steps_of (suc i) = step ∷ steps_of i

abbrev pub sealed_and : ℕ → Live
sealed_and i = after (opened 1 0 formatted_volume) (begin 0 new_block ∷ finish 1 ∷ seal ∷ steps_of i)

abbrev pub recovered_from : ℕ → ℕ → Recovery
recovered_from choice i = calls 1 (replicate 7 join) (started (cut choice (sealed_and i).medium))

pub record WorkedRun : Type 0 where
  pub just_recovered : calls 1 (replicate 2 join) (started formatted_volume) ≡ record { stage = recovered 0; medium = formatted_volume }
  -- the head is written and not flushed: the cut decides
  pub head_lost : (recovered_from 0 3).stage ≡ recovered 0
  pub old_shown : take 1 (current (recovered_from 0 3).medium) ≡ old_block ∷ []
  pub head_stands : (recovered_from 1 3).stage ≡ recovered 1
  pub new_shown : take 1 (current (recovered_from 1 3).medium) ≡ new_block ∷ []
  -- one flush more, and the sealing is committed whatever the cut drops
  pub committed_stands : (recovered_from 0 5).stage ≡ recovered 1
  pub committed_shown : take 1 (current (recovered_from 0 5).medium) ≡ new_block ∷ []
  -- 2 * 1 + 6 steps, and no fewer
  pub still_there : (sealed_and 7).group ≡ some (record { number = 1; writes = record { place = 0; bytes = new_block } ∷ []; phase = empty_flush })
  pub left : (sealed_and 8).group ≡ none
