-- The worked cases, computed.
use Rattle.std.proofs.Common.{refl}
use Rattle.head.specs.Head.{encode, decode, candidate}
use Rattle.journal_law.specs.Known.{KnownJournal, WorkedRun}

pub known_journal : KnownJournal
unfolding encode decode candidate
known_journal = record {
  empty_bytes = refl;
  group_bytes = refl;
  group_read = refl;
  too_small = refl;
  zero_block = refl;
  place_twice = refl;
  last_mark = refl;
  no_mark = refl;
  open_mark = refl;
}

pub worked_run : WorkedRun
unfolding encode decode candidate
worked_run = record {
  just_recovered = refl;
  head_lost = refl;
  old_shown = refl;
  head_stands = refl;
  new_shown = refl;
  committed_stands = refl;
  committed_shown = refl;
  still_there = refl;
  left = refl;
}
