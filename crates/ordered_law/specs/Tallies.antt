-- What a tally must come to.
use Rattle.std.specs.Prelude.{◌≡◌, ◌+◌, List, length}
use Rattle.table.specs.declared.held.Version.{Version}
use Rattle.table.specs.declared.tally.Tally.{Tally}
use Rattle.table.specs.Versions.{is_open, is_waiting, is_sent, is_home, is_withdrawn, count}

-- the writes of a ledger, by what became of them
abbrev pub ledger_tally : List Version → Tally
ledger_tally ledger = record {
  begun = length ledger;
  withdrawn = count is_withdrawn ledger;
  «open» = count is_open ledger;
  waiting = count is_waiting ledger;
  sent = count is_sent ledger;
  home = count is_home ledger;
}

-- the first count is the sum of the others
abbrev pub AddsUp : Tally → Type 0
AddsUp t = t.begun ≡ t.withdrawn + t.«open» + t.waiting + t.sent + t.home
