-- What became of each write, by the listed calls, their answers and the precedence alone.
use Rattle.std.specs.Prelude.{ℕ, cond, List, [], ◌∷◌, ◌++◌, map, ◌==◌, Option, None, Some}
use Rattle.std.specs.List.{find}
use Rattle.precedence.specs.Stamps.{Precedence}
use Rattle.table.specs.declared.held.Version.{Version}
use Rattle.table.specs.Versions.{held, ready, begun, finish_one, withdraw_one, send_one, bring_home, wait_again}
use Rattle.ordered_law.specs.Events.{Call, Begin, Finish, Withdraw, Read, Step, Restart, Count, Answer, took, shown, counted, refused, Event}

-- of writes in the order of begin marks, the ready one of lowest begin mark
abbrev pub chosen : Precedence → List Version → Option Version
chosen precedes table = find (ready precedes table) table

abbrev pub send_chosen : List Version → Option Version → List Version
send_chosen ledger (Some v) = map (send_one v.stamp.begin) ledger
send_chosen ledger None = ledger

-- A step answered 1 sends the ready write of lowest begin mark; one answered 2 brings all sent writes home.
abbrev pub note_step : Precedence → List Version → ℕ → List Version
note_step precedes ledger n =
    cond (n == 1) (send_chosen ledger (chosen precedes (held ledger)))
    (cond (n == 2) (map bring_home ledger) ledger)

-- The ledger, in the order of begin marks, after one more call with its answer.
abbrev pub note : Precedence → List Version → Call → Answer → List Version
note precedes ledger (Begin place bytes) (took t) = ledger ++ begun place bytes t ∷ []
note precedes ledger (Begin place bytes) (shown b) = ledger
note precedes ledger (Begin place bytes) (counted n) = ledger
note precedes ledger (Begin place bytes) (refused e) = ledger
note precedes ledger (Finish t) (took f) = map (finish_one t f) ledger
note precedes ledger (Finish t) (shown b) = ledger
note precedes ledger (Finish t) (counted n) = ledger
note precedes ledger (Finish t) (refused e) = ledger
note precedes ledger (Withdraw t) (took n) = map (withdraw_one t) ledger
note precedes ledger (Withdraw t) (shown b) = ledger
note precedes ledger (Withdraw t) (counted n) = ledger
note precedes ledger (Withdraw t) (refused e) = ledger
note precedes ledger (Read place n) a = ledger
note precedes ledger Step (took n) = note_step precedes ledger n
note precedes ledger Step (shown b) = ledger
note precedes ledger Step (counted n) = ledger
note precedes ledger Step (refused e) = ledger
note precedes ledger (Restart choice) a = map wait_again ledger
note precedes ledger Count a = ledger

abbrev pub replay : Precedence → List Version → List Event → List Version
replay precedes ledger [] = ledger
replay precedes ledger (e ∷ es) = replay precedes (note precedes ledger e.call e.answer) es
