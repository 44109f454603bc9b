-- The rows of a table, each vacant or holding a version.
use Rattle.std.specs.Prelude.{◌≡◌, ℕ, ◌+◌, ◌<◌, ◌≤◌, Bool, true, false, cond, ◌&&◌, ◌||◌, List, [], ◌∷◌, map, length, replicate, Some, None, Option, ◌==◌, slice_index_or, slice_set, flat_map, option_to_list, option_map}
use Rattle.precedence.specs.declared.Stamp.{Stamp}
use Rattle.precedence.specs.Stamps.{begun_at}
use Rattle.table.specs.declared.held.State.TheVariants.{Sent}
use Rattle.table.specs.declared.held.Version.{Version}
use Rattle.table.specs.declared.held.Query.{Query}
use Rattle.table.specs.declared.held.Query.TheVariants as query
use Rattle.table.specs.declared.held.Change.{Change}
use Rattle.table.specs.declared.held.Change.TheVariants as change_of
use Rattle.table.specs.Versions.{live, is_open, reserves, is_waiting, is_sent, some_pass, count, reserved, gone_count, capacity, room, in_state, has_ticket, finish_one, withdraw_one, bring_home, wait_again, finished_in}

-- a row, vacant or with the version that it holds
abbrev pub Row : Type 0
Row = Option Version

-- the versions held, by row
abbrev pub in_rows : List Row → List Version
in_rows rows = flat_map option_to_list rows

abbrev pub no_rows : List Row
no_rows = replicate capacity None

abbrev pub stamp_of : Row → Stamp
stamp_of None = begun_at 0 0
stamp_of (Some v) = v.stamp

abbrev pub bytes_of : Row → List ℕ
bytes_of None = replicate 512 0
bytes_of (Some v) = v.bytes

-- ---- queries

abbrev pub test : Query → Version → Bool
test (query.OpenAt place) v = is_open v.state && v.stamp.place == place
test (query.Ticket t) v = has_ticket t v
test query.Open v = is_open v.state
test query.Reserving v = reserves v.state
test query.Waiting v = is_waiting v.state
test query.Sent v = is_sent v.state
test query.Busy v = is_waiting v.state || is_sent v.state
test (query.FinishedAt place) v = finished_in place v

abbrev pub row_passes : (Version → Bool) → Row → Bool
row_passes p None = false
row_passes p (Some v) = p v

-- ---- a version more

-- the version goes into the lowest vacant row
abbrev pub put : Version → List Row → List Row
put v [] = []
put v (None ∷ rows) = Some v ∷ rows
put v (Some u ∷ rows) = Some u ∷ put v rows

-- there is no room, or this is the row into which a version goes
abbrev pub Vacancy : List Row → Option ℕ → Type 0
Vacancy rows None = room (in_rows rows) ≡ false
Vacancy rows (Some i) =
    (i < capacity) × (room (in_rows rows) ≡ true) × ((v : Version) → put v rows ≡ slice_set rows i (Some v))
    × ((v : Version) → reserved (in_rows (slice_set rows i (Some v))) ≤ reserved (in_rows rows) + 1)
    × ((v : Version) → length (in_rows (slice_set rows i (Some v))) ≤ length (in_rows rows) + 1)

-- ---- changes

-- a version that does not pass leaves its row
abbrev pub keeping : (Version → Bool) → Row → Row
keeping p None = None
keeping p (Some v) = cond (p v) (Some v) None

abbrev pub change : (Version → Version) → List Row → List Row
change g rows = map (option_map g) rows

-- Leaving the table: what is home or withdrawn leaves its row, and no other row changes.
abbrev pub leave : List Row → List Row
leave rows = map (keeping (λ v. live v.state)) rows

abbrev pub changed : Change → Row → Row
changed (change_of.Finish t f) row = option_map (finish_one t f) row
changed (change_of.Withdraw t) row = option_map (withdraw_one t) row
changed change_of.Send row = option_map (in_state Sent) row
changed change_of.BringHome row = option_map bring_home row
changed change_of.WaitAgain row = option_map wait_again row
changed change_of.Leave row = keeping (λ v. live v.state) row

-- row i is sent, and no other row changes
abbrev pub mark_sent : List Row → ℕ → List Row
mark_sent rows i = slice_set rows i (changed change_of.Send (slice_index_or rows i None))

-- ---- what a change does to the counts

-- 1 where a change finishes an open version of the table
abbrev pub finishes : Change → List Version → ℕ
finishes (change_of.Finish t f) vs = cond (some_pass (has_ticket t) vs) 1 0
finishes (change_of.Withdraw t) vs = 0
finishes change_of.Send vs = 0
finishes change_of.BringHome vs = 0
finishes change_of.WaitAgain vs = 0
finishes change_of.Leave vs = 0

-- how many versions are to leave after a change, at least
abbrev pub ending : Change → List Version → ℕ
ending (change_of.Finish t f) vs = 0
ending (change_of.Withdraw t) vs = cond (some_pass (has_ticket t) vs) 1 0
ending change_of.Send vs = 0
ending change_of.BringHome vs = count is_sent vs
ending change_of.WaitAgain vs = 0
ending change_of.Leave vs = 0

-- how many versions leave their rows
abbrev pub leaving : Change → List Version → ℕ
leaving (change_of.Finish t f) vs = 0
leaving (change_of.Withdraw t) vs = 0
leaving change_of.Send vs = 0
leaving change_of.BringHome vs = 0
leaving change_of.WaitAgain vs = 0
leaving change_of.Leave vs = gone_count vs
