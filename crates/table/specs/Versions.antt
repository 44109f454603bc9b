-- The versions that a table holds, and what becomes of them.
use Rattle.std.specs.Prelude.{ℕ, Bool, true, false, cond, not, ◌&&◌, List, length, filter, ◌==◌, nat_lt}
use Rattle.std.specs.List.{list_any}
use Rattle.precedence.specs.Stamps.{Precedence, begun_at, finished_at}
use Rattle.table.specs.declared.held.State.{State}
use Rattle.table.specs.declared.held.State.TheVariants.{Open, Waiting, Sent, Home, Withdrawn}
use Rattle.table.specs.declared.held.Version.{Version}

-- ---- tests of a state

abbrev pub is_open : State → Bool
is_open Open = true
is_open Waiting = false
is_open Sent = false
is_open Home = false
is_open Withdrawn = false

-- is room kept for the finish mark that the write will take?
abbrev pub reserves : State → Bool
reserves Open = true
reserves Waiting = false
reserves Sent = false
reserves Home = false
reserves Withdrawn = false

abbrev pub is_waiting : State → Bool
is_waiting Open = false
is_waiting Waiting = true
is_waiting Sent = false
is_waiting Home = false
is_waiting Withdrawn = false

abbrev pub is_sent : State → Bool
is_sent Open = false
is_sent Waiting = false
is_sent Sent = true
is_sent Home = false
is_sent Withdrawn = false

abbrev pub is_home : State → Bool
is_home Open = false
is_home Waiting = false
is_home Sent = false
is_home Home = true
is_home Withdrawn = false

abbrev pub is_withdrawn : State → Bool
is_withdrawn Open = false
is_withdrawn Waiting = false
is_withdrawn Sent = false
is_withdrawn Home = false
is_withdrawn Withdrawn = true

abbrev pub finished : State → Bool
finished Open = false
finished Waiting = true
finished Sent = true
finished Home = true
finished Withdrawn = false

-- is the write in the table?
abbrev pub live : State → Bool
live Open = true
live Waiting = true
live Sent = true
live Home = false
live Withdrawn = false

-- ---- lists of versions

-- does some element pass the test? The library's word by this crate's name.
abbrev pub some_pass : {A : Type 0} → (A → Bool) → List A → Bool
some_pass p xs = list_any p xs

abbrev pub count : (State → Bool) → List Version → ℕ
count p vs = length (filter (λ v. p v.state) vs)

-- those that are in the table: the others leave it
abbrev pub held : List Version → List Version
held vs = filter (λ v. live v.state) vs

-- how many finish marks room is kept for
abbrev pub reserved : List Version → ℕ
reserved vs = count reserves vs

-- how many are to leave the table
abbrev pub gone_count : List Version → ℕ
gone_count vs = count (λ s. not (live s)) vs

-- how many writes a table holds at most
abbrev pub capacity : ℕ
capacity = 32

-- has a table of these versions room for one more?
abbrev pub room : List Version → Bool
room vs = nat_lt (length vs) capacity

-- ---- what becomes of a version

abbrev pub in_state : State → Version → Version
in_state s v = record { stamp = v.stamp; bytes = v.bytes; state = s }

-- the open write that a ticket names
abbrev pub has_ticket : ℕ → Version → Bool
has_ticket t v = is_open v.state && v.stamp.begin == t

abbrev pub begun : ℕ → List ℕ → ℕ → Version
begun place bytes mark = record { stamp = begun_at place mark; bytes = bytes; state = Open }

-- the open write with this ticket gets its finish mark, and waits
abbrev pub finish_one : ℕ → ℕ → Version → Version
finish_one t f v = record {
  stamp = finished_at (cond (has_ticket t v) f v.stamp.finish) v.stamp;
  bytes = v.bytes;
  state = cond (has_ticket t v) Waiting v.state;
}

abbrev pub withdraw_one : ℕ → Version → Version
withdraw_one t v = in_state (cond (has_ticket t v) Withdrawn v.state) v

-- the waiting write of this begin mark is sent
abbrev pub send_one : ℕ → Version → Version
send_one t v = in_state (cond (is_waiting v.state && v.stamp.begin == t) Sent v.state) v

-- a flush makes a sent write home
abbrev pub bring_home : Version → Version
bring_home v = in_state (cond (is_sent v.state) Home v.state) v

-- after a restart a sent write waits again
abbrev pub wait_again : Version → Version
wait_again v = in_state (cond (is_sent v.state) Waiting v.state) v

-- ---- the choice of the next write

-- no write of the table precedes v
abbrev pub free : Precedence → List Version → Version → Bool
free precedes table v = not (some_pass (λ u. precedes u.stamp v.stamp) table)

-- v waits, and no write of the table precedes it
abbrev pub ready : Precedence → List Version → Version → Bool
ready precedes table v = is_waiting v.state && free precedes table v

-- v is a finished write of the place
abbrev pub finished_in : ℕ → Version → Bool
finished_in place v = finished v.state && v.stamp.place == place
