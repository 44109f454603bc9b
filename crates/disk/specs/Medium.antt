-- What a disk means: firm blocks, loose writes and a plan of faults.
use Rattle.std.specs.Prelude.{◌≡◌, ℕ, ◌/◌, ◌%◌, ◌<◌, ◌≤◌, cond, List, [], ◌∷◌, ◌++◌, length, ◌==◌, nat_lt, slice_set}
use Rattle.std.specs.List.{AllByRecursion}

-- a block is its bytes
abbrev pub Block : Type 0
Block = List ℕ

pub record Write : Type 0 where
  pub place : ℕ
  pub bytes : Block

-- what becomes of a call that passes its checks
pub data Entry : Type 0 where
  good : Entry
  bad : Entry

-- Firm blocks survive a power cut. Loose writes, oldest first, were accepted and may be lost in one.
-- The plan has an entry for each call to come; past its end every call is good.
pub record Medium : Type 0 where
  pub firm : List Block
  pub loose : List Write
  pub plan : List Entry

abbrev pub size : Medium → ℕ
size m = length m.firm

-- the blocks after each write in turn has replaced the block at its place
abbrev pub lay : List Block → List Write → List Block
lay blocks [] = blocks
lay blocks (w ∷ ws) = lay (slice_set blocks w.place w.bytes) ws

-- what a read shows: a place's newest loose write, or else its firm block
abbrev pub current : Medium → List Block
current m = lay m.firm m.loose

-- the entry for the next call
abbrev pub due : List Entry → Entry
due [] = good
due (e ∷ es) = e

-- the plan after the next call
abbrev pub later : List Entry → List Entry
later [] = []
later (e ∷ es) = es

-- the medium after a call that only takes its entry off the plan
abbrev pub passed : Medium → Medium
passed m = record { firm = m.firm; loose = m.loose; plan = later m.plan }

-- a good write that joins the loose ones
abbrev pub joined : Medium → Write → Medium
joined m w = record { firm = m.firm; loose = m.loose ++ w ∷ []; plan = later m.plan }

-- a good write that settles: all loose writes, then this one, are laid on the firm blocks
abbrev pub settled : Medium → Write → Medium
settled m w = record { firm = lay m.firm (m.loose ++ w ∷ []); loose = []; plan = later m.plan }

abbrev pub flushed : Medium → Medium
flushed m = record { firm = current m; loose = []; plan = later m.plan }

-- what a good write does to the medium
pub data Effect : Type 0 where
  join : Effect
  settle : Effect

-- how many writes may be loose
abbrev pub loose_max : ℕ
loose_max = 8

-- a disk's own rule decides while fewer than eight writes are loose; with eight a write settles
abbrev pub allowed : Effect → Medium → Effect
allowed effect m = cond (nat_lt (length m.loose) loose_max) effect settle

abbrev pub take_effect : Effect → Medium → Write → Medium
take_effect join m w = joined m w
take_effect settle m w = settled m w

-- the medium after a good write on a disk whose rule for it is the effect
abbrev pub put : Effect → Medium → Write → Medium
put effect m w = take_effect (allowed effect m) m w

-- the loose writes that a cut leaves: the oldest by the choice's lowest bit, the next by the next, and so on
abbrev pub standing : ℕ → List Write → List Write
standing choice [] = []
standing choice (w ∷ ws) = cond (choice % 2 == 1) (w ∷ standing (choice / 2) ws) (standing (choice / 2) ws)

-- power fails: those that stand are laid on the firm blocks, oldest first, and the others vanish
abbrev pub cut : ℕ → Medium → Medium
cut choice m = record { firm = lay m.firm (standing choice m.loose); loose = []; plan = m.plan }

abbrev pub IsBlock : Block → Type 0
IsBlock b = length b ≡ 512

-- a write that a disk of n blocks may hold
abbrev pub Fitting : ℕ → Write → Type 0
Fitting n w = (w.place < n) × IsBlock w.bytes

-- what holds of the medium of every disk
pub record Sound (m : Medium) : Type 0 where
  pub some : 1 ≤ size m
  pub few : size m ≤ 4096
  pub blocks : AllByRecursion IsBlock m.firm
  pub held : length m.loose ≤ 8
  pub fitting : AllByRecursion (Fitting (size m)) m.loose

-- two disks that show the same blocks
pub record Alike (m n : Medium) : Type 0 where
  pub sizes : size m ≡ size n
  pub shown : current m ≡ current n
