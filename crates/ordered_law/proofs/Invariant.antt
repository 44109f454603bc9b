-- What holds of cache, ledger and storage after every list of calls.
use Rattle.std.proofs.Common.{◌≡◌, ℕ, ◌<◌, ◌≤◌, Bool, true, false, cond, ◌||◌, eqb, ◌≢◌, ◌⊎◌, List, [], ◌∷◌, map, set, sym, refl, ap, ◌∙◌, inl, inr, arith}
use mathlib.Core.Bool.{or-true}
use Rattle.std.specs.List.{AllByRecursion}
use Rattle.std.proofs.lemmas.Bool.{eq-eqb}
use Rattle.std.proofs.lemmas.List.{set-set, set_comm}
use Rattle.std.proofs.lemmas.Bool.Decides.{nat_tests}
use Rattle.disk.specs.Medium.{Block, Write, lay, Medium}
use Rattle.table.specs.declared.held.State.TheVariants.{Home}
use Rattle.table.specs.declared.held.Version.{Version}
use Rattle.ordered_law.proofs.Lists.{In, here, there, all_in, all_both, pairs_in, kept_same}
use Rattle.std.proofs.ByRecursion.{All-weaker}
use Rattle.precedence.specs.Stamps.{Precedence, Valid}
use Rattle.ordered_law.specs.Promise.{write_of, kept_writes, Pairs}
use Rattle.ordered_law.proofs.Sorted.{Sorted}
use Rattle.table.specs.Versions.{live, is_open, is_sent, finished, held}

-- the marks of one version
pub record Sound (counter : ℕ) (v : Version) : Type 0 where
  pub begun_by : v.stamp.begin ≤ counter
  pub ended_by : v.stamp.finish ≤ counter
  pub unmarked : finished v.state ≡ false → v.stamp.finish ≡ 0
  pub marked : finished v.state ≡ true → v.stamp.begin < v.stamp.finish

-- u stands before v: at one place u is no longer open, and if finished, then before v was begun
pub record Before (u v : Version) : Type 0 where
  pub earlier : u.stamp.begin < v.stamp.begin
  pub closed : u.stamp.place ≡ v.stamp.place → is_open u.state ≡ false
  pub ended : u.stamp.place ≡ v.stamp.place → finished u.state ≡ true → u.stamp.finish < v.stamp.begin

-- v is finished, and nothing in the table precedes it: it may be sent, and it stays so
pub record Released (precedes : Precedence) (l : List Version) (v : Version) : Type 0 where
  pub done : finished v.state ≡ true
  pub unpreceded : AllByRecursion (λ u. live u.state ≡ true → precedes u.stamp v.stamp ≡ false) l

pub record Book (precedes : Precedence) (counter : ℕ) (l : List Version) : Type 0 where
  pub sound : AllByRecursion (Sound counter) l
  pub order : Pairs Before l
  pub sent_free : AllByRecursion (λ v. is_sent v.state ≡ true → Released precedes l v) l

-- the marks of a set, and those of further versions
abbrev pub plus_one : (ℕ → Bool) → ℕ → ℕ → Bool
plus_one kept t b = kept b || eqb t b

abbrev pub plus : (ℕ → Bool) → List Version → ℕ → Bool
plus kept [] = kept
plus kept (v ∷ vs) = plus (plus_one kept v.stamp.begin) vs

-- the firm blocks are the opening blocks with a set of released writes, every home one among them
pub record Firm (precedes : Precedence) (opening : List Block) (counter : ℕ) (l : List Version) (kept : ℕ → Bool) (firm : List Block) : Type 0 where
  pub below : (b : ℕ) → kept b ≡ true → b ≤ counter
  pub firm_is : firm ≡ lay opening (kept_writes kept l)
  pub kept_free : AllByRecursion (λ v. kept v.stamp.begin ≡ true → Released precedes l v) l
  pub home_in : AllByRecursion (λ v. v.state ≡ Home → kept v.stamp.begin ≡ true) l

-- versions in the table that are released: those sent, and those that may be sent next
abbrev pub Due : Precedence → List Version → List Version → Type 0
Due precedes l ds = AllByRecursion (λ d. In d l × (live d.state ≡ true) × Released precedes l d) ds

-- the loose writes are those of released versions of the table
pub record Stored (precedes : Precedence) (opening : List Block) (counter : ℕ) (l : List Version) (firm : List Block) (loose : List Write) : Type 0 where
  pub kept : ℕ → Bool
  pub due : List Version
  pub firm_ok : Firm precedes opening counter l kept firm
  pub loose_is : loose ≡ map write_of due
  pub due_ok : Due precedes l due

pub record Inv (precedes : Precedence) (opening : List Block) (l : List Version) (m : Medium) (table : List Version) (counter : ℕ) : Type 0 where
  pub table_is : table ≡ held l
  pub book : Book precedes counter l
  pub store : Stored precedes opening counter l m.firm m.loose
  -- every sent version is firm or loose
  pub sent_in : AllByRecursion (λ v. is_sent v.state ≡ true → plus store.kept store.due v.stamp.begin ≡ true) l

abbrev pub Keeps : Precedence → List Block → List Version → Sorted → Type 0
Keeps precedes opening l c = Inv precedes opening l c.medium c.table c.counter

-- ---- marks

pub valid : (n : ℕ) (v : Version) → Sound n v → Valid v.stamp
valid n v s = go (finished v.state) refl
  where
    go : (b : Bool) → finished v.state ≡ b → Valid v.stamp
    go true e = inr (s.marked e)
    go false e = inl (s.unmarked e)

-- one begin mark, one version
pub unique : (u v : Version) (l : List Version) → Pairs Before l → In u l → In v l → u.stamp.begin ≡ v.stamp.begin → u ≡ v
unique u v l p i j e = go (pairs_in Before u v l p i j)
  where
    go : Before u v ⊎ (Before v u ⊎ (u ≡ v)) → u ≡ v
    go (inl b) = absurd (let h = b.earlier in omega arith)
    go (inr (inl b)) = absurd (let h = b.earlier in omega arith)
    go (inr (inr q)) = q

pub before : (u v : Version) (l : List Version) → Pairs Before l → In u l → In v l → u.stamp.begin < v.stamp.begin → Before u v
before u v l p i j e = go (pairs_in Before u v l p i j)
  where
    go : Before u v ⊎ (Before v u ⊎ (u ≡ v)) → Before u v
    go (inl b) = b
    go (inr (inl b)) = absurd (let h = b.earlier in omega arith)
    go (inr (inr q)) = absurd (let h = ap (λ (x : Version). x.stamp.begin) q in omega arith)

-- ---- laying one more write

-- laying writes at other places and then one more
lay_set : (p : ℕ) (b : Block) (bs : List Block) (kept : ℕ → Bool) (l : List Version) →
    AllByRecursion (λ f. kept f.stamp.begin ≡ true → f.stamp.place ≢ p) l → lay (set bs p b) (kept_writes kept l) ≡ set (lay bs (kept_writes kept l)) p b
lay_set p b bs kept [] a = refl
lay_set p b bs kept (v ∷ l) a = go (kept v.stamp.begin) refl (λ bs'. lay_set p b bs' kept l a.1)
  where
    W : List Write
    W = kept_writes kept l

    go : (k : Bool) → kept v.stamp.begin ≡ k → ((bs' : List Block) → lay (set bs' p b) W ≡ set (lay bs' W) p b) →
        lay (set bs p b) (cond k (write_of v ∷ W) W) ≡ set (lay bs (cond k (write_of v ∷ W) W)) p b
    go true e ih = ap (λ x. lay x W) (set_comm bs p v.stamp.place b v.bytes (λ q. a.0 e (sym q))) ∙ ih (set bs v.stamp.place v.bytes)
    go false e ih = ih bs

-- A write laid last may as well be laid at its begin mark, if no later write of its place is in the set.
pub lay_in : (v : Version) (opening : List Block) (kept : ℕ → Bool) (l : List Version) → In v l → Pairs Before l →
    AllByRecursion (λ f. v.stamp.begin < f.stamp.begin → kept f.stamp.begin ≡ true → f.stamp.place ≢ v.stamp.place) l →
    set (lay opening (kept_writes kept l)) v.stamp.place v.bytes ≡ lay opening (kept_writes (plus_one kept v.stamp.begin) l)
lay_in v opening kept l (here {vs = vs}) p a =
    rw (same, eq-eqb v.stamp.begin v.stamp.begin refl, or-true (kept v.stamp.begin)) (go (kept v.stamp.begin) ∙ sym slide)
  where
    W : List Write
    W = kept_writes kept vs

    same : kept_writes (plus_one kept v.stamp.begin) vs ≡ W
    same = kept_same (plus_one kept v.stamp.begin) kept vs
        (All-weaker (Before v) (λ f. plus_one kept v.stamp.begin f.stamp.begin ≡ kept f.stamp.begin) (λ f b. let h = b.earlier in grind (arith, nat_tests)) vs p.0)

    slide : lay (set opening v.stamp.place v.bytes) W ≡ set (lay opening W) v.stamp.place v.bytes
    slide = lay_set v.stamp.place v.bytes opening kept vs
        (all_both (Before v) _ (λ f. kept f.stamp.begin ≡ true → f.stamp.place ≢ v.stamp.place) (λ f b h. h b.earlier) vs p.0 a.1)

    go : (k : Bool) → set (lay opening (cond k (write_of v ∷ W) W)) v.stamp.place v.bytes ≡ set (lay opening W) v.stamp.place v.bytes
    go true = ap (λ (x : List Block). set x v.stamp.place v.bytes) slide ∙ set-set (lay opening W) v.stamp.place v.bytes v.bytes
    go false = refl
lay_in v opening kept l (there {u = u} {vs = vs} i) p a = rw other (go (kept u.stamp.begin) (λ o. lay_in v o kept vs i p.1 a.1))
  where
    other : plus_one kept v.stamp.begin u.stamp.begin ≡ kept u.stamp.begin
    other = let h = (all_in (Before u) v vs i p.0).earlier in grind (arith, nat_tests)

    go : (k : Bool) →
        ((o : List Block) → set (lay o (kept_writes kept vs)) v.stamp.place v.bytes ≡ lay o (kept_writes (plus_one kept v.stamp.begin) vs)) →
        set (lay opening (cond k (write_of u ∷ kept_writes kept vs) (kept_writes kept vs))) v.stamp.place v.bytes
        ≡ lay opening (cond k (write_of u ∷ kept_writes (plus_one kept v.stamp.begin) vs) (kept_writes (plus_one kept v.stamp.begin) vs))
    go true ih = ih (set opening u.stamp.place u.bytes)
    go false ih = ih opening
