-- What the disk's calls do to storage, the ledger standing still.
use Rattle.std.proofs.Common.{◌≡◌, ℕ, Bool, true, ◌||◌, eqb, List, [], ◌∷◌, ◌++◌, map, sym, refl, ap, ◌∙◌}
use Rattle.std.proofs.lemmas.List.{map_push}
use Rattle.std.proofs.lemmas.Bool.{or_left, or_right, eq-eqb}
use Rattle.std.proofs.ByRecursion.{All-push}
use Rattle.disk.specs.Medium.{Block, Write, lay, Medium, Effect, join, settle, allowed, take_effect}
use Rattle.table.specs.declared.held.Version.{Version}
use Rattle.ordered_law.proofs.Lists.{In}
use Rattle.ordered_law.proofs.Invariant.{Released, Book, Due, Stored, plus, plus_one}
use Rattle.ordered_law.proofs.Firming.{firm_more}
use Rattle.ordered_law.specs.Device.{Device}
use Rattle.ordered_law.proofs.Sorted.{written}
use Rattle.precedence.specs.Stamps.{Precedence, Lawful}
use Rattle.ordered_law.specs.Promise.{write_of}
use Rattle.table.specs.Versions.{live}

plus_push : (kept : ℕ → Bool) (ds : List Version) (d : Version) (b : ℕ) → plus kept (ds ++ d ∷ []) b ≡ (plus kept ds b || eqb d.stamp.begin b)
plus_push kept [] d b = refl
plus_push kept (x ∷ ds) d b = plus_push (plus_one kept x.stamp.begin) ds d b

module _ (precedes : Precedence) (lawful : Lawful precedes) (opening : List Block) (n : ℕ) (l : List Version) (book : Book precedes n l) where
  -- released writes laid on the firm blocks, and none loose
  abbrev pub stored_firm : (firm : List Block) (loose : List Write) (st : Stored precedes opening n l firm loose) (ds : List Version) → Due precedes l ds → (firm' : List Block) → firm' ≡ lay firm (map write_of ds) → Stored precedes opening n l firm' []
  stored_firm firm loose st ds due firm' e = record {
    kept = plus st.kept ds;
    due = [];
    loose_is = refl;
    due_ok = tt;
    firm_ok = rw e (firm_more precedes lawful n l book opening st.kept firm ds due st.firm_ok);
  }

  -- the write of v has taken effect, joined or settled: nothing that was firm or loose is lost, and v is firm or loose
  pub record Wrote (m : Medium) (st : Stored precedes opening n l m.firm m.loose) (v : Version) (m' : Medium) : Type 0 where
    pub then : Stored precedes opening n l m'.firm m'.loose
    pub grows : (b : ℕ) → plus st.kept st.due b ≡ true → plus then.kept then.due b ≡ true
    pub has : plus then.kept then.due v.stamp.begin ≡ true

  pub stored_write : (device : Device) (m : Medium) (st : Stored precedes opening n l m.firm m.loose) (v : Version) → In v l → live v.state ≡ true → Released precedes l v →
      Wrote m st v (written device m (write_of v))
  stored_write device m st v i a r = go (allowed device.rule m)
    where
      more : List Version
      more = st.due ++ v ∷ []

      due : Due precedes l more
      due = All-push _ st.due v st.due_ok (i, a, r)

      loose : m.loose ++ write_of v ∷ [] ≡ map write_of more
      loose = ap (λ (ws : List Write). ws ++ write_of v ∷ []) st.loose_is ∙ sym (map_push write_of st.due v)

      wide : (b : ℕ) → plus st.kept st.due b ≡ true → plus st.kept more b ≡ true
      wide b h = plus_push st.kept st.due v b ∙ or_left _ (eqb v.stamp.begin b) h

      mine : plus st.kept more v.stamp.begin ≡ true
      mine = plus_push st.kept st.due v v.stamp.begin ∙ or_right (plus st.kept st.due v.stamp.begin) _ (eq-eqb v.stamp.begin v.stamp.begin refl)

      go : (e : Effect) → Wrote m st v (take_effect e m (write_of v))
      go join = record { then = record { kept = st.kept; due = more; firm_ok = st.firm_ok; loose_is = loose; due_ok = due }; grows = wide; has = mine }
      go settle = record { then = stored_firm m.firm m.loose st more due _ (ap (lay m.firm) loose); grows = wide; has = mine }
