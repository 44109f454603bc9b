-- Loose writes made firm, all of them or those that a cut leaves.
use Rattle.std.proofs.Common.{◌≡◌, ℕ, ◌<◌, ◌≤◌, Bool, true, false, eqb, ◌≢◌, ◌⊎◌, List, [], ◌∷◌, map, sym, refl, ap, ◌∙◌, subst, inl, inr, arith}
use Rattle.std.specs.List.{AllByRecursion}
use Rattle.std.proofs.lemmas.Bool.{or_cases, or_left, eqb-true, both_ways}
use Rattle.std.proofs.ByRecursion.{All-weaker}
use Rattle.disk.specs.Medium.{Block, Write, lay, standing}
use Rattle.table.specs.declared.held.State.{State}
use Rattle.table.specs.declared.held.State.TheVariants.{Home, Withdrawn}
use Rattle.table.specs.declared.held.Version.{Version}
use Rattle.ordered_law.proofs.Lists.{In, all_in, all_of, all_both, pairs_weaker, chosen_by, map_standing, all_standing}
use Rattle.ordered_law.proofs.Invariant.{Sound, Before, Released, Book, Firm, Due, Stored, plus, plus_one, valid, unique, before, lay_in}
use Rattle.precedence.specs.Stamps.{Precedence, Lawful}
use Rattle.ordered_law.specs.Promise.{write_of, kept_writes, Shows}
use Rattle.table.specs.Versions.{live, finished}

abbrev pub Free : Precedence → List Version → (ℕ → Bool) → Type 0
Free precedes l kept = AllByRecursion (λ v. kept v.stamp.begin ≡ true → Released precedes l v) l

module _ (precedes : Precedence) (lawful : Lawful precedes) (n : ℕ) (l : List Version) (book : Book precedes n l) where
  -- a released write is never a later one of the place of a finished write in the table
  pub no_later : (d f : Version) → In d l → live d.state ≡ true → finished d.state ≡ true → In f l → Released precedes l f → d.stamp.begin < f.stamp.begin → f.stamp.place ≢ d.stamp.place
  no_later d f i a done j r lt q =
      let b : Before d f = before d f l book.order i j lt in
      let sd : Sound n d = all_in (Sound n) d l i book.sound in
      let sf : Sound n f = all_in (Sound n) f l j book.sound in
      both_ways (precedes d.stamp f.stamp)
      (all_in (λ u. live u.state ≡ true → precedes u.stamp f.stamp ≡ false) d l i r.unpreceded a)
      (lawful.same_place d.stamp f.stamp (valid n d sd) (valid n f sf) (sym q)
      (λ z. let m = sd.marked done in omega arith) (b.ended (sym q) done))

  free_one : (kept : ℕ → Bool) (d : Version) → In d l → Released precedes l d → Free precedes l kept → Free precedes l (plus_one kept d.stamp.begin)
  free_one kept d i r fr = all_of _ l (λ v j e. go v j (or_cases (kept v.stamp.begin) (eqb d.stamp.begin v.stamp.begin) e))
    where
      go : (v : Version) → In v l → (kept v.stamp.begin ≡ true) ⊎ (eqb d.stamp.begin v.stamp.begin ≡ true) → Released precedes l v
      go v j (inl k) = all_in (λ v. kept v.stamp.begin ≡ true → Released precedes l v) v l j fr k
      go v j (inr q) = subst (Released precedes l) (unique d v l book.order i j (eqb-true d.stamp.begin v.stamp.begin q)) r

  pub plus_free : (ds : List Version) → Due precedes l ds → (kept : ℕ → Bool) → Free precedes l kept → Free precedes l (plus kept ds)
  plus_free [] a kept fr = fr
  plus_free (d ∷ ds) a kept fr = plus_free ds a.1 (plus_one kept d.stamp.begin) (free_one kept d a.0.0 a.0.2 fr)

  pub lay_all : (opening : List Block) (ds : List Version) → Due precedes l ds → (kept : ℕ → Bool) → Free precedes l kept →
      lay (lay opening (kept_writes kept l)) (map write_of ds) ≡ lay opening (kept_writes (plus kept ds) l)
  lay_all opening [] a kept fr = refl
  lay_all opening (d ∷ ds) a kept fr =
      ap (λ x. lay x (map write_of ds)) (lay_in d opening kept l a.0.0 book.order clear)
      ∙ lay_all opening ds a.1 (plus_one kept d.stamp.begin) (free_one kept d a.0.0 a.0.2 fr)
    where
      clear : AllByRecursion (λ f. d.stamp.begin < f.stamp.begin → kept f.stamp.begin ≡ true → f.stamp.place ≢ d.stamp.place) l
      clear = all_of _ l (λ f j lt k. no_later d f a.0.0 a.0.1 a.0.2.done j (all_in (λ v. kept v.stamp.begin ≡ true → Released precedes l v) f l j fr k) lt)

  pub plus_in : (ds : List Version) (kept : ℕ → Bool) (b : ℕ) → kept b ≡ true → plus kept ds b ≡ true
  plus_in [] kept b e = e
  plus_in (d ∷ ds) kept b e = plus_in ds (plus_one kept d.stamp.begin) b (or_left (kept b) (eqb d.stamp.begin b) e)

  plus_below : (ds : List Version) → Due precedes l ds → (kept : ℕ → Bool) → ((b : ℕ) → kept b ≡ true → b ≤ n) → (b : ℕ) → plus kept ds b ≡ true → b ≤ n
  plus_below [] a kept h b e = h b e
  plus_below (d ∷ ds) a kept h b e = plus_below ds a.1 (plus_one kept d.stamp.begin) (λ x q. go x (or_cases (kept x) (eqb d.stamp.begin x) q)) b e
    where
      go : (x : ℕ) → (kept x ≡ true) ⊎ (eqb d.stamp.begin x ≡ true) → x ≤ n
      go x (inl k) = h x k
      go x (inr q) = let s = (all_in (Sound n) d l a.0.0 book.sound).begun_by in let r = eqb-true d.stamp.begin x q in omega arith

  -- sent writes laid on the firm blocks
  pub firm_more : (opening : List Block) (kept : ℕ → Bool) (firm : List Block) (ds : List Version) → Due precedes l ds →
      Firm precedes opening n l kept firm → Firm precedes opening n l (plus kept ds) (lay firm (map write_of ds))
  firm_more opening kept firm ds a f = record {
    below = plus_below ds a kept f.below;
    firm_is = ap (λ x. lay x (map write_of ds)) f.firm_is ∙ lay_all opening ds a kept f.kept_free;
    kept_free = plus_free ds a kept f.kept_free;
    home_in = All-weaker _ _ (λ v h e. plus_in ds kept v.stamp.begin (h e)) l f.home_in;
  }

gone_home : (s : State) → (live s ≡ true → ⊥) → s ≢ Withdrawn → s ≡ Home
gone_home s h w = grind arith

-- the firm blocks with released writes of the table laid on them
pub shows_laid :
    (precedes : Precedence) → Lawful precedes → (opening : List Block) (n : ℕ) (l : List Version) → Book precedes n l → (firm : List Block) (loose : List Write) →
    Stored precedes opening n l firm loose → (ds : List Version) → Due precedes l ds → (blocks : List Block) → blocks ≡ lay firm (map write_of ds) → Shows precedes opening l blocks
shows_laid precedes lawful opening n l book firm loose st ds due blocks e = record {
  by_begin_mark = pairs_weaker Before (λ u v. u.stamp.begin < v.stamp.begin) (λ u v b. b.earlier) l book.order;
  kept = plus st.kept ds;
  laid = e ∙ f.firm_is;
  only_finished = All-weaker _ _ (λ v h e. (h e).done) l f.kept_free;
  all_home = f.home_in;
  with_preceding = All-weaker _ _ (λ v h e. all_both _ _ _ (preceding v) l (h e).unpreceded f.home_in) l f.kept_free;
}
  where
    f : Firm precedes opening n l (plus st.kept ds) (lay firm (map write_of ds))
    f = firm_more precedes lawful n l book opening st.kept firm ds due st.firm_ok

    preceding :
        (v u : Version) → (live u.state ≡ true → precedes u.stamp v.stamp ≡ false) → (u.state ≡ Home → plus st.kept ds u.stamp.begin ≡ true) →
        precedes u.stamp v.stamp ≡ true → u.state ≢ Withdrawn → plus st.kept ds u.stamp.begin ≡ true
    preceding v u free home p w = home (gone_home u.state (λ a. both_ways (precedes u.stamp v.stamp) (free a) p) w)

-- what a cut leaves
pub shows :
    (precedes : Precedence) → Lawful precedes → (opening : List Block) (n : ℕ) (l : List Version) → Book precedes n l → (firm : List Block) (loose : List Write) →
    Stored precedes opening n l firm loose → (choice : ℕ) → Shows precedes opening l (lay firm (standing choice loose))
shows precedes lawful opening n l book firm loose st choice =
    shows_laid precedes lawful opening n l book firm loose st (chosen_by choice st.due) (all_standing _ choice st.due st.due_ok) _
    (ap (λ x. lay firm (standing choice x)) st.loose_is ∙ ap (lay firm) (map_standing choice st.due))
