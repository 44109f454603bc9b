-- Lists of versions: membership, pairs in order, what a filter and a map do to each other.
use Rattle.std.proofs.Common.{◌≡◌, ℕ, ◌/◌, ◌%◌, Bool, true, false, cond, eqb, ◌⊎◌, List, [], ◌∷◌, ◌++◌, map, length, set, filter, sym, refl, ap, ◌∙◌, subst, inl, inr, arith, Some}
use Rattle.std.specs.List.{AllByRecursion}
use Rattle.std.proofs.ByRecursion.{All-weaker, all_kept_by}
use Rattle.std.proofs.lemmas.Bool.{both_ways, cond_both}
use Rattle.disk.specs.Medium.{Block, Write, lay, standing}
use Rattle.std.proofs.lemmas.List.{length-set}
use Rattle.table.specs.declared.held.Version.{Version}
use Rattle.std.specs.List.{find}
use Rattle.ordered_law.specs.Promise.{write_of, kept_writes, Pairs}
use Rattle.table.specs.Versions.{live, some_pass, held}

pub data In (v : Version) : List Version → Type 0 where
  here : {vs : List Version} → In v (v ∷ vs)
  there : {u : Version} {vs : List Version} → In v vs → In v (u ∷ vs)

pub all_in : (P : Version → Type 0) (v : Version) (l : List Version) → In v l → AllByRecursion P l → P v
all_in P v l here a = a.0
all_in P v l (there {vs = vs} i) a = all_in P v vs i a.1

pub all_of : (P : Version → Type 0) (l : List Version) → ((v : Version) → In v l → P v) → AllByRecursion P l
all_of P [] f = tt
all_of P (v ∷ l) f = (f v here, all_of P l (λ u i. f u (there i)))

pub all_both : (P Q R : Version → Type 0) → ((v : Version) → P v → Q v → R v) → (l : List Version) → AllByRecursion P l → AllByRecursion Q l → AllByRecursion R l
all_both P Q R f [] a b = tt
all_both P Q R f (v ∷ l) a b = (f v a.0 b.0, all_both P Q R f l a.1 b.1)

pub in_map : (g : Version → Version) (v : Version) (l : List Version) → In v l → In (g v) (map g l)
in_map g v l here = here
in_map g v l (there {vs = vs} i) = there (in_map g v vs i)

pub in_push : (v x : Version) (l : List Version) → In v l → In v (l ++ x ∷ [])
in_push v x l here = here
in_push v x l (there {vs = vs} i) = there (in_push v x vs i)

pub in_kept : (p : Version → Bool) (v : Version) (l : List Version) → In v (filter p l) → In v l
in_kept p v [] i = i
in_kept p v (u ∷ l) i = go (p u) i (in_kept p v l)
  where
    go : (b : Bool) → In v (cond b (u ∷ filter p l) (filter p l)) → (In v (filter p l) → In v l) → In v (u ∷ l)
    go true i ih = step u l (filter p l) i ih
      where
        step : (u : Version) (l m : List Version) → In v (u ∷ m) → (In v m → In v l) → In v (u ∷ l)
        step u l m here ih = here
        step u l m (there i) ih = there (ih i)
    go false i ih = there (ih i)

pub pairs_push : (R : Version → Version → Type 0) (x : Version) (l : List Version) → Pairs R l → AllByRecursion (λ u. R u x) l → Pairs R (l ++ x ∷ [])
pairs_push R x [] p a = (tt, tt)
pairs_push R x (v ∷ l) p a = (push l p.0, pairs_push R x l p.1 a.1)
  where
    push : (m : List Version) → AllByRecursion (R v) m → AllByRecursion (R v) (m ++ x ∷ [])
    push [] q = (a.0, tt)
    push (u ∷ m) q = (q.0, push m q.1)

pub all_map : (P Q : Version → Type 0) (g : Version → Version) → ((v : Version) → P v → Q (g v)) → (l : List Version) → AllByRecursion P l → AllByRecursion Q (map g l)
all_map P Q g f [] a = tt
all_map P Q g f (v ∷ l) a = (f v a.0, all_map P Q g f l a.1)

pub pairs_map : (R : Version → Version → Type 0) (g : Version → Version) → ((u v : Version) → R u v → R (g u) (g v)) → (l : List Version) → Pairs R l → Pairs R (map g l)
pairs_map R g f [] p = tt
pairs_map R g f (v ∷ l) p = (all_map (R v) (R (g v)) g (f v) l p.0, pairs_map R g f l p.1)

in_cons : (v u : Version) (l : List Version) → In v (u ∷ l) → (v ≡ u) ⊎ In v l
in_cons v u l here = inl refl
in_cons v u l (there i) = inr i

pub pairs_weaker : (R S : Version → Version → Type 0) → ((u v : Version) → R u v → S u v) → (l : List Version) → Pairs R l → Pairs S l
pairs_weaker R S f [] p = tt
pairs_weaker R S f (v ∷ l) p = (All-weaker (R v) (S v) (f v) l p.0, pairs_weaker R S f l p.1)

-- of two members one stands before the other, or they are one
pub pairs_in : (R : Version → Version → Type 0) (u v : Version) (l : List Version) → Pairs R l → In u l → In v l → R u v ⊎ (R v u ⊎ (u ≡ v))
pairs_in R u v [] p i j = elim i [ ]
pairs_in R u v (x ∷ l) p i j = go (in_cons u x l i) (in_cons v x l j) (λ i' j'. pairs_in R u v l p.1 i' j')
  where
    go : (u ≡ x) ⊎ In u l → (v ≡ x) ⊎ In v l → (In u l → In v l → R u v ⊎ (R v u ⊎ (u ≡ v))) → R u v ⊎ (R v u ⊎ (u ≡ v))
    go (inl e) (inl f) ih = inr (inr (e ∙ sym f))
    go (inl e) (inr j') ih = inl (rw e (all_in (R x) v l j' p.0))
    go (inr i') (inl f) ih = inr (inl (rw f (all_in (R x) u l i' p.0)))
    go (inr i') (inr j') ih = ih i' j'

-- a change that keeps marks, places and bytes leaves the writes that are laid
pub kept_map :
    (g : Version → Version) → ((v : Version) → (g v).stamp.begin ≡ v.stamp.begin) → ((v : Version) → write_of (g v) ≡ write_of v) →
    (kept : ℕ → Bool) (l : List Version) → kept_writes kept (map g l) ≡ kept_writes kept l
kept_map g b w kept [] = refl
kept_map g b w kept (v ∷ l) = cc (b v, w v, kept_map g b w kept l)

pub kept_push : (kept : ℕ → Bool) (x : Version) → kept x.stamp.begin ≡ false → (l : List Version) → kept_writes kept (l ++ x ∷ []) ≡ kept_writes kept l
kept_push kept x e [] = rw e
kept_push kept x e (v ∷ l) = cc (kept_push kept x e l)

pub held_map : (g : Version → Version) → ((v : Version) → live (g v).state ≡ live v.state) → (l : List Version) → held (map g l) ≡ map g (held l)
held_map g e [] = refl
held_map g e (v ∷ l) = rw (e v) (go (live v.state) (held_map g e l))
  where
    go : (b : Bool) → held (map g l) ≡ map g (held l) → cond b (g v ∷ held (map g l)) (held (map g l)) ≡ map g (cond b (v ∷ held l) (held l))
    go true ih = ap (λ x. g v ∷ x) ih
    go false ih = ih

-- what has left the table does not come back
pub held_again : (g : Version → Version) → ((v : Version) → live (g v).state ≡ true → live v.state ≡ true) → (l : List Version) → held (map g (held l)) ≡ held (map g l)
held_again g lives [] = refl
held_again g lives (v ∷ l) = go (live v.state) (live (g v).state) refl (lives v) (held_again g lives l)
  where
    go : (a b : Bool) → live (g v).state ≡ b → (b ≡ true → a ≡ true) → held (map g (held l)) ≡ held (map g l) →
        held (map g (cond a (v ∷ held l) (held l))) ≡ cond b (g v ∷ held (map g l)) (held (map g l))
    go true b e h ih = rw (e, ih)
    go false true e h ih = absurd (both_ways false refl (h refl))
    go false false e h ih = ih

pub pairs_kept : (R : Version → Version → Type 0) (p : Version → Bool) (l : List Version) → Pairs R l → Pairs R (filter p l)
pairs_kept R p [] a = tt
pairs_kept R p (v ∷ l) a = cond_both (p v) _ _ (Pairs R) (λ _. (all_kept_by p (R v) l a.0, pairs_kept R p l a.1)) (λ _. pairs_kept R p l a.1)

pub held_push : (x : Version) → live x.state ≡ true → (l : List Version) → held (l ++ x ∷ []) ≡ held l ++ x ∷ []
held_push x e [] = rw e
held_push x e (v ∷ l) = go (live v.state) (held_push x e l)
  where
    go : (b : Bool) → held (l ++ x ∷ []) ≡ held l ++ x ∷ [] → cond b (v ∷ held (l ++ x ∷ [])) (held (l ++ x ∷ [])) ≡ cond b (v ∷ held l) (held l) ++ x ∷ []
    go true ih = ap (λ m. v ∷ m) ih
    go false ih = ih

-- what a filter keeps passes, seen from the whole list
pub none_pass : (p q : Version → Bool) (l : List Version) → some_pass q (filter p l) ≡ false → AllByRecursion (λ v. p v ≡ true → q v ≡ false) l
none_pass p q [] e = tt
none_pass p q (v ∷ l) e = go (p v) refl e (none_pass p q l)
  where
    go : (b : Bool) → p v ≡ b → some_pass q (cond b (v ∷ filter p l) (filter p l)) ≡ false → (some_pass q (filter p l) ≡ false → AllByRecursion (λ v. p v ≡ true → q v ≡ false) l) → AllByRecursion (λ v. p v ≡ true → q v ≡ false) (v ∷ l)
    go true b e ih = ((λ _. grind arith), ih (grind arith))
    go false b e ih = ((λ h. grind arith), ih e)

pub first_in : (p : Version → Bool) (v : Version) (l : List Version) → find p l ≡ Some v → In v l × (p v ≡ true)
first_in p v [] e = absurd cc
first_in p v (u ∷ l) e = go (p u) refl e (first_in p v l)
  where
    go : (b : Bool) → p u ≡ b → cond b (Some u) (find p l) ≡ Some v → (find p l ≡ Some v → In v l × (p v ≡ true)) → In v (u ∷ l) × (p v ≡ true)
    go true b e ih = let s : u ≡ v = cc in subst (λ (x : Version). In x (u ∷ l) × (p x ≡ true)) s (here, b)
    go false b e ih = let r = ih e in (there r.0, r.1)

-- a cut's choice, taken of versions
abbrev pub chosen_by : ℕ → List Version → List Version
chosen_by choice [] = []
chosen_by choice (v ∷ l) = cond (eqb (choice % 2) 1) (v ∷ chosen_by (choice / 2) l) (chosen_by (choice / 2) l)

pub map_standing : (choice : ℕ) (l : List Version) → standing choice (map write_of l) ≡ map write_of (chosen_by choice l)
map_standing choice [] = refl
map_standing choice (v ∷ l) = go _ _ _ (map_standing (choice / 2) l)
  where
    go : (b : Bool) (ws : List Write) (vs : List Version) → ws ≡ map write_of vs → cond b (write_of v ∷ ws) ws ≡ map write_of (cond b (v ∷ vs) vs)
    go true ws vs e = ap (λ x. write_of v ∷ x) e
    go false ws vs e = e

pub all_standing : (P : Version → Type 0) (choice : ℕ) (l : List Version) → AllByRecursion P l → AllByRecursion P (chosen_by choice l)
all_standing P choice [] a = tt
all_standing P choice (v ∷ l) a = go _ _ (all_standing P (choice / 2) l a.1)
  where
    go : (b : Bool) (vs : List Version) → AllByRecursion P vs → AllByRecursion P (cond b (v ∷ vs) vs)
    go true vs r = (a.0, r)
    go false vs r = r

-- two sets that agree on a ledger keep the same of it
pub kept_same : (kept kept' : ℕ → Bool) (l : List Version) → AllByRecursion (λ v. kept v.stamp.begin ≡ kept' v.stamp.begin) l → kept_writes kept l ≡ kept_writes kept' l
kept_same kept kept' [] a = refl
kept_same kept kept' (v ∷ l) a = cc (a.0, kept_same kept kept' l a.1)

-- laying writes leaves the number of blocks
pub lay_length : (ws : List Write) (bs : List Block) → length (lay bs ws) ≡ length bs
lay_length [] bs = refl
lay_length (w ∷ ws) bs = lay_length ws (set bs w.place w.bytes) ∙ length-set bs w.place w.bytes
