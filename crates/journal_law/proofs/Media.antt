-- What may stand at each place of a medium, whatever a cut drops: a rule Q of places and blocks that the firm blocks and all loose
-- writes obey.
use Rattle.std.proofs.Common.{◌≡◌, ℕ, ◌/◌, ◌%◌, ◌<◌, Bool, true, false, cond, eqb, ◌⊎◌, List, [], ◌∷◌, ◌++◌, length, get_or, set, sym, refl, ap, ◌∙◌, subst, inl, inr, ⊎_elim}
use Rattle.std.proofs.lemmas.List.{length-set, get_or-set_same, get_or-set_other}
use Rattle.std.proofs.lemmas.Bool.{cases_eq, eqb-true, eqb-false}
use Rattle.std.specs.List.{AllByRecursion}
use Rattle.std.proofs.ByRecursion.{All-push, All-weaker}
use Rattle.disk.specs.Medium.{Effect, Block, Write, lay, Medium, current, later, flushed, join, settle, allowed, take_effect, put, standing, cut}

-- a good write by the disk's own effect
abbrev pub wrote : Effect → Write → Medium → Medium
wrote effect w m = put effect m w

-- every block obeys the rule
abbrev pub Obey : (ℕ → Block → Type 0) → List Block → Type 0
Obey Q bs = (p : ℕ) → p < length bs → Q p (get_or bs p [])

abbrev pub Allowed : (ℕ → Block → Type 0) → Write → Type 0
Allowed Q w = Q w.place w.bytes

pub obey_set : (Q : ℕ → Block → Type 0) (bs : List Block) (q : ℕ) (b : Block) → Obey Q bs → Q q b → Obey Q (set bs q b)
obey_set Q bs q b o h p l = ⊎_elim
    (λ (e : p ≡ q). subst (λ r. Q r (get_or (set bs q b) r [])) (sym e) (subst (Q q) (sym (get_or-set_same bs q b [] (subst (λ r. r < length bs) e l'))) h))
    (λ (e : p ≡ q → ⊥). subst (Q p) (sym (get_or-set_other bs q p b [] e)) (o p l'))
    (cases_eq p q)
  where
    l' : p < length bs
    l' = subst (λ x. p < x) (length-set bs q b) l

pub obey_lay : (Q : ℕ → Block → Type 0) (ws : List Write) (bs : List Block) → Obey Q bs → AllByRecursion (Allowed Q) ws → Obey Q (lay bs ws)
obey_lay Q [] bs o a = o
obey_lay Q (w ∷ ws) bs o a = obey_lay Q ws (set bs w.place w.bytes) (obey_set Q bs w.place w.bytes o a.0) a.1

pub length_lay : (bs : List Block) (ws : List Write) → length (lay bs ws) ≡ length bs
length_lay bs [] = refl
length_lay bs (w ∷ ws) = length_lay (set bs w.place w.bytes) ws ∙ length-set bs w.place w.bytes

pub lay_push : (bs : List Block) (ws : List Write) (w : Write) → lay bs (ws ++ (w ∷ [])) ≡ set (lay bs ws) w.place w.bytes
lay_push bs [] w = refl
lay_push bs (x ∷ ws) w = lay_push (set bs x.place x.bytes) ws w

all_standing : (P : Write → Type 0) (ws : List Write) (choice : ℕ) → AllByRecursion P ws → AllByRecursion P (standing choice ws)
all_standing P [] choice a = tt
all_standing P (w ∷ ws) choice a = go (eqb (choice % 2) 1) (all_standing P ws (choice / 2) a.1)
  where
    go : (b : Bool) → AllByRecursion P (standing (choice / 2) ws) → AllByRecursion P (cond b (w ∷ standing (choice / 2) ws) (standing (choice / 2) ws))
    go true r = (a.0, r)
    go false r = r

-- a medium of this size whose firm blocks and loose writes all obey the rule
pub record Kept (size : ℕ) (Q : ℕ → Block → Type 0) (firm : List Block) (loose : List Write) : Type 0 where
  pub size_is : length firm ≡ size
  pub firm_ok : Obey Q firm
  pub loose_ok : AllByRecursion (Allowed Q) loose

abbrev pub Keeps : ℕ → (ℕ → Block → Type 0) → Medium → Type 0
Keeps size Q m = Kept size Q m.firm m.loose

pub kept_mono : (size : ℕ) (Q R : ℕ → Block → Type 0) (m : Medium) → ((p : ℕ) (x : Block) → Q p x → R p x) → Keeps size Q m → Keeps size R m
kept_mono size Q R m f k = record {
  size_is = k.size_is;
  firm_ok = λ p l. f p (get_or m.firm p []) (k.firm_ok p l);
  loose_ok = All-weaker (Allowed Q) (Allowed R) (λ w h. f w.place w.bytes h) m.loose k.loose_ok;
}

pub length_current : (size : ℕ) (Q : ℕ → Block → Type 0) (m : Medium) → Keeps size Q m → length (current m) ≡ size
length_current size Q m k = length_lay m.firm m.loose ∙ k.size_is

pub kept_current : (size : ℕ) (Q : ℕ → Block → Type 0) (m : Medium) → Keeps size Q m → (p : ℕ) → p < size → Q p (get_or (current m) p [])
kept_current size Q m k p l = obey_lay Q m.loose m.firm k.firm_ok k.loose_ok p
    (subst (λ x. p < x) (sym (length_current size Q m k)) l)

-- after a flush the firm blocks are the current ones: what these obey is kept
pub kept_flushed : (size : ℕ) (Q R : ℕ → Block → Type 0) (m : Medium) → Keeps size Q m →
    ((p : ℕ) → p < size → Q p (get_or (current m) p []) → R p (get_or (current m) p [])) → Keeps size R (flushed m)
kept_flushed size Q R m k f = record {
  size_is = length_current size Q m k;
  firm_ok = λ p l. let l' : p < size = subst (λ x. p < x) (length_current size Q m k) l in f p l' (kept_current size Q m k p l');
  loose_ok = tt;
}

pub kept_flush : (size : ℕ) (Q : ℕ → Block → Type 0) (m : Medium) → Keeps size Q m → Keeps size Q (flushed m)
kept_flush size Q m k = kept_flushed size Q Q m k (λ p l h. h)

pub kept_cut : (size : ℕ) (Q : ℕ → Block → Type 0) (choice : ℕ) (m : Medium) → Keeps size Q m → Keeps size Q (cut choice m)
kept_cut size Q choice m k = record {
  size_is = length_lay m.firm (standing choice m.loose) ∙ k.size_is;
  firm_ok = obey_lay Q (standing choice m.loose) m.firm k.firm_ok (all_standing (Allowed Q) m.loose choice k.loose_ok);
  loose_ok = tt;
}

pub kept_wrote : (size : ℕ) (Q : ℕ → Block → Type 0) (effect : Effect) (w : Write) (m : Medium) → Keeps size Q m → Allowed Q w →
    Keeps size Q (wrote effect w m)
kept_wrote size Q effect w m k h = go (allowed effect m)
  where
    all : AllByRecursion (Allowed Q) (m.loose ++ (w ∷ []))
    all = All-push (Allowed Q) m.loose w k.loose_ok h

    go : (e : Effect) → Keeps size Q (take_effect e m w)
    go settle = record {
      size_is = length_lay m.firm (m.loose ++ (w ∷ [])) ∙ k.size_is;
      firm_ok = obey_lay Q (m.loose ++ (w ∷ [])) m.firm k.firm_ok all;
      loose_ok = tt;
    }
    go join = record { size_is = k.size_is; firm_ok = k.firm_ok; loose_ok = all }

pub current_wrote : (effect : Effect) (w : Write) (m : Medium) → current (wrote effect w m) ≡ set (current m) w.place w.bytes
current_wrote effect w m = go (allowed effect m)
  where
    go : (e : Effect) → current (take_effect e m w) ≡ set (current m) w.place w.bytes
    go settle = lay_push m.firm m.loose w
    go join = lay_push m.firm m.loose w

-- a good write takes one entry off the plan, and changes no size
pub wrote_plan : (effect : Effect) (w : Write) (m : Medium) → (wrote effect w m).plan ≡ later m.plan
wrote_plan effect w m = go (allowed effect m)
  where
    go : (e : Effect) → (take_effect e m w).plan ≡ later m.plan
    go settle = refl
    go join = refl

pub length_wrote : (effect : Effect) (w : Write) (m : Medium) → length (wrote effect w m).firm ≡ length m.firm
length_wrote effect w m = go (allowed effect m)
  where
    go : (e : Effect) → length (take_effect e m w).firm ≡ length m.firm
    go settle = length_lay m.firm (m.loose ++ (w ∷ []))
    go join = refl

-- what a list of writes leaves at a place that held x
abbrev pub over : List Write → ℕ → Block → Block
over [] p x = x
over (w ∷ ws) p x = over ws p (cond (eqb w.place p) w.bytes x)

pub get_d_set : (bs : List Block) (q p : ℕ) (b : Block) → p < length bs → get_or (set bs q b) p [] ≡ cond (eqb q p) b (get_or bs p [])
get_d_set bs q p b l = go (eqb q p) refl
  where
    go : (t : Bool) → eqb q p ≡ t → get_or (set bs q b) p [] ≡ cond t b (get_or bs p [])
    go true e = subst (λ r. get_or (set bs r b) p [] ≡ b) (sym (eqb-true q p e)) (get_or-set_same bs p b [] l)
    go false e = get_or-set_other bs q p b [] (λ f. eqb-false q p e (sym f))

pub get_d_lay : (ws : List Write) (bs : List Block) (p : ℕ) → p < length bs → get_or (lay bs ws) p [] ≡ over ws p (get_or bs p [])
get_d_lay [] bs p l = refl
get_d_lay (w ∷ ws) bs p l =
    get_d_lay ws (set bs w.place w.bytes) p (subst (λ x. p < x) (sym (length-set bs w.place w.bytes)) l)
    ∙ ap (over ws p) (get_d_set bs w.place p w.bytes l)

-- writes either name a place, and then its old block does not matter, or leave it
pub over_cases : (ws : List Write) (p : ℕ) → ((x y : Block) → over ws p x ≡ over ws p y) ⊎ ((x : Block) → over ws p x ≡ x)
over_cases [] p = inr (λ x. refl)
over_cases (w ∷ ws) p = go (eqb w.place p) (over_cases ws p)
  where
    go : (b : Bool) → ((x y : Block) → over ws p x ≡ over ws p y) ⊎ ((x : Block) → over ws p x ≡ x) →
        ((x y : Block) → over ws p (cond b w.bytes x) ≡ over ws p (cond b w.bytes y)) ⊎ ((x : Block) → over ws p (cond b w.bytes x) ≡ x)
    go true (inl c) = inl (λ x y. refl)
    go true (inr c) = inl (λ x y. refl)
    go false (inl c) = inl c
    go false (inr c) = inr c

pub over_twice : (ws : List Write) (p : ℕ) (x : Block) → over ws p (over ws p x) ≡ over ws p x
over_twice ws p x = ⊎_elim (λ c. c (over ws p x) x) (λ c. c (over ws p x)) (over_cases ws p)
