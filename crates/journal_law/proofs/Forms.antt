-- The forms that the medium of a journal volume takes: idle, logged, replayed, cleared; and how a group's disk calls lead from one to
-- the next. Each form is a rule of `Media`, so it holds whatever a cut drops.
use Rattle.std.proofs.Common.{◌≡◌, ℕ, zero, suc, ◌+◌, ◌<◌, ◌≤◌, Bool, true, false, cond, eqb, ◌⊎◌, List, [], ◌∷◌, map, length, get_or, drop, set, sym, refl, ap, ◌∙◌, subst, inl, inr, arith}
use mathlib.Core.Option.{some}
use Rattle.std.proofs.lemmas.List.{get_or-set_same, get_or-set_other}
use Rattle.std.proofs.lemmas.Bool.{eq-eqb}
use Rattle.disk.specs.Medium.{Effect, Block, Write, Medium, current, flushed}
use Rattle.journal_law.proofs.Media.{wrote, Keeps, Allowed, kept_current, kept_flushed, kept_wrote, current_wrote, length_current, over, over_twice, get_d_set}
use Rattle.head.specs.Head.{Head, encode, decode, empty_head}
use Rattle.journal_law.specs.Recovery.{slot_place, head_write}
use Rattle.journal_law.specs.Cache.{nth, place_of}

-- a rule by the three parts of the volume: home places, head, slots
pub record Region (n : ℕ) (Home : ℕ → Block → Type 0) (Heading : Block → Type 0) (ws : List Write) (slots : Bool) (p : ℕ) (x : Block) : Type 0 where
  pub home : p < n → Home p x
  pub heading : p ≡ n → Heading x
  pub slot : slots ≡ true → (i : ℕ) → i < length ws → p ≡ slot_place n i → x ≡ (nth ws i).bytes

abbrev pub head_of : ℕ → List Write → Head
head_of k ws = record { number = k; places = map place_of ws }

-- no group on the disk: the head is empty, home shows t
abbrev pub Idle : ℕ → ℕ → (ℕ → Block) → ℕ → Block → Type 0
Idle n k t = Region n (λ p x. x ≡ t p) (λ x. x ≡ encode (empty_head k)) [] false

-- a group k' being logged over home t: its head may stand only if it was tried, and then its slots stand
abbrev pub Logged : ℕ → ℕ → ℕ → List Write → (ℕ → Block) → Bool → Bool → ℕ → Block → Type 0
Logged n k k' ws t slots tried =
    Region n (λ p x. x ≡ t p) (λ x. (x ≡ encode (empty_head k)) ⊎ ((tried ≡ true) × (x ≡ encode (head_of k' ws)))) ws slots

-- a committed group: head and slots stand, and laying the group on home gives t
abbrev pub Replayed : ℕ → ℕ → List Write → (ℕ → Block) → ℕ → Block → Type 0
Replayed n k ws t = Region n (λ p x. over ws p x ≡ t p) (λ x. x ≡ encode (head_of k ws)) ws true

-- home shows t, and the head may be the group's or empty
abbrev pub Cleared : ℕ → ℕ → List Write → (ℕ → Block) → ℕ → Block → Type 0
Cleared n k ws t =
    Region n (λ p x. x ≡ t p) (λ x. (x ≡ encode (head_of k ws)) ⊎ (x ≡ encode (empty_head k))) ws true

-- a group that a head can name
pub record Names (n k : ℕ) (ws : List Write) : Type 0 where
  pub decodes : decode n (encode (head_of k ws)) ≡ some (head_of k ws)
  pub blank : decode n (encode (empty_head k)) ≡ some (empty_head k)
  pub few : length ws ≤ 8
  pub many : 1 ≤ length ws
  pub inside : (i : ℕ) → i < length ws → (nth ws i).place < n

abbrev pub Fixed : ℕ → List Write → (ℕ → Block) → Type 0
Fixed n ws t = (p : ℕ) → p < n → over ws p (t p) ≡ t p

-- the writes from number i on are still to be laid on the current home blocks
abbrev pub ToLay : ℕ → List Write → (ℕ → Block) → ℕ → Medium → Type 0
ToLay n ws t i m = (p : ℕ) → p < n → over (drop i ws) p (get_or (current m) p []) ≡ t p

abbrev pub SlotsWritten : ℕ → List Write → ℕ → Medium → Type 0
SlotsWritten n ws i m = (j : ℕ) → j < i → get_or (current m) (slot_place n j) [] ≡ (nth ws j).bytes

module _ (n : ℕ) where
  pub at_home : (Home : ℕ → Block → Type 0) (Heading : Block → Type 0) (ws : List Write) (slots : Bool) (p : ℕ) (x : Block) →
      p < n → Home p x → Region n Home Heading ws slots p x
  at_home Home Heading ws slots p x l h = record {
    home = λ _. h;
    heading = λ e. absurd (omega arith);
    slot = λ _ i _ e. absurd (omega arith);
  }

  pub at_head : (Home : ℕ → Block → Type 0) (Heading : Block → Type 0) (ws : List Write) (slots : Bool) (x : Block) →
      Heading x → Region n Home Heading ws slots n x
  at_head Home Heading ws slots x h = record {
    home = λ l. absurd (omega arith);
    heading = λ _. h;
    slot = λ _ i _ e. absurd (omega arith);
  }

  pub at_slot : (Home : ℕ → Block → Type 0) (Heading : Block → Type 0) (ws : List Write) (slots : Bool) (i : ℕ) →
      Region n Home Heading ws slots (slot_place n i) (nth ws i).bytes
  at_slot Home Heading ws slots i = record {
    home = λ l. absurd (omega arith);
    heading = λ e. absurd (omega arith);
    slot = λ _ j _ e. ap (λ r. (nth ws r).bytes) (let f : i ≡ j = omega arith in f);
  }

  -- current blocks after a write
  pub current_same : (effect : Effect) (w : Write) (m : Medium) (p : ℕ) → p ≡ w.place → p < length (current m) →
      get_or (current (wrote effect w m)) p [] ≡ w.bytes
  current_same effect w m p e l =
      ap (λ bs. get_or bs p []) (current_wrote effect w m)
      ∙ subst (λ r. get_or (set (current m) r w.bytes) p [] ≡ w.bytes) e (get_or-set_same (current m) p w.bytes [] l)

  pub current_other : (effect : Effect) (w : Write) (m : Medium) (p : ℕ) → (p ≡ w.place → ⊥) →
      get_or (current (wrote effect w m)) p [] ≡ get_or (current m) p []
  current_other effect w m p ne =
      ap (λ bs. get_or bs p []) (current_wrote effect w m) ∙ get_or-set_other (current m) w.place p w.bytes [] ne

  module _ (k : ℕ) (ws : List Write) (t : ℕ → Block) where
    pub drop_nth : (i : ℕ) (xs : List Write) → i < length xs → drop i xs ≡ nth xs i ∷ drop (suc i) xs
    drop_nth i [] l = absurd (omega arith)
    drop_nth zero (x ∷ xs) l = refl
    drop_nth (suc i) (x ∷ xs) l = drop_nth i xs (omega arith)

    drop_end : (xs : List Write) → drop (length xs) xs ≡ []
    drop_end [] = refl
    drop_end (x ∷ xs) = drop_end xs

    -- a write of the group leaves what the group as a whole makes of its place
    over_own : (i : ℕ) (xs : List Write) (p : ℕ) (x y : Block) → i < length xs → (nth xs i).place ≡ p → over xs p x ≡ over xs p y
    over_own i [] p x y l e = absurd (omega arith)
    over_own zero (w ∷ xs) p x y l e = subst (λ b. over xs p (cond b w.bytes x) ≡ over xs p (cond b w.bytes y)) (sym (eq-eqb w.place p e)) refl
    over_own (suc i) (w ∷ xs) p x y l e =
        over_own i xs p (cond (eqb w.place p) w.bytes x) (cond (eqb w.place p) w.bytes y) (omega arith) e

    pub replayed_start : (m : Medium) → Keeps (n + 9) (Replayed n k ws t) m → ToLay n ws t 0 m
    replayed_start m h p l = (kept_current (n + 9) (Replayed n k ws t) m h p (omega arith)).home l

    -- one home write of the group
    pub replayed_write : (effect : Effect) (i : ℕ) (m : Medium) → Names n k ws → Keeps (n + 9) (Replayed n k ws t) m → ToLay n ws t i m → i < length ws →
        Keeps (n + 9) (Replayed n k ws t) (wrote effect (nth ws i) m) × ToLay n ws t (suc i) (wrote effect (nth ws i) m)
    replayed_write effect i m names h to-lay l = (kept_wrote (n + 9) (Replayed n k ws t) effect (nth ws i) m h allowed, lay_on)
      where
        q : ℕ
        q = (nth ws i).place

        inside : q < n
        inside = names.inside i l

        allowed : Allowed (Replayed n k ws t) (nth ws i)
        allowed = at_home (λ p x. over ws p x ≡ t p) (λ x. x ≡ encode (head_of k ws)) ws true q (nth ws i).bytes inside
            (over_own i ws q (nth ws i).bytes (get_or (current m) q []) l refl
            ∙ (kept_current (n + 9) (Replayed n k ws t) m h q (omega arith)).home inside)

        lay_on : ToLay n ws t (suc i) (wrote effect (nth ws i) m)
        lay_on p lp =
            ap (over (drop (suc i) ws) p)
            (ap (λ bs. get_or bs p []) (current_wrote effect (nth ws i) m)
            ∙ get_d_set (current m) q p (nth ws i).bytes
            (subst (λ x. p < x) (sym (length_current (n + 9) (Replayed n k ws t) m h)) (omega arith)))
            ∙ subst (λ xs. over xs p (get_or (current m) p []) ≡ t p) (drop_nth i ws l) (to-lay p lp)

    -- t is what the group makes of something, so laying it again changes nothing
    pub replayed_fixed : (m : Medium) → Keeps (n + 9) (Replayed n k ws t) m → Fixed n ws t
    replayed_fixed m h p l =
        subst (λ x. over ws p x ≡ x) ((kept_current (n + 9) (Replayed n k ws t) m h p (omega arith)).home l) (over_twice ws p (get_or (current m) p []))

    -- the flush after the home writes
    pub replayed_flush : (m : Medium) → Keeps (n + 9) (Replayed n k ws t) m → ToLay n ws t (length ws) m → Keeps (n + 9) (Cleared n k ws t) (flushed m)
    replayed_flush m h to-lay = kept_flushed (n + 9) (Replayed n k ws t) (Cleared n k ws t) m h (λ p l r. record {
      home = λ lp. subst (λ xs. over xs p (get_or (current m) p []) ≡ t p) (drop_end ws) (to-lay p lp);
      heading = λ e. inl (r.heading e);
      slot = r.slot;
    })

    -- the write of the empty head
    pub cleared_write : (effect : Effect) (m : Medium) → Keeps (n + 9) (Cleared n k ws t) m →
        Keeps (n + 9) (Cleared n k ws t) (wrote effect (head_write n (empty_head k)) m)
        × (get_or (current (wrote effect (head_write n (empty_head k)) m)) n [] ≡ encode (empty_head k))
    cleared_write effect m h = (
      kept_wrote (n + 9) (Cleared n k ws t) effect (head_write n (empty_head k)) m h
          (at_head (λ p x. x ≡ t p) (λ x. (x ≡ encode (head_of k ws)) ⊎ (x ≡ encode (empty_head k))) ws true (encode (empty_head k)) (inr refl)),
      current_same effect (head_write n (empty_head k)) m n refl
          (subst (λ x. n < x) (sym (length_current (n + 9) (Cleared n k ws t) m h)) (omega arith)),
    )

    -- the last flush
    pub cleared_flush : (m : Medium) → Keeps (n + 9) (Cleared n k ws t) m → get_or (current m) n [] ≡ encode (empty_head k) →
        Keeps (n + 9) (Idle n k t) (flushed m)
    cleared_flush m h e = kept_flushed (n + 9) (Cleared n k ws t) (Idle n k t) m h (λ p l r. record {
      home = r.home;
      heading = λ f. subst (λ q. get_or (current m) q [] ≡ encode (empty_head k)) (sym f) e;
      slot = λ f i li. absurd (omega arith);
    })

    -- a flush of a cleared medium whose head is still the group's: the group is there to be laid again
    pub cleared_again : (m : Medium) → Fixed n ws t → Keeps (n + 9) (Cleared n k ws t) m → get_or (current m) n [] ≡ encode (head_of k ws) →
        Keeps (n + 9) (Replayed n k ws t) (flushed m)
    cleared_again m fixed h e = kept_flushed (n + 9) (Cleared n k ws t) (Replayed n k ws t) m h (λ p l r. record {
      home = λ lp. ap (over ws p) (r.home lp) ∙ fixed p lp;
      heading = λ f. subst (λ q. get_or (current m) q [] ≡ encode (head_of k ws)) (sym f) e;
      slot = r.slot;
    })
