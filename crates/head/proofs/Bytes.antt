-- A block that is filled from the front, and places that are read from it in turn.
use Rattle.std.proofs.Common.{◌≡◌, ℕ, zero, suc, ◌+◌, ◌-◌, ◌*◌, ◌/◌, ◌<◌, ◌≤◌, Bool, true, false, cond, ◌&&◌, ltb, leb, List, [], ◌∷◌, ◌++◌, length, get_or, take, drop, replicate, Decides, sym, refl, ap, ◌∙◌, subst, add-one, Option, arith}
use mathlib.Core.Option.{Option as Maybe, some, none}
use Rattle.std.proofs.lemmas.List.{length-append, length-take-le, length-replicate, length-drop, append_assoc, take_more, take_all, take_at, drop_at, drop-drop, drop-replicate, get_or-take, get_or-drop}
use borrow.Rule.Slice.PartMut.{put_mid, mid_of}
use Rattle.std.specs.Simd.{first_chunks}
use Rattle.std.specs.Int.{w16, from_le_bytes}
use Rattle.std.proofs.lemmas.Bool.{and_parts, leb-true}
use Rattle.head.specs.Head as model
use Rattle.head.specs.Head.{place_bytes, places_read, two_bytes, four_bytes, sections, encode, decode, candidate, fits, same_bytes, all_below, none_twice}
use Rattle.head.proofs.RoundTrip.{same_decides, decode_encode, decode_sound}
use Rattle.head.specs.declared.head.Head.{Head}
use Rattle.std.specs.Bool.{then_some}
use Rattle.head.specs.Codes.{head_of, found}

-- bytes and then zeros, to a whole block
abbrev pub padded : List ℕ → List ℕ
padded xs = xs ++ replicate (512 - length xs) 0

-- the next bytes
pub padded_put : (xs ys : List ℕ) (a k : ℕ) → length xs ≡ a → length ys ≡ k → a + k ≤ 512 → put_mid a k (padded xs) ys ≡ padded (xs ++ ys)
padded_put xs ys a k e f l =
    ap (λ zs. zs ++ (ys ++ drop k (drop a (padded xs)))) (take_at xs (replicate (512 - length xs) 0) a e)
    ∙ ap (λ zs. xs ++ (ys ++ drop k zs)) (drop_at xs (replicate (512 - length xs) 0) a e)
    ∙ ap (λ zs. xs ++ (ys ++ zs)) (drop-replicate k (512 - length xs) 0)
    ∙ ap (λ n. xs ++ (ys ++ replicate n 0)) (let q : 512 - length xs - k ≡ 512 - length (xs ++ ys) = omega (arith, length-append xs ys) in q)
    ∙ sym (append_assoc xs ys (replicate (512 - length (xs ++ ys)) 0))

-- the sections of a head with its first i places
abbrev pub front : Head → ℕ → List ℕ
front h i = 1 ∷ four_bytes h.number ++ (length h.places.items ∷ place_bytes (take i h.places.items))

length_place_bytes : (ps : List ℕ) → length (place_bytes ps) ≡ 2 * length ps
length_place_bytes [] = refl
length_place_bytes (p ∷ ps) = omega (arith, length_place_bytes ps)

place_bytes_push : (ps : List ℕ) (p : ℕ) → place_bytes (ps ++ p ∷ []) ≡ place_bytes ps ++ two_bytes p
place_bytes_push [] p = refl
place_bytes_push (x ∷ ps) p = ap (λ bs. two_bytes x ++ bs) (place_bytes_push ps p)

-- one place more
pub front_more : (h : Head) (i k : ℕ) (bs : List ℕ) → i < length h.places.items → length h.places.items ≤ 8 → k ≡ 2 → bs ≡ two_bytes (get_or h.places.items i 0) →
    put_mid (6 + 2 * i) k (padded (front h i)) bs ≡ padded (front h (i + 1))
front_more h i k bs l few e f =
    padded_put (front h i) bs (6 + 2 * i) k
    (omega (arith, length_place_bytes (take i h.places.items), length-take-le i h.places.items (omega arith)))
    (ap length f ∙ sym e)
    (omega arith)
    ∙ ap (λ ys. padded (front h i ++ ys)) f
    ∙ ap (λ ys. padded (1 ∷ four_bytes h.number ++ (length h.places.items ∷ ys)))
    (sym (place_bytes_push (take i h.places.items) (get_or h.places.items i 0)) ∙ ap place_bytes (sym (take_more h.places.items i 0 l)))

-- all of them
pub front_whole : (h : Head) (i : ℕ) → length h.places.items ≤ i → padded (front h i) ≡ encode (head_of h)
unfolding encode
front_whole h i all = ap (λ ps. padded (1 ∷ four_bytes h.number ++ (length h.places.items ∷ place_bytes ps))) (take_all i h.places.items all)

-- one place more is read
read_suc : (i : ℕ) (bs : List ℕ) → places_read (suc i) bs ≡ places_read i bs ++ (get_or bs (2 * i) 0 + 256 * get_or bs (2 * i + 1) 0) ∷ []
read_suc zero bs = refl
read_suc (suc i) bs = ap (λ ps. (get_or bs 0 0 + 256 * get_or bs 1 0) ∷ ps)
    (read_suc i (drop 2 bs)
    ∙ ap (λ p. places_read i (drop 2 bs) ++ p ∷ [])
    (ap (λ x. x + 256 * get_or (drop 2 bs) (2 * i + 1) 0) (get_or-drop 2 bs (2 * i) 0 ∙ ap (λ k. get_or bs k 0) (let e : 2 + 2 * i ≡ 2 * suc i = omega arith in e))
    ∙ ap (λ x. get_or bs (2 * suc i) 0 + 256 * x) (get_or-drop 2 bs (2 * i + 1) 0 ∙ ap (λ k. get_or bs k 0) (let e : 2 + (2 * i + 1) ≡ 2 * suc i + 1 = omega arith in e))))

-- the pairs of a block, and the places in them
pair_at : (n i : ℕ) (bs d : List ℕ) → i < n → get_or (first_chunks 2 n bs) i d ≡ take 2 (drop (2 * i) bs)
pair_at zero i bs d l = absurd (omega arith)
pair_at (suc n) zero bs d l = refl
pair_at (suc n) (suc i) bs d l =
    pair_at n i (drop 2 bs) d (omega arith) ∙ ap (take 2) (drop-drop (2 * i) 2 bs ∙ ap (λ k. drop k bs) (let e : 2 + 2 * i ≡ 2 * suc i = omega arith in e))

-- so many pairs are in a block behind its first six bytes
pub pairs_in : (block : List ℕ) → length block ≡ 512 → first_chunks 2 (length (mid_of 6 506 block) / 2) (mid_of 6 506 block) ≡ first_chunks 2 253 (drop 6 block)
pairs_in block whole =
    ap (λ bs. first_chunks 2 (length bs / 2) bs) (take_all 506 (drop 6 block) (omega (arith, length-drop 6 block)))
    ∙ ap (λ n. first_chunks 2 n (drop 6 block)) (let e : length (drop 6 block) / 2 ≡ 253 = omega (arith, length-drop 6 block) in e)

two_worth : (xs : List ℕ) → from_le_bytes w16 xs ≡ get_or xs 0 0 + 256 * get_or xs 1 0
two_worth xs = omega arith

pub read_more : (n i v : ℕ) (bs ps d : List ℕ) → i < n → ps ≡ places_read i bs →
    v ≡ from_le_bytes w16 (get_or (first_chunks 2 n bs) i d) → ps ++ v ∷ [] ≡ places_read (i + 1) bs
read_more n i v bs ps d l e f =
    ap (λ x. x ++ v ∷ []) e ∙ ap (λ x. places_read i bs ++ x ∷ []) (f ∙ ap (from_le_bytes w16) (pair_at n i bs d l) ∙ worth) ∙ sym (ap (λ k. places_read k bs) (add-one i) ∙ read_suc i bs)
  where
    worth : from_le_bytes w16 (take 2 (drop (2 * i) bs)) ≡ get_or bs (2 * i) 0 + 256 * get_or bs (2 * i + 1) 0
    worth =
        two_worth (take 2 (drop (2 * i) bs))
        ∙ omega (
          arith,
          get_or-take 2 (drop (2 * i) bs) 0 0 (omega arith),
          get_or-take 2 (drop (2 * i) bs) 1 0 (omega arith),
          get_or-drop (2 * i) bs 0 0,
          get_or-drop (2 * i) bs 1 0,
          ap (λ k. get_or bs k 0) (let e : 2 * i + 0 ≡ 2 * i = omega arith in e),
        )

pub candidate_is : (h : model.Head) (block : List ℕ) →
    h.number ≡ get_or block 1 0 + (256 * get_or block 2 0 + (65_536 * get_or block 3 0 + 16_777_216 * get_or block 4 0)) →
    h.places ≡ places_read (get_or block 5 0) (drop 6 block) → h ≡ candidate block
unfolding candidate
candidate_is h block a b = λ j. record { number = a j; places = b j }

-- the test that decodes a block
pub decode_by : (n : ℕ) (b : List ℕ) (h : model.Head) → h ≡ candidate b → (t : Bool) → Decides t (encode h ≡ b) → decode n b ≡ cond (fits n h && t) (some h) none
unfolding decode
decode_by n b h e t d =
    subst (λ (x : model.Head). cond (fits n x && same_bytes b (encode x)) (some x) none ≡ cond (fits n h && t) (some h) none) e
    (ap (λ u. cond (fits n h && u) (some h) none) (go t (same_bytes b (encode h)) d (same_decides b (encode h))))
  where
    go : (t u : Bool) → Decides t (encode h ≡ b) → Decides u (b ≡ encode h) → u ≡ t
    go true u p q = q.1 (sym (p.0 refl))
    go false true p q = sym (p.1 (sym (q.0 refl)))
    go false false p q = refl

-- a head that does not fit
pub decode_unfit : (n : ℕ) (b : List ℕ) (h : model.Head) → h ≡ candidate b → fits n h ≡ false → decode n b ≡ none
decode_unfit n b h e f =
    decode_by n b h e (same_bytes (encode h) b) (same_decides (encode h) b)
    ∙ ap (λ t. cond (t && same_bytes (encode h) b) (some h) none) f

length_read : (k : ℕ) (bs : List ℕ) → length (places_read k bs) ≡ k
length_read zero bs = refl
length_read (suc k) bs = ap suc (length_read k (drop 2 bs))

pub length_encode : (h : model.Head) → length h.places ≤ 8 → length (encode h) ≡ 512
unfolding encode
length_encode h few =
    length-append (sections h) (replicate (512 - length (sections h)) 0)
    ∙ ap (λ x. length (sections h) + x) (length-replicate (512 - length (sections h)) 0)
    ∙ (let e : length (sections h) + (512 - length (sections h)) ≡ 512 = omega (arith, length_place_bytes h.places) in e)

few_of : (n : ℕ) (h : model.Head) → fits n h ≡ true → length h.places ≤ 8
few_of n h f = leb-true (length h.places) 8
    (and_parts (leb (length h.places) 8) (all_below n h.places && none_twice h.places)
    (and_parts (ltb h.number 4_294_967_296) (leb (length h.places) 8 && (all_below n h.places && none_twice h.places)) f).1).0

-- a block of another length, or with another count, is no head
pub decode_none : (n : ℕ) (b : List ℕ) → (length b ≡ 512 → get_or b 5 0 ≤ 8 → ⊥) → decode n b ≡ none
unfolding decode candidate
decode_none n b other = go (fits n (candidate b) && same_bytes b (encode (candidate b))) refl
  where
    go : (t : Bool) → (fits n (candidate b) && same_bytes b (encode (candidate b))) ≡ t → cond t (some (candidate b)) none ≡ none
    go false q = refl
    go true q =
        let a : (fits n (candidate b) ≡ true) × (same_bytes b (encode (candidate b)) ≡ true)
        = and_parts (fits n (candidate b)) (same_bytes b (encode (candidate b))) q in
        let few : length (candidate b).places ≤ 8 = few_of n (candidate b) a.0 in
        absurd (other (ap length ((same_decides b (encode (candidate b))).0 a.1) ∙ length_encode (candidate b) few)
        (subst (λ x. x ≤ 8) (length_read (get_or b 5 0) (drop 6 b)) few))

-- the answer of a decoder, and that no other block is a head
pub record Decoded (n : ℕ) (b : List ℕ) (o : Maybe model.Head) : Type 0 where
  pub value : o ≡ decode n b
  pub no_other : (h : model.Head) → o ≡ some h → (b ≡ encode h) × (fits n h ≡ true)
  pub every_head : (h : model.Head) → n ≤ 65_536 → b ≡ encode h → fits n h ≡ true → o ≡ some h

pub decoded : (n : ℕ) (b : List ℕ) (o : Maybe model.Head) → o ≡ decode n b → Decoded n b o
decoded n b o e = record {
  value = e;
  no_other = λ h f. decode_sound n b h (sym e ∙ f);
  every_head = λ h small is f. e ∙ ap (decode n) is ∙ decode_encode n h small f;
}

pub found_if : (t : Bool) (x : Head) (o : Option Head) → o ≡ then_some t x → found o ≡ cond t (some (head_of x)) none
found_if t x o e = ap found e ∙ go t
  where
    go : (t : Bool) → found (then_some t x) ≡ cond t (some (head_of x)) none
    go true = refl
    go false = refl
