-- The head's bytes: what was encoded is read back, and no other block is a head.
use Rattle.std.proofs.Common.{◌≡◌, ℕ, ◌+◌, ◌-◌, ◌*◌, ◌/◌, ◌%◌, ◌<◌, ◌≤◌, Bool, true, false, cond, ◌&&◌, ltb, leb, List, [], ◌∷◌, ◌++◌, length, replicate, Decides, sym, refl, ap, ◌∙◌, subst, arith}
use mathlib.Core.Option.{some, none}
use Rattle.std.proofs.Math.Option.{none-ne-some, some-injective}
use native.Mathlib.Nat.{div-div-eq-div-mul, mod-add-div}
use Rattle.std.proofs.lemmas.Bool.{and_parts, and_from, ltb-true}
use Rattle.std.proofs.lemmas.Slice.Eq.{compares_Decides}
use Rattle.disk.specs.Medium.{Block}
use Rattle.head.specs.Head.{Head, encode, decode, fits, candidate, same_bytes, place_bytes, places_read, all_below, none_twice, sections}

-- the test that two blocks are the same
pub same_decides : (xs ys : List ℕ) → Decides (same_bytes xs ys) (xs ≡ ys)
same_decides = compares_Decides same_bytes (record { empty = refl; shorter = λ y ys. refl; longer = λ x xs. refl; heads = λ x y xs ys. refl })

two_back : (p : ℕ) → p < 65_536 → p % 256 + 256 * (p / 256 % 256) ≡ p
two_back p l = omega arith

-- four digits in base 256
four_digits : (k q₁ q₂ q₃ r₀ r₁ r₂ r₃ : ℕ) → r₀ + 256 * q₁ ≡ k → r₁ + 256 * q₂ ≡ q₁ → r₂ + 256 * q₃ ≡ q₂ → r₃ ≡ q₃ →
    r₀ + (256 * r₁ + (65_536 * r₂ + 16_777_216 * r₃)) ≡ k
four_digits k q₁ q₂ q₃ r₀ r₁ r₂ r₃ e₀ e₁ e₂ e₃ = omega arith

four_back : (k : ℕ) → k < 4_294_967_296 →
    k % 256 + (256 * (k / 256 % 256) + (65_536 * (k / 65_536 % 256) + 16_777_216 * (k / 16_777_216 % 256))) ≡ k
four_back k l = four_digits k (k / 256) (k / 65_536) (k / 16_777_216) (k % 256) (k / 256 % 256) (k / 65_536 % 256) (k / 16_777_216 % 256)
    (mod-add-div k 256)
    (subst (λ x. k / 256 % 256 + 256 * x ≡ k / 256) (div-div-eq-div-mul k 256 256) (mod-add-div (k / 256) 256))
    (subst (λ x. k / 65_536 % 256 + 256 * x ≡ k / 65_536) (div-div-eq-div-mul k 65_536 256) (mod-add-div (k / 65_536) 256))
    (omega arith)

places_back : (n : ℕ) → n ≤ 65_536 → (ps zs : List ℕ) → all_below n ps ≡ true → places_read (length ps) (place_bytes ps ++ zs) ≡ ps
places_back n small [] zs a = refl
places_back n small (p ∷ ps) zs a =
    let b : (ltb p n ≡ true) × (all_below n ps ≡ true) = and_parts (ltb p n) (all_below n ps) a in
    let l : p < 65_536 = omega (arith, ltb-true p n b.0) in
    λ j. two_back p l j ∷ places_back n small ps zs b.1 j

candidate_encode : (n : ℕ) (h : Head) → n ≤ 65_536 → h.number < 4_294_967_296 → all_below n h.places ≡ true → candidate (encode h) ≡ h
unfolding candidate encode
candidate_encode n h small l a = λ j. record { number = four_back h.number l j; places = places_back n small h.places (replicate (512 - length (sections h)) 0) a j }

pub decode_encode : (n : ℕ) (h : Head) → n ≤ 65_536 → fits n h ≡ true → decode n (encode h) ≡ some h
unfolding decode
decode_encode n h small f =
    subst (λ (x : Head). cond (fits n x && same_bytes (encode h) (encode x)) (some x) none ≡ some h) (sym (candidate_encode n h small number below))
    (ap (λ b. cond b (some h) none) (and_from (fits n h) (same_bytes (encode h) (encode h)) f ((same_decides (encode h) (encode h)).1 refl)))
  where
    a : (ltb h.number 4_294_967_296 ≡ true) × ((leb (length h.places) 8 && (all_below n h.places && none_twice h.places)) ≡ true)
    a = and_parts (ltb h.number 4_294_967_296) (leb (length h.places) 8 && (all_below n h.places && none_twice h.places)) f

    number : h.number < 4_294_967_296
    number = ltb-true h.number 4_294_967_296 a.0

    below : all_below n h.places ≡ true
    below = (and_parts (all_below n h.places) (none_twice h.places)
        (and_parts (leb (length h.places) 8) (all_below n h.places && none_twice h.places) a.1).1).0

pub decode_sound : (n : ℕ) (b : Block) (h : Head) → decode n b ≡ some h → (b ≡ encode h) × (fits n h ≡ true)
unfolding decode
decode_sound n b h e = go (fits n (candidate b) && same_bytes b (encode (candidate b))) refl e
  where
    go : (t : Bool) → (fits n (candidate b) && same_bytes b (encode (candidate b))) ≡ t → cond t (some (candidate b)) none ≡ some h →
        (b ≡ encode h) × (fits n h ≡ true)
    go false q r = absurd (none-ne-some h r)
    go true q r =
        let a : (fits n (candidate b) ≡ true) × (same_bytes b (encode (candidate b)) ≡ true)
        = and_parts (fits n (candidate b)) (same_bytes b (encode (candidate b))) q in
        let c : candidate b ≡ h = some-injective (candidate b) h r in
        ((same_decides b (encode (candidate b))).0 a.1 ∙ ap encode c, subst (λ (x : Head). fits n x ≡ true) c a.0)
