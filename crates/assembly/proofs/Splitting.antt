-- How a scan finds the parts of a text.
use Rattle.std.proofs.Common.{◌≡◌, ℕ, suc, ◌+◌, ◌-◌, ◌<◌, ◌≤◌, Bool, true, false, cond, not, ◌⊎◌, List, [], ◌∷◌, length, take, drop, Some, None, Option, ltb, add-one, sym, refl, ap, ◌∙◌, subst, inl, inr, arith}
use Rattle.std.proofs.lemmas.List.{take_rest, drop_all, drop-drop, length-drop}
use Rattle.std.proofs.lemmas.Bool.{both_ways, cases_Bool}
use Rattle.std.specs.List.{onto_first, position, position_or_len}
use Rattle.std.specs.Option.{unwrap_or}
use Rattle.std.specs.Borrow.{Bor}
use Rattle.std.specs.Slice.{IsGetRangeResult}
use Rattle.std.proofs.lemmas.List.Sums.{prefix_len-le-length}
use Rattle.std.proofs.lemmas.List.Recursion.{is_position_or_len}
use Rattle.assembly.specs.Words.{is_blank, is_dark, first_at, pieces, filled, words}

-- the index that the library's search finds
first_is : (test : ℕ → Bool) (bs : List ℕ) → first_at test bs ≡ position_or_len test bs
first_is test bs = is_position_or_len (first_at test) test refl (λ b bs. step (test b) (first_at test bs)) bs
  where
    step : (t : Bool) (n : ℕ) → cond t 0 (suc n) ≡ cond t 0 (1 + n)
    step true n = refl
    step false n = omega arith

found : (n m i : ℕ) → Some i ≡ cond (ltb n m) (Some n) None → (i ≡ n) × (n < m)
found n m i e = go (cases_Bool (ltb n m))
  where
    go : (ltb n m ≡ true) ⊎ (ltb n m ≡ false) → (i ≡ n) × (n < m)
    go (inl h) = grind (arith, e, h)
    go (inr h) = grind (arith, e, h)

missing : (n m : ℕ) → n ≤ m → None ≡ cond (ltb n m) (Some n) None → n ≡ m
missing n m l e = go (cases_Bool (ltb n m))
  where
    go : (ltb n m ≡ true) ⊎ (ltb n m ≡ false) → n ≡ m
    go (inl h) = grind (arith, l, e, h)
    go (inr h) = grind (arith, l, e, h)

start_found : (test : ℕ → Bool) (bs : List ℕ) (i : ℕ) → Some i ≡ position test bs → (i ≡ first_at test bs) × (i < length bs)
start_found test bs i e =
    let h = found (position_or_len test bs) (length bs) i e in
    (h.0 ∙ sym (first_is test bs), omega (arith, h.0, h.1))

none_found : (test : ℕ → Bool) (bs : List ℕ) → None ≡ position test bs → first_at test bs ≡ length bs
none_found test bs e = first_is test bs ∙ missing (position_or_len test bs) (length bs) (prefix_len-le-length (λ b. not (test b)) bs) e

pub end_found : (test : ℕ → Bool) (bs : List ℕ) (r : Option ℕ) (n : ℕ) → r ≡ position test bs → n ≡ unwrap_or r (length bs) → n ≡ first_at test bs
end_found test bs None n e u = u ∙ sym (none_found test bs e)
end_found test bs (Some i) n e u = u ∙ (start_found test bs i e).0

-- the first part, and those behind its end
pub pieces_cut : (test : ℕ → Bool) (bs : List ℕ) → 0 < length bs → pieces test bs ≡ take (first_at test bs) bs ∷ pieces test (drop (suc (first_at test bs)) bs)
pieces_cut test [] l = absurd (omega arith)
pieces_cut test (b ∷ []) l = go (test b)
  where
    go : (t : Bool) → cond t ([] ∷ []) ((b ∷ []) ∷ []) ≡ take (cond t 0 1) (b ∷ []) ∷ pieces test (drop (suc (cond t 0 1)) (b ∷ []))
    go true = refl
    go false = refl
pieces_cut test (b ∷ (c ∷ cs)) l = go (test b) (pieces_cut test (c ∷ cs) (omega arith))
  where
    n : ℕ
    n = first_at test (c ∷ cs)

    go : (t : Bool) → pieces test (c ∷ cs) ≡ take n (c ∷ cs) ∷ pieces test (drop (suc n) (c ∷ cs)) →
        cond t ([] ∷ pieces test (c ∷ cs)) (onto_first b (pieces test (c ∷ cs))) ≡ take (cond t 0 (suc n)) (b ∷ (c ∷ cs)) ∷ pieces test (drop (suc (cond t 0 (suc n))) (b ∷ (c ∷ cs)))
    go true e = refl
    go false e = ap (onto_first b) e

-- a word at the front, and those behind it
abbrev pub parted : List ℕ → List (List ℕ)
parted bs = take (first_at is_blank bs) bs ∷ words (drop (suc (first_at is_blank bs)) bs)

words_dark : (b : ℕ) (bs : List ℕ) → is_blank b ≡ false → parted (b ∷ bs) ≡ words (b ∷ bs)
words_dark b bs e = sym (ap filled (pieces_cut is_blank (b ∷ bs) (omega arith)) ∙ kept (is_blank b) e)
  where
    n : ℕ
    n = first_at is_blank bs

    kept : (t : Bool) → t ≡ false → filled (take (cond t 0 (suc n)) (b ∷ bs) ∷ pieces is_blank (drop (suc (cond t 0 (suc n))) (b ∷ bs)))
        ≡ take (cond t 0 (suc n)) (b ∷ bs) ∷ words (drop (suc (cond t 0 (suc n))) (b ∷ bs))
    kept true e = absurd (both_ways true e refl)
    kept false e = refl

-- what is left once the blanks in front are skipped
abbrev pub skipped : List ℕ → List ℕ
skipped bs = drop (first_at is_dark bs) bs

words_blank : (b : ℕ) (bs : List ℕ) → is_blank b ≡ true → (words (b ∷ bs) ≡ words bs) × (skipped (b ∷ bs) ≡ skipped bs)
words_blank b bs e = (ap (λ t. filled (cond t ([] ∷ pieces is_blank bs) (onto_first b (pieces is_blank bs)))) e, ap (λ t. drop (cond (not t) 0 (suc (first_at is_dark bs))) (b ∷ bs)) e)

skipped_dark : (b : ℕ) (bs : List ℕ) → is_blank b ≡ false → skipped (b ∷ bs) ≡ b ∷ bs
skipped_dark b bs e = ap (λ t. drop (cond (not t) 0 (suc (first_at is_dark bs))) (b ∷ bs)) e

pub words_some : (bs : List ℕ) → 0 < length (skipped bs) → parted (skipped bs) ≡ words bs
words_some [] l = absurd (omega arith)
words_some (b ∷ bs) l = go (cases_Bool (is_blank b)) (words_some bs)
  where
    go : (is_blank b ≡ true) ⊎ (is_blank b ≡ false) → (0 < length (skipped bs) → parted (skipped bs) ≡ words bs) → parted (skipped (b ∷ bs)) ≡ words (b ∷ bs)
    go (inl e) h =
        let p = words_blank b bs e in
        ap parted p.1 ∙ h (subst (λ xs. 0 < length xs) p.1 l) ∙ sym p.0
    go (inr e) h = ap parted (skipped_dark b bs e) ∙ words_dark b bs e

pub words_none : (bs : List ℕ) → length (skipped bs) ≡ 0 → [] ≡ words bs
words_none [] l = refl
words_none (b ∷ bs) l = go (cases_Bool (is_blank b)) (words_none bs)
  where
    go : (is_blank b ≡ true) ⊎ (is_blank b ≡ false) → (length (skipped bs) ≡ 0 → [] ≡ words bs) → [] ≡ words (b ∷ bs)
    go (inl e) h =
        let p = words_blank b bs e in
        h (subst (λ xs. length xs ≡ 0) p.1 l) ∙ sym p.0
    go (inr e) h = absurd (omega (arith, subst (λ xs. length xs ≡ 0) (skipped_dark b bs e) l))

-- what follows the byte at j, as `get` finds it in what begins there
pub behind : (bs tail : List ℕ) (j : ℕ) (r : Option (Bor (List ℕ))) (x none : Bor (List ℕ)) → tail ≡ drop j bs → IsGetRangeResult tail 1 (length tail) r →
    x ≡ unwrap_or r none → none.now ≡ [] → x.now ≡ drop (suc j) bs
behind bs tail j None x none e h u n =
    ap (λ (b : Bor (List ℕ)). b.now) u ∙ n ∙ sym (drop_all (suc j) bs (omega (arith, ap length e, length-drop j bs, h.0)))
behind bs tail j (Some y) x none e h u n =
    ap (λ (b : Bor (List ℕ)). b.now) u ∙ h.0.2 ∙ take_rest tail 1 ∙ ap (drop 1) e ∙ drop-drop 1 j bs ∙ ap (λ n. drop n bs) (add-one j)

-- the same, as the library's searches find it: the blanks end at i, the word ends at j
pub no_word : (bs : List ℕ) → None ≡ position is_dark bs → [] ≡ words bs
no_word bs e = words_none bs (omega (arith, none_found is_dark bs e, length-drop (first_at is_dark bs) bs))

pub found_word : (bs : List ℕ) (i j : ℕ) (after : List ℕ) → Some i ≡ position is_dark bs → j ≡ first_at is_blank (take (length bs - i) (drop i bs)) →
    after ≡ drop (suc j) (take (length bs - i) (drop i bs)) → take j (take (length bs - i) (drop i bs)) ∷ words after ≡ words bs
found_word bs i j after e ej ea =
    ap (λ xs. take j left ∷ words xs) ea
    ∙ ap (λ k. take k left ∷ words (drop (suc k) left)) ej
    ∙ ap parted (take_rest bs i ∙ ap (λ k. drop k bs) start.0)
    ∙ words_some bs (omega (arith, start.0, start.1, length-drop (first_at is_dark bs) bs))
  where
    left : List ℕ
    left = take (length bs - i) (drop i bs)

    start : (i ≡ first_at is_dark bs) × (i < length bs)
    start = start_found is_dark bs i e
