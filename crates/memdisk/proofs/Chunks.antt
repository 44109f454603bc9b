-- What a block-wise read and write of memory does to its blocks.
use Rattle.std.specs.Prelude.{◌≡◌, ℕ, zero, suc, ◌+◌, ◌*◌, ◌<◌, ◌≤◌, not, List, [], ◌∷◌, ◌++◌, map, length, take, drop, ◌==◌, slice_index, slice_index_or, slice_set, refl}
use Rattle.std.proofs.Common.{sym, ap, ◌∙◌, arith}
use borrow.Rule.Slice.PartMut.{put_mid}
use Rattle.std.proofs.lemmas.List.{length-take, length-drop, take_at, drop_at, drop-drop, drop-append-le, drop-take, drop_more, drop_all, length-append}
use Rattle.std.proofs.lemmas.Bool.Decides.{nat_tests}
use Rattle.std.proofs.lemmas.Slice.{take-put_mid_below}
use Rattle.memdisk.specs.Memory.{blocks_in, entry, entries, is_bad}

-- the block of a place
pub get_d_blocks : (n i : ℕ) (xs : List ℕ) → i < n → slice_index_or (blocks_in n xs) i [] ≡ take 512 (drop (i * 512) xs)
unfolding blocks_in
get_d_blocks zero i xs h = absurd (omega arith)
get_d_blocks (suc n) zero xs h = refl
get_d_blocks (suc n) (suc i) xs h =
    let at : 512 + i * 512 ≡ suc i * 512 = omega arith in
    get_d_blocks n i (drop 512 xs) (omega arith) ∙ ap (take 512) (drop-drop (i * 512) 512 xs ∙ ap (λ k. drop k xs) at)

drop_put_mid_block : (a : ℕ) (xs b : List ℕ) → 512 + a ≤ length xs → drop 512 (put_mid (512 + a) 512 xs b) ≡ put_mid a 512 (drop 512 xs) b
drop_put_mid_block a xs b h =
    let front : 512 ≤ length (take (512 + a) xs) = simp length-take (omega arith) in
    drop-append-le 512 (take (512 + a) xs) _ front ∙ ap (λ ys. ys ++ (b ++ drop 512 (drop (512 + a) xs))) (drop-take 512 a xs)
    ∙ ap (λ ys. take a (drop 512 xs) ++ (b ++ drop 512 ys)) (sym (drop-drop a 512 xs))

-- the blocks after a write over the block of a place
pub set_blocks : (n i : ℕ) (xs b : List ℕ) → i < n → length b ≡ 512 → length xs ≡ 512 * n → slice_set (blocks_in n xs) i b ≡ blocks_in n (put_mid (i * 512) 512 xs b)
unfolding blocks_in
set_blocks zero i xs b h e w = absurd (omega arith)
set_blocks (suc n) zero xs b h e w =
    sym (ap (λ y. y ∷ blocks_in n (drop 512 (b ++ drop 512 xs))) (take_at b (drop 512 xs) 512 e) ∙ ap (λ y. b ∷ blocks_in n y) (drop_at b (drop 512 xs) 512 e))
set_blocks (suc n) (suc i) xs b h e w =
    let at : suc i * 512 ≡ 512 + i * 512 = omega arith in
    let rest : length (drop 512 xs) ≡ 512 * n = simp length-drop (omega arith) in
    let moved : drop 512 (put_mid (suc i * 512) 512 xs b) ≡ put_mid (i * 512) 512 (drop 512 xs) b = ap (λ a. drop 512 (put_mid a 512 xs b)) at ∙ drop_put_mid_block (i * 512) xs b (omega arith) in
    sym
    (
    ap (λ y. y ∷ blocks_in n (drop 512 (put_mid (suc i * 512) 512 xs b))) (take-put_mid_below (suc i * 512) 512 xs b 512 (omega arith) (omega arith)) ∙
    ap (λ y. take 512 xs ∷ y) (ap (blocks_in n) moved ∙ sym (set_blocks n i (drop 512 xs) b (omega arith) e rest))
    )

-- the plan past its end, and at an entry
pub entries_none : (bytes : List ℕ) (taken : ℕ) → length bytes ≤ taken → entries (drop taken bytes) ≡ []
entries_none bytes taken h = ap (map entry) (drop_all taken bytes h)

pub entries_some : (bytes : List ℕ) (taken : ℕ) → taken < length bytes → entries (drop taken bytes) ≡ entry (slice_index bytes taken) ∷ entries (drop (taken + 1) bytes)
entries_some bytes taken h = ap (map entry) (drop_more bytes taken 0 h)

pub bad_not_good : (n : ℕ) → not (n == 0) ≡ is_bad (entry n)
bad_not_good zero = refl
bad_not_good (suc n) = grind (arith, nat_tests)

pub length_put_mid_block : (i : ℕ) (xs b : List ℕ) → i * 512 + 512 ≤ length xs → length b ≡ 512 → length (put_mid (i * 512) 512 xs b) ≡ length xs
length_put_mid_block i xs b h e = simp (length-append, length-take, length-drop) (omega arith)
