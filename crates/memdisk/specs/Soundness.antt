-- What holds of the medium of every disk in memory.
use Rattle.std.proofs.Common.{◌≡◌, ℕ, zero, suc, ◌/◌, ◌*◌, ◌≤◌, List, [], ◌∷◌, length, drop, vec_items, refl, ap, arith}
use Rattle.std.specs.List.{AllByRecursion}
use Rattle.std.proofs.lemmas.List.{length-map, length-take-le, length-drop}
use Rattle.disk.specs.Medium.{Sound, Fitting, IsBlock}
use Rattle.memdisk.specs.Parts.{as_write, writes_of, held_in, blocks_of, medium_of, EachFits, no_write}
use Rattle.memdisk.specs.Memory.{blocks_in}
use Rattle.memdisk.specs.declared.loose.LooseWrite.{LooseWrite}
use Rattle.memdisk.specs.declared.blocks.Blocks.{Blocks}
use Rattle.memdisk.specs.declared.loose.LooseWrites.{LooseWrites}
use Rattle.memdisk.specs.declared.plan.Plan.{Plan}

-- n blocks are n, each of 512 bytes
pub length_blocks : (n : ℕ) (xs : List ℕ) → length (blocks_in n xs) ≡ n
unfolding blocks_in
length_blocks zero xs = refl
length_blocks (suc n) xs = ap suc (length_blocks n (drop 512 xs))

pub all_blocks : (n : ℕ) (xs : List ℕ) → length xs ≡ 512 * n → AllByRecursion IsBlock (blocks_in n xs)
unfolding blocks_in
all_blocks zero xs w = tt
all_blocks (suc n) xs w = (length-take-le 512 xs (omega arith), all_blocks n (drop 512 xs) (simp length-drop (omega arith)))

-- the writes of a disk each fit it
pub all_fitting : (n : ℕ) (ws : List LooseWrite) → EachFits n ws → AllByRecursion (Fitting n) (writes_of ws)
all_fitting n [] f = tt
all_fitting n (w ∷ ws) f = (f 0 no_write (omega arith), all_fitting n ws (λ k d h. f (suc k) d (omega arith)))

-- up to eight writes are loose
with_loose : (b : Blocks) (ws : List LooseWrite) (p : Plan) → length ws ≤ 8 → EachFits (length (blocks_of b)) ws → Sound (medium_of b ws p)
with_loose b ws p few fits =
    let long = length_blocks (length (vec_items b.memory) / 512) (vec_items b.memory) in
    record {
      some = omega arith;
      few = omega arith;
      blocks = all_blocks (length (vec_items b.memory) / 512) (vec_items b.memory) (omega (arith, b.memory.ok.0));
      held = omega (arith, length-map ws as_write);
      fitting = all_fitting (length (blocks_of b)) ws fits;
    }

-- some writes are loose
pub parts_sound : (b : Blocks) (l : LooseWrites) (p : Plan) → EachFits (length (blocks_of b)) (held_in l) → Sound (medium_of b (held_in l) p)
parts_sound b l p fits = with_loose b (held_in l) p (omega (arith, length-take-le l.count l.writes (omega arith))) fits

-- none is
pub through_sound : (b : Blocks) (p : Plan) → Sound (medium_of b [] p)
through_sound b p = with_loose b [] p (omega arith) (λ k d h. absurd (omega arith))
