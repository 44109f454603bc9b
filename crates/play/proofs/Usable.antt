-- The memory and the plan of a trace's disk make one.
use Rattle.std.proofs.Common.{◌≡◌, ℕ, ◌/◌, ◌≤◌, true, false, cond, ◌&&◌, leb, List, [], ◌∷◌, length, replicate, refl, ap, ◌∙◌, arith}
use Rattle.std.proofs.lemmas.List.{length-replicate}
use Rattle.memdisk.specs.Memory.{whole_blocks}
use Rattle.memdisk.specs.Memory as memory
use Rattle.memdisk.specs.declared.held.HeldDisk.{HeldDisk}
use Rattle.memdisk.specs.Parts.{medium_of, held_in}
use Rattle.memdisk.specs.Making.{usable}
use Rattle.memdisk.specs.Soundness.{length_blocks}
use Rattle.disk.specs.Medium.{size}
use Rattle.trace.specs.Format.{all_entries}
use Rattle.play.specs.Plays.{blank_disk}

same_entries : (plan : List ℕ) → memory.all_entries plan ≡ all_entries plan
same_entries [] = refl
same_entries (b ∷ bs) = ap (λ t. leb b 1 && t) (same_entries bs)

pub usable_blank : (plan : List ℕ) → all_entries plan ≡ true → usable (replicate 32768 0) plan ≡ true
usable_blank plan e =
    ap (λ n. cond (whole_blocks n) (memory.all_entries plan) false) (length-replicate {A = ℕ} 32768 0) ∙ same_entries plan ∙ e

-- it has 64 blocks
pub blank_size : (plan : List ℕ) → size (blank_disk plan) ≡ 64
blank_size plan =
    let zeros : List ℕ = replicate 32768 0 in
    length_blocks (length zeros / 512) zeros ∙ ap (λ n. n / 512) (length-replicate {A = ℕ} 32768 0)

-- a blank disk has room for a journal
pub roomy : (d : HeldDisk) (plan : List ℕ) → medium_of d.blocks (held_in d.loose) d.plan ≡ blank_disk plan → 10 ≤ size (medium_of d.blocks (held_in d.loose) d.plan)
roomy d plan is = let blocks : size (medium_of d.blocks (held_in d.loose) d.plan) ≡ 64 = ap size is ∙ blank_size plan in omega arith
