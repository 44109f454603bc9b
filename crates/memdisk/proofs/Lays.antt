-- Writes laid on blocks one by one.
use Rattle.std.proofs.Common.{◌≡◌, ℕ, ◌/◌, ◌%◌, ◌<◌, Bool, true, false, cond, eqb, ◌≢◌, List, [], ◌∷◌, ◌++◌, length, get_or, set, Option, Some, None, sym, refl, ap, ◌∙◌, arith, eq-eqb, eqb-true}
use Rattle.std.specs.List.{find}
use Rattle.std.specs.Option.{option_map, option_map_or, option_or}
use Rattle.std.proofs.lemmas.Bool.Decides.{nat_tests}
use Rattle.std.proofs.lemmas.List.{length-set, get_or-set_same, get_or-set_other, reverse-append}
use Rattle.std.proofs.lemmas.List.Folds.{find-append}
use Rattle.std.specs.Prelude.{reverse}
use Rattle.memdisk.specs.declared.loose.LooseWrite.{LooseWrite}
use Rattle.disk.specs.Medium.{Block, Write, lay, standing}
use Rattle.memdisk.specs.Parts.{writes_of}

pub standing_yes : (choice : ℕ) (w : Write) (ws : List Write) → choice % 2 ≡ 1 → standing choice (w ∷ ws) ≡ w ∷ standing (choice / 2) ws
standing_yes choice w ws e = ap (λ t. cond t (w ∷ standing (choice / 2) ws) (standing (choice / 2) ws)) (eq-eqb (choice % 2) 1 e)

pub standing_no : (choice : ℕ) (w : Write) (ws : List Write) → choice % 2 ≢ 1 → standing choice (w ∷ ws) ≡ standing (choice / 2) ws
standing_no choice w ws e =
    let t : eqb (choice % 2) 1 ≡ false = grind (arith, nat_tests) in
    ap (λ b. cond b (w ∷ standing (choice / 2) ws) (standing (choice / 2) ws)) t

pub length_lay : (bs : List Block) (ws : List Write) → length (lay bs ws) ≡ length bs
length_lay bs [] = refl
length_lay bs (w ∷ ws) = length_lay (set bs w.place w.bytes) ws ∙ length-set bs w.place w.bytes

-- the newest write at a place is what it shows
pub lay_push : (bs : List Block) (ws : List Write) (w : Write) → lay bs (ws ++ w ∷ []) ≡ set (lay bs ws) w.place w.bytes
lay_push bs [] w = refl
lay_push bs (v ∷ ws) w = lay_push (set bs v.place v.bytes) ws w

-- whether a write is at a place
abbrev pub at : ℕ → LooseWrite → Bool
at place w = eqb w.place place

over : (bs : List Block) (w : LooseWrite) (place : ℕ) (o : Option LooseWrite) → place < length bs
    → option_map_or (λ v. v.bytes) o (get_or (set bs w.place w.bytes) place []) ≡ option_map_or (λ v. v.bytes) (option_or o (find (at place) (w ∷ []))) (get_or bs place [])
over bs w place (Some v) h = refl
over bs w place None h =
    elim (eqb w.place place) as (λ t. eqb w.place place ≡ t → get_or (set bs w.place w.bytes) place [] ≡ option_map_or (λ v. v.bytes) (cond t (Some w) None) (get_or bs place [])) [
      | true ↦ λ e. ap (λ p. get_or (set bs p w.bytes) place []) (eqb-true w.place place e) ∙ get_or-set_same bs place w.bytes [] h
      | false ↦ λ e. get_or-set_other bs w.place place w.bytes [] (grind (arith, nat_tests))
    ] refl

-- a read shows the newest write at the place, or else the block
shown : (bs : List Block) (ws : List LooseWrite) (place : ℕ) → place < length bs → get_or (lay bs (writes_of ws)) place [] ≡ option_map_or (λ w. w.bytes) (find (at place) (reverse ws)) (get_or bs place [])
shown bs [] place h = refl
shown bs (w ∷ ws) place h =
    shown (set bs w.place w.bytes) ws place (omega (arith, length-set bs w.place w.bytes))
    ∙ over bs w place (find (at place) (reverse ws)) h
    ∙ ap (λ o. option_map_or (λ v. v.bytes) o (get_or bs place [])) (sym (find-append (at place) (reverse ws) (w ∷ [])) ∙ ap (find (at place)) (sym (reverse-append (w ∷ []) ws)))

-- the same, of a search that found the newest write or none
pub shown_found : {X : Type 0} (v : X → LooseWrite) (r : Option X) (bs : List Block) (ws : List LooseWrite) (place : ℕ) → place < length bs → option_map v r ≡ find (at place) (reverse ws) → option_map_or (λ x. (v x).bytes) r (get_or bs place []) ≡ get_or (lay bs (writes_of ws)) place []
shown_found v None bs ws place h e = sym (shown bs ws place h ∙ ap (λ o. option_map_or (λ w. w.bytes) o (get_or bs place [])) (sym e))
shown_found v (Some x) bs ws place h e = sym (shown bs ws place h ∙ ap (λ o. option_map_or (λ w. w.bytes) o (get_or bs place [])) (sym e))
