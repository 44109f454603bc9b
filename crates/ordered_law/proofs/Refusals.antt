-- When a begin is accepted.
use Rattle.std.proofs.Common.{◌≡◌, ℕ, ◌+◌, ◌<◌, ◌≤◌, Bool, true, false, cond, not, ◌&&◌, eqb, ltb, List, length, Some, None, Option, refl}
use Rattle.std.proofs.lemmas.Bool.{eqb-true, ltb-true, ltb-false, not-false}
use Rattle.disk.specs.Medium.{Block}
use Rattle.errors.specs.declared.CacheError.{CacheError}
use Rattle.errors.specs.declared.CacheError.TheVariants as error
use Rattle.table.specs.declared.held.Version.{Version}
use Rattle.table.specs.Versions.{is_open, some_pass, reserved, room}
use Rattle.ordered_law.specs.Cache.{last_mark, begin_refusal, unless}

pub unless_both : {A : Type 0} (o : Option CacheError) (done : A) (bad : CacheError → A) (P : A → Type 0) → (o ≡ None → P done) → ((e : CacheError) → P (bad e)) → P (unless o done bad)
unless_both None done bad P f g = f refl
unless_both (Some e) done bad P f g = g e

all_false : (a b c d f : Bool) → cond a (Some error.Length) (cond b (Some error.Place) (cond c (Some error.PlaceOpen) (cond d (Some error.NoRoom) (cond f (Some error.NoMarks) None)))) ≡ None →
    (a ≡ false) × (b ≡ false) × (c ≡ false) × (d ≡ false) × (f ≡ false)
all_false true b c d f e = absurd cc
all_false false true c d f e = absurd cc
all_false false false true d f e = absurd cc
all_false false false false true f e = absurd cc
all_false false false false false true e = absurd cc
all_false false false false false false e = (refl, refl, refl, refl, refl)

-- what holds where a begin is accepted
pub record Accepted (blocks place : ℕ) (bytes : Block) (table : List Version) (counter : ℕ) : Type 0 where
  pub whole : length bytes ≡ 512
  pub inside : place < blocks
  pub none_open : some_pass (λ v. is_open v.state && eqb v.stamp.place place) table ≡ false
  pub has_room : room table ≡ true
  pub roomy : length table < 32
  pub marks_left : counter + reserved table + 2 ≤ last_mark

pub accepted : (blocks place : ℕ) (bytes : Block) (table : List Version) (counter : ℕ) → begin_refusal blocks place bytes table counter ≡ None → Accepted blocks place bytes table counter
accepted blocks place bytes table counter e =
    let t = all_false (not (eqb (length bytes) 512)) (not (ltb place blocks)) (some_pass (λ v. is_open v.state && eqb v.stamp.place place) table) (not (room table)) (ltb last_mark (counter + reserved table + 2)) e in
    record {
      whole = eqb-true (length bytes) 512 (not-false (eqb (length bytes) 512) t.0);
      inside = ltb-true place blocks (not-false (ltb place blocks) t.1);
      none_open = t.2;
      has_room = not-false (room table) t.3;
      roomy = ltb-true (length table) 32 (not-false (room table) t.3);
      marks_left = ltb-false last_mark (counter + reserved table + 2) t.4;
    }
