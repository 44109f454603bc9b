-- Media that differ in a part, and what a write did to one.
use Rattle.std.proofs.Common.{◌≡◌, ℕ, ◌<◌, Bool, true, false, cond, ltb, List, length, refl, inl, inr, ltb-true}
use Rattle.disk.specs.Medium.{Block, Write, Entry, Medium, Effect, join, settle, loose_max, take_effect}
use Rattle.disk.specs.Calls.{Answer, WritesBy, JoinedOrSettled, fate, leaves}

-- the medium with another plan
abbrev pub with_plan : Medium → List Entry → Medium
with_plan m es = record { firm = m.firm; loose = m.loose; plan = es }

pub same_medium : {f g : List Block} {v w : List Write} {p q : List Entry} → f ≡ g → v ≡ w → p ≡ q → ◌≡◌ {A = Medium} (record { firm = f; loose = v; plan = p }) (record { firm = g; loose = w; plan = q })
same_medium a b c = λ i. record { firm = a i; loose = b i; plan = c i }

module _ (m n : Medium) (place : ℕ) (bytes : List ℕ) where
  either : (room : Bool) (effect : Effect) → (room ≡ true → length m.loose < 8) →
      n ≡ leaves m (take_effect (cond room effect settle) m (record { place = place; bytes = bytes })) (fate m place (length bytes)) → JoinedOrSettled m place bytes n
  either true join h e = inl (h refl, e)
  either true settle h e = inr e
  either false effect h e = inr e

  -- by whichever rule, one of the two came about
  pub joined_or_settled : (effect : Effect) (tries : ℕ) (r : Answer) → WritesBy effect tries m place bytes r n → JoinedOrSettled m place bytes n
  joined_or_settled effect tries r did = either (ltb (length m.loose) loose_max) effect (ltb-true (length m.loose) loose_max) did.after
