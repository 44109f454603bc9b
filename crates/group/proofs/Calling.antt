-- The disk call of a phase, from what the disk promised.
use Rattle.std.proofs.Common.{◌≡◌, ℕ, zero, suc, ◌<◌, List, [], ◌∷◌, map, length, get_or, refl, subst, arith}
use Rattle.std.proofs.lemmas.Simd.{map-map}
use Rattle.disk.specs.Medium.{Write, Effect, Medium}
use Rattle.disk.specs.Calls.{Answer, WritesBy}
use Rattle.journal_law.specs.Cache.{place_of, nth, write}
use Rattle.batch.specs.declared.entry.Entry.{Entry}
use Rattle.batch.specs.Rows.{no_entry, write_in, place_in}
use Rattle.group.specs.Groups.{Makes}

pub write_made : (rule : Write → Effect) (tries : ℕ) (w w' : Write) (m : Medium) (r : Answer) (m' : Medium) → w' ≡ w →
    WritesBy (rule w') tries m w'.place w'.bytes r m' → Makes rule tries (write w) m r m'
write_made rule tries w w' m r m' e d =
    subst (λ (x : Write). Makes rule tries (write x) m r m') e (record { answers = d.answers; after = d.after })

pub nth_entry : (xs : List Entry) (i : ℕ) → i < length xs → nth (map write_in xs) i ≡ write_in (get_or xs i no_entry)
nth_entry [] i l = absurd (omega arith)
nth_entry (x ∷ xs) zero l = refl
nth_entry (x ∷ xs) (suc i) l = nth_entry xs i (omega arith)

pub entry_places : (xs : List Entry) → map place_of (map write_in xs) ≡ map place_in xs
entry_places xs = map-map place_of write_in xs
