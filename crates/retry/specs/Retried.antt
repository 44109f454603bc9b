-- A disk of which each call is made up to three times.
use Rattle.std.specs.Prelude.{◌≡◌, ℕ, zero, suc, ◌*◌, ◌⊎◌, true, false, min, List, [], ◌∷◌}
use Rattle.disk.specs.Medium.{Entry, good, bad, Medium}
use Rattle.disk.specs.Calls.{Answer, is_fault}

-- the plan from the front: three bads make one bad; at most two bads and then a good, or one or two and then the end, make one good
abbrev pub retried : List Entry → List Entry
retried [] = []
retried (good ∷ es) = good ∷ retried es
retried (bad ∷ []) = good ∷ []
retried (bad ∷ (good ∷ es)) = good ∷ retried es
retried (bad ∷ (bad ∷ [])) = good ∷ []
retried (bad ∷ (bad ∷ (good ∷ es))) = good ∷ retried es
retried (bad ∷ (bad ∷ (bad ∷ es))) = bad ∷ retried es

abbrev pub retry_medium : Medium → Medium
retry_medium m = record { firm = m.firm; loose = m.loose; plan = retried m.plan }

-- three times as many tries, as far as 32 bits go
abbrev pub tripled : ℕ → ℕ
tripled n = min (n * 3) 4294967295

-- Up to n steps of R led from p to q: they stopped at the first answer that is no fault, and it is r; if there is none, r is the last.
abbrev pub Tries : {F : Type 0} → (F → Answer → F → Type 0) → ℕ → Answer → F → Answer → F → Type 0
Tries R zero last p r q = (r ≡ last) × (q ≡ p)
Tries {F} R (suc n) last p r q = (s : Answer) × (o : F) × R p s o × (((is_fault s ≡ false) × (r ≡ s) × (q ≡ o)) ⊎ ((is_fault s ≡ true) × Tries R n last o r q))
