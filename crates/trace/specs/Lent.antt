-- What the parts of the input hold that the decoder hands on.
use Rattle.std.specs.Prelude.{ℕ, List}
use Rattle.std.specs.Borrow.{Bor}
use Rattle.trace.specs.declared.sections.Sections.{Sections}
use Rattle.trace.specs.Format as format

abbrev pub both_now : Bor (List ℕ) × Bor (List ℕ) → List ℕ × List ℕ
both_now p = (p.0.now, p.1.now)

abbrev pub sections_now : Sections → format.Sections
sections_now s = record { mode = s.mode; retry = s.retry; plan = s.plan.now; calls = s.calls.now }
