-- What it is to answer as a line of a test says.
use Rattle.std.specs.Prelude.{◌≡◌, Bool, true}

-- from state f to g the call of the line is made, and its answer equals the line's
abbrev pub AnswersAs : {F C R : Type 0} → (F → C → R → F → Type 0) → (R → R → Bool) → F → C × R → F → Type 0
AnswersAs step eq f line g = (r : _) × step f line.0 r g × (eq r line.1 ≡ true)
