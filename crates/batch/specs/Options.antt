-- An option of code as one of the model.
use Rattle.std.proofs.Math.Option.{Option as Maybe, some, none}
use Rattle.std.specs.Prelude.{Some, None, Option}

abbrev pub maybe : {X : Type 0} → Option X → Maybe X
maybe None = none
maybe (Some x) = some x
