-- A head in code as the format has it.
use Rattle.std.proofs.Math.Option.{Option as Maybe, some, none}
use Rattle.std.specs.Prelude.{Some, None, Option}
use Rattle.head.specs.Head as model
use Rattle.head.specs.declared.head.Head.{Head}

abbrev pub head_of : Head → model.Head
head_of h = record { number = h.number; places = h.places.items }

abbrev pub found : Option Head → Maybe model.Head
found None = none
found (Some h) = some (head_of h)
