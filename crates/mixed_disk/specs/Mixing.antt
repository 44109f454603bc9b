-- A rule that goes by the place.
use Rattle.std.specs.Prelude.{ℕ, ◌%◌, cond, ◌==◌}
use Rattle.disk.specs.Medium.{Effect, join, settle}

abbrev pub by_place : ℕ → Effect
by_place place = cond (place % 2 == 1) settle join
