-- A sealed group as the cache's model has it, and the disk call of its phase.
use Rattle.std.specs.Prelude.{◌≡◌, ℕ, Some, None, Option}
use Rattle.std.proofs.Math.Option.{Option as Maybe, some, none}
use Rattle.disk.specs.Medium.{Write, Effect, Medium}
use Rattle.disk.specs.Calls.{Answer, leaves}
use Rattle.batch.specs.Rows.{write_list}
use Rattle.journal_law.specs.Cache as model
use Rattle.group.specs.declared.phase.Phase.{Phase}
use Rattle.group.specs.declared.group.Group.{Group}
use Rattle.group.specs.declared.under_way.UnderWay.{UnderWay}
use Rattle.group.specs.Phases.{phase_of}

abbrev pub group_of : Group → Phase → model.Group
group_of g p = record { number = g.number; writes = write_list g.writes; phase = phase_of p }

abbrev pub sealed_of : UnderWay → model.Group
sealed_of u = group_of u.group u.phase

abbrev pub under_way : Option UnderWay → Maybe model.Group
under_way None = none
under_way (Some u) = some (sealed_of u)

-- a call of a disk with this rule, from medium m to answer r and medium m'
pub record Makes (rule : Write → Effect) (tries : ℕ) (call : model.DiskCall) (m : Medium) (r : Answer) (m' : Medium) : Type 0 where
  pub answers : r ≡ model.call_answer tries call (model.call_fate m call)
  pub after : m' ≡ leaves m (model.good_medium (rule (model.asked_write call)) call m) (model.call_fate m call)
