use Rattle.std.proofs.Common.{ℕ, List, sym, ap, ◌∙◌}
use Rattle.batch.specs.Rows.{entries}
use Rattle.group.proofs.Calling.{entry_places}
use Rattle.group.proofs.group.Group.head.Goals as goal

pub returns : goal.returns
returns c =
    let g = c.args.self.now in
    c.new.ensures ∙ ap (λ (ps : List ℕ). record { number = g.number; places = ps }) (c.places.ensures ∙ sym (entry_places (entries g.writes)))
