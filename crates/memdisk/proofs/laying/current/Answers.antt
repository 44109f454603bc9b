use Rattle.std.proofs.Common.{[], get_or, sym, ap, ◌∙◌, rules, tests}
use Rattle.std.specs.Option.{option_map_or}
use Rattle.std.proofs.lemmas.Iterator.Search.{find_from_yields_List}
use Rattle.std.proofs.lemmas.Iterator.Adapters.{YieldsList-from_rev_slice}
use Rattle.memdisk.specs.Parts.{blocks_of}
use Rattle.memdisk.proofs.Lays.{at, shown_found}
use Rattle.memdisk.proofs.laying.current.Goals as goal

pub returns-in-Some : goal.returns-in-Some
returns-in-Some c =
    sym (ap (λ r. option_map_or (λ y. y.now.bytes) r (get_or (blocks_of c.args.blocks.now) c.args.place [])) c.in-Some.is) ∙
    shown_found (λ y. y.now) c.find.result _ c.args.writes.now c.args.place c.requires
    (find_from_yields_List (at c.args.place) _ _ c.find.result c.find.ensures.ran (YieldsList-from_rev_slice c.args.writes.now cc) (λ x b q k. search (rules, tests)))

pub returns-in-None : goal.returns-in-None
returns-in-None c =
    c.load.ensures ∙ sym (ap (λ r. option_map_or (λ y. y.now.bytes) r (get_or (blocks_of c.args.blocks.now) c.args.place [])) c.in-None.is) ∙
    shown_found (λ y. y.now) c.find.result _ c.args.writes.now c.args.place c.requires
    (find_from_yields_List (at c.args.place) _ _ c.find.result c.find.ensures.ran (YieldsList-from_rev_slice c.args.writes.now cc) (λ x b q k. search (rules, tests)))
