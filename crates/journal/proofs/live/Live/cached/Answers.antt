use Rattle.std.proofs.Common.{◌≡◌, ℕ, List, Bor, Some, sym, ap, ◌∙◌, rules}
use Rattle.std.specs.Option.{option_map}
use Rattle.journal_law.specs.Cache.{cached, group_writes}
use Rattle.batch.specs.Options.{maybe}
use Rattle.batch.specs.Rows.{write_list}
use Rattle.group.specs.Groups.{under_way}
use Rattle.journal.proofs.Outcomes.{cached_collected, cached_grouped, some_group}
use Rattle.journal.proofs.live.Live.cached.Goals as goal

pub returns-in-Some : goal.returns-in-Some
returns-in-Some g c =
    let s = c.args.self.now in
    cached_collected c.args.place (write_list s.collected) (group_writes (under_way s.group)) c.in-Some.bytes.now c.in-Some.ensures

pub returns : goal.returns
returns g c =
    let s = c.args.self.now in
    let group = c.in_ok-as_ref.field-0.now in
    let held : s.group ≡ Some group = search rules in
    cached_grouped c.args.place (write_list s.collected) (group_writes (under_way s.group)) (maybe (option_map (λ (b : Bor (List ℕ)). b.now) c.bytes_at-2.result)) c.in_default.ensures
    (c.bytes_at-2.ensures ∙ ap (cached c.args.place) (sym (some_group s.group group held)))
