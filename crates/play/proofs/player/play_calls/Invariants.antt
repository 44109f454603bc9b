use Rattle.std.proofs.Common.{◌≡◌, ◌++◌, drop, vec_items}
use Rattle.play.proofs.player.play_calls.Given as goal

-- the lines so far and those of the calls that are left are the lines of all calls
abbrev pub invariant-loop-call : goal.invariant-loop-call
invariant-loop-call g l = record {
  fit : g.C.Player.Fit l.cache;
  whole : vec_items l.lines ++ g.C.Player.lines l.cache (drop l.call-index l.calls) ≡ vec_items l.initial.lines ++ g.C.Player.lines l.initial.cache l.calls;
}
