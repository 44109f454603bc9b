use Rattle.std.proofs.Common.{◌≡◌, ◌++◌, drop, string_bytes}
use Rattle.listing.specs.Text.{listing}
use Rattle.listing.proofs.text.render.Given as goal

-- what is written and the lines that are left give what all of them give
abbrev pub invariant-loop-line : goal.invariant-loop-line
invariant-loop-line l = string_bytes l.text ++ listing (drop l.line-index l.lines) ≡ listing l.lines
