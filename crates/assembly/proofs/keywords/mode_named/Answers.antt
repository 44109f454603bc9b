use Rattle.std.proofs.Common.{codes, sym, ap, rules, arith}
use Rattle.std.proofs.lemmas.Slice.Eq.{text_from_reads}
use Rattle.assembly.specs.Keywords.{mode_of}
use Rattle.assembly.proofs.keywords.mode_named.Goals as goal

pub returns-in-overlap : goal.returns-in-overlap
returns-in-overlap c = sym (ap mode_of (text_from_reads c.args.word.now (codes "overlap") (omega arith) (search rules)))

pub returns-in-journaled : goal.returns-in-journaled
returns-in-journaled c = sym (ap mode_of (text_from_reads c.args.word.now (codes "journaled") (omega arith) (search rules)))
