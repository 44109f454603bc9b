use Rattle.std.proofs.Common.{codes, sym, ap, rules, arith}
use Rattle.std.proofs.lemmas.Slice.Eq.{text_from_reads}
use Rattle.assembly.specs.Keywords.{call_word_of}
use Rattle.assembly.proofs.keywords.call_named.Goals as goal

pub returns-in-finish : goal.returns-in-finish
returns-in-finish c = sym (ap call_word_of (text_from_reads c.args.word.now (codes "finish") (omega arith) (search rules)))

pub returns-in-withdraw : goal.returns-in-withdraw
returns-in-withdraw c = sym (ap call_word_of (text_from_reads c.args.word.now (codes "withdraw") (omega arith) (search rules)))

pub returns-in-restart : goal.returns-in-restart
returns-in-restart c = sym (ap call_word_of (text_from_reads c.args.word.now (codes "restart") (omega arith) (search rules)))
