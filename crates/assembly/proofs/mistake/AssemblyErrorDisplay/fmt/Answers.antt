use Rattle.std.proofs.Common.{sym, subst}
use Rattle.std.specs.Fmt.{HasWritten}
use Rattle.assembly.specs.Messages.{error_text}
use Rattle.assembly.proofs.mistake.AssemblyErrorDisplay.fmt.Goals as goal

pub returns-in-TooLong-clause-writes : goal.returns-in-TooLong-clause-writes
returns-in-TooLong-clause-writes g c plain ok =
    subst (λ error. HasWritten g.W.Write.write_str_gives c.args.f.now (error_text error) c.write.new.self) (sym c.in-TooLong.is) (c.write.ensures.writes plain ok)
