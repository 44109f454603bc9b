-- Mistakes in words.
use Rattle.std.specs.Prelude.{ℕ, List, ◌++◌, codes, decimal}
use Rattle.assembly.specs.declared.mistake.Mistake.{Mistake}
use Rattle.assembly.specs.declared.mistake.Mistake.TheVariants.{UnknownWord, Arguments, PlanFull, CallsFull}
use Rattle.assembly.specs.declared.mistake.AssemblyError.{AssemblyError}
use Rattle.assembly.specs.declared.mistake.AssemblyError.TheVariants.{TooLong, Line, NoMemory}

abbrev pub message_of : Mistake → List ℕ
message_of UnknownWord = codes "no statement begins with this word"
message_of Arguments = codes "what follows the first word does not fit it"
message_of PlanFull = codes "the plan has more than 256 entries"
message_of CallsFull = codes "there are more than 1,000 calls"

-- what the program says of an error
abbrev pub error_text : AssemblyError → List ℕ
error_text TooLong = codes "the text has more than " ++ (decimal 1048576 ++ codes " bytes")
error_text (Line line mistake) = codes "line " ++ (decimal line ++ (codes ": " ++ message_of mistake))
error_text NoMemory = codes "there is no memory for the trace"
