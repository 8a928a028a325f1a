-- What a user is told of a fault.
use Rattle.std.specs.Prelude.{ℕ, List, codes}
use Rattle.p9_grammar.specs.declared.why.Why.{Why}
use Rattle.p9_grammar.specs.declared.why.Why.TheVariants as whys

-- the words for each fault
abbrev pub why_text : Why → List ℕ
why_text whys.TooLong = codes "text too long"
why_text whys.BadByte = codes "bad byte"
why_text whys.BadQuote = codes "bad quote"
why_text whys.UnknownStatement = codes "unknown statement"
why_text whys.WordCount = codes "wrong number of words"
why_text whys.NotAName = codes "not a name"
why_text whys.Twice = codes "name declared twice"
why_text whys.NotDeclared = codes "name not declared"
why_text whys.NotANumber = codes "not a number"
why_text whys.OutOfRange = codes "number out of range"
why_text whys.TooMany = codes "too many"
why_text whys.UnknownStage = codes "unknown stage"
why_text whys.Inputs = codes "wrong number of inputs"
why_text whys.Outputs = codes "wrong number of outputs"
why_text whys.NoProc = codes "no proc yet"
why_text whys.TwoWriters = codes "channel has two writers"
why_text whys.TwoReaders = codes "channel has two readers"
why_text whys.ReaderFirst = codes "reader before writer"
why_text whys.WrongDirection = codes "file of the wrong direction"
why_text whys.UsedTwice = codes "path or file used twice"
why_text whys.UnknownInstruction = codes "unknown instruction"
why_text whys.BadBlock = codes "bad block"
why_text whys.NoBothEnds = codes "channel without both ends"
why_text whys.NoThread = codes "no thread"
