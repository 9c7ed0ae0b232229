-- What a call of `next` answers.
use Rattle.std.specs.Prelude.{Result, Ok, Err}
use Rattle.ld_lines.specs.Answer.{Answer, WholeLine, OverLine, NoLine, Fault, TooLong}
use Rattle.ld_lines.specs.declared.next.Next.{Next}
use Rattle.ld_lines.specs.declared.next.Next.TheVariants.{Whole, Over, End}
use Rattle.ld_lines.specs.declared.stop.LineStop.{LineStop}
use Rattle.ld_lines.specs.declared.stop.LineStop.TheVariants.{ReadFault, InputTooLong}

-- The answer that the result stands for.
abbrev pub answer_of_next : Result Next LineStop → Answer
answer_of_next (Ok (Whole line)) = WholeLine line.now
answer_of_next (Ok Over) = OverLine
answer_of_next (Ok End) = NoLine
answer_of_next (Err ReadFault) = Fault
answer_of_next (Err InputTooLong) = TooLong
