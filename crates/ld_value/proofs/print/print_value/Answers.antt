use Rattle.std.proofs.Common.{arith, rules, FitsSigned, w64, to_z-of_z}
use Rattle.std.proofs.lemmas.Fmt.{IsAscii-signed}
use Rattle.ld_value.proofs.AsciiTexts.{IsAscii-span_text}
use Rattle.ld_value.proofs.print.print_value.Goals as goal

pub push_ascii-requires : goal.push_ascii-requires
push_ascii-requires c =
    let fits : FitsSigned w64 c.in-Int.number = search rules in
    rw (c.as_bytes.ensures, c.print_integer.ensures, to_z-of_z fits) (IsAscii-signed c.in-Int.number (omega arith))

pub push_ascii-requires-in-Span : goal.push_ascii-requires-in-Span
push_ascii-requires-in-Span c =
    rw (c.as_bytes-in-Span.ensures, c.print_span.ensures) (IsAscii-span_text c.in-Span.seconds (omega arith))
