use Rattle.std.proofs.Common.{◌≡◌, ◌++◌, ◌∙◌, ap, subst, sym, OnOk}
use Rattle.ld_json.specs.Print.{json_text}
use Rattle.ld_value.specs.Datum.{datum_of}
use Rattle.ld_value.specs.Values.{text_of}
use Rattle.ld_replies.proofs.value_text.push_known.Goals as goal

pub returns-in-Text-clause-text : goal.returns-in-Text-clause-text
unfolding text_of
returns-in-Text-clause-text c =
    subst (λ text. OnOk c.print_text.result (c.print_text.new.out.bytes ≡ c.args.out.now.bytes ++ json_text text))
    (c.as_str.ensures.bytes ∙ ap (λ value. text_of (datum_of value)) (sym c.in-Text.is)) c.print_text.ensures.ok
