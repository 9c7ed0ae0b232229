use Rattle.ld_state.proofs.Written.{on_ok}
use Rattle.ld_value.specs.Datum.{datum_of}
use Rattle.ld_replies.proofs.PlainValues.{quoted}
use Rattle.ld_replies.proofs.value_text.push_scalar.Goals as goal

pub returns-clause-text : goal.returns-clause-text
returns-clause-text c =
    on_ok c.push-2.result c.push-2.ensures.ok (quoted (datum_of c.args.value.now) c.args.out.now.bytes c.push.new.self.bytes
    c.print_value.new.out.bytes c.push-2.new.self.bytes c.requires.scalar c.in_ok-push.ensures.ok c.in_ok-print_value.ensures.ok)
