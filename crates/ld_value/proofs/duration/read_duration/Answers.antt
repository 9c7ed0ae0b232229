use Rattle.ld_value.proofs.Durations.{form-read, span-read}
use Rattle.ld_value.proofs.duration.read_duration.Goals as goal

pub returns-clause-form : goal.returns-clause-form
returns-clause-form c = form-read c.args.text.now c.seconds_in.result (rw c.as_bytes.ensures.value at c.seconds_in.ensures)

pub returns-clause-bound : goal.returns-clause-bound
returns-clause-bound c = span-read c.args.text.now c.seconds_in.result (rw c.as_bytes.ensures.value at c.seconds_in.ensures)
