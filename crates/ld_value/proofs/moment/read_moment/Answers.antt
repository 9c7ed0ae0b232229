use Rattle.ld_value.proofs.Moments.{IsMoment-read, text_of_moment-read}
use Rattle.ld_value.proofs.moment.read_moment.Goals as goal

pub returns-clause-years : goal.returns-clause-years
returns-clause-years c =
    IsMoment-read (λ m. m.0) c.args.text.now c.named_moment.result (rw c.as_bytes-bytes.ensures.value at c.named_moment.ensures)

pub returns-clause-back : goal.returns-clause-back
returns-clause-back c =
    text_of_moment-read (λ m. m.0) c.args.text.now c.named_moment.result (rw c.as_bytes-bytes.ensures.value at c.named_moment.ensures)
