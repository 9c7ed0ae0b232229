use Rattle.std.proofs.Common.{[], refl, arith, ◌∙◌, ap, Ok}
use Rattle.ld_lines.specs.Answer.{NoLine, OverLine}
use Rattle.ld_world.specs.WorldView.{world_of}
use Rattle.ld_world.proofs.Counting.{bad_line}
use Rattle.ld_keeping.proofs.Journals.{kept_none}
use Rattle.ld_keeping.proofs.Replied.{long_not_done}
use Rattle.ld_keeping.proofs.answering.answer_next.Goals as goal

pub returns-in-Ok-End-clause-turn : goal.returns-in-Ok-End-clause-turn
returns-in-Ok-End-clause-turn g c = (
  NoLine,
  [],
  rw (c.in-Ok-End.is ∙ ap Ok c.in-Ok-End.field-0-is) at c.next.follows.holds-at-none,
  (
    refl,
    refl,
    refl,
    (kept_none g.D.Disk.model g.met.D.Disk.lawful c.args.disk.now c.args.journal.now c.requires.settled c.requires.at_rest c.requires.below, omega arith),
  ),
)

pub returns-in-Ok-Over-clause-turn : goal.returns-in-Ok-Over-clause-turn
returns-in-Ok-Over-clause-turn g c = (
  OverLine,
  [],
  rw (c.in-Ok-Over.is ∙ ap Ok c.in-Ok-Over.field-0-is) at c.next.follows.holds-at-none,
  (
    refl,
    refl,
    long_not_done (world_of c.args.world.now) c.answer_bad_line.result c.answer_bad_line.new.out.bytes (world_of c.answer_bad_line.new.self) c.answer_bad_line.ensures.answers c.answer_bad_line.ensures.refused,
    (kept_none g.D.Disk.model g.met.D.Disk.lawful c.args.disk.now c.args.journal.now c.requires.settled c.requires.at_rest c.requires.below, omega arith),
  ),
)

-- ---- steps

pub returns-in-Ok-End-clause-work : goal.returns-in-Ok-End-clause-work
returns-in-Ok-End-clause-work g c = record {
  answer = NoLine;
  out = rw (c.in-Ok-End.is ∙ ap Ok c.in-Ok-End.field-0-is) at c.next.follows.holds-at-none;
  takes = refl;
  counted = omega arith;
  goes = λ is. absurd (cc is);
  ends = λ is. refl;
}

pub returns-in-Ok-Over-clause-work : goal.returns-in-Ok-Over-clause-work
returns-in-Ok-Over-clause-work g c = record {
  answer = OverLine;
  out = rw (c.in-Ok-Over.is ∙ ap Ok c.in-Ok-Over.field-0-is) at c.next.follows.holds-at-none;
  takes = bad_line c.args.world.now c.answer_bad_line.result c.answer_bad_line.new.out.bytes c.answer_bad_line.new.self c.answer_bad_line.ensures.answers c.answer_bad_line.ensures.same;
  counted = omega arith;
  goes = λ is. refl;
  ends = λ is. absurd (cc is);
}
