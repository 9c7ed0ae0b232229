use Rattle.std.proofs.Common.{◌≡◌, ◌+◌, ◌<◌, ◌^◌, [], inr, refl, arith}
use Rattle.ld_run.specs.declared.reply.Reply.TheVariants.{Refused}
use Rattle.ld_world.specs.WorldView.{world_of}
use Rattle.ld_keeping.specs.Journaling.{HasKept, HasKeptBut, size_of_records}
use Rattle.ld_keeping.proofs.Joining.{line_turn}
use Rattle.ld_keeping.proofs.Journals.{kept_none}
use Rattle.ld_keeping.proofs.Replied.{says, not_done}
use Rattle.ld_keeping.proofs.answering.answer_line.Goals as goal

pub returns-in-Done-clause-turn : goal.returns-in-Done-clause-turn
returns-in-Done-clause-turn g c =
    line_turn (λ one. HasKept g.D.Disk.model c.args.disk.now c.keep.new.disk one × (c.keep.new.journal ≡ c.args.journal.now + size_of_records one)) (λ last. HasKeptBut g.D.Disk.model c.args.disk.now c.keep.new.disk [] last) (λ n. 2 ^ 40 < c.args.journal.now + n)
    (world_of c.args.world.now) c.args.line.now c.answer.new.out.bytes (world_of c.answer.new.self) c.keep.result
    (rw c.in-Done.is at (says (world_of c.args.world.now) c.args.line.now c.answer.new.out.bytes (world_of c.answer.new.self) c.answer.result c.answer.ensures.answers))
    c.keep.ensures.keeps

pub returns-in-Refused-clause-turn : goal.returns-in-Refused-clause-turn
returns-in-Refused-clause-turn g c = (
  [],
  (
    inr (
      not_done (world_of c.args.world.now) c.args.line.now c.answer.new.out.bytes (world_of c.answer.new.self) (Refused c.in-Refused.field-0) refl
          (rw c.in-Refused.is at (says (world_of c.args.world.now) c.args.line.now c.answer.new.out.bytes (world_of c.answer.new.self) c.answer.result c.answer.ensures.answers)),
      refl,
    ),
    (kept_none g.D.Disk.model g.met.D.Disk.lawful c.args.disk.now c.args.journal.now c.requires.settled c.requires.at_rest c.requires.below, omega arith),
  ),
)

pub returns-in-NoMemory-clause-turn : goal.returns-in-NoMemory-clause-turn
returns-in-NoMemory-clause-turn g c = (
  [],
  (
    inr (rw c.in-NoMemory.is at (says (world_of c.args.world.now) c.args.line.now c.answer.new.out.bytes (world_of c.answer.new.self) c.answer.result c.answer.ensures.answers), refl),
    (kept_none g.D.Disk.model g.met.D.Disk.lawful c.args.disk.now c.args.journal.now c.requires.settled c.requires.at_rest c.requires.below, omega arith),
  ),
)

pub returns-in-Done-clause-takes : goal.returns-in-Done-clause-takes
returns-in-Done-clause-takes g c = record {
  reply = c.answer.result;
  replies = c.answer.ensures.answers;
  stamps = c.answer.ensures.stamps;
  writes = c.answer.ensures.kept;
}

pub returns-in-Refused-clause-takes : goal.returns-in-Refused-clause-takes
returns-in-Refused-clause-takes g c = record {
  reply = c.answer.result;
  replies = c.answer.ensures.answers;
  stamps = c.answer.ensures.stamps;
  writes = c.answer.ensures.kept;
}

pub returns-in-NoMemory-clause-takes : goal.returns-in-NoMemory-clause-takes
returns-in-NoMemory-clause-takes g c = record {
  reply = c.answer.result;
  replies = c.answer.ensures.answers;
  stamps = c.answer.ensures.stamps;
  writes = c.answer.ensures.kept;
}
