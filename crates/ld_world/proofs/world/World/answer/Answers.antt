use Rattle.std.proofs.Common.{ap}
use Rattle.ld_world.specs.Answers.{line_of}
use Rattle.ld_world.specs.WorldView.{world_of}
use Rattle.ld_world.proofs.Answering.{wanting_line}
use Rattle.ld_world.proofs.world.World.answer.Goals as goal

pub returns-in-Err-clause-answers : goal.returns-in-Err-clause-answers
returns-in-Err-clause-answers g c =
    wanting_line (world_of c.args.self.now) (world_of c.try_answer.new.self) (line_of c.args.line.now) c.say_no_memory.new.out.bytes (ap world_of c.in-Err.ensures.err) c.say_no_memory.ensures.text
