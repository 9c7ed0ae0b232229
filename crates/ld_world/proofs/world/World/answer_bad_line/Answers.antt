use Rattle.std.proofs.Common.{None}
use Rattle.ld_admission.specs.Refusals.{BadLine}
use Rattle.ld_world.specs.WorldView.{world_of}
use Rattle.ld_world.proofs.Answering.{bad_line, refused_line}
use Rattle.ld_world.proofs.world.World.answer_bad_line.Goals as goal

pub returns-clause-answers : goal.returns-clause-answers
returns-clause-answers c =
    let w = world_of c.args.self.now in
    refused_line w None BadLine c.refused.result c.tell_refusal.new.out.bytes (bad_line w) (c.refused.ensures.value, c.tell_refusal.ensures.text)
