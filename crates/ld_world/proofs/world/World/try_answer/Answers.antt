use Rattle.std.proofs.Common.{◌≡◌, None, Err, IfOk, sym, ap, subst, arith}
use Rattle.std.proofs.lemmas.Grind.{common_steps}
use Rattle.ld_lines.specs.Commands.{command_of}
use Rattle.ld_admission.specs.Refusals.{BadLine}
use Rattle.ld_world.specs.Answers.{RepliesTo, line_of}
use Rattle.ld_world.specs.WorldView.{world_of}
use Rattle.ld_world.proofs.Answering.{bad_line, if_ok, refused_line}
use Rattle.ld_world.proofs.world.World.try_answer.Goals as goal

pub returns-then-line-gt-LINE_LIMIT-clause-ok : goal.returns-then-line-gt-LINE_LIMIT-clause-ok
returns-then-line-gt-LINE_LIMIT-clause-ok g c =
    let w = world_of c.args.self.now in
    let none : line_of c.args.line.now ≡ None = grind (arith, common_steps) in
    rw none (if_ok c.refuse_line.result c.refuse_line.ensures.refused
    (λ reply. refused_line w None BadLine reply c.refuse_line.new.out.bytes (bad_line w)))

pub returns-in-Err-BadLine-clause-ok : goal.returns-in-Err-BadLine-clause-ok
returns-in-Err-BadLine-clause-ok g c =
    let w = world_of c.args.self.now in
    let text = c.refuse_line-in-Err-BadLine.new.out.bytes in
    let bad : command_of c.args.line.now ≡ None = c.in-Err-BadLine.ensures.bad (ap Err c.in-Err-BadLine.field-0-is) in
    let none : line_of c.args.line.now ≡ None = grind (arith, common_steps, bad) in
    let told = if_ok c.refuse_line-in-Err-BadLine.result c.refuse_line-in-Err-BadLine.ensures.refused
    (λ reply. refused_line w None BadLine reply text (bad_line w)) in
    rw none (subst (λ v. IfOk c.refuse_line-in-Err-BadLine.result (λ reply. RepliesTo w None reply text (world_of v))) (sym c.self.view_is) told)
