use Rattle.ld_replies.proofs.method_lines.Reporter.look.Goals as goal

pub returns-clause-dated : goal.returns-clause-dated
returns-clause-dated g c = λ moment is. c.args.self.now.dated c.args.cell moment (rw c.get.ensures.value at is)
