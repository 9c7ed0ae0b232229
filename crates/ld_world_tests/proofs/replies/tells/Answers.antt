use Rattle.std.proofs.Common.{arith, subst, sym}
use Rattle.ld_replies.specs.Printing.{AreNoticesOf}
use Rattle.ld_world_tests.proofs.replies.tells.Goals as goal

pub push_done-requires-clause-notices : goal.push_done-requires-clause-notices
push_done-requires-clause-notices g c =
    subst (AreNoticesOf c.args.unit.now) (sym c.requires.silent) (λ k other below. absurd (omega (arith, below)))
