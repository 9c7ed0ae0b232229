use Rattle.ld_types.proofs.typing.Typing.check_typed.Goals as goal

pub returns-in-Changed-clause-first : goal.returns-in-Changed-clause-first
returns-in-Changed-clause-first c = rw c.in-Changed.is c.check_change.ensures.first
