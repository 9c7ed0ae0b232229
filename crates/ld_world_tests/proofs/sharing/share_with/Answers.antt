use Rattle.ld_world_tests.proofs.sharing.share_with.Goals as goal

pub give-requires-clause-serves : goal.give-requires-clause-serves
give-requires-clause-serves g c = c.in_ok-set.ensures.serves c.args.unit.now c.requires.serves
