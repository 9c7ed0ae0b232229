use Rattle.ld_world_tests.proofs.sharing.share_in.Goals as goal

pub begin-requires : goal.begin-requires
begin-requires g c = record { serves = c.in_ok-set.ensures.serves c.args.unit.now c.requires.serves }

pub share_with-requires-clause-serves : goal.share_with-requires-clause-serves
share_with-requires-clause-serves g c = c.in_ok-set.ensures.serves c.args.unit.now c.requires.serves
