use Rattle.ld_cascade_tests.specs.Lamps.{lamps_of, is_sound}
use Rattle.ld_cascade_tests.proofs.tests.make_right.Goals as goal

pub restore-requires-clause-begun : goal.restore-requires-clause-begun
restore-requires-clause-begun g c =
    let s = lamps_of c.args.row.now in
    let begun = c.requires.begun in
    c.stays_restorable.ensures s begun.0 c.args.links.now
    (c.begins_restorable.ensures s begun.0 (is_sound c.args.row.now) begun.1.covers (λ i. (begun.1.tidy i).edges_are)) begun.2
