use Rattle.std.proofs.Common.{[]}
use Rattle.ld_state.specs.StateView.{run_of}
use Rattle.ld_firing.proofs.Told.{tells_nothing}
use Rattle.ld_settling.proofs.CleanLinks.{clean_linked}
use Rattle.ld_world_tests.proofs.sites.go_told.Goals as goal

pub tell-requires : goal.tell-requires
tell-requires g c =
    let unit = c.args.unit.now in
    let s = run_of c.args.state.now in
    record { told = (unit, s, s, clean_linked unit s c.args.links.now c.requires.clean, tells_nothing unit s []) }

pub settle_so-requires-clause-linked : goal.settle_so-requires-clause-linked
settle_so-requires-clause-linked g c =
    let unit = c.args.unit.now in
    let s = run_of c.args.state.now in
    c.tell.ensures.linked unit s s c.requires.sound c.requires.sound (clean_linked unit s c.args.links.now c.requires.clean) (tells_nothing unit s [])
