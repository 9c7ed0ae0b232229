use Rattle.std.proofs.Common.{◌∙◌, arith, refl, sym}
use Rattle.ld_state.specs.StateView.{run_of}
use Rattle.ld_state.proofs.SeenSame.{persons_counted}
use Rattle.ld_settling.proofs.CleanLinks.{clean_linked}
use Rattle.ld_world_tests.proofs.sites.go_joined.Goals as goal

pub tell_persons-requires-clause-told : goal.tell_persons-requires-clause-told
tell_persons-requires-clause-told g c =
    let unit = c.args.unit.now in
    let s = run_of c.args.state.now in (
      s,
      persons_counted c.args.state.now ∙ sym c.persons.ensures,
      c.requires.sound,
      clean_linked unit s c.args.links.now c.requires.clean,
      record {
        seats = refl;
        persons = omega arith;
        slots = λ k there. absurd (omega (arith, there));
        untold = λ k other. refl;
        marks = λ rule owner has. refl;
      },
    )
