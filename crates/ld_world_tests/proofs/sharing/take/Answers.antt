use Rattle.std.proofs.Common.{ℕ, subst, sym}
use Rattle.ld_sharing.specs.Current.{IsCurrentAsOf}
use Rattle.ld_state.specs.StateView.{run_of}
use Rattle.ld_sharing.proofs.Currents.{stays_current}
use Rattle.ld_world_tests.proofs.sharing.take.Goals as goal

pub take_in-requires-clause-serves : goal.take_in-requires-clause-serves
take_in-requires-clause-serves g c = c.in_ok-set.ensures.serves c.args.unit.now c.requires.serves

pub take_in-requires-clause-current : goal.take_in-requires-clause-current
take_in-requires-clause-current g c =
    let old = c.args.globals.now in
    let s = run_of c.args.state.now in
    subst (λ (stamp : ℕ). IsCurrentAsOf c.args.unit.now s stamp c.set.new.globals) (sym c.stamp-stamp.ensures)
    (stays_current c.args.unit.now s old.stamp old c.set.new.globals c.requires.serves c.in_ok-set.ensures.kept c.requires.current)
