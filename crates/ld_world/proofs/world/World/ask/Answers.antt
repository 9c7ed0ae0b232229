use Rattle.std.proofs.Common.{map}
use Rattle.ld_world.proofs.Serving.{serves_alike, store_alike}
use Rattle.ld_world.proofs.world.World.ask.Goals as goal

pub invariant_of-self : goal.invariant_of-self
invariant_of-self g c =
    let s = c.self.inside in
    let units = map (λ unit. unit.value) s.units.items in (
      store_alike s.globals c.ask_run.new.globals units c.ask_run.ensures.declared c.self.invariant.0,
      serves_alike s.globals c.ask_run.new.globals units c.ask_run.ensures.declared c.self.invariant.1,
      c.ask_run.ensures.runs,
      c.ask_run.ensures.current,
    )
