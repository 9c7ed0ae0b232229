use Rattle.std.proofs.Common.{IfOk, Some, map, subst}
use Rattle.ld_lines.specs.declared.line.Line.TheVariants as line
use Rattle.ld_world.specs.Answers.{RepliesTo}
use Rattle.ld_world.specs.WorldView.{world_of, world_with}
use Rattle.ld_world.proofs.Serving.{all_stay_current, runs_alike, serves_alike, store_alike}
use Rattle.ld_world.proofs.world.World.do_line.Goals as goal

pub invariant_of-self : goal.invariant_of-self
invariant_of-self g c =
    let s = c.self.inside in
    let units = map (λ unit. unit.value) s.units.items in (
      store_alike s.globals c.set_global.new.globals units c.set_global.ensures.declared c.self.invariant.0,
      serves_alike s.globals c.set_global.new.globals units c.set_global.ensures.declared c.self.invariant.1,
      runs_alike s.globals c.set_global.new.globals s.runs.entries c.set_global.ensures.declared c.self.invariant.2,
      all_stay_current s.globals c.set_global.new.globals s.runs.entries c.set_global.ensures.kept c.self.invariant.2 c.self.invariant.3,
    )

pub returns-in-GlobalSet-clause-ok : goal.returns-in-GlobalSet-clause-ok
returns-in-GlobalSet-clause-ok g c =
    let s = c.self.inside in
    let units = map (λ unit. unit.value) s.units.items in
    let asked = c.in-GlobalSet in
    let new = world_with units c.set_global.new.globals s.runs.entries in
    let told = c.set_global.ensures.ok units s.runs.entries asked.moment c.self.invariant.0 in
    let mine = subst (λ person. IfOk c.set_global.result (λ reply. RepliesTo (world_with units s.globals s.runs.entries)
    (Some (line.GlobalSet asked.moment asked.uri person asked.value)) reply c.set_global.new.out.bytes new)) c.as_ref.ensures.value told in
    rw asked.is (subst (λ w. IfOk c.set_global.result (λ reply. RepliesTo (world_of w)
    (Some (line.GlobalSet asked.moment asked.uri asked.person asked.value)) reply c.set_global.new.out.bytes new)) c.self.view_is mine)

pub returns-in-GlobalGet-clause-ok : goal.returns-in-GlobalGet-clause-ok
returns-in-GlobalGet-clause-ok g c =
    let s = c.self-in-GlobalGet.inside in
    let units = map (λ unit. unit.value) s.units.items in
    let asked = c.in-GlobalGet in
    let same = world_with units s.globals s.runs.entries in
    let told = c.get_global.ensures.ok units s.runs.entries asked.moment c.self-in-GlobalGet.invariant.0 in
    let mine = subst (λ person. IfOk c.get_global.result (λ reply. RepliesTo same
    (Some (line.GlobalGet asked.moment asked.uri person)) reply c.get_global.new.out.bytes same)) c.as_ref-in-GlobalGet.ensures.value told in
    rw asked.is (subst (λ w. IfOk c.get_global.result (λ reply. RepliesTo (world_of w)
    (Some (line.GlobalGet asked.moment asked.uri asked.person)) reply c.get_global.new.out.bytes (world_of w))) c.self-in-GlobalGet.view_is mine)
