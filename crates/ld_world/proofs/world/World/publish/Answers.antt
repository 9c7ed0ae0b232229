use Rattle.std.proofs.Common.{◌≡◌, ◌∙◌, ◌++◌, ◌∷◌, [], map, sym, ap, subst}
use Rattle.std.proofs.lemmas.Result.{err_from_is_err_and}
use Rattle.ld_globals.specs.Store.{declare_in}
use Rattle.ld_json.specs.Fault.{SaysFirst}
use Rattle.ld_json.proofs.First.{says_later}
use Rattle.ld_sharing.specs.StoreView.{Serves}
use Rattle.ld_world.specs.Declaring.{pairs_by}
use Rattle.ld_world.specs.Published.{differing, faults_beside, repeats_unit}
use Rattle.ld_world.specs.World.{first_world}
use Rattle.ld_world.specs.WorldView.{world_of}
use Rattle.ld_world.proofs.Serving.{all_stay_current}
use Rattle.ld_world.proofs.NewUnit.{new_world, still_all, still_runs, still_store_of, units_behind}
use Rattle.ld_world.proofs.world.World.publish.Goals as goal

pub returns-in_err-declare_uris-clause-refused : goal.returns-in_err-declare_uris-clause-refused
returns-in_err-declare_uris-clause-refused c =
    let s = c.self.inside in
    let unit = c.args.unit.unit in
    let units = map (λ one. one.value) s.units.items in
    let own = c.deref-2.ensures ∙ c.in_ok-shared.ensures.ok ∙ c.in_ok-prepared.ensures in
    let failed = err_from_is_err_and c.from_residual-in_err-declare_uris.result c.from_residual-in_err-declare_uris.ensures.1 in
    let error = c.in_err-declare_uris.field-0.0 in
    let told = subst (λ one. SaysFirst (differing units 0 one.properties) error) own (c.in_err-declare_uris.ensures.first units c.self.invariant.0) in
    let none : repeats_unit units unit ≡ [] =
    ap (λ xs. repeats_unit (map (λ one. one.value) xs) unit) (sym c.deref.ensures.value) ∙ ap (repeats_unit (map (λ one. one.value) c.deref.result.now)) (sym c.unit.ensures.unit) ∙ c.in_ok-check_identifier.ensures.faultless in
    let later = says_later (repeats_unit units unit) (differing units 0 unit.properties) error none told in
    rw (failed.1, failed.2) (subst (λ w. SaysFirst (faults_beside w.units unit) error) c.self.view_is later)

pub invariant_of-self-2 : goal.invariant_of-self-2
invariant_of-self-2 c =
    let s = c.self.inside in
    let unit = c.args.unit.unit in
    let units = map (λ one. one.value) s.units.items in
    let more = map (λ one. one.value) c.push.new.self.items in
    let whose = c.in_ok-shared.ensures.ok ∙ c.in_ok-prepared.ensures in
    let own = c.deref-2.ensures ∙ whose in
    let behind = units_behind (λ one. one.value) s.units.items c.push.new.self.items c.in_ok-shared.shared unit (c.in-Ok.ensures.items ∙ ap (λ xs. xs ++ c.in_ok-shared.shared ∷ []) c.in_ok-reserve.ensures.items) whose in
    let declares = c.in_ok-declare_uris.ensures.ok ∙ ap (λ one. declare_in s.globals (pairs_by one.properties)) own in
    let serves = subst (Serves c.declare_uris.new.globals) own c.in_ok-declare_uris.ensures.serves in (
      still_store_of units more s.globals c.declare_uris.new.globals unit behind declares c.self.invariant.0,
      still_all units more s.globals c.declare_uris.new.globals unit behind declares c.self.invariant.1 serves,
      still_runs units more s.globals c.declare_uris.new.globals unit behind declares s.runs.entries c.self.invariant.2,
      all_stay_current s.globals c.declare_uris.new.globals s.runs.entries c.in_ok-declare_uris.ensures.kept c.self.invariant.2 c.self.invariant.3,
    )

pub returns-clause-ok : goal.returns-clause-ok
returns-clause-ok c =
    let s = c.self.inside in
    let unit = c.args.unit.unit in
    let units = map (λ one. one.value) s.units.items in
    let more = map (λ one. one.value) c.push.new.self.items in
    let whose = c.in_ok-shared.ensures.ok ∙ c.in_ok-prepared.ensures in
    let behind = units_behind (λ one. one.value) s.units.items c.push.new.self.items c.in_ok-shared.shared unit (c.in-Ok.ensures.items ∙ ap (λ xs. xs ++ c.in_ok-shared.shared ∷ []) c.in_ok-reserve.ensures.items) whose in
    let declares = c.in_ok-declare_uris.ensures.ok ∙ ap (λ one. declare_in s.globals (pairs_by one.properties)) (c.deref-2.ensures ∙ whose) in
    let first = subst (λ w. world_of w ≡ first_world w.units) (sym c.self.view_is) c.requires.first in
    new_world units more s.globals c.declare_uris.new.globals unit behind declares s.runs.entries c.self.invariant.0 c.in_ok-declare_uris.ensures.unwritten first
    ∙ ap (λ w. first_world (w.units ++ unit ∷ [])) c.self.view_is
