use Rattle.std.proofs.Common.{◌∙◌, None, ap, arith, pos, refl, subst, sym}
use Rattle.ld_cells.specs.Stored.{cells_of}
use Rattle.ld_model.specs.declared.unit.Unit.{Unit}
use Rattle.ld_roles.specs.declared.limit.TheConstants.{SEATS}
use Rattle.ld_firing.specs.RunSystem.{IsSoundRun}
use Rattle.ld_sharing.specs.Fitting.{HasFittingGlobals}
use Rattle.ld_sharing.specs.StoreView.{values_of}
use Rattle.ld_state.specs.Beginnings.{stored_for}
use Rattle.ld_state.specs.RunState.{made_at}
use Rattle.ld_value.proofs.Laws.{IsMoment-from}
use Rattle.ld_run.proofs.FittingRuns.{made_fits}
use Rattle.ld_run.proofs.SoundRuns.{made_is_sound}
use Rattle.ld_run.proofs.StepStages.{on_each}
use Rattle.ld_world_tests.proofs.begun.begin.Goals as goal

pub returns-clause-sound : goal.returns-clause-sound
returns-clause-sound g c =
    let unit = c.args.unit.now in
    let store = values_of c.args.globals.now in
    let stored = ap cells_of c.deref.ensures.value ∙ c.in_ok-stored.ensures.values
    ∙ ap (λ (unit : Unit). stored_for store None unit.properties) (sym c.beginnings.ensures.unit) in
    on_each c.new.result (c.new.ensures.run store stored) (λ state is.
    subst (IsSoundRun unit) (sym (is ∙ ap (λ (u : Unit). made_at SEATS u store (pos 5)) c.beginnings.ensures.unit))
    (made_is_sound unit SEATS store (pos 5) c.unit-unit.ensures.valid (omega arith) (IsMoment-from (pos 5) refl) c.in_ok-stored.ensures.fitting))

pub returns-clause-fitting : goal.returns-clause-fitting
returns-clause-fitting g c =
    let unit = c.args.unit.now in
    let store = values_of c.args.globals.now in
    let stored = ap cells_of c.deref.ensures.value ∙ c.in_ok-stored.ensures.values
    ∙ ap (λ (unit : Unit). stored_for store None unit.properties) (sym c.beginnings.ensures.unit) in
    on_each c.new.result (c.new.ensures.run store stored) (λ state is.
    subst (HasFittingGlobals unit) (sym (is ∙ ap (λ (u : Unit). made_at SEATS u store (pos 5)) c.beginnings.ensures.unit))
    (made_fits unit SEATS store (pos 5) c.in_ok-stored.ensures.fitting))
