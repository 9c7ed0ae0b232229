use Rattle.std.proofs.Common.{Some, ap, refl, sym, subst}
use Rattle.ld_lines.specs.declared.line.Line.TheVariants as line
use Rattle.ld_admission.specs.Refusals.{UnknownRun}
use Rattle.ld_run.specs.RunView.{RunView}
use Rattle.ld_sharing.specs.Current.{IsCurrentAsOf}
use Rattle.ld_sharing.specs.StoreView.{Serves}
use Rattle.ld_state.specs.StateView.{run_of}
use Rattle.ld_world.specs.WorldView.{world_with}
use Rattle.ld_world.proofs.Answering.{asked_run, if_ok, refused_line, unknown_run}
use Rattle.ld_world.proofs.Named.{found_one, no_run, set_one}
use Rattle.ld_world.proofs.Serving.{all_stay_current, runs_alike}
use Rattle.ld_world.proofs.Setting.{keeps_unchanged}
use Rattle.ld_world.proofs.Stamps.{asks, stamps_set, stamps_stay}
use Rattle.ld_world.specs.LineWork.{tells_done}
use Rattle.ld_world.proofs.runs.ask_run.Goals as goal

pub returns-in_default-clause-ok : goal.returns-in_default-clause-ok
returns-in_default-clause-ok g c = λ units.
    let w = world_with units c.args.globals.now c.args.runs.now.entries in
    let none = no_run c.args.name.now c.args.runs.now.entries c.in_default.ensures.value in
    let step = unknown_run w c.args.moment c.args.name.now c.args.command.now none in
    rw c.get_mut.follows.holds-at-none (if_ok c.refuse_line.result c.refuse_line.ensures.refused (λ reply.
    refused_line w (Some (line.OfRun c.args.moment c.args.name.now c.args.command.now)) UnknownRun reply c.refuse_line.new.out.bytes step))

pub apply-requires-clause-serves : goal.apply-requires-clause-serves
apply-requires-clause-serves g c =
    found_one (λ run. Serves c.args.globals.now run.unit) c.args.name.now c.args.runs.now.entries c.in-Some.run'.now c.requires.runs (sym c.in-Some.ensures.value)

pub apply-requires-clause-current : goal.apply-requires-clause-current
apply-requires-clause-current g c =
    found_one (λ run. IsCurrentAsOf run.unit (run_of run.state) run.stamp c.args.globals.now) c.args.name.now c.args.runs.now.entries
    c.in-Some.run'.now c.requires.current (sym c.in-Some.ensures.value)

pub returns-clause-ok : goal.returns-clause-ok
returns-clause-ok g c = λ units.
    let runs = c.args.runs.now.entries in
    let old = c.in-Some.run'.now in
    let found = sym c.in-Some.ensures.value in
    rw (c.get_mut.follows.holds c.apply.new.self).0 (asked_run units c.args.globals.now c.apply.new.globals runs c.args.name.now old c.apply.new.self c.get_mut.ensures.unique found c.apply.ensures.unit c.args.moment c.args.command.now c.apply.result c.apply.new.out.bytes c.apply.ensures.answers)

pub returns-clause-runs : goal.returns-clause-runs
returns-clause-runs g c =
    let runs = c.args.runs.now.entries in
    let old = c.args.globals.now in
    let served = λ (run : RunView). Serves old run.unit in
    let serves = found_one served c.args.name.now runs c.in-Some.run'.now c.requires.runs (sym c.in-Some.ensures.value) in
    rw (c.get_mut.follows.holds c.apply.new.self).0 (runs_alike old c.apply.new.globals _ c.apply.ensures.declared (set_one served c.args.name.now runs c.apply.new.self c.requires.runs (subst (Serves old) (sym c.apply.ensures.unit) serves)))

-- The run itself is current, and the others stay so.
pub returns-clause-current : goal.returns-clause-current
returns-clause-current g c =
    let runs = c.args.runs.now.entries in
    let old = c.args.globals.now in
    let new = c.apply.new.globals in
    let others = all_stay_current old new runs c.apply.ensures.kept c.requires.runs c.requires.current in
    rw (c.get_mut.follows.holds c.apply.new.self).0
    (set_one (λ (run : RunView). IsCurrentAsOf run.unit (run_of run.state) run.stamp new) c.args.name.now runs c.apply.new.self others c.apply.ensures.current)

pub returns-in_default-clause-stamps : goal.returns-in_default-clause-stamps
returns-in_default-clause-stamps g c =
    let asked = Some (line.OfRun c.args.moment c.args.name.now c.args.command.now) in
    rw c.get_mut.follows.holds-at-none (if_ok c.refuse_line.result c.refuse_line.ensures.refused (λ reply told.
    stamps_stay c.args.runs.now.entries asked reply c.args.globals.now.stamp (ap tells_done told.0)))

pub returns-in_default-clause-kept : goal.returns-in_default-clause-kept
returns-in_default-clause-kept g c = keeps_unchanged c.args.globals.now c.args.globals.now refl

pub returns-clause-stamps : goal.returns-clause-stamps
returns-clause-stamps g c =
    rw (c.get_mut.follows.holds c.apply.new.self).0
    (stamps_set c.args.runs.now.entries c.args.moment c.args.name.now c.args.command.now c.in-Some.run'.now c.apply.new.self c.apply.result
    c.apply.new.globals.stamp (sym c.in-Some.ensures.value) c.apply.ensures.stamp)

pub returns-clause-cost : goal.returns-clause-cost
returns-clause-cost g c =
    rw (asks c.args.globals.now c.args.runs.now.entries c.args.moment c.args.name.now c.args.command.now c.in-Some.run'.now (sym c.in-Some.ensures.value))
    c.apply.ensures.cost
