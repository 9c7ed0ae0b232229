use Rattle.std.proofs.Common.{◌++◌, Some, map, codes, sym, ap, ◌∙◌, subst}
use Rattle.std.specs.Str.{bytes_eq}
use Rattle.indexmap.proofs.CallerLemmas.{insert_entry-new}
use Rattle.ld_lines.specs.declared.line.Line.TheVariants as line
use Rattle.ld_roles.specs.declared.limit.TheConstants.{SEATS}
use Rattle.ld_admission.specs.Refusals.{RunExists, UnknownUnit}
use Rattle.ld_run.specs.Reply.{done_alone}
use Rattle.ld_sharing.specs.Current.{IsCurrentAsOf}
use Rattle.ld_sharing.specs.StoreView.{Serves, values_of}
use Rattle.ld_state.specs.RunState.{made_at}
use Rattle.ld_state.specs.StateView.{run_of}
use Rattle.ld_world.specs.WorldView.{AreCurrent, ServesRuns, world_with}
use Rattle.ld_world.proofs.Answering.{made_run, if_ok, refused_line, run_exists, unknown_unit}
use Rattle.ld_world.proofs.Named.{all_found, all_with, is_there, none_there}
use Rattle.ld_world.proofs.Stamps.{making, stamps_stay, stamps_with}
use Rattle.ld_world.specs.LineWork.{StampsAfter, tells_done}
use Rattle.ld_world.proofs.runs.make_run.Goals as goal

pub returns-in_default-clause-ok : goal.returns-in_default-clause-ok
returns-in_default-clause-ok g c =
    let w = world_with (map (λ unit. unit.value) c.args.units.now) c.args.globals.now c.args.runs.now.entries in
    let step = unknown_unit w c.args.moment c.args.name c.args.unit.now (sym c.in_default.ensures) in
    if_ok c.refuse_line.result c.refuse_line.ensures.refused (λ reply.
    refused_line w (Some (line.Create c.args.moment c.args.name c.args.unit.now)) UnknownUnit reply c.refuse_line.new.out.bytes step)

pub returns-then-contains_key-clause-ok : goal.returns-then-contains_key-clause-ok
returns-then-contains_key-clause-ok g c =
    let w = world_with (map (λ unit. unit.value) c.args.units.now) c.args.globals.now c.args.runs.now.entries in
    let there = is_there c.args.name c.args.runs.now.entries ∙ sym c.contains_key.ensures ∙ c.if-contains_key.true in
    let step = run_exists w c.args.moment c.args.name c.args.unit.now c.in-Some.unit.now.value (sym c.in-Some.ensures) there in
    if_ok c.refuse_line-then-contains_key.result c.refuse_line-then-contains_key.ensures.refused (λ reply.
    refused_line w (Some (line.Create c.args.moment c.args.name c.args.unit.now)) RunExists reply c.refuse_line-then-contains_key.new.out.bytes step)

pub new-requires-clause-serves : goal.new-requires-clause-serves
new-requires-clause-serves g c =
    let units = map (λ unit. unit.value) c.args.units.now in
    let serves = all_found (Serves c.args.globals.now) (λ unit. bytes_eq unit.identifier c.args.unit.now) units c.in-Some.unit.now.value c.requires.units (sym c.in-Some.ensures) in
    subst (Serves c.args.globals.now) (sym c.in_ok-clone.ensures.cases) serves

pub returns-clause-ok : goal.returns-clause-ok
returns-clause-ok g c =
    let units = map (λ unit. unit.value) c.args.units.now in
    let store = c.args.globals.now in
    let fresh = sym c.contains_key.ensures ∙ c.if-contains_key.false in
    let same = c.in_ok-clone.ensures.cases in
    let state = c.in_ok-run.ensures.state ∙ ap (λ unit. made_at SEATS unit (values_of store) c.args.moment.0) same in
    let behind = c.in_ok-insert.ensures.entries ∙ insert_entry-new bytes_eq c.args.runs.now c.args.name c.in_ok-run.run' (none_there _ fresh) in
    let told = c.in_ok-push.ensures.ok ∙ ap (λ bytes. bytes ++ codes "ok create\n") c.clear.ensures.empty in
    made_run units store c.args.runs.now.entries c.insert.new.self.entries c.args.moment c.args.name c.args.unit.now c.in-Some.unit.now.value c.in_ok-run.run' c.done_alone.result c.push.new.self.bytes (sym c.in-Some.ensures) fresh (c.in_ok-run.ensures.unit ∙ same) state behind c.done_alone.ensures told

pub returns-clause-runs : goal.returns-clause-runs
returns-clause-runs g c =
    let units = map (λ unit. unit.value) c.args.units.now in
    let store = c.args.globals.now in
    let fresh = sym c.contains_key.ensures ∙ c.if-contains_key.false in
    let serves = all_found (Serves store) (λ unit. bytes_eq unit.identifier c.args.unit.now) units c.in-Some.unit.now.value c.requires.units (sym c.in-Some.ensures) in
    let behind = c.in_ok-insert.ensures.entries ∙ insert_entry-new bytes_eq c.args.runs.now c.args.name c.in_ok-run.run' (none_there _ fresh) in
    let own = subst (Serves store) (sym (c.in_ok-run.ensures.unit ∙ c.in_ok-clone.ensures.cases)) serves in
    subst (ServesRuns store) (sym behind) (all_with (λ entry. Serves store entry.1.unit) c.args.runs.now.entries (c.args.name, c.in_ok-run.run') c.requires.runs own)

pub returns-clause-current : goal.returns-clause-current
returns-clause-current g c =
    let store = c.args.globals.now in
    let fresh = sym c.contains_key.ensures ∙ c.if-contains_key.false in
    let behind = c.in_ok-insert.ensures.entries ∙ insert_entry-new bytes_eq c.args.runs.now c.args.name c.in_ok-run.run' (none_there _ fresh) in
    subst (AreCurrent store) (sym behind) (all_with (λ entry. IsCurrentAsOf entry.1.unit (run_of entry.1.state) entry.1.stamp store) c.args.runs.now.entries (c.args.name, c.in_ok-run.run') c.requires.current c.in_ok-run.ensures.current)

pub returns-in_default-clause-stamps : goal.returns-in_default-clause-stamps
returns-in_default-clause-stamps g c =
    let asked = Some (line.Create c.args.moment c.args.name c.args.unit.now) in
    if_ok c.refuse_line.result c.refuse_line.ensures.refused (λ reply told.
    stamps_stay c.args.runs.now.entries asked reply c.args.globals.now.stamp (ap tells_done told.0))

pub returns-then-contains_key-clause-stamps : goal.returns-then-contains_key-clause-stamps
returns-then-contains_key-clause-stamps g c =
    let asked = Some (line.Create c.args.moment c.args.name c.args.unit.now) in
    if_ok c.refuse_line-then-contains_key.result c.refuse_line-then-contains_key.ensures.refused (λ reply told.
    stamps_stay c.args.runs.now.entries asked reply c.args.globals.now.stamp (ap tells_done told.0))

pub returns-clause-stamps : goal.returns-clause-stamps
returns-clause-stamps g c =
    let store = c.args.globals.now in
    let runs = c.args.runs.now.entries in
    let asked = Some (line.Create c.args.moment c.args.name c.args.unit.now) in
    let fresh = none_there _ (sym c.contains_key.ensures ∙ c.if-contains_key.false) in
    let behind = c.in_ok-insert.ensures.entries ∙ insert_entry-new bytes_eq c.args.runs.now c.args.name c.in_ok-run.run' fresh in
    rw c.done_alone.ensures (subst (StampsAfter runs asked done_alone store.stamp) (sym behind)
    (stamps_with runs c.args.name c.in_ok-run.run' store.stamp fresh c.in_ok-run.ensures.stamp))

pub returns-in_err-run-clause-cost : goal.returns-in_err-run-clause-cost
returns-in_err-run-clause-cost g c =
    making (map (λ unit. unit.value) c.args.units.now) c.args.unit.now c.in-Some.unit.now.value c.in_ok-clone.field-0.value c.args.steps.now c.new.new.steps
    (sym c.in-Some.ensures) c.in_ok-clone.ensures.cases c.new.ensures.cost

pub returns-in_err-push-clause-cost : goal.returns-in_err-push-clause-cost
returns-in_err-push-clause-cost g c =
    making (map (λ unit. unit.value) c.args.units.now) c.args.unit.now c.in-Some.unit.now.value c.in_ok-clone.field-0.value c.args.steps.now c.new.new.steps
    (sym c.in-Some.ensures) c.in_ok-clone.ensures.cases c.new.ensures.cost

pub returns-in_err-insert-clause-cost : goal.returns-in_err-insert-clause-cost
returns-in_err-insert-clause-cost g c =
    making (map (λ unit. unit.value) c.args.units.now) c.args.unit.now c.in-Some.unit.now.value c.in_ok-clone.field-0.value c.args.steps.now c.new.new.steps
    (sym c.in-Some.ensures) c.in_ok-clone.ensures.cases c.new.ensures.cost

pub returns-clause-cost : goal.returns-clause-cost
returns-clause-cost g c =
    making (map (λ unit. unit.value) c.args.units.now) c.args.unit.now c.in-Some.unit.now.value c.in_ok-clone.field-0.value c.args.steps.now c.new.new.steps
    (sym c.in-Some.ensures) c.in_ok-clone.ensures.cases c.new.ensures.cost
