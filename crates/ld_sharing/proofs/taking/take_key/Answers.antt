use Rattle.std.proofs.Common.{◌∙◌, ap, option_copied, option_map, subst, sym}
use Rattle.std.proofs.lemmas.List.{length-map}
use Rattle.ld_expr.specs.Lookup.{is_some_and}
use Rattle.ld_expr.specs.Seen.{property_cell}
use Rattle.ld_globals.specs.Answers.{key_given}
use Rattle.ld_model.specs.Cells.{same_cell}
use Rattle.ld_roles.specs.Kept.{person_of, persons_of}
use Rattle.ld_state.specs.StateView.{run_of}
use Rattle.ld_state.proofs.Written.{on_ok}
use Rattle.ld_sharing.specs.Readable.{IsOwnerAmong}
use Rattle.ld_sharing.specs.StoreView.{values_of}
use Rattle.ld_sharing.specs.Taken.{is_cell_of_key}
use Rattle.ld_sharing.proofs.KeyCells.{among_found, shared_found}
use Rattle.ld_sharing.proofs.TakingCells.{taken_alike}
use Rattle.ld_sharing.proofs.taking.take_key.Goals as goal

pub take_value-requires-clause-shared : goal.take_value-requires-clause-shared
take_value-requires-clause-shared g c =
    shared_found c.args.unit.now c.requires.valid c.args.globals.now c.requires.serves (persons_of c.args.state.now.rows)
    c.args.uri.now.bytes (option_copied c.args.person) c.in-Some.found.0.0 c.in-Some.found.1
    (sym c.in_ok-found.ensures ∙ ap (option_map (λ one. property_cell one.0.0 one.1)) c.in-Some.is)

pub take_value-requires-clause-owner : goal.take_value-requires-clause-owner
take_value-requires-clause-owner g c =
    let rows = c.args.state.now.rows in
    subst (λ count. IsOwnerAmong count c.in-Some.found.1) (length-map rows person_of)
    (among_found c.args.unit.now c.requires.valid c.args.globals.now c.requires.serves (persons_of rows)
    c.args.uri.now.bytes (option_copied c.args.person) c.in-Some.found.0.0 c.in-Some.found.1
    (sym c.in_ok-found.ensures ∙ ap (option_map (λ one. property_cell one.0.0 one.1)) c.in-Some.is))

pub returns-clause-taken : goal.returns-clause-taken
returns-clause-taken g c =
    let unit = c.args.unit.now in
    let s = run_of c.args.state.now in
    let t = run_of c.take_value.new.state in
    let cell = property_cell c.in-Some.found.0.0 c.in-Some.found.1 in
    let key = key_given c.args.uri.now c.args.person in
    let found = sym c.in_ok-found.ensures ∙ ap (option_map (λ one. property_cell one.0.0 one.1)) c.in-Some.is in
    on_ok c.take_value.result c.take_value.ensures.taken (λ taken.
    taken_alike unit (values_of c.args.globals.now) (is_cell_of_key unit s.persons key) (λ one. same_cell one cell) s t taken
    (λ one said. ap (is_some_and (same_cell one)) found))
