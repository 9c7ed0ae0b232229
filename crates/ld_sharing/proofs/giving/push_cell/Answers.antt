use Rattle.std.proofs.Common.{◌∙◌, ◌++◌, ap, append-nil, arith, get_or, map, option_copied, option_map, sym, List, Option, Some, ℕ}
use Rattle.ld_base.specs.Maybe.{◌>>=◌}
use Rattle.ld_globals.specs.Store.{Key, key_at}
use Rattle.ld_expr.specs.Lookup.{list_from}
use Rattle.ld_expr.specs.Seen.{property_cell}
use Rattle.ld_model.specs.Properties.{is_personal}
use Rattle.ld_state.specs.StateView.{run_of}
use Rattle.ld_state.proofs.Written.{on_ok}
use Rattle.ld_sharing.specs.Changes.{count_of}
use Rattle.ld_sharing.specs.GivenValues.{GivenValue, given_as, given_by, where_other}
use Rattle.ld_sharing.specs.Globals.{store_person}
use Rattle.ld_sharing.specs.StoreView.{values_of}
use Rattle.ld_sharing.proofs.PushedCells.{asked_kind, key_is}
use Rattle.ld_sharing.proofs.TakingKeys.{key_readable, property_here, shared_at}
use Rattle.ld_sharing.proofs.giving.push_cell.Goals as goal

pub returns-in_default-store_person-clause-writes :
    goal.returns-in_default-store_person-clause-writes
returns-in_default-store_person-clause-writes g c =
    let unit = c.args.unit.now in
    let s = run_of c.args.state.now in
    let n = c.args.property.0 in
    let cell = property_cell n c.args.owner in
    let before = map given_by c.args.writes.now.items in
    let property = get_or c.as_slice.result.now n c.index-as_slice-property.result in
    let at = property_here unit c.unit.result.now c.as_slice.result.now n c.index-as_slice-property.result c.unit.ensures.unit c.as_slice.ensures c.requires.there in
    let named = sym c.uri.ensures ∙ ap (option_map (λ uri. uri.now.bytes)) c.in-Some.is in
    let asked = option_map option_copied c.store_person.result in
    let key = key_is unit s.persons n c.args.owner property at c.in-Some.uri.now.bytes named asked
    (c.store_person.ensures ∙ ap (λ b. store_person s.persons b c.args.owner) c.is_personal.ensures)
    ∙ ap (λ (one : Option (Option (List ℕ))). one >>= λ person. Some (key_at c.in-Some.uri.now.bytes person)) (ap (option_map option_copied) c.in_default-store_person.is) in
    let given : Option Key → List GivenValue = λ found. list_from (λ one. where_other (values_of c.args.globals.now) (given_as (s.cells cell) one)) found in
    sym (append-nil before) ∙ ap (λ (found : Option Key). before ++ given found) (sym key)

pub push_value-requires : goal.push_value-requires
push_value-requires g c =
    let unit = c.args.unit.now in
    let s = run_of c.args.state.now in
    let n = c.args.property.0 in
    let cell = property_cell n c.args.owner in
    let before = map given_by c.args.writes.now.items in
    let property = get_or c.as_slice.result.now n c.index-as_slice-property.result in
    let at = property_here unit c.unit.result.now c.as_slice.result.now n c.index-as_slice-property.result c.unit.ensures.unit c.as_slice.ensures c.requires.there in
    let named = sym c.uri.ensures ∙ ap (option_map (λ uri. uri.now.bytes)) c.in-Some.is in
    let uri = c.in-Some.uri.now.bytes in
    let person = option_copied c.in-Some-store_person.person in
    key_readable unit c.args.globals.now n uri (is_personal property.kind)
    (shared_at unit c.args.globals.now n uri c.unit.ensures.valid c.requires.serves named property at) person
    (asked_kind s.persons (is_personal property.kind) c.args.owner person
    (sym (ap (option_map option_copied) c.in-Some-store_person.is) ∙ c.store_person.ensures
    ∙ ap (λ b. store_person s.persons b c.args.owner) c.is_personal.ensures))

pub returns-clause-writes : goal.returns-clause-writes
returns-clause-writes g c =
    let unit = c.args.unit.now in
    let s = run_of c.args.state.now in
    let n = c.args.property.0 in
    let cell = property_cell n c.args.owner in
    let before = map given_by c.args.writes.now.items in
    let property = get_or c.as_slice.result.now n c.index-as_slice-property.result in
    let at = property_here unit c.unit.result.now c.as_slice.result.now n c.index-as_slice-property.result c.unit.ensures.unit c.as_slice.ensures c.requires.there in
    let named = sym c.uri.ensures ∙ ap (option_map (λ uri. uri.now.bytes)) c.in-Some.is in
    let asked = option_map option_copied c.store_person.result in
    let key = key_is unit s.persons n c.args.owner property at c.in-Some.uri.now.bytes named asked
    (c.store_person.ensures ∙ ap (λ b. store_person s.persons b c.args.owner) c.is_personal.ensures)
    ∙ ap (λ (one : Option (Option (List ℕ))). one >>= λ person. Some (key_at c.in-Some.uri.now.bytes person)) (ap (option_map option_copied) c.in-Some-store_person.is) in
    let given : Option Key → List GivenValue = λ found. list_from (λ one. where_other (values_of c.args.globals.now) (given_as (s.cells cell) one)) found in
    on_ok c.push_value.result c.push_value.ensures.writes
    (λ added. added ∙ ap (λ (found : Option Key). before ++ given found) (sym key))

pub returns-clause-cost : goal.returns-clause-cost
returns-clause-cost g c =
    let unit = c.args.unit.now in
    let s = run_of c.args.state.now in
    let n = c.args.property.0 in
    let cell = property_cell n c.args.owner in
    let before = map given_by c.args.writes.now.items in
    let property = get_or c.as_slice.result.now n c.index-as_slice-property.result in
    let at = property_here unit c.unit.result.now c.as_slice.result.now n c.index-as_slice-property.result c.unit.ensures.unit c.as_slice.ensures c.requires.there in
    let named = sym c.uri.ensures ∙ ap (option_map (λ uri. uri.now.bytes)) c.in-Some.is in
    let asked = option_map option_copied c.store_person.result in
    let key = key_is unit s.persons n c.args.owner property at c.in-Some.uri.now.bytes named asked
    (c.store_person.ensures ∙ ap (λ b. store_person s.persons b c.args.owner) c.is_personal.ensures)
    ∙ ap (λ (one : Option (Option (List ℕ))). one >>= λ person. Some (key_at c.in-Some.uri.now.bytes person)) (ap (option_map option_copied) c.in-Some-store_person.is) in
    omega (arith, c.push_value.ensures.cost, ap count_of key)

pub returns-clause-idle : goal.returns-clause-idle
returns-clause-idle g c =
    let unit = c.args.unit.now in
    let s = run_of c.args.state.now in
    let n = c.args.property.0 in
    let cell = property_cell n c.args.owner in
    let before = map given_by c.args.writes.now.items in
    let property = get_or c.as_slice.result.now n c.index-as_slice-property.result in
    let at = property_here unit c.unit.result.now c.as_slice.result.now n c.index-as_slice-property.result c.unit.ensures.unit c.as_slice.ensures c.requires.there in
    let named = sym c.uri.ensures ∙ ap (option_map (λ uri. uri.now.bytes)) c.in-Some.is in
    let asked = option_map option_copied c.store_person.result in
    let key = key_is unit s.persons n c.args.owner property at c.in-Some.uri.now.bytes named asked
    (c.store_person.ensures ∙ ap (λ b. store_person s.persons b c.args.owner) c.is_personal.ensures)
    ∙ ap (λ (one : Option (Option (List ℕ))). one >>= λ person. Some (key_at c.in-Some.uri.now.bytes person)) (ap (option_map option_copied) c.in-Some-store_person.is) in
    let given : Option Key → List GivenValue = λ found. list_from (λ one. where_other (values_of c.args.globals.now) (given_as (s.cells cell) one)) found in
    λ none. c.push_value.ensures.idle (sym (ap given key) ∙ none)
