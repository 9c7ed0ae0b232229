-- That a run is current as it is made, and once its moment is kept.
use Rattle.std.proofs.Common.{◌≡◌, ◌∙◌, refl, sym, ap, ℕ, ℤ, List, [], Option, Some, None, true, false, if◌then◌else◌, arith}
use Rattle.ld_base.specs.Maybe.{◌>>=◌}
use Rattle.ld_globals.specs.Store.{Store, key_at, value_at}
use Rattle.ld_value.specs.Datum.{same_truth}
use Rattle.ld_model.specs.Properties.{initial_of, is_personal}
use Rattle.ld_model.specs.declared.cell.Owner.{Owner}
use Rattle.ld_model.specs.declared.cell.Owner.TheVariants.{Run, Person}
use Rattle.ld_model.specs.declared.property.Property.{Property}
use Rattle.ld_model.specs.declared.property.PropertyKind.{PropertyKind}
use Rattle.ld_model.specs.declared.property.PropertyKind.TheVariants.{Loc, LocPers, LocRole, GlobPers, Glob}
use Rattle.ld_model.specs.declared.unit.Unit.{Unit}
use Rattle.ld_names.specs.Holders.{holder_by_kind, holder_of, is_held_by_run}
use Rattle.ld_refs.specs.Checks.{IsValid}
use Rattle.ld_expr.specs.Lookup.{is_some_and}
use Rattle.ld_expr.specs.Seen.{property_cell}
use Rattle.ld_state.specs.GlobalValues.{GlobalValues}
use Rattle.ld_state.specs.RunCells.{begins_as, property_begins, stored_value}
use Rattle.ld_state.specs.RunState.{RunState, made_at}
use Rattle.ld_state.proofs.Elements.{none_is_some, some_same}
use Rattle.ld_sharing.specs.Current.{IsCurrentAsOf}
use Rattle.ld_sharing.specs.Globals.{store_person}
use Rattle.ld_sharing.specs.Readable.{IsShared, is_person}
use Rattle.ld_sharing.specs.StoreView.{Serves, values_of}
use Rattle.ld_sharing.proofs.KeyCells.{key_cell}
use Rattle.ld_run.specs.RunStep.{at_moment}

-- A property that is not one of persons is held by the run.
held_by_run : (kind : PropertyKind) → is_personal kind ≡ false → is_held_by_run (holder_by_kind kind) ≡ true
held_by_run Loc own = refl
held_by_run LocPers own = sym own
held_by_run LocRole own = refl
held_by_run GlobPers own = sym own
held_by_run Glob own = refl

module _ (unit : Unit) (valid : IsValid unit) (store : Store) (serves : Serves store unit) (moment : ℤ) where
  abbrev values : GlobalValues
  values = values_of store

  module _ (seats : ℕ) where
    abbrev made : RunState
    made = made_at seats unit values moment

    -- Its value of a property that all runs share is the store's.
    made_value : (n : ℕ) (uri : List ℕ) → IsShared unit store n uri false
        → made.cells (property_cell n Run) ≡ value_at store (key_at uri None)
    unfolding begins_as
    made_value n uri shared =
        let one = shared.property in
        ap (λ (found : Option Property). if is_some_and (λ property. is_held_by_run (holder_of unit property)) found then found >>= property_begins values None else None) shared.at
        ∙ ap (λ b. if b then property_begins values None one else None) (held_by_run one.kind shared.personal_is)
        ∙ ap (λ b. if b then stored_value values None one else initial_of one) shared.global
        ∙ ap (λ b. if same_truth b false then (one.uri >>= λ u. values u None) else None) shared.personal_is
        ∙ ap (λ (o : Option (List ℕ)). o >>= λ u. values u None) shared.named

    made_value_of : (n : ℕ) (owner : Owner) (uri : List ℕ) (person : Option (List ℕ)) → IsShared unit store n uri (is_person owner)
        → store_person [] (is_person owner) owner ≡ Some person
        → made.cells (property_cell n owner) ≡ value_at store (key_at uri person)
    made_value_of n Run uri person shared asked =
        made_value n uri shared ∙ ap (λ one. value_at store (key_at uri one)) (some_same asked)
    made_value_of n (Person p) uri person shared asked = none_is_some asked

    pub made_current : IsCurrentAsOf unit made store.stamp store
    made_current = record {
      passed = omega arith;
      values = λ uri person cell is not_since.
          let k = key_cell unit valid store serves [] uri person cell is in
          ap made.cells k.cell_is ∙ made_value_of k.number k.owner uri person k.shared k.asked;
    }

  -- The moment is no value of the store.
  pub dated_current : (s : RunState) (stamp : ℕ) → IsCurrentAsOf unit s stamp store → IsCurrentAsOf unit (at_moment s moment) stamp store
  dated_current s stamp current = record {
    passed = current.passed;
    values = λ uri person cell is not_since.
        let k = key_cell unit valid store serves s.persons uri person cell is in
        ap (at_moment s moment).cells k.cell_is ∙ sym (ap s.cells k.cell_is) ∙ current.values uri person cell is not_since;
  }
