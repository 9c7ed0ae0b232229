-- That the values which differ are those that the store has to be given, and that it may take each.
use Rattle.std.proofs.Common.{◌≡◌, refl, sym, ap, ap₂, subst, ◌∙◌, ℕ, ◌-◌, ◌≤◌, List, [], ◌∷◌, inl, inr, length, map, fold, slice_get, option_map, Option, Some, None, true, not, ◌||◌, arith}
use Rattle.std.proofs.lemmas.List.{length-map}
use Rattle.std.specs.List.{AllByRecursion}
use Rattle.ld_globals.specs.Declarations.{fits_declared}
use Rattle.ld_globals.specs.Store.{IsWritable, Store, key_at, put_in, spend}
use Rattle.ld_value.specs.Datum.{Datum, datum_of}
use Rattle.ld_model.specs.declared.cell.Owner.{Owner}
use Rattle.ld_model.specs.declared.property.Property.{Property}
use Rattle.ld_model.specs.declared.unit.Unit.{Unit}
use Rattle.ld_expr.specs.Lookup.{is_some_and}
use Rattle.ld_expr.specs.Owners.{fits_property, is_global}
use Rattle.ld_expr.specs.Seen.{property_cell}
use Rattle.ld_firing.specs.RunSystem.{IsSoundRun}
use Rattle.ld_state.specs.RunState.{RunState}
use Rattle.ld_state.proofs.Elements.{IsIn, some_same}
use Rattle.ld_sharing.specs.Changes.{IsGivenBut}
use Rattle.ld_sharing.specs.Fitting.{HasFittingGlobals, fits_cell}
use Rattle.ld_sharing.specs.GivenValues.{GivenValue, given_by, other_values}
use Rattle.ld_sharing.specs.Globals.{giving_back}
use Rattle.ld_sharing.specs.Readable.{is_person}
use Rattle.ld_sharing.specs.StoreView.{Serves, declaration_by, values_of}
use Rattle.ld_sharing.specs.Writes.{AreWritesOf, IsWritableTo, written_by}
use Rattle.ld_sharing.specs.declared.giving.Write.{Write}
use Rattle.ld_sharing.proofs.GivingKeys.{IsOther, all_given, each_other, with_given, writes_given}
use Rattle.ld_sharing.proofs.GivingStores.{put_declared, put_spare, values_put, writable_still}
use Rattle.ld_sharing.proofs.KeyCells.{key_cell}
use Rattle.ld_sharing.proofs.KeysOfCells.{key_asked}
use Rattle.ld_sharing.proofs.TakingKeys.{key_readable}

-- ---- what the store may take

module _ (unit : Unit) (s : RunState) (store : Store) (slots : List ℕ) (sound : IsSoundRun unit s) (serves : Serves store unit)
    (fitting : HasFittingGlobals unit s) where
  value_fits : (n : ℕ) (property : Property) (owner : Owner) (value : Option Datum)
      → slice_get unit.properties n ≡ Some property → is_global property.kind ≡ true
      → fits_cell unit (property_cell n owner) value ≡ true → fits_declared (declaration_by property) value ≡ true
  value_fits n property owner None at global fits = refl
  value_fits n property owner (Some value) at global fits =
      sym (ap (λ b. not b || fits_property property value) global)
      ∙ sym (ap (is_some_and (λ one. not (is_global one.kind) || fits_property one value)) at)
      ∙ fits

  writable_value : (one : GivenValue) → IsOther unit s (values_of store) one
      → IsWritable store (key_at one.uri one.person) one.value
  writable_value one it =
      let k = key_cell unit sound.valid store serves s.persons one.uri one.person it.cell it.cell_is in
      let readable = key_readable unit store k.number one.uri (is_person k.owner) k.shared one.person (key_asked s.persons one.person k.owner k.asked) in
      let same : readable.declaration ≡ declaration_by k.shared.property = some_same (sym readable.declared ∙ k.shared.declared) in
      record {
        declaration = readable.declaration;
        declared = readable.declared;
        suited = readable.suited;
        fitting =
            ap (λ d. fits_declared d one.value) same
            ∙ value_fits k.number k.shared.property k.owner one.value k.shared.at k.shared.global
            (ap₂ (fits_cell unit) (sym k.cell_is) (sym it.value_is) ∙ fitting it.cell);
      }

  all_writable : (new : Store) → new.declared ≡ store.declared → (writes : List Write)
      → ((one : GivenValue) → IsIn (map given_by writes) one → IsWritable store (key_at one.uri one.person) one.value)
      → AllByRecursion (IsWritableTo new) writes
  all_writable new same [] each = tt
  all_writable new same (write ∷ writes) each = (
    writable_still store new same (key_at write.uri.now.bytes write.person) (option_map datum_of write.value) (each (given_by write) (inl refl)),
    all_writable new same writes (λ one inside. each one (inr inside)),
  )

  -- ---- the writes

  pub are_writes : IsGivenBut unit s store slots → (new : Store) (writes : List Write) → values_of new ≡ values_of store
      → new.declared ≡ store.declared → length writes ≤ new.spare
      → map given_by writes ≡ other_values (values_of store) unit s slots → AreWritesOf unit s new writes
  are_writes others new writes same declared room listed = record {
    room = room;
    writable = all_writable new declared writes
        (λ one inside. writable_value one (each_other unit s store slots sound serves one (subst (λ given. IsIn given one) listed inside)));
    given =
        ap (λ values. fold written_by values writes) same
        ∙ writes_given (values_of store) writes
        ∙ ap (fold with_given (values_of store)) listed
        ∙ all_given unit s store slots sound serves others
        ∙ ap (giving_back unit s) (sym same);
  }

pub no_writes : (writes : List Write) → map given_by writes ≡ [] → length writes ≡ 0
no_writes writes none = omega (arith, length-map writes given_by, ap length none)

-- ---- one write after another

module _ (store new : Store) (write : Write)
    (put : new ≡ spend (put_in store (key_at write.uri.now.bytes write.person) (option_map datum_of write.value))) where
  abbrev key_value : Option Datum
  key_value = option_map datum_of write.value

  pub put_values : values_of new ≡ written_by (values_of store) write
  put_values = ap values_of put ∙ values_put store (key_at write.uri.now.bytes write.person) key_value

  pub put_keeps_declared : new.declared ≡ store.declared
  put_keeps_declared = ap (λ t. t.declared) put ∙ put_declared store (key_at write.uri.now.bytes write.person) key_value

  pub put_takes_room : new.spare ≡ store.spare - 1
  put_takes_room =
      ap (λ t. t.spare) put ∙ ap (λ n. n - 1) (put_spare store (key_at write.uri.now.bytes write.person) key_value)

  pub put_leaves_writable : (writes : List Write) → AllByRecursion (IsWritableTo store) writes
      → AllByRecursion (IsWritableTo new) writes
  put_leaves_writable [] all = tt
  put_leaves_writable (one ∷ more) all = (
    writable_still store new put_keeps_declared (key_at one.uri.now.bytes one.person) (option_map datum_of one.value) all.0,
    put_leaves_writable more all.1,
  )
