-- How a line that asks the store for something is answered.
use Rattle.std.specs.Prelude.{⊤}
use Rattle.std.proofs.Common.{Bor, IfSome, option_copied, ◌≡◌, ◌≢◌, ℕ, List, [], ◌∷◌, ◌++◌, Option, None, Some, is_some, option_map, option_and_then, Result, Ok, Err, Bool, true, false, not, if◌then◌else◌, refl, sym, ap, ◌∙◌, subst, codes, ok_or, append_assoc}
use Rattle.std.proofs.lemmas.Bool.{and_parts}
use Rattle.ld_lines.specs.declared.line.Line.TheVariants.{GlobalSet, GlobalGet}
use Rattle.ld_model.specs.declared.property.Property.{Property}
use Rattle.ld_model.specs.declared.property.PropertyKind.{PropertyKind}
use Rattle.ld_model.specs.declared.property.PropertyKind.TheVariants as kind
use Rattle.ld_model.specs.declared.unit.Unit.{Unit}
use Rattle.ld_model.specs.Properties.{is_personal}
use Rattle.ld_value.proofs.Laws.{HasText-is_value}
use Rattle.ld_value.specs.Datum.{Datum, datum_of}
use Rattle.ld_value.specs.Values.{HasText, fits_in, is_value, value_of}
use Rattle.ld_value.specs.declared.value.Value.{Value}
use Rattle.ld_value.specs.declared.moment.Moment.{Moment}
use Rattle.ld_globals.specs.Answers.{meaning}
use Rattle.ld_globals.specs.Declarations.{suits}
use Rattle.ld_globals.specs.Store.{IsRefused, IsSet, IsWritable, Key, Store, get_answer, get_declared, key_at, set_answer, set_declared, set_value, value_at, value_in, allowed_value}
use Rattle.ld_globals.specs.declared.faults.GlobalFault.{GlobalFault}
use Rattle.ld_globals.specs.declared.faults.SetFault.{SetFault}
use Rattle.ld_globals.specs.declared.faults.SetFault.TheVariants as setting
use Rattle.ld_base.specs.Maybe.{provided}
use Rattle.ld_expr.specs.Owners.{fits_property}
use Rattle.ld_admission.specs.Checks.{fitting_value}
use Rattle.ld_admission.specs.Refusals.{Refusal, UnknownGlobal, BadValue, NotAllowed, ◌unless_refused◌ as ◌>>=◌, ◌>>◌, refuse_if}
use Rattle.ld_replies.specs.Replies.{printed_value}
use Rattle.ld_run.specs.RunView.{RunView}
use Rattle.ld_sharing.specs.StoreView.{declaration_by, kind_declared, values_of}
use Rattle.ld_state.specs.GlobalValues.{declared_by}
use Rattle.ld_world.specs.Answers.{RepliesTo}
use Rattle.ld_world.specs.GlobalFaults.{refusal_to_get, refusal_to_set}
use Rattle.ld_world.specs.World.{DoneLine, WorldState, get_global, known, put_value, set_global, stored, suits_person, world_step}
use Rattle.ld_world.specs.WorldView.{IsStoreOf, world_with}
use Rattle.ld_run.specs.Reply.{done_alone}
use Rattle.ld_run.specs.declared.reply.Reply.{Reply}
use Rattle.ld_world.proofs.Answering.{IsRefusedBy, done_line, refused_line}
use Rattle.ld_world.proofs.Setting.{put_values}

-- ---- what the store refuses

-- A person suits the property exactly where one suits its declaration.
abbrev allowed : Bool → Result ⊤ Refusal
allowed true = Ok tt
allowed false = Err NotAllowed

suited : (property : Property) (person : Option (List ℕ)) → suits_person property person ≡ allowed (suits (kind_declared property.kind) (is_some person))
suited property person = by property.kind (is_some person)
  where
    by : (k : PropertyKind) (given : Bool) → refuse_if (if is_personal k then not given else given) NotAllowed ≡ allowed (suits (kind_declared k) given)
    by kind.Loc true = refl
    by kind.Loc false = refl
    by kind.LocPers true = refl
    by kind.LocPers false = refl
    by kind.LocRole true = refl
    by kind.LocRole false = refl
    by kind.GlobPers true = refl
    by kind.GlobPers false = refl
    by kind.Glob true = refl
    by kind.Glob false = refl

abbrev set_told : Result Datum SetFault → Result Datum Refusal
set_told (Ok value) = Ok value
set_told (Err fault) = Err (refusal_to_set fault)

abbrev get_told : Result (Option Datum) GlobalFault → Result (Option Datum) Refusal
get_told (Ok value) = Ok value
get_told (Err fault) = Err (refusal_to_get fault)

-- What a line leaves that sets a value, and one that reads one.
abbrev set_there : WorldState → List ℕ → Option (List ℕ) → Datum → Result DoneLine Refusal
set_there w uri person value = Ok (record { deed = stored; world = record w { store = put_value w.store uri person value } })

abbrev got_there : WorldState → Option Datum → Result DoneLine Refusal
got_there w value = Ok (record { deed = known value; world = w })

-- A text that is read as a value of the property is read so as a value of its declaration.
module _ (property : Property) (person : Option (List ℕ)) (text : List ℕ) (next : Datum → Result DoneLine Refusal) where
  abbrev may : Bool
  may = suits (kind_declared property.kind) (is_some person)

  chosen : (value : Datum) (b : Bool) → (allowed b >> next value) ≡ (set_told (set_value b (Some value)) >>= next)
  chosen value true = refl
  chosen value false = refl

  within : (value : Datum) (b : Bool) → (ok_or (provided b value) BadValue >>= λ one. allowed may >> next one)
      ≡ (set_told (set_value may (if b then Some value else None)) >>= next)
  within value true = chosen value may
  within value false = refl

  read_alike : (fitting_value property text >>= λ value. suits_person property person >> next value)
      ≡ (set_told (set_value may (value_in (declaration_by property) text)) >>= next)
  unfolding value_in
  read_alike = rw (suited property person) (by (value_of property.datatype text))
    where
      by : (read : Option Datum) → (ok_or (option_and_then (λ value. provided (fits_property property value) value) read) BadValue >>= λ one. allowed may >> next one)
          ≡ (set_told (set_value may (option_and_then (λ value. if fits_property property value then Some value else None) read)) >>= next)
      by None = refl
      by (Some value) = within value (fits_property property value)

module _ (w : WorldState) (store : Store) (is_of : IsStoreOf w.units store) (uri : List ℕ) (person : Option (List ℕ)) where
  abbrev key : Key
  key = key_at uri person

  set_step : (text : List ℕ) → set_global w uri person text ≡ (set_told (set_answer store key text) >>= set_there w uri person)
  set_step text = rw (is_of uri) (by (declared_by w.units uri))
    where
      by : (found : Option Property) → (ok_or found UnknownGlobal >>= λ property. fitting_value property text >>= λ value. suits_person property person >> set_there w uri person value)
          ≡ (set_told (set_declared (option_map declaration_by found) key text) >>= set_there w uri person)
      by None = refl
      by (Some property) = read_alike property person text (set_there w uri person)

  get_step : w.store uri person ≡ value_at store key → get_global w uri person ≡ (get_told (get_answer store key) >>= got_there w)
  get_step value = rw (is_of uri) (by (declared_by w.units uri))
    where
      allows : (b : Bool) → (allowed b >> got_there w (w.store uri person)) ≡ (get_told (allowed_value b (value_at store key)) >>= got_there w)
      allows true = ap (got_there w) value
      allows false = refl

      by : (found : Option Property) → (ok_or found UnknownGlobal >>= λ property. suits_person property person >> got_there w (w.store uri person))
          ≡ (get_told (get_declared (option_map declaration_by found) store key) >>= got_there w)
      by None = refl
      by (Some property) = rw (suited property person) (allows (suits (kind_declared property.kind) (is_some person)))

-- ---- lines

module _ (units : List Unit) (store : Store) (runs : List (List ℕ × RunView)) (is_of : IsStoreOf units store) (moment : Moment) (uri : List ℕ) (person : Option (List ℕ)) where
  abbrev before : WorldState
  before = world_with units store runs

  pub set_line : (new : Store) (text : List ℕ) (reply : Reply) (out : List ℕ) → IsSet store new (key_at uri person) text
      → reply ≡ done_alone → out ≡ codes "ok global-set" ++ 10 ∷ []
      → RepliesTo before (Some (GlobalSet moment uri person text)) reply out (world_with units new runs)
  unfolding world_step
  set_line new text reply out is replied told =
      let done : DoneLine = record { deed = stored; world = record before { store = put_value (values_of store) uri person is.value } } in
      let step : world_step before (Some (GlobalSet moment uri person text)) ≡ Ok done = set_step before store is_of uri person text ∙ ap (λ r. set_told r >>= set_there before uri person) is.answer in
      let values : put_value (values_of store) uri person is.value ≡ values_of new = sym (put_values store uri person is.value) ∙ ap values_of (sym is.put) in
      let world : done.world ≡ world_with units new runs = λ i. record before { store = values i } in
      subst (RepliesTo before (Some (GlobalSet moment uri person text)) reply out) world
      (done_line before (Some (GlobalSet moment uri person text)) done reply out step replied told)

  pub set_refused : (text : List ℕ) (reply : Reply) (out : List ℕ) (fault : SetFault)
      → IsRefused (set_answer store (key_at uri person) text) fault → fault ≢ setting.NoMemory
      → IsRefusedBy (refusal_to_set fault) reply out
      → RepliesTo before (Some (GlobalSet moment uri person text)) reply out before
  unfolding world_step
  set_refused text reply out fault is other told =
      let step = set_step before store is_of uri person text ∙ ap (λ r. set_told r >>= set_there before uri person) (is other) in
      refused_line before (Some (GlobalSet moment uri person text)) (refusal_to_set fault) reply out step told

  pub get_line : (value : Option Datum) (reply : Reply) (out : List ℕ) → get_answer store (key_at uri person) ≡ Ok value
      → reply ≡ done_alone → out ≡ codes "ok global-get " ++ printed_value value ++ 10 ∷ []
      → RepliesTo before (Some (GlobalGet moment uri person)) reply out before
  unfolding world_step
  get_line value reply out is replied told =
      let done : DoneLine = record { deed = known value; world = before } in
      let step : world_step before (Some (GlobalGet moment uri person)) ≡ Ok done = get_step before store is_of uri person refl ∙ ap (λ r. get_told r >>= got_there before) is in
      done_line before (Some (GlobalGet moment uri person)) done reply out step replied (told ∙ sym (append_assoc (codes "ok global-get ") (printed_value value) (10 ∷ [])))

  pub get_refused : (reply : Reply) (out : List ℕ) (fault : GlobalFault) → get_answer store (key_at uri person) ≡ Err fault
      → IsRefusedBy (refusal_to_get fault) reply out → RepliesTo before (Some (GlobalGet moment uri person)) reply out before
  unfolding world_step
  get_refused reply out fault is told =
      let step = get_step before store is_of uri person refl ∙ ap (λ r. get_told r >>= got_there before) is in
      refused_line before (Some (GlobalGet moment uri person)) (refusal_to_get fault) reply out step told

-- ---- what is told

-- A value that a key may have can be printed.
pub tellable : (store : Store) (k : Key) (value : Option Datum) → IsWritable store k value → IfSome value HasText
unfolding fits_in
tellable store k None is = tt
tellable store k (Some value) is = by is.fitting
  where
    by : fits_in is.declaration.datatype is.declaration.limits value ≡ true → HasText value
    by fits = HasText-is_value is.declaration.datatype value (and_parts (is_value is.declaration.datatype value) _ fits).0

-- A value behind a reference.
pub meant : (value : Option (Bor Value)) → option_map datum_of (option_copied value) ≡ meaning value
meant None = refl
meant (Some value) = refl
