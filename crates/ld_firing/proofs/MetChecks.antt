-- What checks of references leave: each names what it should. Parts of a unit in which no check finds a fault.
use Rattle.std.proofs.Common.{◌≡◌, refl, sym, ap, subst, ◌∙◌, ℕ, inl, inr, List, [], ◌++◌, map, slice_get, Option, Some, None, Bool, true, false, codes}
use Rattle.std.proofs.lemmas.Option.{slice_get-map}
use Rattle.std.specs.Option.{option_map}
use Rattle.ld_base.specs.Maybe.{◌>>=◌}
use Rattle.ld_json.specs.declared.code.Code.TheVariants.{BadType}
use Rattle.ld_json.specs.declared.file.FileNo.TheVariants as file
use Rattle.ld_model.specs.declared.activity.Activity.{Activity as ActivityOf}
use Rattle.ld_model.specs.declared.condition.Condition.{Condition}
use Rattle.ld_model.specs.declared.method.Act.{Act as ActOf}
use Rattle.ld_model.specs.declared.method.Play.{Play as PlayOf}
use Rattle.ld_model.specs.declared.unit.Unit.{Unit}
use Rattle.ld_model.specs.Counting.{each_numbered}
use Rattle.ld_model.specs.Roles.{roles_of}
use Rattle.ld_walk.specs.CommonParts.{items_parts}
use Rattle.ld_walk.specs.Parts.{Declares, Types, OfRun, Part}
use Rattle.ld_walk.specs.Places.{At, root, nth}
use Rattle.ld_walk.specs.Kinds.{allows}
use Rattle.ld_walk.specs.declared.kind.Kind.{Kind}
use Rattle.ld_walk.specs.declared.kind.Kind.TheVariants as kind
use Rattle.ld_walk.specs.declared.kind.Wanted.{Wanted}
use Rattle.ld_walk.specs.declared.kind.Wanted.TheVariants as wanted
use Rattle.ld_walk.specs.declared.place.Place.{Place}
use Rattle.ld_walk.specs.declared.place.Place.TheVariants.{Play, RolePart, Activity}
use Rattle.ld_parts.specs.Listing.{role_part, property_parts, environment_parts, activity_parts, condition_parts, act_parts, play_parts, play_parts_at, method_at, method_parts, unit_parts, middle_parts, parts_of}
use Rattle.ld_names.specs.declared.names.Named.{Named}
use Rattle.ld_names.specs.declared.names.Named.TheVariants.{Role, Thing, Prop, Unit as Whole}
use Rattle.ld_names.specs.Identifiers.{HasDistinctIdentifiers}
use Rattle.ld_names.specs.Names.{names_of, named_by, thing_among, thing_number}
use Rattle.ld_names.specs.Things.{Entry, thing_in, things_of}
use Rattle.ld_names.proofs.NameLaws.{thing_named}
use Rattle.ld_types.specs.Types.{property_named, is_person's}
use Rattle.ld_types.specs.Typing.{types_in}
use Rattle.ld_types.specs.Faults.{fault_if}
use Rattle.ld_refs.specs.Targets.{kind_at, kind_by, code_unless, target_code, code_fault, target_fault, targets_in}
use Rattle.ld_state.specs.RunCells.{is_activity_place}
use Rattle.ld_state.proofs.Elements.{IsIn, in_left, in_right, in_flat_map, in_each, stands_in, none_is_some, some_same, different}
use Rattle.ld_firing.proofs.Named.{IsThing, is_run_place}

-- No check of references or of types finds a fault in the part.
pub record IsMet (unit : Unit) (part : Part) : Type 0 where
  pub targets : targets_in (names_of unit) part.at part.what ≡ []
  pub types : types_in (property_named unit (names_of unit)) part.at part.what ≡ []

abbrev pub AreMet : Unit → List Part → Type 0
AreMet unit parts = (part : Part) → IsIn parts part → IsMet unit part

pub met_left : (unit : Unit) (xs ys : List Part) → AreMet unit (xs ++ ys) → AreMet unit xs
met_left unit xs ys met part inside = met part (in_left xs ys part inside)

pub met_right : (unit : Unit) (xs ys : List Part) → AreMet unit (xs ++ ys) → AreMet unit ys
met_right unit xs ys met part inside = met part (in_right xs ys part inside)

-- What is true of a unit in which no check finds a fault.
pub record MeetsChecks (unit : Unit) : Type 0 where
  pub distinct : HasDistinctIdentifiers unit
  pub met : AreMet unit (parts_of unit)

-- ---- references

-- The identifier names something of a kind that this reference may name.
pub record IsAllowed (unit : Unit) (wanted : Wanted) (id : List ℕ) : Type 0 where
  pub kind : Kind
  pub is : kind_by (names_of unit) id ≡ Some kind
  pub allowed : allows wanted kind ≡ true

pub allowed_by : (unit : Unit) (wanted : Wanted) (at : At) (id : List ℕ)
    → target_fault (names_of unit) wanted at id ≡ [] → IsAllowed unit wanted id
allowed_by unit wanted at id none = by (kind_by (names_of unit) id) refl none
  where
    of_kind : (found : Kind) → kind_by (names_of unit) id ≡ Some found → (fits : Bool)
        → allows wanted found ≡ fits → code_fault at (code_unless fits) ≡ [] → IsAllowed unit wanted id
    of_kind found is true fits none = record { kind = found; is = is; allowed = fits }
    of_kind found is false fits none = absurd (cc)

    by : (found : Option Kind) → kind_by (names_of unit) id ≡ found
        → code_fault at (target_code wanted found) ≡ [] → IsAllowed unit wanted id
    by None is none = absurd (cc)
    by (Some found) is none = of_kind found is (allows wanted found) refl none

same_place : {a b : Place} → kind.Thing a ≡ kind.Thing b → a ≡ b
same_place p = cc

pub thing_of_kind : (unit : Unit) (id : List ℕ) (place : Place)
    → kind_by (names_of unit) id ≡ Some (kind.Thing place) → IsThing unit id place
thing_of_kind unit id place is = by (named_by (names_of unit) id) refl is
  where
    of_entry : (t : ℕ) → named_by (names_of unit) id ≡ Some (Thing (record { 0 = t })) → (entry : Option Entry)
        → slice_get (things_of unit) t ≡ entry
        → option_map kind.Thing (option_map (λ (one : Entry). one.place) entry) ≡ Some (kind.Thing place)
        → IsThing unit id place
    of_entry t named None at is = none_is_some is
    of_entry t named (Some entry) at is = record { number = t; named = named; entry = entry; at = at; placed = same_place (some_same is) }

    by : (named : Option Named) → named_by (names_of unit) id ≡ named
        → (named >>= kind_at (names_of unit)) ≡ Some (kind.Thing place) → IsThing unit id place
    by None named is = none_is_some is
    by (Some Whole) named is = absurd (cc)
    by (Some (Role _)) named is = absurd (cc)
    by (Some (Prop _)) named is = absurd (cc)
    by (Some (Thing t)) named is =
        of_entry t.0 named (slice_get (things_of unit) t.0) refl
        (sym (ap (option_map kind.Thing) (slice_get-map (λ (one : Entry). one.place) (things_of unit) t.0)) ∙ is)

-- A thing at a place that passes a test.
pub record NamesSuch (unit : Unit) (test : Place → Bool) (id : List ℕ) : Type 0 where
  pub place : Place
  pub thing : IsThing unit id place
  pub such : test place ≡ true

pub activity_allowed : (unit : Unit) (id : List ℕ) → IsAllowed unit wanted.Activity id
    → NamesSuch unit is_activity_place id
activity_allowed unit id allowed = by allowed.kind allowed.is allowed.allowed
  where
    by : (k : Kind) → kind_by (names_of unit) id ≡ Some k → allows wanted.Activity k ≡ true
        → NamesSuch unit is_activity_place id
    by (kind.Thing (Activity a)) is fits = record { place = Activity a; thing = thing_of_kind unit id (Activity a) is; such = refl }
    by _ is fits = different (sym fits)

pub play_allowed : (unit : Unit) (id : List ℕ) → IsAllowed unit wanted.Play id
    → NamesSuch unit is_run_place id
play_allowed unit id allowed = by allowed.kind allowed.is allowed.allowed
  where
    by : (k : Kind) → kind_by (names_of unit) id ≡ Some k → allows wanted.Play k ≡ true
        → NamesSuch unit is_run_place id
    by (kind.Thing (Play p)) is fits = record { place = Play p; thing = thing_of_kind unit id (Play p) is; such = refl }
    by _ is fits = different (sym fits)

pub part_allowed : (unit : Unit) (p a : ℕ) (id : List ℕ) → IsAllowed unit (wanted.PartOf p a) id
    → NamesSuch unit is_run_place id
part_allowed unit p a id allowed = by allowed.kind allowed.is allowed.allowed
  where
    by : (k : Kind) → kind_by (names_of unit) id ≡ Some k → allows (wanted.PartOf p a) k ≡ true
        → NamesSuch unit is_run_place id
    by (kind.Thing (RolePart q b r)) is fits = record { place = RolePart q b r; thing = thing_of_kind unit id (RolePart q b r) is; such = refl }
    by _ is fits = different (sym fits)

-- ---- what is declared

named_thing : (unit : Unit) (id : List ℕ) (t : ℕ) → thing_number unit id ≡ Some t
    → named_by (names_of unit) id ≡ Some (Thing (record { 0 = t }))
named_thing unit id t is = by (named_by (names_of unit) id) is
  where
    by : (named : Option Named) → thing_among named ≡ Some t → named ≡ Some (Thing (record { 0 = t }))
    by None is = none_is_some is
    by (Some Whole) is = none_is_some is
    by (Some (Role _)) is = none_is_some is
    by (Some (Prop _)) is = none_is_some is
    by (Some (Thing n)) is = ap (λ m. Some (Thing (record { 0 = m }))) (some_same is)

-- Where identifiers differ, each thing's own names it.
pub declared_thing : (unit : Unit) → HasDistinctIdentifiers unit
    → (part : Part) (place : Place) (id : List ℕ) (visible : Option Bool)
    → part.what ≡ Declares (kind.Thing place) id visible → IsIn (parts_of unit) part → IsThing unit id place
declared_thing unit distinct part place id visible is inside =
    let entry : Entry = record { identifier = id; place = place; visible = visible } in
    let listed : IsIn (thing_in part.what) entry = subst (λ what. IsIn (thing_in what) entry) (sym is) (inl refl) in
    let by = stands_in (things_of unit) entry (in_flat_map (λ one. thing_in one.what) (parts_of unit) part entry inside listed) in
    record { number = by.number; named = named_thing unit id by.number (thing_named unit by.number entry distinct by.at); entry = entry; at = by.at; placed = refl }

-- ---- where the parts of an object stand in the list

pub activity_listed : (unit : Unit) (n : ℕ) (activity : ActivityOf) (part : Part)
    → slice_get unit.activities n ≡ Some activity → IsIn (activity_parts (root file.Activities) n activity) part
    → IsIn (parts_of unit) part
unfolding parts_of middle_parts
activity_listed unit n activity part at inside =
    in_right (map (role_part (root file.Roles)) (roles_of unit)) _ part
    (in_left (middle_parts unit) _ part
    (in_right (each_numbered (property_parts (root file.Properties)) unit.properties) _ part
    (in_right (each_numbered (environment_parts (root file.Environments)) unit.environments) _ part
    (in_left (each_numbered (activity_parts (root file.Activities)) unit.activities) _ part
    (in_each (activity_parts (root file.Activities)) unit.activities n activity part at inside)))))

pub condition_listed : (unit : Unit) (n : ℕ) (condition : Condition) (part : Part)
    → slice_get unit.conditions n ≡ Some condition
    → IsIn (condition_parts (root file.Conditions) n condition) part → IsIn (parts_of unit) part
unfolding parts_of
condition_listed unit n condition part at inside =
    in_right (map (role_part (root file.Roles)) (roles_of unit)) _ part
    (in_right (middle_parts unit) _ part
    (in_right (unit_parts unit) _ part
    (in_each (condition_parts (root file.Conditions)) unit.conditions n condition part at inside)))

pub method_listed : (unit : Unit) (part : Part) → IsIn (method_parts unit.method) part
    → IsIn (parts_of unit) part
unfolding parts_of unit_parts
method_listed unit part inside =
    in_right (map (role_part (root file.Roles)) (roles_of unit)) _ part
    (in_right (middle_parts unit) _ part
    (in_left (unit_parts unit) _ part
    (inr (in_right (items_parts (root file.Unit) (codes "learning-objectives") unit.learning_objectives) _ part
    (in_right (items_parts (root file.Unit) (codes "prerequisites") unit.prerequisites)
    (method_parts unit.method) part inside)))))

pub play_listed : (unit : Unit) (p : ℕ) (play : PlayOf) (part : Part)
    → slice_get unit.method.plays p ≡ Some play → IsIn (play_parts method_at p play) part
    → IsIn (parts_of unit) part
unfolding method_parts
play_listed unit p play part at inside =
    method_listed unit part
    (in_left (each_numbered (play_parts method_at) unit.method.plays) _ part
    (in_each (play_parts method_at) unit.method.plays p play part at inside))

pub act_listed : (unit : Unit) (p a : ℕ) (play : PlayOf) (act : ActOf) (part : Part)
    → slice_get unit.method.plays p ≡ Some play → slice_get play.acts a ≡ Some act
    → IsIn (act_parts (nth method_at (codes "plays") p) p a act) part → IsIn (parts_of unit) part
unfolding play_parts_at
act_listed unit p a play act part at within inside =
    play_listed unit p play part at
    (inr (in_left (each_numbered (act_parts (nth method_at (codes "plays") p) p) play.acts) _ part
    (in_each (act_parts (nth method_at (codes "plays") p) p) play.acts a act part within inside)))

-- ---- types

pub of_run : (unit : Unit) (at : At) (id : List ℕ)
    → types_in (property_named unit (names_of unit)) at (Types (OfRun id)) ≡ []
    → is_person's (property_named unit (names_of unit) id) ≡ false
of_run unit at id none = by (is_person's (property_named unit (names_of unit) id)) none
  where
    by : (own : Bool) → fault_if own BadType at ≡ [] → own ≡ false
    by true none = absurd (cc)
    by false none = refl
