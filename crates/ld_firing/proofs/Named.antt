-- What identifiers name, and that a run has the cells which are looked at by name.
use Rattle.std.proofs.Common.{◌≡◌, refl, sym, ap, subst, ◌∙◌, ℕ, ◌<◌, inl, inr, List, [], ◌∷◌, map, slice_get, Option, Some, None, Bool, true, false, arith}
use Rattle.std.proofs.lemmas.Option.{slice_get-map}
use Rattle.std.specs.Option.{option_map, option_and_then, option_map_or}
use Rattle.ld_base.specs.Maybe.{◌>>=◌}
use Rattle.ld_model.specs.Counting.{number_where}
use Rattle.ld_model.specs.Properties.{is_personal}
use Rattle.ld_model.specs.declared.cell.CellName.{CellName}
use Rattle.ld_model.specs.declared.cell.Owner.{Owner}
use Rattle.ld_model.specs.declared.cell.Owner.TheVariants.{Run}
use Rattle.ld_model.specs.declared.property.Property.{Property}
use Rattle.ld_model.specs.declared.unit.Unit.{Unit}
use Rattle.ld_walk.specs.declared.place.Place.{Place}
use Rattle.ld_walk.specs.declared.place.Place.TheVariants.{Play, Act, RolePart, Activity, Structure, Environment, Object, Service, Item}
use Rattle.ld_model.specs.declared.property.PropertyKind.{PropertyKind}
use Rattle.ld_model.specs.declared.property.PropertyKind.TheVariants.{Loc, LocPers, LocRole, GlobPers, Glob}
use Rattle.ld_names.specs.Holders.{holder_by_kind, holder_of, is_held_by_persons}
use Rattle.ld_names.specs.declared.holder.Holder.{Holder}
use Rattle.ld_names.specs.declared.holder.Holder.TheVariants.{Run as HeldByRun, Persons as HeldByPersons}
use Rattle.ld_names.specs.declared.names.Named.{Named}
use Rattle.ld_names.specs.declared.names.Named.TheVariants.{Role, Thing, Prop, Unit as Whole}
use Rattle.ld_names.specs.declared.rule.Rule.{Rule}
use Rattle.ld_names.specs.declared.rule.Rule.TheVariants.{CompletesActivity, CompletesStructure, OpensAct, CompletesPart, CompletesAct, CompletesPlay, CompletesUnit, JudgesCondition}
use Rattle.ld_names.specs.declared.rule.RuleKind.{RuleKind}
use Rattle.ld_names.specs.declared.rule.RuleKind.TheVariants.{Person as OfPerson, Run as OfRun}
use Rattle.ld_names.specs.Names.{number_at, names_of, named_by, rule_among, rule_named, thing_among, thing_number, role_number}
use Rattle.ld_names.specs.Rules.{same_rule, rules_of, completing_rule, kind_of, is_for_persons}
use Rattle.ld_names.specs.Things.{Entry, things_of}
use Rattle.ld_expr.specs.Done.{mark_for, marked_owner}
use Rattle.ld_expr.specs.Looks.{done_looks, member_looks, members_looks}
use Rattle.ld_expr.specs.Lookup.{list_from, property_among, completing_number}
use Rattle.ld_expr.specs.Owners.{of_person, mark_owner, value_owner}
use Rattle.ld_expr.specs.Seen.{Seen, everyone, property_cell, member_cell, mark_cell}
use Rattle.ld_expr.specs.Terms.{cell_of_property}
use Rattle.ld_types.specs.Types.{property_at, property_named, is_person's}
use Rattle.ld_state.specs.RunCells.{all_cells}
use Rattle.ld_state.proofs.Elements.{IsIn, is_below, from_map, none_is_some, different}
use Rattle.ld_firing.proofs.Found.{found_by}
use Rattle.ld_firing.proofs.CellsThere.{AreCells, one_is_cell, value_there, mark_there, member_there, roster_there}
use Rattle.ld_rules.specs.SiteLooks.{cell_list}
use Rattle.ld_rules.proofs.RoleNumbers.{role_below}
use Rattle.ld_firing.proofs.Sites.{IsOwner, a_person, the_run}

-- The identifier names what stands at the place.
pub record IsThing (unit : Unit) (id : List ℕ) (place : Place) : Type 0 where
  pub number : ℕ
  pub named : named_by (names_of unit) id ≡ Some (Thing (record { 0 = number }))
  pub entry : Entry
  pub at : slice_get (things_of unit) number ≡ Some entry
  pub placed : entry.place ≡ place

pub thing_number_is : (unit : Unit) (id : List ℕ) (place : Place) (thing : IsThing unit id place)
    → thing_number unit id ≡ Some thing.number
thing_number_is unit id place thing = ap thing_among thing.named

-- ---- rules that complete what is named

same_kind : (a b : Rule) → same_rule a b ≡ true → kind_of a ≡ kind_of b
same_kind (CompletesActivity _) (CompletesActivity _) is = refl
same_kind (CompletesStructure _) (CompletesStructure _) is = refl
same_kind (OpensAct _ _) (OpensAct _ _) is = refl
same_kind (CompletesPart _ _ _) (CompletesPart _ _ _) is = refl
same_kind (CompletesAct _ _) (CompletesAct _ _) is = refl
same_kind (CompletesPlay _) (CompletesPlay _) is = refl
same_kind CompletesUnit CompletesUnit is = refl
same_kind (JudgesCondition _) (JudgesCondition _) is = refl
same_kind _ _ is = absurd (cc)

-- The rule of this number, and that it is one of this kind.
pub record HasRule (unit : Unit) (n : ℕ) (kind : RuleKind) : Type 0 where
  pub rule : Rule
  pub at : slice_get (rules_of unit) n ≡ Some rule
  pub is : kind_of rule ≡ kind

rule_there : (unit : Unit) (rule : Rule) (n : ℕ) → number_where (same_rule rule) (rules_of unit) ≡ Some n
    → HasRule unit n (kind_of rule)
rule_there unit rule n found =
    let by = found_by (same_rule rule) (rules_of unit) 0 n found in
    let same : by.number ≡ n = omega (arith, by.sum) in
    record { rule = by.element; at = ap (slice_get (rules_of unit)) (sym same) ∙ by.at; is = sym (same_kind rule by.element by.passes) }

-- A rule of some kind.
pub record HasSomeRule (unit : Unit) (n : ℕ) : Type 0 where
  pub kind : RuleKind
  pub has : HasRule unit n kind

some_rule : {unit : Unit} {n : ℕ} → (kind : RuleKind) → HasRule unit n kind → HasSomeRule unit n
some_rule kind has = record { kind = kind; has = has }

rule_at_place : (unit : Unit) (place : Place) (n : ℕ) → number_at (rules_of unit) place ≡ Some n
    → HasSomeRule unit n
rule_at_place unit place n is = by (completing_rule place) is
  where
    by : (rule : Option Rule)
        → option_and_then (λ one. number_where (same_rule one) (rules_of unit)) rule ≡ Some n
        → HasSomeRule unit n
    by None is = none_is_some is
    by (Some rule) is = some_rule (kind_of rule) (rule_there unit rule n is)

pub rules_by_thing : (unit : Unit) (t : ℕ)
    → rule_among (names_of unit).completing t ≡ option_and_then (λ rule. rule) (option_map (λ (entry : Entry). number_at (rules_of unit) entry.place) (slice_get (things_of unit) t))
rules_by_thing unit t =
    ap (option_and_then (λ rule. rule)) (slice_get-map (λ (entry : Entry). number_at (rules_of unit) entry.place)
    (things_of unit) t)

pub completing_rule_there : (unit : Unit) (id : List ℕ) (n : ℕ) → completing_number unit id ≡ Some n
    → HasSomeRule unit n
completing_rule_there unit id n is = by (named_by (names_of unit) id) is
  where
    of_entry : (entry : Option Entry)
        → option_and_then (λ rule. rule) (option_map (λ (one : Entry). number_at (rules_of unit) one.place) entry) ≡ Some n
        → HasSomeRule unit n
    of_entry None is = none_is_some is
    of_entry (Some entry) is = rule_at_place unit entry.place n is

    by : (named : Option Named) → (named >>= rule_named (names_of unit)) ≡ Some n → HasSomeRule unit n
    by None is = none_is_some is
    by (Some Whole) is = some_rule OfRun (rule_there unit CompletesUnit n is)
    by (Some (Role _)) is = none_is_some is
    by (Some (Prop _)) is = none_is_some is
    by (Some (Thing t)) is = of_entry (slice_get (things_of unit) t.0) (sym (rules_by_thing unit t.0) ∙ is)

-- What is done once for the run: an act, a play, a role-part.
abbrev pub is_run_place : Place → Bool
is_run_place (Play _) = true
is_run_place (Act _ _) = true
is_run_place (RolePart _ _ _) = true
is_run_place (Activity _) = false
is_run_place (Structure _) = false
is_run_place (Environment _) = false
is_run_place (Object _ _) = false
is_run_place (Service _ _) = false
is_run_place Item = false

run_rule_at : (unit : Unit) (place : Place) (n : ℕ) → is_run_place place ≡ true
    → number_at (rules_of unit) place ≡ Some n → HasRule unit n OfRun
run_rule_at unit (Play p) n run is = rule_there unit (CompletesPlay p) n is
run_rule_at unit (Act p a) n run is = rule_there unit (CompletesAct p a) n is
run_rule_at unit (RolePart p a r) n run is = rule_there unit (CompletesPart p a r) n is
run_rule_at unit _ n run is = different (sym run)

completing_is : (unit : Unit) (id : List ℕ) (place : Place) → IsThing unit id place
    → completing_number unit id ≡ number_at (rules_of unit) place
completing_is unit id place thing =
    ap (λ named. named >>= rule_named (names_of unit)) thing.named
    ∙ rules_by_thing unit thing.number
    ∙ ap (λ (entry : Option Entry). option_and_then (λ rule. rule)
    (option_map (λ (one : Entry). number_at (rules_of unit) one.place) entry)) thing.at
    ∙ ap (number_at (rules_of unit)) thing.placed

-- ---- cells looked at by name

-- Where one of the persons speaks, the run has whose mark of a rule is meant, and whose value of a property.
mark_owner_there : (persons p : ℕ) (kind : RuleKind) → p < persons
    → IsOwner persons (is_for_persons kind) (mark_owner kind (of_person p))
mark_owner_there persons p OfPerson below = a_person p below
mark_owner_there persons p OfRun below = the_run

pub value_owner_there : (persons p : ℕ) (holder : Holder) → p < persons
    → IsOwner persons (is_held_by_persons holder) (value_owner holder (of_person p))
value_owner_there persons p HeldByPersons below = a_person p below
value_owner_there persons p HeldByRun below = the_run

mark_for_there : (unit : Unit) (persons n : ℕ) (owner : Owner) (kind : RuleKind) (has : HasRule unit n kind)
    → IsOwner persons (is_for_persons kind) (mark_owner kind owner) → IsIn (all_cells unit persons) (mark_for unit owner n)
mark_for_there unit persons n owner kind has owned =
    let is : marked_owner (rules_of unit) n owner ≡ mark_owner kind owner =
    ap (λ rule. option_map_or (λ one. mark_owner (kind_of one) owner) rule Run) has.at
    ∙ ap (λ one. mark_owner one owner) has.is in
    subst (λ one. IsIn (all_cells unit persons) (mark_cell n one)) (sym is)
    (mark_there unit persons n has.rule (mark_owner kind owner) has.at (is_for_persons kind) (ap is_for_persons has.is) owned)

-- All cells that a number gives, if there is one.
pub cells_of_number : (unit : Unit) (persons : ℕ) (cells : ℕ → List CellName) (number : Option ℕ)
    → ((n : ℕ) → number ≡ Some n → AreCells unit persons (cells n))
    → AreCells unit persons (list_from cells number)
cells_of_number unit persons cells None each c inside = absurd inside
cells_of_number unit persons cells (Some n) each c inside = each n refl c inside

pub done_there : (unit : Unit) (seen : Seen) (p : ℕ) (id : List ℕ) → p < seen.persons
    → AreCells unit seen.persons (done_looks unit seen (of_person p) id)
done_there unit seen p id below =
    cells_of_number unit seen.persons (λ n. mark_for unit (of_person p) n ∷ []) (completing_number unit id)
    (λ n is. let some = completing_rule_there unit id n is in
    one_is_cell unit seen.persons (mark_for unit (of_person p) n)
    (mark_for_there unit seen.persons n (of_person p) some.kind some.has (mark_owner_there seen.persons p some.kind below)))

pub run_done_there : (unit : Unit) (seen : Seen) (id : List ℕ) (place : Place) → IsThing unit id place
    → is_run_place place ≡ true → AreCells unit seen.persons (done_looks unit seen Run id)
run_done_there unit seen id place thing run =
    cells_of_number unit seen.persons (λ n. mark_for unit Run n ∷ []) (completing_number unit id)
    (λ n is. one_is_cell unit seen.persons (mark_for unit Run n)
    (mark_for_there unit seen.persons n Run OfRun
    (run_rule_at unit place n run (sym (completing_is unit id place thing) ∙ is)) the_run))

-- ---- roles

pub member_looks_there : (unit : Unit) (seen : Seen) (p : ℕ) (role : List ℕ) → p < seen.persons
    → AreCells unit seen.persons (member_looks unit seen (of_person p) role)
member_looks_there unit seen p role below =
    cells_of_number unit seen.persons (λ r. member_cell r p ∷ []) (role_number unit role)
    (λ r is. one_is_cell unit seen.persons (member_cell r p)
    (member_there unit seen.persons r p (role_below unit role r is) below))

pub members_looks_there : (unit : Unit) (seen : Seen) (role : List ℕ)
    → AreCells unit seen.persons (members_looks unit seen role)
members_looks_there unit seen role c (inl is) =
    subst (λ name. IsIn (all_cells unit seen.persons) name) is (roster_there unit seen.persons)
members_looks_there unit seen role c (inr later) =
    cells_of_number unit seen.persons (λ r. map (member_cell r) (everyone seen)) (role_number unit role)
    (λ r is d inside. let by = from_map (member_cell r) (everyone seen) d inside in
    subst (λ name. IsIn (all_cells unit seen.persons) name) by.is
    (member_there unit seen.persons r by.element (role_below unit role r is) (is_below seen.persons by.element by.inside)))
    c later

-- ---- properties

-- The run has whose value of the property is meant where the owner speaks.
abbrev Owns : Unit → ℕ → Owner → Property → Type 0
Owns unit persons owner one = IsOwner persons (is_held_by_persons (holder_of unit one)) (value_owner (holder_of unit one) owner)

value_looks_there : (unit : Unit) (persons : ℕ) (owner : Owner) (n : ℕ) (property : Option Property)
    → slice_get unit.properties n ≡ property → ((one : Property) → property ≡ Some one → Owns unit persons owner one)
    → AreCells unit persons (cell_list (property >>= λ one. Some (property_cell n (value_owner (holder_of unit one) owner))))
value_looks_there unit persons owner n None at owned c inside = absurd inside
value_looks_there unit persons owner n (Some one) at owned c inside =
    one_is_cell unit persons (property_cell n (value_owner (holder_of unit one) owner))
    (value_there unit persons n one (value_owner (holder_of unit one) owner) at (is_held_by_persons (holder_of unit one)) refl (owned one refl))
    c inside

-- A property that is named where a person speaks, or where the run does of a property that is no person's.
property_looks_by : (unit : Unit) (persons : ℕ) (owner : Owner) (id : List ℕ)
    → ((one : Property) → property_named unit (names_of unit) id ≡ Some one → Owns unit persons owner one)
    → AreCells unit persons (cell_list (cell_of_property unit owner id))
property_looks_by unit persons owner id owned = by (named_by (names_of unit) id) owned
  where
    by : (named : Option Named)
        → ((one : Property) → (named >>= property_at unit) ≡ Some one → Owns unit persons owner one)
        → AreCells unit persons (cell_list ((named >>= property_among) >>= λ n. slice_get unit.properties n >>= λ one. Some (property_cell n (value_owner (holder_of unit one) owner))))
    by None owned c inside = absurd inside
    by (Some Whole) owned c inside = absurd inside
    by (Some (Role _)) owned c inside = absurd inside
    by (Some (Thing _)) owned c inside = absurd inside
    by (Some (Prop p)) owned c inside =
        value_looks_there unit persons owner p.0 (slice_get unit.properties p.0) refl owned c inside

pub property_looks_there : (unit : Unit) (persons p : ℕ) (id : List ℕ) → p < persons
    → AreCells unit persons (cell_list (cell_of_property unit (of_person p) id))
property_looks_there unit persons p id below =
    property_looks_by unit persons (of_person p) id (λ one is. value_owner_there persons p (holder_of unit one) below)

-- Who has values follows from the kind of the property.
pub held_as : (kind : PropertyKind) → is_held_by_persons (holder_by_kind kind) ≡ is_personal kind
held_as Loc = refl
held_as LocPers = refl
held_as LocRole = refl
held_as GlobPers = refl
held_as Glob = refl

pub run_property_looks_there : (unit : Unit) (persons : ℕ) (id : List ℕ)
    → is_person's (property_named unit (names_of unit) id) ≡ false
    → AreCells unit persons (cell_list (cell_of_property unit Run id))
run_property_looks_there unit persons id run =
    property_looks_by unit persons Run id
    (λ one is. by (holder_of unit one) (held_as one.kind ∙ ap is_person's (sym is) ∙ run))
  where
    by : (holder : Holder) → is_held_by_persons holder ≡ false
        → IsOwner persons (is_held_by_persons holder) (value_owner holder Run)
    by HeldByPersons is = different is
    by HeldByRun is = the_run
