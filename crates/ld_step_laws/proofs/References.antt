-- That in a valid unit what a tree follows names what it should, and that nothing reaches itself.
use Rattle.std.proofs.Common.{◌≡◌, refl, sym, ap, subst, ◌∙◌, ℕ, inl, inr, List, [], ◌∷◌, ◌++◌, map, slice_get, Option, Some, None, true, codes}
use Rattle.ld_base.specs.Maybe.{◌>>=◌}
use Rattle.ld_json.specs.declared.file.FileNo.{FileNo}
use Rattle.ld_json.specs.declared.file.FileNo.TheVariants as file
use Rattle.ld_model.specs.Counting.{each_numbered}
use Rattle.ld_model.specs.Roles.{roles_of}
use Rattle.ld_model.specs.declared.activity.Activity.{Activity as ActivityOf}
use Rattle.ld_model.specs.declared.activity.Structure.{Structure as StructureOf}
use Rattle.ld_model.specs.declared.environment.Environment.{Environment as EnvironmentOf}
use Rattle.ld_model.specs.declared.method.Act.{Act as ActOf}
use Rattle.ld_model.specs.declared.method.Play.{Play as PlayOf}
use Rattle.ld_model.specs.declared.method.RolePart.{RolePart as RolePartOf}
use Rattle.ld_model.specs.declared.unit.Unit.{Unit}
use Rattle.ld_walk.specs.CommonParts.{items_parts, reference_part, references_parts}
use Rattle.ld_walk.specs.Kinds.{allows}
use Rattle.ld_walk.specs.Parts.{Part}
use Rattle.ld_walk.specs.Places.{At, item_at, member, nth, root}
use Rattle.ld_walk.specs.declared.kind.Kind.{Kind}
use Rattle.ld_walk.specs.declared.kind.Kind.TheVariants as kind
use Rattle.ld_walk.specs.declared.kind.Wanted.{Wanted}
use Rattle.ld_walk.specs.declared.kind.Wanted.TheVariants as wanted
use Rattle.ld_walk.specs.declared.place.Place.{Place}
use Rattle.ld_walk.specs.declared.place.Place.TheVariants.{Activity, Structure, Environment}
use Rattle.ld_parts.specs.Listing.{act_parts_at, activity_parts, activity_parts_at, environment_parts, environment_parts_at, method_at, middle_parts, object_parts, parts_before_items, parts_of, property_parts, role_part, role_part_parts, role_part_parts_at, service_parts, structure_parts, structure_parts_at}
use Rattle.ld_names.specs.Names.{names_of}
use Rattle.ld_names.specs.Things.{Entry}
use Rattle.ld_refs.specs.Bounds.{level_faults, profile_faults}
use Rattle.ld_refs.specs.Checks.{IsValid, amount_faults, check_faults, meaning_faults, text_faults}
use Rattle.ld_refs.specs.Reaching.{cycle_at, cycle_faults, environment_graph, graph_faults, structure_graph}
use Rattle.ld_refs.specs.Targets.{kind_by, nth_target_fault, target_faults}
use Rattle.ld_types.specs.Typing.{type_faults}
use Rattle.ld_cycles.specs.Graphs.{first_on_cycle}
use Rattle.ld_expr.specs.Lookup.{thing_at}
use Rattle.ld_state.proofs.Elements.{IsIn, different, in_each, in_left, in_right, nothing_first, nothing_later, nothing_of_each}
use Rattle.ld_firing.proofs.ChecksMet.{checks_met}
use Rattle.ld_firing.proofs.MetChecks.{AreMet, IsAllowed, MeetsChecks, act_listed, activity_listed, allowed_by, thing_of_kind}
use Rattle.ld_firing.proofs.Named.{thing_number_is}
use Rattle.ld_step_laws.proofs.PlacesThere.{IsPlaceOf, place_there}
use Rattle.ld_step_laws.proofs.TargetLooks.{IsAt, IsChild, Leads, NamesEnvironment, RefersWell, a_structure, an_activity, to_activity, to_environment, to_structure}

-- ---- what is named

is_at : (unit : Unit) (id : List ℕ) (place : Place) → kind_by (names_of unit) id ≡ Some (kind.Thing place) → IsAt unit id place
is_at unit id place is =
    let thing = thing_of_kind unit id place is in
    let number = ap (λ (n : Option ℕ). n >>= thing_at unit >>= λ (one : Entry). Some one.place) (thing_number_is unit id place thing) in
    let entry = ap (λ (e : Option Entry). e >>= λ (one : Entry). Some one.place) thing.at in
    record {
      of_kind = is;
      named = number ∙ entry ∙ ap Some thing.placed;
      there = subst (IsPlaceOf unit) thing.placed (place_there unit thing.number thing.entry thing.at);
    }

environment_allowed : (unit : Unit) (id : List ℕ) → IsAllowed unit wanted.Environment id → NamesEnvironment unit id
environment_allowed unit id allowed = by allowed.kind allowed.is allowed.allowed
  where
    by : (k : Kind) → kind_by (names_of unit) id ≡ Some k → allows wanted.Environment k ≡ true → NamesEnvironment unit id
    by (kind.Thing (Environment e)) is fits = record { number = e; is = is_at unit id (Environment e) is }
    by _ is fits = different (sym fits)

child_allowed : (unit : Unit) (id : List ℕ) → IsAllowed unit wanted.Child id → IsChild unit id
child_allowed unit id allowed = by allowed.kind allowed.is allowed.allowed
  where
    by : (k : Kind) → kind_by (names_of unit) id ≡ Some k → allows wanted.Child k ≡ true → IsChild unit id
    by (kind.Thing (Activity a)) is fits = an_activity a (is_at unit id (Activity a) is)
    by (kind.Thing (Structure s)) is fits = a_structure s (is_at unit id (Structure s) is)
    by _ is fits = different (sym fits)

target_allowed : (unit : Unit) (id : List ℕ) → IsAllowed unit wanted.Target id → Leads unit id
target_allowed unit id allowed = by allowed.kind allowed.is allowed.allowed
  where
    by : (k : Kind) → kind_by (names_of unit) id ≡ Some k → allows wanted.Target k ≡ true → Leads unit id
    by (kind.Thing (Activity a)) is fits = to_activity a (is_at unit id (Activity a) is)
    by (kind.Thing (Structure s)) is fits = to_structure s (is_at unit id (Structure s) is)
    by (kind.Thing (Environment e)) is fits = to_environment e (is_at unit id (Environment e) is)
    by _ is fits = different (sym fits)

-- ---- where references stand in the list of parts

environment_listed : (unit : Unit) (e : ℕ) (x : EnvironmentOf) (part : Part) → slice_get unit.environments e ≡ Some x
    → IsIn (environment_parts (root file.Environments) e x) part → IsIn (parts_of unit) part
unfolding parts_of middle_parts
environment_listed unit e x part at inside =
    in_right (map (role_part (root file.Roles)) (roles_of unit)) _ part
    (in_left (middle_parts unit) _ part
    (in_right (each_numbered (property_parts (root file.Properties)) unit.properties) _ part
    (in_left (each_numbered (environment_parts (root file.Environments)) unit.environments) _ part
    (in_each (environment_parts (root file.Environments)) unit.environments e x part at inside))))

structure_listed : (unit : Unit) (s : ℕ) (x : StructureOf) (part : Part) → slice_get unit.structures s ≡ Some x
    → IsIn (structure_parts (root file.Activities) s x) part → IsIn (parts_of unit) part
unfolding parts_of middle_parts
structure_listed unit s x part at inside =
    in_right (map (role_part (root file.Roles)) (roles_of unit)) _ part
    (in_left (middle_parts unit) _ part
    (in_right (each_numbered (property_parts (root file.Properties)) unit.properties) _ part
    (in_right (each_numbered (environment_parts (root file.Environments)) unit.environments) _ part
    (in_right (each_numbered (activity_parts (root file.Activities)) unit.activities) _ part
    (in_each (structure_parts (root file.Activities)) unit.structures s x part at inside)))))

module _ (unit : Unit) (meets : MeetsChecks unit) where
  -- Where no check finds a fault in a list of references, each names what it may.
  listed_allowed : (at : At) (name : List ℕ) (want : Wanted) (ids : List (List ℕ))
      → AreMet unit (references_parts at name want ids) → (id : List ℕ) → IsIn ids id → IsAllowed unit want id
  listed_allowed at name want [] met id inside = absurd inside
  listed_allowed at name want (first ∷ rest) met id inside =
      let none = nothing_of_each (nth_target_fault (names_of unit) want (member at name)) (first ∷ rest) 0 id (met _ (inl refl)).targets inside in
      allowed_by unit want (item_at (member at name) none.0) id none.1

  of_environment : (e : ℕ) (x : EnvironmentOf) → slice_get unit.environments e ≡ Some x
      → (id : List ℕ) → IsIn x.environments id → NamesEnvironment unit id
  unfolding environment_parts_at
  of_environment e x at id inside =
      let place = nth (root file.Environments) (codes "environments") e in
      environment_allowed unit id
      (listed_allowed place (codes "environments") wanted.Environment x.environments
      (λ part within. meets.met part (environment_listed unit e x part at
      (inr (in_right (each_numbered (object_parts place e) x.learning_objects) _ part
      (in_right (each_numbered (service_parts place e) x.services) _ part within)))))
      id inside)

  of_activity : (a : ℕ) (x : ActivityOf) → slice_get unit.activities a ≡ Some x
      → (id : List ℕ) → IsIn x.environments id → NamesEnvironment unit id
  unfolding activity_parts_at parts_before_items
  of_activity a x at id inside =
      let place = nth (root file.Activities) (codes "activities") a in
      environment_allowed unit id
      (listed_allowed place (codes "environments") wanted.Environment x.environments
      (λ part within. meets.met part (activity_listed unit a x part at
      (inr (in_left (parts_before_items place x) _ part
      (in_right (items_parts place (codes "learning-objectives") x.learning_objectives) _ part
      (in_right (items_parts place (codes "prerequisites") x.prerequisites) _ part
      (in_right (references_parts place (codes "supports") wanted.Role x.supports) _ part within)))))))
      id inside)

  of_structure : (s : ℕ) (x : StructureOf) → slice_get unit.structures s ≡ Some x
      → (id : List ℕ) → IsIn x.environments id → NamesEnvironment unit id
  unfolding structure_parts_at
  of_structure s x at id inside =
      let place = nth (root file.Activities) (codes "structures") s in
      environment_allowed unit id
      (listed_allowed place (codes "environments") wanted.Environment x.environments
      (λ part within. meets.met part (structure_listed unit s x part at
      (inr (in_left (references_parts place (codes "environments") wanted.Environment x.environments) _ part within))))
      id inside)

  children : (s : ℕ) (x : StructureOf) → slice_get unit.structures s ≡ Some x
      → (id : List ℕ) → IsIn x.children id → IsChild unit id
  unfolding structure_parts_at
  children s x at id inside =
      let place = nth (root file.Activities) (codes "structures") s in
      child_allowed unit id
      (listed_allowed place (codes "children") wanted.Child x.children
      (λ part within. meets.met part (structure_listed unit s x part at
      (inr (in_right (references_parts place (codes "environments") wanted.Environment x.environments) _ part within))))
      id inside)

  -- A role-part refers to something that a tree shows.
  pub part_leads : (p a r : ℕ) (play : PlayOf) (act : ActOf) (part : RolePartOf) → slice_get unit.method.plays p ≡ Some play
      → slice_get play.acts a ≡ Some act → slice_get act.role_parts r ≡ Some part → Leads unit part.target
  unfolding act_parts_at role_part_parts_at
  part_leads p a r play act part at_play at_act at_part =
      let place = nth (nth method_at (codes "plays") p) (codes "acts") a in
      let one = reference_part (nth place (codes "role-parts") r) (codes "ref") wanted.Target part.target in
      let met = meets.met one (act_listed unit p a play act one at_play at_act
      (inr (in_left (each_numbered (role_part_parts place p a) act.role_parts) _ one
      (in_each (role_part_parts place p a) act.role_parts r part one at_part (inr (inr (inl refl))))))) in
      target_allowed unit part.target (allowed_by unit wanted.Target one.at part.target met.targets)

-- ---- cycles

no_cycle : (one : FileNo) (name : List ℕ) (found : Option ℕ) → cycle_at one name found ≡ [] → found ≡ None
no_cycle one name None none = refl
no_cycle one name (Some n) none = absurd (cc)

no_cycles : (unit : Unit) → IsValid unit → cycle_faults unit (names_of unit) ≡ []
unfolding check_faults meaning_faults
no_cycles unit valid =
    let names = names_of unit in
    let parts = parts_of unit in
    let meanings = meaning_faults unit names parts in
    let rest = level_faults unit.level parts ++ (profile_faults parts ++ type_faults unit names parts) in
    let no_meaning = nothing_first meanings (amount_faults unit names parts) (nothing_later (text_faults parts) (meanings ++ amount_faults unit names parts) valid.faultless) in
    nothing_first (cycle_faults unit names) rest (nothing_later (target_faults names parts) (cycle_faults unit names ++ rest) no_meaning)

pub refers_well : (unit : Unit) → IsValid unit → RefersWell unit
unfolding cycle_faults
refers_well unit valid =
    let meets = checks_met unit valid in
    let none = no_cycles unit valid in
    let environments = graph_faults file.Environments (codes "environments") (environment_graph unit (names_of unit)) in
    let structures = graph_faults file.Activities (codes "structures") (structure_graph unit (names_of unit)) in
    record {
      of_environment = of_environment unit meets;
      of_activity = of_activity unit meets;
      of_structure = of_structure unit meets;
      children = children unit meets;
      environments_end = no_cycle file.Environments (codes "environments") (first_on_cycle (environment_graph unit (names_of unit))) (nothing_first environments structures none);
      structures_end = no_cycle file.Activities (codes "structures") (first_on_cycle (structure_graph unit (names_of unit))) (nothing_later environments structures none);
    }
