-- How many cells a tree looks at below a reference, by what that expands to.
use Rattle.std.proofs.Common.{◌≡◌, refl, sym, ap, ◌∙◌, ℕ, zero, suc, ◌+◌, ◌*◌, ◌≤◌, inl, inr, List, [], ◌∷◌, ◌++◌, length, map, flat_map, slice_get, Option, Some, None, Bool, true, false, nat_lt, arith, length-append}
use Rattle.std.proofs.lemmas.Bool.{ltb-true, ltb-false}
use Rattle.std.proofs.lemmas.List.{length-map}
use Rattle.std.proofs.lemmas.List.FromFn.{get_or-map-range_with_len, length-map-range_with_len}
use Rattle.std.proofs.lemmas.List.Sums.{sum_by-cons}
use Rattle.std.proofs.lemmas.Option.{slice_get-map, slice_get-get_or, slice_get_past}
use Rattle.std.specs.List.{sum_by}
use Rattle.std.specs.Option.{option_map}
use Rattle.ld_base.specs.Maybe.{◌>>=◌}
use Rattle.ld_cycles.specs.Graphs.{Graph, expanded_size, expanded_sizes, first_on_cycle, next_of, nodes_or_none, number_or_zero, number_or_zero_at}
use Rattle.ld_cycles.proofs.Bounded.{add_up}
use Rattle.ld_cycles.proofs.Rounds.{past_all}
use Rattle.ld_model.specs.declared.activity.Activity.{Activity as ActivityOf}
use Rattle.ld_model.specs.declared.activity.Structure.{Structure as StructureOf}
use Rattle.ld_model.specs.declared.cell.CellName.{CellName}
use Rattle.ld_model.specs.declared.completion.OnCompletion.{OnCompletion}
use Rattle.ld_model.specs.declared.environment.Environment.{Environment as EnvironmentOf}
use Rattle.ld_model.specs.declared.environment.LearningObject.{LearningObject}
use Rattle.ld_model.specs.declared.item.Item.{Item}
use Rattle.ld_model.specs.declared.unit.Unit.{Unit}
use Rattle.ld_walk.specs.declared.kind.Kind.TheVariants as kind
use Rattle.ld_walk.specs.declared.place.Place.{Place}
use Rattle.ld_walk.specs.declared.place.Place.TheVariants.{Activity, Structure, Environment}
use Rattle.ld_names.specs.Names.{NameTable, names_of, role_number, thing_number}
use Rattle.ld_refs.specs.Extents.{Sizes, activity_size, environment_sizes, feedback_size, first_sizes, leaf_sizes, object_size, own_environment_size, own_structure_size, size_named, size_of_kind, sizes_named, sizes_of}
use Rattle.ld_refs.specs.Reaching.{environment_graph, structure_graph}
use Rattle.ld_refs.specs.Targets.{kind_by}
use Rattle.ld_expr.specs.Done.{mark_for}
use Rattle.ld_expr.specs.Lookup.{activity_at, activity_named, completing_number, environment_at, environment_named, place_named, structure_at, structure_named}
use Rattle.ld_expr.specs.Looks.{member_looks}
use Rattle.ld_expr.specs.Owners.{of_person}
use Rattle.ld_expr.specs.Seen.{Seen, member_cell, visibility_cell}
use Rattle.ld_state.proofs.Elements.{IsIn}
use Rattle.ld_tree.specs.TreeLooks.{activity_looks, child_looks, environment_looks, environments_looks, feedback_looks, item_looks, items_looks, object_looks, own_done_looks, service_looks, structure_looks, target_looks, visible_looks, within_looks}
use Rattle.ld_admission.proofs.OneLook.{one_look}
use Rattle.ld_step_laws.proofs.LookSums.{looks_below, single_looks, sum_of_fives}
use Rattle.ld_step_laws.proofs.PlacesThere.{IsPlaceOf}

-- The identifier names what stands at the place, and that is there.
pub record IsAt (unit : Unit) (id : List ℕ) (place : Place) : Type 0 where
  pub of_kind : kind_by (names_of unit) id ≡ Some (kind.Thing place)
  pub named : place_named unit id ≡ Some place
  pub there : IsPlaceOf unit place

pub record NamesEnvironment (unit : Unit) (id : List ℕ) : Type 0 where
  pub number : ℕ
  pub is : IsAt unit id (Environment number)

-- What a tree shows below a reference.
pub data Leads (unit : Unit) (id : List ℕ) : Type 0 where
  to_activity : (a : ℕ) → IsAt unit id (Activity a) → Leads unit id
  to_structure : (s : ℕ) → IsAt unit id (Structure s) → Leads unit id
  to_environment : (e : ℕ) → IsAt unit id (Environment e) → Leads unit id

-- What a child of a structure may be.
pub data IsChild (unit : Unit) (id : List ℕ) : Type 0 where
  an_activity : (a : ℕ) → IsAt unit id (Activity a) → IsChild unit id
  a_structure : (s : ℕ) → IsAt unit id (Structure s) → IsChild unit id

pub child_leads : {unit : Unit} → {id : List ℕ} → IsChild unit id → Leads unit id
child_leads (an_activity a is) = to_activity a is
child_leads (a_structure s is) = to_structure s is

-- References name what they should, and lead to no cycle.
pub record RefersWell (unit : Unit) : Type 0 where
  pub of_environment : (e : ℕ) (x : EnvironmentOf) → slice_get unit.environments e ≡ Some x
      → (id : List ℕ) → IsIn x.environments id → NamesEnvironment unit id
  pub of_activity : (a : ℕ) (x : ActivityOf) → slice_get unit.activities a ≡ Some x
      → (id : List ℕ) → IsIn x.environments id → NamesEnvironment unit id
  pub of_structure : (s : ℕ) (x : StructureOf) → slice_get unit.structures s ≡ Some x
      → (id : List ℕ) → IsIn x.environments id → NamesEnvironment unit id
  pub children : (s : ℕ) (x : StructureOf) → slice_get unit.structures s ≡ Some x
      → (id : List ℕ) → IsIn x.children id → IsChild unit id
  pub environments_end : first_on_cycle (environment_graph unit (names_of unit)) ≡ None
  pub structures_end : first_on_cycle (structure_graph unit (names_of unit)) ≡ None

-- What stands at a node among the sizes of all nodes.
size_at : (own : List ℕ) (g : Graph) (a : ℕ) → length own ≡ length g
    → number_or_zero_at (expanded_sizes own g) a ≡ expanded_size own g a
size_at own g a same = by (nat_lt a (length g)) refl
  where
    count : length (expanded_sizes own g) ≡ length g
    count = length-map-range_with_len (expanded_size own g) 0 (length g)

    by : (b : Bool) → nat_lt a (length g) ≡ b → number_or_zero_at (expanded_sizes own g) a ≡ expanded_size own g a
    by true is =
        let within = ltb-true a (length g) is in
        ap number_or_zero (slice_get-get_or (expanded_sizes own g) a 0 (omega (arith, within, count)))
        ∙ get_or-map-range_with_len (expanded_size own g) 0 (length g) a a 0 within (omega arith)
    by false is =
        let past = ltb-false a (length g) is in
        ap number_or_zero (slice_get_past (expanded_sizes own g) a (omega (arith, past, count)))
        ∙ sym (past_all own g (length g) a same past)

next_is : {A : Type 0} → (next : A → List ℕ) (xs : List A) (k : ℕ) (x : A) → slice_get xs k ≡ Some x
    → next_of (map next xs) k ≡ next x
next_is next xs k x at = ap nodes_or_none (slice_get-map next xs k ∙ ap (option_map next) at)

-- What each environment leads to in the graph, reference by reference.
pub record LeadOn (unit : Unit) (g : Graph) : Type 0 where
  next : EnvironmentOf → List ℕ
  is : map next unit.environments ≡ g
  none : (x : EnvironmentOf) → next (record x { environments = [] }) ≡ []
  more : (x : EnvironmentOf) (id : List ℕ) (ids : List (List ℕ)) (e : ℕ)
      → kind_by (names_of unit) id ≡ Some (kind.Thing (Environment e))
      → next (record x { environments = id ∷ ids }) ≡ e ∷ next (record x { environments = ids })

environments_lead_on : (unit : Unit) → LeadOn unit (environment_graph unit (names_of unit))
environments_lead_on unit = record {
  next = _;
  is = refl;
  none = λ x. refl;
  more = λ x id ids e is. rw is refl;
}

-- The same of structures, of which children that are activities are none.
pub record ChildrenLeadOn (unit : Unit) (g : Graph) : Type 0 where
  next : StructureOf → List ℕ
  is : map next unit.structures ≡ g
  none : (x : StructureOf) → next (record x { children = [] }) ≡ []
  more : (x : StructureOf) (id : List ℕ) (ids : List (List ℕ)) (s : ℕ)
      → kind_by (names_of unit) id ≡ Some (kind.Thing (Structure s))
      → next (record x { children = id ∷ ids }) ≡ s ∷ next (record x { children = ids })
  others : (x : StructureOf) (id : List ℕ) (ids : List (List ℕ)) (a : ℕ)
      → kind_by (names_of unit) id ≡ Some (kind.Thing (Activity a))
      → next (record x { children = id ∷ ids }) ≡ next (record x { children = ids })

structures_lead_on : (unit : Unit) → ChildrenLeadOn unit (structure_graph unit (names_of unit))
structures_lead_on unit = record {
  next = _;
  is = refl;
  none = λ x. refl;
  more = λ x id ids s is. rw is refl;
  others = λ x id ids a is. rw is refl;
}

module _ (unit : Unit) (well : RefersWell unit) where
  abbrev names : NameTable
  names = names_of unit

  -- What the identifier's thing expands to.
  abbrev pub size : List ℕ → ℕ
  size id = size_named (sizes_of unit (names_of unit)) (names_of unit) id

  -- ---- environments

  abbrev e_own : List ℕ
  e_own = map own_environment_size unit.environments

  abbrev e_graph : Graph
  e_graph = environment_graph unit names

  abbrev e_size : ℕ → ℕ
  e_size e = expanded_size e_own e_graph e

  e_count : length e_own ≡ length e_graph
  e_count = length-map unit.environments own_environment_size ∙ sym (length-map unit.environments _)

  environment_size : (id : List ℕ) (e : ℕ) → kind_by names id ≡ Some (kind.Thing (Environment e)) → size id ≡ e_size e
  environment_size id e is = ap (size_of_kind (sizes_of unit names)) is ∙ size_at e_own e_graph e e_count

  environments_add_up : (g : Graph) (on : LeadOn unit g) (x : EnvironmentOf) (ids : List (List ℕ))
      → ((id : List ℕ) → IsIn ids id → NamesEnvironment unit id)
      → sum_by e_size (on.next (record x { environments = ids })) ≡ sum_by size ids
  environments_add_up g on x [] each = ap (sum_by e_size) (on.none x)
  environments_add_up g on x (id ∷ ids) each =
      let one = each id (inl refl) in
      let split = on.more x id ids one.number one.is.of_kind in
      let rest = environments_add_up g on x ids (λ other there. each other (inr there)) in
      omega (arith, sum_by-cons size id ids, ap (sum_by e_size) split, sum_by-cons e_size one.number (on.next (record x { environments = ids })), environment_size id one.number one.is.of_kind, rest)

  environment_adds_up : (e : ℕ) (x : EnvironmentOf) → slice_get unit.environments e ≡ Some x
      → e_size e ≡ own_environment_size x + sum_by size x.environments
  environment_adds_up e x at =
      let own : number_or_zero_at e_own e ≡ own_environment_size x = ap number_or_zero (slice_get-map own_environment_size unit.environments e ∙ ap (option_map own_environment_size) at) in
      let on = environments_lead_on unit in
      let next : next_of e_graph e ≡ on.next x = ap (λ (g : Graph). next_of g e) (sym on.is) ∙ next_is on.next unit.environments e x at in
      omega (arith, add_up e_own e_graph e_count well.environments_end e, own, ap (sum_by e_size) next, environments_add_up e_graph on x x.environments (well.of_environment e x at))

  -- Environments have the same sizes among others.
  environments_alike : (other : Sizes) → other.environments ≡ environment_sizes unit names
      → (ids : List (List ℕ)) → ((id : List ℕ) → IsIn ids id → NamesEnvironment unit id)
      → sum_by size ids ≡ sizes_named other names ids
  environments_alike other same [] each = refl
  environments_alike other same (id ∷ ids) each =
      let one = each id (inl refl) in
      let here : size_named other names id ≡ size id = ap (size_of_kind other) one.is.of_kind ∙ ap (λ (list : List ℕ). number_or_zero_at list one.number) same ∙ sym (ap (size_of_kind (sizes_of unit names)) one.is.of_kind) in
      omega (arith, sum_by-cons size id ids, sum_by-cons (size_named other names) id ids, here, environments_alike other same ids (λ next there. each next (inr there)))

  -- ---- activities

  abbrev a_size : ActivityOf → ℕ
  a_size x = activity_size (first_sizes unit names) names x

  activity_adds_up : (id : List ℕ) (a : ℕ) (x : ActivityOf) → kind_by names id ≡ Some (kind.Thing (Activity a))
      → slice_get unit.activities a ≡ Some x
      → size id ≡ 1 + (length x.items + (feedback_size x.on_completion + sum_by size x.environments))
  activity_adds_up id a x is at =
      let here : size id ≡ a_size x = ap (size_of_kind (sizes_of unit names)) is ∙ ap number_or_zero (slice_get-map a_size unit.activities a ∙ ap (option_map a_size) at) in
      omega (arith, here, environments_alike (first_sizes unit names) refl x.environments (well.of_activity a x at))

  -- ---- structures

  abbrev s_own_size : StructureOf → ℕ
  s_own_size x = own_structure_size (leaf_sizes unit names) names x

  abbrev s_own : List ℕ
  s_own = map s_own_size unit.structures

  abbrev s_graph : Graph
  s_graph = structure_graph unit names

  abbrev s_size : ℕ → ℕ
  s_size s = expanded_size s_own s_graph s

  s_count : length s_own ≡ length s_graph
  s_count = length-map unit.structures s_own_size ∙ sym (length-map unit.structures _)

  structure_size : (id : List ℕ) (s : ℕ) → kind_by names id ≡ Some (kind.Thing (Structure s)) → size id ≡ s_size s
  structure_size id s is = ap (size_of_kind (sizes_of unit names)) is ∙ size_at s_own s_graph s s_count

  abbrev leaf_size : List ℕ → ℕ
  leaf_size id = size_named (leaf_sizes unit names) names id

  children_add_up : (g : Graph) (on : ChildrenLeadOn unit g) (x : StructureOf) (ids : List (List ℕ))
      → ((id : List ℕ) → IsIn ids id → IsChild unit id)
      → sum_by leaf_size ids + sum_by s_size (on.next (record x { children = ids })) ≡ sum_by size ids
  children_add_up g on x [] each = omega (arith, ap (sum_by s_size) (on.none x))
  children_add_up g on x (id ∷ ids) each =
      by (each id (inl refl)) (children_add_up g on x ids (λ other there. each other (inr there)))
    where
      by : IsChild unit id
          → sum_by leaf_size ids + sum_by s_size (on.next (record x { children = ids })) ≡ sum_by size ids
          → sum_by leaf_size (id ∷ ids) + sum_by s_size (on.next (record x { children = id ∷ ids })) ≡ sum_by size (id ∷ ids)
      by (an_activity a is) later =
          let split = on.others x id ids a is.of_kind in
          let here : leaf_size id ≡ size id = ap (size_of_kind (leaf_sizes unit names)) is.of_kind ∙ sym (ap (size_of_kind (sizes_of unit names)) is.of_kind) in
          omega (arith, sum_by-cons size id ids, sum_by-cons leaf_size id ids, here, ap (sum_by s_size) split, later)
      by (a_structure s is) later =
          let split = on.more x id ids s is.of_kind in
          let here : leaf_size id ≡ 0 = ap (size_of_kind (leaf_sizes unit names)) is.of_kind in
          omega (arith, sum_by-cons size id ids, sum_by-cons leaf_size id ids, here, ap (sum_by s_size) split, sum_by-cons s_size s (on.next (record x { children = ids })), structure_size id s is.of_kind, later)

  structure_adds_up : (s : ℕ) (x : StructureOf) → slice_get unit.structures s ≡ Some x
      → s_size s ≡ 1 + (sum_by size x.environments + sum_by size x.children)
  structure_adds_up s x at =
      let own : number_or_zero_at s_own s ≡ s_own_size x = ap number_or_zero (slice_get-map s_own_size unit.structures s ∙ ap (option_map s_own_size) at) in
      let on = structures_lead_on unit in
      let next : next_of s_graph s ≡ on.next x = ap (λ (g : Graph). next_of g s) (sym on.is) ∙ next_is on.next unit.structures s x at in
      omega (arith, add_up s_own s_graph s_count well.structures_end s, own, ap (sum_by s_size) next, children_add_up s_graph on x x.children (well.children s x at), environments_alike (leaf_sizes unit names) refl x.environments (well.of_structure s x at))

  pub some_size : (id : List ℕ) → Leads unit id → 1 ≤ size id
  some_size id (to_activity a is) = omega (arith, activity_adds_up id a is.there.element is.of_kind is.there.at)
  some_size id (to_structure s is) = omega (arith, structure_size id s is.of_kind, structure_adds_up s is.there.element is.there.at)
  some_size id (to_environment e is) = omega (arith, environment_size id e is.of_kind, environment_adds_up e is.there.element is.there.at)

  module _ (seen : Seen) (p : ℕ) where
    pub visible_few : (id : List ℕ) → length (visible_looks unit seen p id) ≤ 1
    visible_few id = one_look (λ thing. visibility_cell thing p) (thing_number unit id)

    pub done_few : (id : List ℕ) → length (own_done_looks unit seen p id) ≤ 1
    done_few id = one_look (λ number. mark_for unit (of_person p) number) (completing_number unit id)

    pub member_few : (role : List ℕ) → length (member_looks unit seen (of_person p) role) ≤ 1
    member_few role = one_look (λ r. member_cell r p) (role_number unit role)

    items_few : (items : List Item) → length (items_looks unit seen p items) ≤ length items
    items_few items = single_looks (item_looks unit seen p) items (λ item. visible_few item.identifier)

    pub feedback_few : (follows : Option OnCompletion) → length (feedback_looks unit seen p follows) ≤ feedback_size follows
    feedback_few None = omega arith
    feedback_few (Some follows) = items_few follows.feedback

    object_few : (object : LearningObject) → length (object_looks unit seen p object) ≤ object_size object
    object_few object =
        omega (arith, length-append (visible_looks unit seen p object.identifier) (items_looks unit seen p object.items), visible_few object.identifier, items_few object.items)

    -- ---- environments

    within_few : (further : List ℕ → List CellName) (x : EnvironmentOf)
        → ((id : List ℕ) → IsIn x.environments id → length (further id) ≤ size id)
        → length (within_looks unit seen p further x) + 1 ≤ own_environment_size x + sum_by size x.environments
    within_few further x each =
        let objects = flat_map (object_looks unit seen p) x.learning_objects in
        let services = flat_map (service_looks unit seen p) x.services in
        let others = flat_map further x.environments in
        omega (arith, length-append objects (services ++ others), length-append services others, looks_below (object_looks unit seen p) object_size x.learning_objects (λ object _. object_few object), single_looks (service_looks unit seen p) x.services (λ service. visible_few service.identifier), looks_below further size x.environments each)

    environment_found : (id : List ℕ) (e : ℕ) (x : EnvironmentOf) → place_named unit id ≡ Some (Environment e)
        → slice_get unit.environments e ≡ Some x → environment_named unit id ≡ Some x
    environment_found id e x named at = ap (λ (place : Option Place). place >>= environment_at unit) named ∙ at

    pub environment_few : (n : ℕ) (id : List ℕ) → NamesEnvironment unit id
        → length (environment_looks n unit seen p id) ≤ size id
    environment_few zero id names_one = omega arith
    environment_few (suc n) id names_one =
        let e = names_one.number in
        let is = names_one.is in
        let x = is.there.element in
        let further = environment_looks n unit seen p in
        let inside = within_few further x (λ other there. environment_few n other (well.of_environment e x is.there.at other there)) in
        rw (environment_found id e x is.named is.there.at)
        (omega (arith, length-append (visible_looks unit seen p id) (within_looks unit seen p further x), visible_few id, inside, environment_size id e is.of_kind, environment_adds_up e x is.there.at))

    environments_few : (ids : List (List ℕ)) → ((id : List ℕ) → IsIn ids id → NamesEnvironment unit id)
        → length (environments_looks unit seen p ids) ≤ sum_by size ids
    environments_few ids each =
        looks_below (environment_looks (length unit.environments) unit seen p) size ids (λ id there. environment_few (length unit.environments) id (each id there))

    no_environment_few : (n : ℕ) (id : List ℕ) → environment_named unit id ≡ None
        → length (environment_looks n unit seen p id) ≤ 1
    no_environment_few zero id none = omega arith
    no_environment_few (suc n) id none = rw none (omega (arith, length-append (visible_looks unit seen p id) [], visible_few id))

    -- ---- activities and structures

    activity_few : (id : List ℕ) (a : ℕ) (x : ActivityOf) → kind_by names id ≡ Some (kind.Thing (Activity a))
        → slice_get unit.activities a ≡ Some x → length (activity_looks unit seen p x) ≤ size id
    activity_few id a x is at =
        let done = own_done_looks unit seen p x.identifier in
        let environments = environments_looks unit seen p x.environments in
        let items = items_looks unit seen p x.items in
        let feedback = feedback_looks unit seen p x.on_completion in
        omega (arith, length-append done (environments ++ (items ++ feedback)), length-append environments (items ++ feedback), length-append items feedback, done_few x.identifier, environments_few x.environments (well.of_activity a x at), items_few x.items, feedback_few x.on_completion, activity_adds_up id a x is at)

    child_few : (target : List ℕ → List CellName) (child : List ℕ) → length (target child) + 2 ≤ 5 * size child
        → length (child_looks unit seen p target child) ≤ 5 * size child
    child_few target child few =
        let visible = visible_looks unit seen p child in
        let done = own_done_looks unit seen p child in
        omega (arith, length-append (target child) (visible ++ done), length-append visible done, visible_few child, done_few child, few)

    structure_few : (target : List ℕ → List CellName) (s : ℕ) (x : StructureOf) → slice_get unit.structures s ≡ Some x
        → ((child : List ℕ) → IsIn x.children child → length (target child) + 2 ≤ 5 * size child)
        → length (structure_looks unit seen p target x) + 4 ≤ 5 * s_size s
    structure_few target s x at each =
        let done = own_done_looks unit seen p x.identifier in
        let environments = environments_looks unit seen p x.environments in
        let children = flat_map (child_looks unit seen p target) x.children in
        omega (arith, length-append done (environments ++ children), length-append environments children, done_few x.identifier, environments_few x.environments (well.of_structure s x at), looks_below (child_looks unit seen p target) (λ id. 5 * size id) x.children (λ child there. child_few target child (each child there)), sum_of_fives size x.children, structure_adds_up s x at)

    -- ---- what is referred to

    -- What stands at one place stands at no other.
    activity_is : (id : List ℕ) (a : ℕ) → place_named unit id ≡ Some (Activity a) → activity_named unit id ≡ slice_get unit.activities a
    activity_is id a named = ap (λ (place : Option Place). place >>= activity_at unit) named

    pub target_few : (n : ℕ) (id : List ℕ) → Leads unit id → length (target_looks n unit seen p id) + 2 ≤ 5 * size id
    target_few zero id leads = omega (arith, some_size id leads)
    target_few (suc n) id leads = by (target_few n) leads
      where
        by : ((child : List ℕ) → Leads unit child → length (target_looks n unit seen p child) + 2 ≤ 5 * size child)
            → Leads unit id → length (target_looks (suc n) unit seen p id) + 2 ≤ 5 * size id
        by further (to_activity a is) =
            let x = is.there.element in
            let found : activity_named unit id ≡ Some x = ap (λ (place : Option Place). place >>= activity_at unit) is.named ∙ is.there.at in
            let no_structure : structure_named unit id ≡ None = ap (λ (place : Option Place). place >>= structure_at unit) is.named in
            let no_environment : environment_named unit id ≡ None = ap (λ (place : Option Place). place >>= environment_at unit) is.named in
            let last = environment_looks (length unit.environments) unit seen p id in
            rw (found, no_structure)
            (omega (arith, length-append (visible_looks unit seen p id) (activity_looks unit seen p x ++ ([] ++ last)), length-append (activity_looks unit seen p x) ([] ++ last), visible_few id, activity_few id a x is.of_kind is.there.at, no_environment_few (length unit.environments) id no_environment, some_size id (to_activity a is)))
        by further (to_structure s is) =
            let x = is.there.element in
            let no_activity : activity_named unit id ≡ None = ap (λ (place : Option Place). place >>= activity_at unit) is.named in
            let found : structure_named unit id ≡ Some x = ap (λ (place : Option Place). place >>= structure_at unit) is.named ∙ is.there.at in
            let no_environment : environment_named unit id ≡ None = ap (λ (place : Option Place). place >>= environment_at unit) is.named in
            let last = environment_looks (length unit.environments) unit seen p id in
            let inside = structure_looks unit seen p (target_looks n unit seen p) x in
            rw (no_activity, found)
            (omega (arith, length-append (visible_looks unit seen p id) ([] ++ (inside ++ last)), length-append inside last, visible_few id, structure_few (target_looks n unit seen p) s x is.there.at (λ child there. further child (child_leads (well.children s x is.there.at child there))), no_environment_few (length unit.environments) id no_environment, structure_size id s is.of_kind))
        by further (to_environment e is) =
            let no_activity : activity_named unit id ≡ None = ap (λ (place : Option Place). place >>= activity_at unit) is.named in
            let no_structure : structure_named unit id ≡ None = ap (λ (place : Option Place). place >>= structure_at unit) is.named in
            let last = environment_looks (length unit.environments) unit seen p id in
            rw (no_activity, no_structure)
            (omega (arith, length-append (visible_looks unit seen p id) ([] ++ ([] ++ last)), visible_few id, environment_few (length unit.environments) id (record { number = e; is = is }), some_size id (to_environment e is)))
