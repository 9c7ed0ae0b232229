-- That in a unit in which no check finds a fault each cell at which the test of a site looks is one of the run.
use Rattle.std.proofs.Common.{refl, sym, ap, subst, ◌∙◌, ℕ, ◌+◌, ◌<◌, inl, inr, List, [], ◌∷◌, flat_map, Option, Some, None, Bool, true, false, is_some, codes}
use Rattle.std.specs.Option.{option_map}
use Rattle.ld_model.specs.Expressions.{TermOf, TermsOf, property_term, literal_term, list_term, pair_term, now_term, opened_term, started_term, no_term, term_and, TestOf, TestsOf, compare_test, all_test, any_test, not_test, no_value_test, member_test, users_test, done_test, no_test, test_and}
use Rattle.ld_model.specs.declared.cell.CellName.{CellName}
use Rattle.ld_model.specs.declared.cell.CellName.TheVariants.{Started, Now}
use Rattle.ld_model.specs.declared.cell.Owner.{Owner}
use Rattle.ld_model.specs.declared.cell.Owner.TheVariants.{Run}
use Rattle.ld_model.specs.declared.completion.Completion.{Completion}
use Rattle.ld_model.specs.declared.completion.Completion.TheVariants.{UserChoice, TimeLimit, WhenPropertyValueIsSet, WhenRolePartCompleted, WhenConditionTrue, WhenLastActCompleted, WhenPlayCompleted}
use Rattle.ld_model.specs.declared.completion.OnCompletion.{OnCompletion}
use Rattle.ld_model.specs.declared.unit.Unit.{Unit}
use Rattle.ld_walk.specs.CommonParts.{references_parts}
use Rattle.ld_walk.specs.ExpressionParts.{list_operator_word, pair_operator_word, comparison_word, term_parts, terms_parts, within_members, test_parts, tests_parts}
use Rattle.ld_walk.specs.Places.{At, member, nth, item_at}
use Rattle.ld_walk.specs.declared.kind.Kind.{Kind}
use Rattle.ld_walk.specs.declared.kind.Kind.TheVariants as kind
use Rattle.ld_walk.specs.declared.kind.Wanted.{Wanted}
use Rattle.ld_walk.specs.declared.kind.Wanted.TheVariants as wanted
use Rattle.ld_walk.specs.declared.place.Place.{Place}
use Rattle.ld_walk.specs.declared.place.Place.TheVariants.{Act}
use Rattle.ld_parts.specs.Listing.{is_of_run, value_set_parts, condition_true_parts, wanted_parts, completed_parts, completion_parts, on_completion_parts, ending_parts}
use Rattle.ld_names.specs.Names.{names_of, role_number, thing_number}
use Rattle.ld_refs.specs.Targets.{nth_target_fault}
use Rattle.ld_expr.specs.Looks.{property_looks, done_looks, members_looks, term_looks, terms_looks, test_looks, tests_looks}
use Rattle.ld_expr.specs.Lookup.{list_from}
use Rattle.ld_expr.specs.Membership.{is_member, members, members_of}
use Rattle.ld_expr.specs.Owners.{of_person}
use Rattle.ld_expr.specs.Seen.{Seen, everyone, opened_cell}
use Rattle.ld_state.specs.RunCells.{all_cells, is_activity_place}
use Rattle.ld_rules.specs.SiteLooks.{cell_list, all_done_looks, completion_looks, completion_looks_if}
use Rattle.ld_rules.specs.SiteTests.{Completing}
use Rattle.ld_state.proofs.Elements.{IsIn, in_right, in_filter, is_below, from_flat_map, nothing_of_each}
use Rattle.ld_firing.proofs.CellsThere.{AreCells, both_are_cells, one_is_cell, started_there, now_there, opened_there}
use Rattle.ld_firing.proofs.Named.{IsThing, thing_number_is, is_run_place, done_there, run_done_there, member_looks_there, members_looks_there, property_looks_there, run_property_looks_there}
use Rattle.ld_firing.proofs.MetChecks.{AreMet, met_left, met_right, IsAllowed, allowed_by, NamesSuch, activity_allowed, play_allowed, part_allowed, of_run}

-- The owner who speaks in a completion rule: the run, or one of this many persons.
pub data IsSpeaker (persons : ℕ) : Bool → Owner → Type 0 where
  run_speaks : IsSpeaker persons true Run
  one_speaks : (p : ℕ) → p < persons → IsSpeaker persons false (of_person p)

-- The cells that a completion rule speaks of are there, and the last act is one.
pub record IsReady (unit : Unit) (seen : Seen) (by_run : Bool) (c : Completing) : Type 0 where
  pub speaker : IsSpeaker seen.persons by_run c.owner
  pub chosen : AreCells unit seen.persons (cell_list c.chosen)
  pub start : AreCells unit seen.persons (cell_list c.start)
  pub last : AreCells unit seen.persons (list_from (done_looks unit seen Run) c.last_act)

pub no_cells : (unit : Unit) (persons : ℕ) → AreCells unit persons []
no_cells unit persons c inside = absurd inside

-- The cell of a thing that is named.
pub cell_of_thing : (unit : Unit) (persons : ℕ) (id : List ℕ) (place : Place) (cell : ℕ → CellName) (thing : IsThing unit id place)
    → IsIn (all_cells unit persons) (cell thing.number)
    → AreCells unit persons (cell_list (option_map cell (thing_number unit id)))
cell_of_thing unit persons id place cell thing inside =
    subst (λ (number : Option ℕ). AreCells unit persons (cell_list (option_map cell number)))
    (sym (thing_number_is unit id place thing))
    (one_is_cell unit persons (cell thing.number) inside)

looks_of_thing : (unit : Unit) (persons : ℕ) (id : List ℕ) (place : Place) (cell : ℕ → CellName) (thing : IsThing unit id place)
    → IsIn (all_cells unit persons) (cell thing.number)
    → AreCells unit persons (list_from (λ n. cell n ∷ []) (thing_number unit id))
looks_of_thing unit persons id place cell thing inside =
    subst (λ (number : Option ℕ). AreCells unit persons (list_from (λ n. cell n ∷ []) number))
    (sym (thing_number_is unit id place thing))
    (one_is_cell unit persons (cell thing.number) inside)

module _ (unit : Unit) (seen : Seen) (p : ℕ) (below : p < seen.persons) where
  opened_looks_there : (id : List ℕ) → IsAllowed unit wanted.Activity id
      → AreCells unit seen.persons (list_from (λ thing. opened_cell thing (of_person p) ∷ []) (thing_number unit id))
  opened_looks_there id allowed =
      let named = activity_allowed unit id allowed in
      let thing = named.thing in
      looks_of_thing unit seen.persons id named.place (λ n. opened_cell n (of_person p)) thing
      (opened_there unit seen.persons thing.number thing.entry p thing.at (ap is_activity_place thing.placed ∙ named.such) below)

  mutual
    pub term_there : (at : At) (of_members clock : Bool) (term : TermOf)
        → AreMet unit (term_parts at of_members clock term)
        → AreCells unit seen.persons (term_looks unit seen (of_person p) term)
    term_there at m clock (property_term id) met = property_looks_there unit seen.persons p id below
    term_there at m clock (literal_term _ _) met = no_cells unit seen.persons
    term_there at m clock (list_term operator terms) met = terms_there (member at (list_operator_word operator)) m 0 terms met
    term_there at m clock (pair_term operator a b) met =
        let first = term_parts (nth at (pair_operator_word operator) 0) m false a in
        let second = term_parts (nth at (pair_operator_word operator) 1) m false b in
        both_are_cells unit seen.persons (term_looks unit seen (of_person p) a) (term_looks unit seen (of_person p) b)
        (term_there (nth at (pair_operator_word operator) 0) m false a (met_left unit first second met))
        (term_there (nth at (pair_operator_word operator) 1) m false b (met_right unit first second met))
    term_there at m clock now_term met = one_is_cell unit seen.persons Now (now_there unit seen.persons)
    term_there at m clock (opened_term id) met =
        opened_looks_there id (allowed_by unit wanted.Activity (member at (codes "datetime-activity-started")) id
        (met _ (inr (inl refl))).targets)
    term_there at m clock started_term met = one_is_cell unit seen.persons Started (started_there unit seen.persons)

    terms_there : (at : At) (of_members : Bool) (n : ℕ) (terms : TermsOf)
        → AreMet unit (terms_parts at of_members n terms)
        → AreCells unit seen.persons (terms_looks unit seen (of_person p) terms)
    terms_there at m n no_term met = no_cells unit seen.persons
    terms_there at m n (term_and term terms) met =
        let first = term_parts (item_at at n) m false term in
        let second = terms_parts at m (n + 1) terms in
        both_are_cells unit seen.persons (term_looks unit seen (of_person p) term) (terms_looks unit seen (of_person p) terms)
        (term_there (item_at at n) m false term (met_left unit first second met))
        (terms_there at m (n + 1) terms (met_right unit first second met))

module _ (unit : Unit) (seen : Seen) where
  -- Members are persons of the run.
  member_below : (role : List ℕ) (p : ℕ) → IsIn (members_of unit seen role) p → p < seen.persons
  member_below role p inside = by (role_number unit role) inside
    where
      by : (number : Option ℕ) → IsIn (list_from (members seen) number) p → p < seen.persons
      by None inside = absurd inside
      by (Some r) inside = is_below seen.persons p (in_filter (is_member seen r) (everyone seen) p inside)

  pub of_members_there : (looks : ℕ → List CellName) (role : List ℕ)
      → ((p : ℕ) → p < seen.persons → AreCells unit seen.persons (looks p))
      → AreCells unit seen.persons (flat_map looks (members_of unit seen role))
  of_members_there looks role each c inside =
      let by = from_flat_map looks (members_of unit seen role) c inside in
      each by.element (member_below role by.element by.inside) c by.gives

  mutual
    pub test_there : (at : At) (of_members : Bool) (test : TestOf) → AreMet unit (test_parts at of_members test)
        → (p : ℕ) → p < seen.persons → AreCells unit seen.persons (test_looks unit seen (of_person p) test)
    test_there at m (compare_test comparison a b) met p below =
        let first = term_parts (nth at (comparison_word comparison) 0) m _ a in
        let second = term_parts (nth at (comparison_word comparison) 1) m _ b in
        both_are_cells unit seen.persons (term_looks unit seen (of_person p) a) (term_looks unit seen (of_person p) b)
        (term_there unit seen p below (nth at (comparison_word comparison) 0) m _ a (met_left unit first second met))
        (term_there unit seen p below (nth at (comparison_word comparison) 1) m _ b (met_right unit first second met))
    test_there at m (all_test tests) met p below = tests_there (member at (codes "and")) m 0 tests met p below
    test_there at m (any_test tests) met p below = tests_there (member at (codes "or")) m 0 tests met p below
    test_there at m (not_test test) met p below = test_there (member at (codes "not")) m test met p below
    test_there at m (no_value_test property) met p below = property_looks_there unit seen.persons p property below
    test_there at m (member_test role) met p below = member_looks_there unit seen p role below
    test_there at m (users_test role test) met p below =
        both_are_cells unit seen.persons (members_looks unit seen role)
        (flat_map (λ q. test_looks unit seen (of_person q) test) (members_of unit seen role))
        (members_looks_there unit seen role)
        (of_members_there (λ q. test_looks unit seen (of_person q) test) role
        (test_there (member (member at (codes "users-in-role")) (codes "expression")) true test
        (λ part inside. met part (in_right (within_members at m) _ part (inr inside)))))
    test_there at m (done_test thing) met p below = done_there unit seen p thing below

    tests_there : (at : At) (of_members : Bool) (n : ℕ) (tests : TestsOf)
        → AreMet unit (tests_parts at of_members n tests) → (p : ℕ) → p < seen.persons
        → AreCells unit seen.persons (tests_looks unit seen (of_person p) tests)
    tests_there at m n no_test met p below = no_cells unit seen.persons
    tests_there at m n (test_and test tests) met p below =
        let first = test_parts (item_at at n) m test in
        let second = tests_parts at m (n + 1) tests in
        both_are_cells unit seen.persons (test_looks unit seen (of_person p) test) (tests_looks unit seen (of_person p) tests)
        (test_there (item_at at n) m test (met_left unit first second met) p below)
        (tests_there at m (n + 1) tests (met_right unit first second met) p below)

  -- ---- completion rules

  value_set_there : (at : At) (by_run : Bool) (owner : Owner) (property : List ℕ) (text : Option (List ℕ))
      → IsSpeaker seen.persons by_run owner → AreMet unit (value_set_parts at by_run property text)
      → AreCells unit seen.persons (property_looks unit seen owner property)
  unfolding value_set_parts
  value_set_there at by_run owner property text run_speaks met =
      run_property_looks_there unit seen.persons property
      (of_run unit (member at (codes "property")) property (met _ (inr (inr (inl refl)))).types)
  value_set_there at by_run owner property text (one_speaks p below) met = property_looks_there unit seen.persons p property below

  -- A list of references to what is done once for the run.
  run_list_there : (at : At) (name : List ℕ) (want : Wanted) (ids : List (List ℕ))
      → ((id : List ℕ) → IsAllowed unit want id → NamesSuch unit is_run_place id)
      → AreMet unit (references_parts at name want ids)
      → AreCells unit seen.persons (all_done_looks unit seen Run ids)
  run_list_there at name want [] such met c inside = absurd inside
  run_list_there at name want (first ∷ rest) such met c inside =
      let by = from_flat_map (done_looks unit seen Run) (first ∷ rest) c inside in
      let none = nothing_of_each (nth_target_fault (names_of unit) want (member at name)) (first ∷ rest) 0 by.element (met _ (inl refl)).targets by.inside in
      let named = such by.element (allowed_by unit want (item_at (member at name) none.0) by.element none.1) in
      run_done_there unit seen by.element named.place named.thing named.such c by.gives

  part_wanted : (thing : Kind) (id : List ℕ) → IsAllowed unit (wanted_parts thing) id
      → NamesSuch unit is_run_place id
  part_wanted (kind.Thing (Act p a)) id allowed = part_allowed unit p a id allowed
  part_wanted _ id allowed = part_allowed unit 0 0 id allowed

  completion_there : (at : At) (thing : Kind) (c : Completing) → IsReady unit seen (is_of_run thing) c
      → (completion : Completion) → AreMet unit (completed_parts at thing completion)
      → AreCells unit seen.persons (completion_looks unit seen c completion)
  unfolding completed_parts condition_true_parts
  completion_there at thing c ready UserChoice met = ready.chosen
  completion_there at thing c ready (TimeLimit seconds) met =
      both_are_cells unit seen.persons (cell_list c.start) (Now ∷ []) ready.start
      (one_is_cell unit seen.persons Now (now_there unit seen.persons))
  completion_there at thing c ready (WhenPropertyValueIsSet property text) met =
      value_set_there (member at (codes "when-property-value-is-set")) (is_of_run thing) c.owner property text ready.speaker met
  completion_there at thing c ready (WhenRolePartCompleted parts) met =
      run_list_there at (codes "when-role-part-completed") (wanted_parts thing) parts (part_wanted thing) met
  completion_there at thing c ready (WhenConditionTrue role test) met =
      both_are_cells unit seen.persons (members_looks unit seen role)
      (flat_map (λ p. test_looks unit seen (of_person p) test) (members_of unit seen role))
      (members_looks_there unit seen role)
      (of_members_there (λ p. test_looks unit seen (of_person p) test) role
      (test_there (member (member at (codes "when-condition-true")) (codes "expression")) true test
      (λ part inside. met part (inr (inr inside)))))
  completion_there at thing c ready WhenLastActCompleted met = ready.last
  completion_there at thing c ready (WhenPlayCompleted plays) met =
      run_list_there at (codes "when-play-completed") wanted.Play plays (play_allowed unit) met

  completion_if_there : (at : At) (thing : Kind) (c : Completing)
      → IsReady unit seen (is_of_run thing) c → (completion : Option Completion)
      → AreMet unit (completion_parts at thing completion)
      → AreCells unit seen.persons (completion_looks_if unit seen c completion)
  unfolding completion_parts
  completion_if_there at thing c ready None met = no_cells unit seen.persons
  completion_if_there at thing c ready (Some completion) met =
      completion_there (member at (codes "complete")) thing c ready completion (λ part inside. met part (inr inside))

  pub ending_there : (at : At) (thing : Kind) (c : Completing) → IsReady unit seen (is_of_run thing) c
      → (completion : Option Completion) (follows : Option OnCompletion)
      → AreMet unit (ending_parts at thing completion follows)
      → AreCells unit seen.persons (completion_looks_if unit seen c completion)
  unfolding ending_parts
  ending_there at thing c ready completion follows met =
      completion_if_there at thing c ready completion
      (met_left unit (completion_parts at thing completion) (on_completion_parts at thing (is_some completion) follows) met)
