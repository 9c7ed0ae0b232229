-- Which cells a run has, by what they are cells of.
use Rattle.std.proofs.Common.{◌≡◌, refl, sym, ap, subst, ℕ, ◌<◌, inl, inr, List, [], ◌∷◌, ◌++◌, length, map, flat_map, slice_get, Some, Bool, true, false, is_some}
use Rattle.ld_base.specs.Numbers.{numbers_below}
use Rattle.ld_model.specs.Counting.{each_numbered}
use Rattle.ld_model.specs.Roles.{roles_of}
use Rattle.ld_model.specs.declared.cell.CellName.{CellName}
use Rattle.ld_model.specs.declared.cell.CellName.TheVariants.{Started, Now, Roster}
use Rattle.ld_model.specs.declared.cell.Owner.{Owner}
use Rattle.ld_model.specs.declared.cell.Owner.TheVariants.{Run}
use Rattle.ld_model.specs.declared.property.Property.{Property}
use Rattle.ld_model.specs.declared.unit.Unit.{Unit}
use Rattle.ld_names.specs.declared.rule.Rule.{Rule}
use Rattle.ld_names.specs.Rules.{rules_of, kind_of, is_for_persons, is_for_run}
use Rattle.ld_names.specs.Things.{Entry, things_of}
use Rattle.ld_names.specs.Holders.{holder_of, is_held_by_persons, is_held_by_run}
use Rattle.ld_names.specs.declared.holder.Holder.{Holder}
use Rattle.ld_names.specs.declared.holder.Holder.TheVariants.{Run as HeldByRun, Persons as HeldByPersons}
use Rattle.ld_names.specs.declared.rule.RuleKind.{RuleKind}
use Rattle.ld_names.specs.declared.rule.RuleKind.TheVariants.{Person as OfPerson, Run as OfRun}
use Rattle.ld_expr.specs.Owners.{of_person}
use Rattle.ld_expr.specs.Seen.{property_cell, visibility_cell, member_cell, chosen_cell, opened_cell, act_opened_cell, mark_cell}
use Rattle.ld_state.specs.RunCells.{cell_if, is_act_place, is_activity_place, run_property_cells, opening_cells, run_mark_cells, run_cells, own_property_cells, own_thing_cells, own_mark_cells, person_cells, all_cells}
use Rattle.ld_state.proofs.Elements.{IsIn, in_left, in_right, in_map, in_flat_map, in_below, in_each, different}
use Rattle.ld_firing.proofs.Sites.{IsOwner, a_person, the_run}

-- A run of this many persons has all cells of the list.
abbrev pub AreCells : Unit → ℕ → List CellName → Type 0
AreCells unit persons cells = (c : CellName) → IsIn cells c → IsIn (all_cells unit persons) c

pub both_are_cells : (unit : Unit) (persons : ℕ) (xs ys : List CellName) → AreCells unit persons xs
    → AreCells unit persons ys → AreCells unit persons (xs ++ ys)
both_are_cells unit persons [] ys first second c inside = second c inside
both_are_cells unit persons (x ∷ xs) ys first second c (inl is) = first c (inl is)
both_are_cells unit persons (x ∷ xs) ys first second c (inr later) =
    both_are_cells unit persons xs ys (λ d inside. first d (inr inside)) second c later

pub one_is_cell : (unit : Unit) (persons : ℕ) (cell : CellName) → IsIn (all_cells unit persons) cell
    → AreCells unit persons (cell ∷ [])
one_is_cell unit persons cell inside c (inl is) = subst (λ name. IsIn (all_cells unit persons) name) is inside
one_is_cell unit persons cell inside c (inr later) = absurd later

listed : (there : Bool) (cell : CellName) → there ≡ true → IsIn (cell_if there cell) cell
listed true cell is = inl refl
listed false cell is = absurd (cc)

-- What no person has the run has.
held_by_run : (holder : Holder) → is_held_by_persons holder ≡ false → is_held_by_run holder ≡ true
held_by_run HeldByRun is = refl
held_by_run HeldByPersons is = different is

-- A rule that is for no person is one for the run.
pub for_run : (kind : RuleKind) → is_for_persons kind ≡ false → OfRun ≡ kind
for_run OfRun is = refl
for_run OfPerson is = different is

module _ (unit : Unit) (persons : ℕ) where
  abbrev values : List CellName
  values = each_numbered (run_property_cells unit) unit.properties

  abbrev openings : List CellName
  openings = each_numbered opening_cells (things_of unit)

  abbrev marks : List CellName
  marks = each_numbered run_mark_cells (rules_of unit)

  of_run : (c : CellName) → IsIn (run_cells unit) c → IsIn (all_cells unit persons) c
  of_run c inside = in_left (run_cells unit) (flat_map (person_cells unit) (numbers_below persons)) c inside

  of_one : (p : ℕ) → p < persons → (c : CellName) → IsIn (person_cells unit p) c
      → IsIn (all_cells unit persons) c
  of_one p below c inside =
      in_right (run_cells unit) (flat_map (person_cells unit) (numbers_below persons)) c
      (in_flat_map (person_cells unit) (numbers_below persons) p c (in_below persons p below) inside)

  pub started_there : IsIn (all_cells unit persons) Started
  started_there = of_run Started (inl refl)

  pub now_there : IsIn (all_cells unit persons) Now
  now_there = of_run Now (inr (inl refl))

  pub roster_there : IsIn (all_cells unit persons) Roster
  roster_there = of_run Roster (inr (inr (inl refl)))

  -- A cell of a property, of the run or of a person.
  pub value_there : (n : ℕ) (property : Property) (owner : Owner) → slice_get unit.properties n ≡ Some property
      → (own : Bool) → is_held_by_persons (holder_of unit property) ≡ own → IsOwner persons own owner
      → IsIn (all_cells unit persons) (property_cell n owner)
  value_there n property owner at own is (a_person p below) =
      of_one p below (property_cell n (of_person p))
      (in_left (each_numbered (own_property_cells unit p) unit.properties) _ (property_cell n (of_person p))
      (in_each (own_property_cells unit p) unit.properties n property (property_cell n (of_person p)) at
      (listed (is_held_by_persons (holder_of unit property)) (property_cell n (of_person p)) is)))
  value_there n property owner at own is the_run =
      of_run (property_cell n Run)
      (inr (inr (inr (in_left values (openings ++ marks) (property_cell n Run)
      (in_each (run_property_cells unit) unit.properties n property (property_cell n Run) at
      (listed (is_held_by_run (holder_of unit property)) (property_cell n Run) (held_by_run (holder_of unit property) is)))))))

  -- A mark of a rule, of the run or of a person.
  pub mark_there : (n : ℕ) (rule : Rule) (owner : Owner) → slice_get (rules_of unit) n ≡ Some rule
      → (own : Bool) → is_for_persons (kind_of rule) ≡ own → IsOwner persons own owner
      → IsIn (all_cells unit persons) (mark_cell n owner)
  mark_there n rule owner at own is (a_person p below) =
      of_one p below (mark_cell n (of_person p))
      (in_right (each_numbered (own_property_cells unit p) unit.properties) _ (mark_cell n (of_person p))
      (in_right (each_numbered (own_thing_cells p) (things_of unit)) _ (mark_cell n (of_person p))
      (in_right (map (λ role. member_cell role p) (numbers_below (length (roles_of unit)))) _ (mark_cell n (of_person p))
      (in_each (own_mark_cells p) (rules_of unit) n rule (mark_cell n (of_person p)) at
      (listed (is_for_persons (kind_of rule)) (mark_cell n (of_person p)) is)))))
  mark_there n rule owner at own is the_run =
      of_run (mark_cell n Run)
      (inr (inr (inr (in_right values (openings ++ marks) (mark_cell n Run)
      (in_right openings marks (mark_cell n Run)
      (in_each run_mark_cells (rules_of unit) n rule (mark_cell n Run) at
      (listed (is_for_run (kind_of rule)) (mark_cell n Run) (ap is_for_run (sym (for_run (kind_of rule) is))))))))))

  -- Whether a person is a member of a role.
  pub member_there : (r p : ℕ) → r < length (roles_of unit) → p < persons
      → IsIn (all_cells unit persons) (member_cell r p)
  member_there r p role below =
      of_one p below (member_cell r p)
      (in_right (each_numbered (own_property_cells unit p) unit.properties) _ (member_cell r p)
      (in_right (each_numbered (own_thing_cells p) (things_of unit)) _ (member_cell r p)
      (in_left (map (λ r. member_cell r p) (numbers_below (length (roles_of unit)))) _ (member_cell r p)
      (in_map (λ r. member_cell r p) (numbers_below (length (roles_of unit))) r (in_below (length (roles_of unit)) r role)))))

  of_thing : (n : ℕ) (entry : Entry) (p : ℕ) → slice_get (things_of unit) n ≡ Some entry → p < persons
      → (c : CellName) → IsIn (own_thing_cells p n entry) c → IsIn (all_cells unit persons) c
  of_thing n entry p at below c inside =
      of_one p below c
      (in_right (each_numbered (own_property_cells unit p) unit.properties) _ c
      (in_left (each_numbered (own_thing_cells p) (things_of unit)) _ c
      (in_each (own_thing_cells p) (things_of unit) n entry c at inside)))

  -- What a person sees of a thing that is shown and hidden.
  pub visibility_there : (n : ℕ) (entry : Entry) (p : ℕ) → slice_get (things_of unit) n ≡ Some entry
      → is_some entry.visible ≡ true → p < persons → IsIn (all_cells unit persons) (visibility_cell n p)
  visibility_there n entry p at shown below =
      of_thing n entry p at below (visibility_cell n p)
      (in_left (cell_if (is_some entry.visible) (visibility_cell n p)) _ (visibility_cell n p)
      (listed (is_some entry.visible) (visibility_cell n p) shown))

  -- Whether a person has said that an activity is completed, and when the person first opened it.
  pub chosen_there : (n : ℕ) (entry : Entry) (p : ℕ) → slice_get (things_of unit) n ≡ Some entry
      → is_activity_place entry.place ≡ true → p < persons → IsIn (all_cells unit persons) (chosen_cell n p)
  chosen_there n entry p at active below =
      of_thing n entry p at below (chosen_cell n p)
      (in_right (cell_if (is_some entry.visible) (visibility_cell n p)) _ (chosen_cell n p)
      (in_left (cell_if (is_activity_place entry.place) (chosen_cell n p)) _ (chosen_cell n p)
      (listed (is_activity_place entry.place) (chosen_cell n p) active)))

  pub opened_there : (n : ℕ) (entry : Entry) (p : ℕ) → slice_get (things_of unit) n ≡ Some entry
      → is_activity_place entry.place ≡ true → p < persons
      → IsIn (all_cells unit persons) (opened_cell n (of_person p))
  opened_there n entry p at active below =
      of_thing n entry p at below (opened_cell n (of_person p))
      (in_right (cell_if (is_some entry.visible) (visibility_cell n p)) _ (opened_cell n (of_person p))
      (in_right (cell_if (is_activity_place entry.place) (chosen_cell n p)) _ (opened_cell n (of_person p))
      (listed (is_activity_place entry.place) (opened_cell n (of_person p)) active)))

  -- When an act was opened.
  pub opening_there : (n : ℕ) (entry : Entry) → slice_get (things_of unit) n ≡ Some entry
      → is_act_place entry.place ≡ true → IsIn (all_cells unit persons) (act_opened_cell n)
  opening_there n entry at is =
      of_run (act_opened_cell n)
      (inr (inr (inr (in_right values (openings ++ marks) (act_opened_cell n)
      (in_left openings marks (act_opened_cell n)
      (in_each opening_cells (things_of unit) n entry (act_opened_cell n) at
      (listed (is_act_place entry.place) (act_opened_cell n) is)))))))
