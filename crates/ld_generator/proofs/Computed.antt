-- The generator's unit is valid: the checker computes the checks from their definitions.
use Rattle.std.proofs.Common.{◌≡◌, ◌∙◌, refl, ap, ap₂, true, List, [], ◌∷◌, Some}
use Rattle.std.specs.Fmt.{digits}
use Rattle.ld_base.specs.Identifier.{begins_identifier, continues_identifier}
use Rattle.ld_value.specs.Numeral.{numeral}
use Rattle.ld_value.specs.Values.{truth_of, signed_numeral, integer_of, value_of, text_of, fits_in}
use Rattle.ld_shape.specs.Forms.{true_of, text_within, identifier_of, number_within}
use Rattle.ld_shape.specs.Recursion.{formed_by}
use Rattle.ld_formats.specs.Activities.{doing, content_by, activity_by, activity}
use Rattle.ld_formats.specs.Changes.{change, notice, on_completion}
use Rattle.ld_formats.specs.Completions.{value_set, common_cases, activity_completion, act_completion, play_completion, unit_completion, ending}
use Rattle.ld_formats.specs.Conditions.{action, condition, conditions_document}
use Rattle.ld_formats.specs.Methods.{part_in_act, act, play, method}
use Rattle.ld_formats.specs.Properties.{left_out_restrictions, restrictions, owner_and_values, property_by, property, properties_document}
use Rattle.ld_formats.specs.Roles.{told_members, inner_role, role_of, role, roles_document}
use Rattle.ld_formats.specs.Structures.{from_one, content_by as structure_content_by, structure_by, structure, activities_document}
use Rattle.ld_formats.specs.Terms.{term_by}
use Rattle.ld_formats.specs.Tests.{of_members, test_by}
use Rattle.ld_formats.specs.Units.{format, content_members, head, parts, method_documents, is_well_formed, unit as unit_shape}
use Rattle.ld_walk.specs.CommonParts.{change_parts, notice_parts}
use Rattle.ld_parts.specs.Listing.{value_set_parts, condition_true_parts, completed_parts, completion_parts, follows_parts, on_completion_parts, role_part, property_parts_at, object_parts_at, service_parts, environment_parts_at, parts_before_items, ending_parts, activity_parts_at, structure_parts_at, role_part_parts_at, act_parts_at, play_parts_at, method_parts, unit_parts, action_parts, condition_parts_at, middle_parts, parts_of}
use Rattle.ld_names.specs.Names.{named_by}
use Rattle.ld_types.specs.PropertyFaults.{property_faults}
use Rattle.ld_types.specs.Typing.{change_faults}
use Rattle.ld_refs.specs.Bounds.{object_limit_faults, count_faults}
use Rattle.ld_refs.specs.Checks.{meaning_faults, amount_faults, text_faults, IsValid, check_faults}
use Rattle.ld_refs.specs.Extents.{size_faults}
use Rattle.ld_refs.specs.Reaching.{cycle_faults}
use Rattle.ld_json.specs.Fault.{Told, first_of}
use Rattle.ld_model.specs.declared.unit.Unit.{Unit}
use Rattle.ld_world.specs.Published.{faults_beside}
use Rattle.ld_generator.specs.GeneratedUnit.{generated_unit}

formed : is_well_formed generated_unit ≡ true
unfolding is_well_formed unit_shape digits begins_identifier continues_identifier numeral truth_of signed_numeral integer_of value_of text_of fits_in true_of text_within identifier_of number_within formed_by doing content_by activity_by activity change notice on_completion value_set common_cases activity_completion act_completion play_completion unit_completion ending action condition conditions_document part_in_act act play method left_out_restrictions restrictions owner_and_values property_by property properties_document told_members inner_role role_of role roles_document from_one structure_content_by structure_by structure activities_document term_by of_members test_by format content_members head parts method_documents
formed = refl

faultless : check_faults generated_unit ≡ []
unfolding check_faults digits begins_identifier continues_identifier numeral truth_of signed_numeral integer_of value_of text_of fits_in change_parts notice_parts value_set_parts condition_true_parts completed_parts completion_parts follows_parts on_completion_parts role_part property_parts_at object_parts_at service_parts environment_parts_at parts_before_items ending_parts activity_parts_at structure_parts_at role_part_parts_at act_parts_at play_parts_at method_parts unit_parts action_parts condition_parts_at middle_parts parts_of named_by property_faults change_faults object_limit_faults count_faults meaning_faults amount_faults text_faults size_faults cycle_faults
faultless = refl

-- Each member of the unit has its form, and no check finds a fault in it.
pub valid_as_well : (unit : Unit) → unit ≡ generated_unit → IsValid unit
valid_as_well unit is = record { formed = ap is_well_formed is ∙ formed; faultless = ap check_faults is ∙ faultless }

nothing_first : (faults : List Told) (fault : Told) → faults ≡ [] → first_of faults ≡ Some fault → ⊥
nothing_first [] fault none first = cc
nothing_first (x ∷ xs) fault none first = cc

-- A valid unit has no first fault.
pub no_first_fault : (unit : Unit) (fault : Told) → IsValid unit → first_of (check_faults unit) ≡ Some fault → ⊥
no_first_fault unit fault valid first = nothing_first (check_faults unit) fault valid.faultless first

faultless_alone : faults_beside [] generated_unit ≡ []
faultless_alone = refl

-- Nor is there one beside no other units.
pub no_fault_alone : (units : List Unit) (unit : Unit) (fault : Told) → units ≡ [] → unit ≡ generated_unit
    → first_of (faults_beside units unit) ≡ Some fault → ⊥
no_fault_alone units unit fault none is first =
    nothing_first (faults_beside units unit) fault (ap₂ faults_beside none is ∙ faultless_alone) first
