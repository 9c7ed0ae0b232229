-- Four turns in a row are past a budget of three.
use Rattle.std.specs.Prelude.{◌≡◌, refl, ℕ, List, [], ◌∷◌, map, None, codes}
use Rattle.std.specs.Fmt.{digits}
use Rattle.json.specs.Print.{escape_byte}
use Rattle.ld_value.specs.Values.{value_of, text_of, truth_of, integer_of, signed_numeral, fits_in}
use Rattle.ld_model.specs.Expressions.{property_term}
use Rattle.ld_value.specs.Numeral.{numeral}
use Rattle.ld_value.specs.declared.kind.Kind.TheVariants.{Integer as IntegerKind}
use Rattle.ld_state.specs.RunCells.{begins_as}
use Rattle.ld_model.specs.declared.condition.Action.TheVariants.{Change}
use Rattle.ld_model.specs.declared.condition.Condition.{Condition}
use Rattle.ld_model.specs.declared.property.Property.{Property as PropertyOf}
use Rattle.ld_model.specs.declared.property.PropertyKind.TheVariants.{Loc}
use Rattle.ld_model.specs.declared.unit.Unit.{Unit}
use Rattle.ld_cascade.specs.Settling.{visited, fired_below, after_sweeps, all_firings}
use Rattle.ld_names.specs.Names.{named_by}
use Rattle.ld_parts.specs.Listing.{value_set_parts, condition_true_parts, completed_parts, completion_parts, follows_parts, on_completion_parts, role_part, property_parts_at, object_parts_at, service_parts, environment_parts_at, parts_before_items, ending_parts, activity_parts_at, structure_parts_at, role_part_parts_at, act_parts_at, play_parts_at, method_parts, unit_parts, action_parts, condition_parts_at, middle_parts, parts_of}
use Rattle.ld_walk.specs.CommonParts.{change_parts, notice_parts}
use Rattle.ld_firing.specs.Actions.{site_firing}
use Rattle.ld_state.specs.RunState.{cell_of}
use Rattle.ld_rules.specs.SiteTests.{site_test}
use Rattle.ld_firing.specs.RunSettling.{run_settling}
use Rattle.ld_admission.specs.Checks.{admitted}
use Rattle.ld_lines.specs.declared.command.RunCommand.TheVariants.{Enrol, Assign, Start, Set}
use Rattle.ld_run.specs.RunStep.{run_step}
use Rattle.ld_tree.specs.Tree.{tree_lines, is_open}
use Rattle.ld_lines.specs.declared.line.Line.{Line}
use Rattle.ld_lines.specs.declared.line.Line.TheVariants.{Create}
use Rattle.ld_world.specs.World.{world_step, reply_block}
use Rattle.ld_laws.specs.Courses.{whole, is_equal, learner, choice, course, one_part, a_property, with_conditions, a_condition, a_moment, at, told}

-- Where the first property is 1, the second becomes 1.
abbrev follows : List ℕ → List ℕ → Condition
follows a b =
    a_condition (is_equal (property_term a) (whole (codes "1")))
    (Change (record { property = b; value = whole (codes "1") }) ∷ []) []

-- An integer of the run, without a value at first.
abbrev number : List ℕ → PropertyOf
number id = a_property id Loc IntegerKind None

-- Four conditions in a chain, the last link first, so that each sweep fires one; the budget is 3.
abbrev pub the_course : Unit
the_course = record (with_conditions (map number (codes "p0" ∷ codes "p1" ∷ codes "p2" ∷ codes "p3"
    ∷ codes "p4" ∷ []))
    (follows (codes "p3") (codes "p4") ∷ follows (codes "p2") (codes "p3")
    ∷ follows (codes "p1") (codes "p2")
    ∷ follows (codes "p0") (codes "p1") ∷ [])
    (course (codes "u") (learner ∷ []) (choice (codes "read")
    ∷ []) [] (one_part (codes "read")))) { turns = 3 }

-- All conditions are judged at the start; then the first property is set to 1.
abbrev pub the_lines : List Line
the_lines =
    Create (a_moment 8 0) (codes "r") (codes "u")
    ∷ at 8 0 (Enrol (codes "ann"))
    ∷ at 8 0 (Assign (codes "ann") (codes "learner"))
    ∷ at 9 0 Start
    ∷ at 10 0 (Set (codes "ann") (codes "p0") (codes "1")) ∷ []

-- The fourth sweep fires as well, and so the command is refused.
pub budget_of_three : told 1 the_course the_lines ≡
    codes "ok create\n"
    ∷ codes "ok enrol turns=0 fired=0 rejected=0 sent=0\n"
    ∷ codes "ok assign turns=0 fired=0 rejected=0 sent=0\n"
    ∷ codes "ok start turns=1 fired=5 rejected=0 sent=0\n"
    ∷ codes "no 30 turn-budget\n" ∷ []
unfolding world_step reply_block run_step admitted visited fired_below after_sweeps all_firings run_settling site_test site_firing value_set_parts condition_true_parts completed_parts completion_parts follows_parts on_completion_parts role_part property_parts_at object_parts_at service_parts environment_parts_at parts_before_items ending_parts activity_parts_at structure_parts_at role_part_parts_at act_parts_at play_parts_at method_parts unit_parts action_parts condition_parts_at middle_parts parts_of named_by change_parts notice_parts cell_of begins_as tree_lines is_open digits escape_byte value_of text_of truth_of integer_of signed_numeral numeral fits_in
budget_of_three = refl
