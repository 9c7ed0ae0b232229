-- A condition on all members of a role is judged again when the members change.
use Rattle.std.specs.Prelude.{◌≡◌, refl, List, [], ◌∷◌, ◌++◌, None, codes}
use Rattle.std.specs.Fmt.{digits}
use Rattle.json.specs.Print.{escape_byte}
use Rattle.ld_value.specs.Values.{value_of, text_of, truth_of, integer_of, signed_numeral, fits_in}
use Rattle.ld_model.specs.Expressions.{property_term, TestOf, users_test}
use Rattle.ld_value.specs.Numeral.{numeral}
use Rattle.ld_value.specs.declared.kind.Kind.TheVariants.{Boolean as BooleanKind}
use Rattle.ld_state.specs.RunCells.{begins_as}
use Rattle.ld_model.specs.declared.condition.Action.TheVariants.{Show, Hide}
use Rattle.ld_model.specs.declared.property.PropertyKind.TheVariants.{LocPers}
use Rattle.ld_model.specs.declared.unit.Unit.{Unit}
use Rattle.ld_cascade.specs.Settling.{visited, fired_below, after_sweeps, all_firings}
use Rattle.ld_names.specs.Names.{named_by}
use Rattle.ld_parts.specs.Listing.{value_set_parts, condition_true_parts, completed_parts, completion_parts, follows_parts, on_completion_parts, role_part, property_parts_at, object_parts_at, service_parts, environment_parts_at, parts_before_items, ending_parts, activity_parts_at, structure_parts_at, role_part_parts_at, act_parts_at, play_parts_at, method_parts, unit_parts, action_parts, condition_parts_at, middle_parts, parts_of}
use Rattle.ld_walk.specs.CommonParts.{change_parts, notice_parts}
use Rattle.ld_firing.specs.Actions.{site_firing}
use Rattle.ld_state.specs.RunState.{cell_of}
use Rattle.ld_rules.specs.SiteTests.{site_test}
use Rattle.ld_firing.specs.RunSettling.{run_settling}
use Rattle.ld_admission.specs.Checks.{admitted}
use Rattle.ld_lines.specs.declared.command.RunCommand.TheVariants.{Enrol, Assign, Drop, Start, Set, Tree}
use Rattle.ld_run.specs.RunStep.{run_step}
use Rattle.ld_tree.specs.Tree.{tree_lines, is_open}
use Rattle.ld_lines.specs.declared.line.Line.{Line}
use Rattle.ld_lines.specs.declared.line.Line.TheVariants.{Create}
use Rattle.ld_world.specs.World.{world_step, reply_block}
use Rattle.ld_laws.specs.Courses.{truth, is_equal, learner, choice, course, one_part, a_property, with_conditions, a_condition, a_moment, at, told}

-- A condition shows `read` where the test holds, and hides it where it does not.
abbrev pub the_course : TestOf → Unit
the_course everybody = with_conditions
    (a_property (codes "okay") LocPers BooleanKind None ∷ [])
    (a_condition everybody (Show (codes "read" ∷ []) ∷ []) (Hide (codes "read" ∷ []) ∷ []) ∷ [])
    (course (codes "u") (learner ∷ []) (choice (codes "read") ∷ []) [] (one_part (codes "read")))

-- `ann`, the only learner, says that it is okay; then `bob` joins, becomes a learner, and is none again.
abbrev pub the_lines : List Line
the_lines =
    Create (a_moment 8 0) (codes "r") (codes "u")
    ∷ at 8 0 (Enrol (codes "ann"))
    ∷ at 8 0 (Assign (codes "ann") (codes "learner"))
    ∷ at 9 0 Start
    ∷ at 10 0 (Tree (codes "ann"))
    ∷ at 10 0 (Set (codes "ann") (codes "okay") (codes "true"))
    ∷ at 10 0 (Enrol (codes "bob"))
    ∷ at 10 0 (Assign (codes "bob") (codes "learner"))
    ∷ at 10 0 (Drop (codes "bob") (codes "learner")) ∷ []

-- Every learner has said that it is okay.
abbrev pub all_okay : TestOf
all_okay = users_test (codes "learner") (is_equal (property_term (codes "okay")) (truth (codes "true")))

-- The condition turns for both persons when `bob` becomes a learner, and back when `bob` is none.
pub all_members : told 2 (the_course all_okay) the_lines ≡
    codes "ok create\n"
    ∷ codes "ok enrol turns=0 fired=0 rejected=0 sent=0\n"
    ∷ codes "ok assign turns=0 fired=0 rejected=0 sent=0\n"
    ∷ codes "ok start turns=1 fired=2 rejected=0 sent=0\n"
    ∷ (codes "ok tree turns=0 fired=0 rejected=0 sent=0 lines=4\n" ++ codes "unit u open\n"
    ++ codes "  play p open\n" ++ codes "    act a open\n" ++ codes "      part rp open\n")
    ∷ codes "ok set turns=1 fired=1 rejected=0 sent=0\n"
    ∷ codes "ok enrol turns=1 fired=1 rejected=0 sent=0\n"
    ∷ codes "ok assign turns=1 fired=2 rejected=0 sent=0\n"
    ∷ codes "ok drop turns=1 fired=2 rejected=0 sent=0\n" ∷ []
unfolding world_step reply_block run_step admitted visited fired_below after_sweeps all_firings run_settling site_test site_firing value_set_parts condition_true_parts completed_parts completion_parts follows_parts on_completion_parts role_part property_parts_at object_parts_at service_parts environment_parts_at parts_before_items ending_parts activity_parts_at structure_parts_at role_part_parts_at act_parts_at play_parts_at method_parts unit_parts action_parts condition_parts_at middle_parts parts_of named_by change_parts notice_parts cell_of begins_as tree_lines is_open digits escape_byte value_of text_of truth_of integer_of signed_numeral numeral fits_in
all_members = refl
