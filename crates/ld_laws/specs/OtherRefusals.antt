-- Further refusals.
use Rattle.std.specs.Prelude.{◌≡◌, refl, List, [], ◌∷◌, map, Some, None, true, codes}
use Rattle.std.specs.Fmt.{digits}
use Rattle.json.specs.Print.{escape_byte}
use Rattle.ld_value.specs.Values.{value_of, text_of, truth_of, integer_of, signed_numeral, fits_in}
use Rattle.ld_value.specs.Numeral.{numeral}
use Rattle.ld_value.specs.declared.kind.Kind.TheVariants.{Integer as IntegerKind, String as StringKind}
use Rattle.ld_state.specs.RunCells.{begins_as}
use Rattle.ld_model.specs.declared.completion.Completion.TheVariants.{TimeLimit}
use Rattle.ld_model.specs.RoleRows.{RoleRow}
use Rattle.ld_model.specs.declared.property.Property.{Property as PropertyOf}
use Rattle.ld_model.specs.declared.property.PropertyKind.TheVariants.{Loc, LocRole}
use Rattle.ld_model.specs.declared.unit.Unit.{Unit}
use Rattle.ld_cascade.specs.Settling.{visited, fired_below, after_sweeps, all_firings}
use Rattle.ld_names.specs.Names.{named_by}
use Rattle.ld_parts.specs.Listing.{value_set_parts, condition_true_parts, completed_parts, completion_parts, follows_parts, on_completion_parts, role_part, property_parts_at, object_parts_at, service_parts, environment_parts_at, parts_before_items, ending_parts, activity_parts_at, structure_parts_at, role_part_parts_at, act_parts_at, play_parts_at, method_parts, unit_parts, action_parts, condition_parts_at, middle_parts, parts_of}
use Rattle.ld_walk.specs.CommonParts.{change_parts, notice_parts}
use Rattle.ld_firing.specs.Actions.{site_firing}
use Rattle.ld_state.specs.RunState.{cell_of}
use Rattle.ld_rules.specs.SiteTests.{site_test}
use Rattle.ld_firing.specs.RunSettling.{run_settling}
use Rattle.ld_admission.specs.Checks.{admitted}
use Rattle.ld_lines.specs.declared.command.RunCommand.TheVariants.{Enrol, Assign, Drop, Start, Open, Complete, Set, Clear, Get, Tree}
use Rattle.ld_run.specs.RunStep.{run_step}
use Rattle.ld_tree.specs.Tree.{tree_lines, is_open}
use Rattle.ld_lines.specs.declared.line.Line.{Line}
use Rattle.ld_lines.specs.declared.line.Line.TheVariants.{Create}
use Rattle.ld_world.specs.World.{world_step, reply_block}
use Rattle.ld_laws.specs.Courses.{learner, tutor, an_activity, choice, course, one_part, a_property, with_conditions, a_moment, at, told}

-- An integer of the run.
abbrev n : PropertyOf
n = a_property (codes "n") Loc IntegerKind None

-- A text of the role of tutors.
abbrev team : PropertyOf
team = record (a_property (codes "team") LocRole StringKind None) { role = Some (codes "tutor") }

-- The role with one member at least.
abbrev needed : RoleRow → RoleRow
needed row = record row { min_persons = 1 }

-- A course that needs a learner, with an activity by choice and one that is done a day after it is opened.
abbrev pub the_course : Unit
the_course = with_conditions (n ∷ team ∷ []) []
    (course (codes "u") (map needed learner ∷ tutor ∷ [])
    (choice (codes "read") ∷ an_activity (codes "timed") true (TimeLimit 86400)
    ∷ []) [] (one_part (codes "read")))

-- A line for each of many causes, and between them those that lead there.
abbrev pub the_lines : List Line
the_lines =
    Create (a_moment 8 0) (codes "q") (codes "nope")
    ∷ Create (a_moment 8 0) (codes "r") (codes "u")
    ∷ Create (a_moment 8 0) (codes "r") (codes "u")
    ∷ at 8 0 (Enrol (codes "ann"))
    ∷ at 8 0 (Enrol (codes "ann"))
    ∷ at 8 0 Start
    ∷ at 8 0 (Assign (codes "ann") (codes "guest"))
    ∷ at 8 0 (Assign (codes "ann") (codes "learner"))
    ∷ at 8 0 Start
    ∷ at 10 0 Start
    ∷ at 10 0 (Drop (codes "ann") (codes "learner"))
    ∷ at 10 0 (Tree (codes "zoe"))
    ∷ at 10 0 (Open (codes "ann") (codes "nope"))
    ∷ at 10 0 (Complete (codes "ann") (codes "timed"))
    ∷ at 10 0 (Open (codes "ann") (codes "timed"))
    ∷ at 10 0 (Set (codes "ann") (codes "nope") (codes "1"))
    ∷ at 10 0 (Set (codes "ann") (codes "n") (codes "abc"))
    ∷ at 10 0 (Set (codes "ann") (codes "team") (codes "x"))
    ∷ at 10 0 (Set (codes "ann") (codes "n") (codes "4"))
    ∷ at 10 0 (Clear (codes "ann") (codes "n"))
    ∷ at 10 0 (Get (codes "ann") (codes "n")) ∷ []

-- Each refusal is told by its number and its word; of a short role also its members and how many it needs.
pub other_refusals : told 1 the_course the_lines ≡
    codes "no 2 unknown-unit\n"
    ∷ codes "ok create\n"
    ∷ codes "no 3 run-exists\n"
    ∷ codes "ok enrol turns=0 fired=0 rejected=0 sent=0\n"
    ∷ codes "no 9 person-exists\n"
    ∷ codes "no 16 role-short learner 0 1\n"
    ∷ codes "no 11 unknown-role\n"
    ∷ codes "ok assign turns=0 fired=0 rejected=0 sent=0\n"
    ∷ codes "ok start turns=1 fired=1 rejected=0 sent=0\n"
    ∷ codes "no 7 started-already\n"
    ∷ codes "no 16 role-short learner 0 1\n"
    ∷ codes "no 8 unknown-person\n"
    ∷ codes "no 17 unknown-activity\n"
    ∷ codes "no 18 not-by-choice\n"
    ∷ codes "no 31 not-open\n"
    ∷ codes "no 19 unknown-property\n"
    ∷ codes "no 21 bad-value\n"
    ∷ codes "no 22 not-allowed\n"
    ∷ codes "ok set turns=0 fired=0 rejected=0 sent=0\n"
    ∷ codes "ok clear turns=0 fired=0 rejected=0 sent=0\n"
    ∷ codes "ok get turns=0 fired=0 rejected=0 sent=0 value=none\n" ∷ []
unfolding world_step reply_block run_step admitted visited fired_below after_sweeps all_firings run_settling site_test site_firing value_set_parts condition_true_parts completed_parts completion_parts follows_parts on_completion_parts role_part property_parts_at object_parts_at service_parts environment_parts_at parts_before_items ending_parts activity_parts_at structure_parts_at role_part_parts_at act_parts_at play_parts_at method_parts unit_parts action_parts condition_parts_at middle_parts parts_of named_by change_parts notice_parts cell_of begins_as tree_lines is_open digits escape_byte value_of text_of truth_of integer_of signed_numeral numeral fits_in
other_refusals = refl
