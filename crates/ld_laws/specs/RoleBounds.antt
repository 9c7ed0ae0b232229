-- Limits of roles within roles.
use Rattle.std.specs.Prelude.{◌≡◌, refl, List, [], ◌∷◌, map, Some, codes}
use Rattle.std.specs.Fmt.{digits}
use Rattle.json.specs.Print.{escape_byte}
use Rattle.ld_value.specs.Values.{value_of, text_of, truth_of, integer_of, signed_numeral, fits_in}
use Rattle.ld_value.specs.Numeral.{numeral}
use Rattle.ld_state.specs.RunCells.{begins_as}
use Rattle.ld_model.specs.RoleRows.{RoleRow}
use Rattle.ld_model.specs.declared.role.RoleKind.TheVariants.{Staff}
use Rattle.ld_model.specs.declared.role.MatchPersons.TheVariants.{ExclusivelyInRoles}
use Rattle.ld_model.specs.declared.unit.Unit.{Unit}
use Rattle.ld_cascade.specs.Settling.{visited, fired_below, after_sweeps, all_firings}
use Rattle.ld_names.specs.Names.{named_by}
use Rattle.ld_parts.specs.Listing.{value_set_parts, condition_true_parts, completed_parts, completion_parts, follows_parts, on_completion_parts, role_part, property_parts_at, object_parts_at, service_parts, environment_parts_at, parts_before_items, ending_parts, activity_parts_at, structure_parts_at, role_part_parts_at, act_parts_at, play_parts_at, method_parts, unit_parts, action_parts, condition_parts_at, middle_parts, parts_of}
use Rattle.ld_walk.specs.CommonParts.{change_parts, notice_parts}
use Rattle.ld_firing.specs.Actions.{site_firing}
use Rattle.ld_state.specs.RunState.{cell_of}
use Rattle.ld_rules.specs.SiteTests.{site_test}
use Rattle.ld_firing.specs.RunSettling.{run_settling}
use Rattle.ld_admission.specs.Checks.{admitted}
use Rattle.ld_lines.specs.declared.command.RunCommand.TheVariants.{Enrol, Assign, Drop}
use Rattle.ld_run.specs.RunStep.{run_step}
use Rattle.ld_tree.specs.Tree.{tree_lines, is_open}
use Rattle.ld_lines.specs.declared.line.Line.{Line}
use Rattle.ld_lines.specs.declared.line.Line.TheVariants.{Create}
use Rattle.ld_world.specs.World.{world_step, reply_block}
use Rattle.ld_laws.specs.Courses.{a_role, learner, enclosing, choice, course, one_part, a_moment, at, told}

-- The role with at most two members, each in only one of the roles right within it.
abbrev limited : RoleRow → RoleRow
limited row = record row { max_persons = Some 2; match_persons = ExclusivelyInRoles }

-- A group of at most two, who are either its chairs or its scribes.
abbrev group : List RoleRow
group = enclosing (map limited (a_role (codes "group") Staff)) (a_role (codes "chair") Staff
    ∷ a_role (codes "scribe") Staff ∷ [])

-- A course of one activity for learners, with the group beside them.
abbrev pub the_course : Unit
the_course = course (codes "u") (learner ∷ group ∷ []) (choice (codes "read")
    ∷ []) [] (one_part (codes "read"))

-- Three persons are assigned to the group and to roles within it, and one drops it.
abbrev pub the_lines : List Line
the_lines =
    Create (a_moment 8 0) (codes "r") (codes "u")
    ∷ at 8 0 (Enrol (codes "ann"))
    ∷ at 8 0 (Enrol (codes "bob"))
    ∷ at 8 0 (Enrol (codes "cy"))
    ∷ at 8 0 (Assign (codes "ann") (codes "chair"))
    ∷ at 8 0 (Assign (codes "bob") (codes "group"))
    ∷ at 8 0 (Assign (codes "cy") (codes "group"))
    ∷ at 8 0 (Assign (codes "cy") (codes "chair"))
    ∷ at 8 0 (Assign (codes "ann") (codes "group"))
    ∷ at 8 0 (Assign (codes "ann") (codes "scribe"))
    ∷ at 8 0 (Assign (codes "ann") (codes "chair"))
    ∷ at 8 0 (Drop (codes "bob") (codes "chair"))
    ∷ at 8 0 (Drop (codes "bob") (codes "group")) ∷ []

-- With a chair and one more the group is full; the chair may hold the group, too, and not be its scribe.
pub role_bounds_told : told 3 the_course the_lines ≡
    codes "ok create\n"
    ∷ codes "ok enrol turns=0 fired=0 rejected=0 sent=0\n"
    ∷ codes "ok enrol turns=0 fired=0 rejected=0 sent=0\n"
    ∷ codes "ok enrol turns=0 fired=0 rejected=0 sent=0\n"
    ∷ codes "ok assign turns=0 fired=0 rejected=0 sent=0\n"
    ∷ codes "ok assign turns=0 fired=0 rejected=0 sent=0\n"
    ∷ codes "no 14 role-full\n"
    ∷ codes "no 14 role-full\n"
    ∷ codes "ok assign turns=0 fired=0 rejected=0 sent=0\n"
    ∷ codes "no 15 role-exclusive\n"
    ∷ codes "no 12 holds-already\n"
    ∷ codes "no 13 not-held\n"
    ∷ codes "ok drop turns=0 fired=0 rejected=0 sent=0\n" ∷ []
unfolding world_step reply_block run_step admitted visited fired_below after_sweeps all_firings run_settling site_test site_firing value_set_parts condition_true_parts completed_parts completion_parts follows_parts on_completion_parts role_part property_parts_at object_parts_at service_parts environment_parts_at parts_before_items ending_parts activity_parts_at structure_parts_at role_part_parts_at act_parts_at play_parts_at method_parts unit_parts action_parts condition_parts_at middle_parts parts_of named_by change_parts notice_parts cell_of begins_as tree_lines is_open digits escape_byte value_of text_of truth_of integer_of signed_numeral numeral fits_in
role_bounds_told = refl
