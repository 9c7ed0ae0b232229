-- Two acts: the second opens when both role-parts of the first are done.
use Rattle.std.specs.Prelude.{◌≡◌, refl, List, [], ◌∷◌, ◌++◌, Some, None, codes}
use Rattle.std.specs.Fmt.{digits}
use Rattle.json.specs.Print.{escape_byte}
use Rattle.ld_value.specs.Calendar.{text_of_moment, day_and_second_text}
use Rattle.ld_value.specs.Values.{value_of, text_of, truth_of, integer_of, signed_numeral, fits_in}
use Rattle.ld_value.specs.Numeral.{numeral}
use Rattle.ld_state.specs.RunCells.{begins_as}
use Rattle.ld_model.specs.declared.completion.Completion.TheVariants.{WhenRolePartCompleted}
use Rattle.ld_model.specs.declared.unit.Unit.{Unit}
use Rattle.ld_cascade.specs.Settling.{visited, fired_below, after_sweeps, all_firings}
use Rattle.ld_names.specs.Names.{named_by}
use Rattle.ld_parts.specs.Listing.{value_set_parts, condition_true_parts, completed_parts, completion_parts, follows_parts, on_completion_parts, role_part, property_parts_at, object_parts_at, service_parts, environment_parts_at, parts_before_items, ending_parts, activity_parts_at, structure_parts_at, role_part_parts_at, act_parts_at, play_parts_at, method_parts, unit_parts, action_parts, condition_parts_at, middle_parts, parts_of}
use Rattle.ld_walk.specs.CommonParts.{change_parts, notice_parts}
use Rattle.ld_firing.specs.Actions.{site_firing}
use Rattle.ld_state.specs.RunState.{cell_of}
use Rattle.ld_rules.specs.SiteTests.{site_test}
use Rattle.ld_firing.specs.RunSettling.{run_settling}
use Rattle.ld_admission.specs.Checks.{admitted}
use Rattle.ld_lines.specs.declared.command.RunCommand.TheVariants.{Enrol, Assign, Start, Complete, Tree, Report}
use Rattle.ld_run.specs.RunStep.{run_step}
use Rattle.ld_tree.specs.Tree.{tree_lines, is_open}
use Rattle.ld_lines.specs.declared.line.Line.{Line}
use Rattle.ld_lines.specs.declared.line.Line.TheVariants.{Create}
use Rattle.ld_world.specs.World.{world_step, reply_block}
use Rattle.ld_laws.specs.Courses.{learner, tutor, choice, a_part, an_act, course, clock, a_moment, at, told}

-- Two acts; the first is done when both its parts are, that of learners and that of tutors.
abbrev pub the_course : Unit
the_course = course (codes "u") (learner ∷ tutor ∷ []) (choice (codes "x") ∷ choice (codes "y")
    ∷ choice (codes "z") ∷ []) []
    (an_act (codes "a1") (a_part (codes "rp1") (codes "learner") (codes "x")
    ∷ a_part (codes "rp2") (codes "tutor") (codes "y") ∷ [])
    (Some (WhenRolePartCompleted (codes "rp1" ∷ codes "rp2" ∷ [])))
    ∷ an_act (codes "a2") (a_part (codes "rp3") (codes "learner") (codes "z") ∷ []) None ∷ [])

-- A learner and then a tutor complete their activities; the tree is looked at behind each.
abbrev pub the_lines : List Line
the_lines =
    Create (a_moment 8 0) (codes "r") (codes "u")
    ∷ at 8 0 (Enrol (codes "ann"))
    ∷ at 8 0 (Assign (codes "ann") (codes "learner"))
    ∷ at 8 0 (Enrol (codes "bob"))
    ∷ at 8 0 (Assign (codes "bob") (codes "tutor"))
    ∷ at 9 0 Start
    ∷ at 9 10 (Complete (codes "ann") (codes "x"))
    ∷ at 9 10 (Tree (codes "ann"))
    ∷ at 9 20 (Complete (codes "bob") (codes "y"))
    ∷ at 9 20 (Tree (codes "ann"))
    ∷ at 9 20 Report ∷ []

-- The second act opens with the command of the tutor, whose moment the report tells.
pub two_acts : told 2 the_course the_lines ≡
    codes "ok create\n"
    ∷ codes "ok enrol turns=0 fired=0 rejected=0 sent=0\n"
    ∷ codes "ok assign turns=0 fired=0 rejected=0 sent=0\n"
    ∷ codes "ok enrol turns=0 fired=0 rejected=0 sent=0\n"
    ∷ codes "ok assign turns=0 fired=0 rejected=0 sent=0\n"
    ∷ codes "ok start turns=1 fired=1 rejected=0 sent=0\n"
    ∷ codes "ok complete turns=1 fired=2 rejected=0 sent=0\n"
    ∷ (codes "ok tree turns=0 fired=0 rejected=0 sent=0 lines=5\n" ++ codes "unit u open\n"
    ++ codes "  play p open\n" ++ codes "    act a1 open\n" ++ codes "      part rp1 done\n"
    ++ codes "        activity x done\n")
    ∷ codes "ok complete turns=1 fired=4 rejected=0 sent=0\n"
    ∷ (codes "ok tree turns=0 fired=0 rejected=0 sent=0 lines=6\n" ++ codes "unit u open\n"
    ++ codes "  play p open\n" ++ codes "    act a1 done\n" ++ codes "    act a2 open\n"
    ++ codes "      part rp3 open\n" ++ codes "        activity z open\n")
    ∷ (codes "ok report turns=0 fired=0 rejected=0 sent=0 lines=11\n" ++ codes "started "
    ++ text_of_moment (clock 9 0) ++ codes "\n" ++ codes "role learner members=1\n"
    ++ codes "role tutor members=1\n" ++ codes "play p open\n" ++ codes "act a1 done "
    ++ text_of_moment (clock 9 0) ++ codes "\n" ++ codes "part rp1 done\n" ++ codes "part rp2 done\n"
    ++ codes "act a2 open " ++ text_of_moment (clock 9 20) ++ codes "\n" ++ codes "part rp3 open\n"
    ++ codes "unit u open\n" ++ codes "notices 0\n") ∷ []
unfolding world_step reply_block run_step admitted visited fired_below after_sweeps all_firings run_settling site_test site_firing value_set_parts condition_true_parts completed_parts completion_parts follows_parts on_completion_parts role_part property_parts_at object_parts_at service_parts environment_parts_at parts_before_items ending_parts activity_parts_at structure_parts_at role_part_parts_at act_parts_at play_parts_at method_parts unit_parts action_parts condition_parts_at middle_parts parts_of named_by change_parts notice_parts cell_of begins_as tree_lines is_open digits escape_byte value_of text_of truth_of integer_of signed_numeral numeral fits_in text_of_moment day_and_second_text
two_acts = refl
