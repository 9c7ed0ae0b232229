-- The first run: ann completes the only activity, sees it done, and cannot complete it again.
use Rattle.std.specs.Prelude.{◌≡◌, refl, List, [], ◌∷◌, ◌++◌, Some, true, codes}
use Rattle.std.specs.Fmt.{digits}
use Rattle.json.specs.Print.{escape_byte}
use Rattle.ld_value.specs.Values.{value_of, text_of, truth_of, integer_of, signed_numeral, fits_in}
use Rattle.ld_value.specs.Numeral.{numeral}
use Rattle.ld_state.specs.RunCells.{begins_as}
use Rattle.ld_model.specs.declared.activity.Activity.{Activity}
use Rattle.ld_model.specs.declared.unit.Unit.{Unit}
use Rattle.ld_cascade.specs.Settling.{visited, fired_below, after_sweeps, all_firings}
use Rattle.ld_names.specs.Names.{named_by}
use Rattle.ld_parts.specs.Listing.{value_set_parts, condition_true_parts, completed_parts, completion_parts, follows_parts, on_completion_parts, role_part, property_parts_at, object_parts_at, service_parts, environment_parts_at, parts_before_items, ending_parts, activity_parts_at, structure_parts_at, role_part_parts_at, act_parts_at, play_parts_at, method_parts, unit_parts, action_parts, condition_parts_at, middle_parts, parts_of}
use Rattle.ld_walk.specs.CommonParts.{change_parts, notice_parts}
use Rattle.ld_firing.specs.Actions.{site_firing}
use Rattle.ld_state.specs.RunState.{cell_of}
use Rattle.ld_rules.specs.SiteTests.{site_test}
use Rattle.ld_firing.specs.RunSettling.{run_settling}
use Rattle.ld_admission.specs.Checks.{admitted}
use Rattle.ld_lines.specs.declared.command.RunCommand.TheVariants.{Enrol, Assign, Start, Complete, Tree}
use Rattle.ld_run.specs.RunStep.{run_step}
use Rattle.ld_tree.specs.Tree.{tree_lines, is_open}
use Rattle.ld_lines.specs.declared.line.Line.{Line}
use Rattle.ld_lines.specs.declared.line.Line.TheVariants.{Create}
use Rattle.ld_world.specs.World.{world_step, reply_block}
use Rattle.ld_laws.specs.Courses.{learner, choice, course, one_part, a_moment, at, told}

-- An activity by choice, with a title and an item.
abbrev read : Activity
read = record (choice (codes "read")) {
  title = Some (codes "Read");
  items = record {
    identifier = codes "i1";
    href = codes "text.html";
    title = Some (codes "Text");
    visible = true;
  } ∷ [];
}

-- A course of this one activity, with a title.
abbrev pub the_course : Unit
the_course = record (course (codes "u") (learner ∷ []) (read
    ∷ []) [] (one_part (codes "read"))) { title = Some (codes "First") }

-- `ann` completes `read`, looks at the tree, and completes `read` again.
abbrev pub the_lines : List Line
the_lines =
    Create (a_moment 8 0) (codes "r") (codes "u")
    ∷ at 8 0 (Enrol (codes "ann"))
    ∷ at 8 0 (Assign (codes "ann") (codes "learner"))
    ∷ at 9 0 Start
    ∷ at 9 10 (Complete (codes "ann") (codes "read"))
    ∷ at 9 11 (Tree (codes "ann"))
    ∷ at 9 11 (Complete (codes "ann") (codes "read")) ∷ []

-- The tree shows the activity and its part as done, and the second completion is refused.
pub first_run : told 1 the_course the_lines ≡
    codes "ok create\n"
    ∷ codes "ok enrol turns=0 fired=0 rejected=0 sent=0\n"
    ∷ codes "ok assign turns=0 fired=0 rejected=0 sent=0\n"
    ∷ codes "ok start turns=1 fired=1 rejected=0 sent=0\n"
    ∷ codes "ok complete turns=1 fired=2 rejected=0 sent=0\n"
    ∷ (codes "ok tree turns=0 fired=0 rejected=0 sent=0 lines=6\n" ++ codes "unit u open \"First\"\n"
    ++ codes "  play p open\n" ++ codes "    act a open\n" ++ codes "      part rp done\n"
    ++ codes "        activity read done \"Read\"\n" ++ codes "          item i1 text.html \"Text\"\n")
    ∷ codes "no 31 not-open\n" ∷ []
unfolding world_step reply_block run_step admitted visited fired_below after_sweeps all_firings run_settling site_test site_firing value_set_parts condition_true_parts completed_parts completion_parts follows_parts on_completion_parts role_part property_parts_at object_parts_at service_parts environment_parts_at parts_before_items ending_parts activity_parts_at structure_parts_at role_part_parts_at act_parts_at play_parts_at method_parts unit_parts action_parts condition_parts_at middle_parts parts_of named_by change_parts notice_parts cell_of begins_as tree_lines is_open digits escape_byte value_of text_of truth_of integer_of signed_numeral numeral fits_in
first_run = refl
