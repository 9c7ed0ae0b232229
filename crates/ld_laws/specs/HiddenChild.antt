-- A sequence with a hidden child, which is passed over and stays closed to completion.
use Rattle.std.specs.Prelude.{◌≡◌, refl, List, [], ◌∷◌, ◌++◌, None, false, codes}
use Rattle.std.specs.Fmt.{digits}
use Rattle.json.specs.Print.{escape_byte}
use Rattle.ld_value.specs.Values.{value_of, text_of, truth_of, integer_of, signed_numeral, fits_in}
use Rattle.ld_value.specs.Numeral.{numeral}
use Rattle.ld_state.specs.RunCells.{begins_as}
use Rattle.ld_model.specs.declared.activity.StructureKind.TheVariants.{Sequence}
use Rattle.ld_model.specs.declared.completion.Completion.TheVariants.{UserChoice}
use Rattle.ld_model.specs.declared.unit.Unit.{Unit}
use Rattle.ld_cascade.specs.Settling.{visited, fired_below, after_sweeps, all_firings}
use Rattle.ld_names.specs.Names.{named_by}
use Rattle.ld_parts.specs.Listing.{value_set_parts, condition_true_parts, completed_parts, completion_parts, follows_parts, on_completion_parts, role_part, property_parts_at, object_parts_at, service_parts, environment_parts_at, parts_before_items, ending_parts, activity_parts_at, structure_parts_at, role_part_parts_at, act_parts_at, play_parts_at, method_parts, unit_parts, action_parts, condition_parts_at, middle_parts, parts_of}
use Rattle.ld_walk.specs.CommonParts.{change_parts, notice_parts}
use Rattle.ld_firing.specs.Actions.{site_firing}
use Rattle.ld_state.specs.RunState.{cell_of}
use Rattle.ld_rules.specs.SiteTests.{site_test}
use Rattle.ld_firing.specs.RunSettling.{run_settling}
use Rattle.ld_admission.specs.Checks.{admitted}
use Rattle.ld_lines.specs.declared.command.RunCommand.TheVariants.{Enrol, Assign, Start, Complete, Tree}
use Rattle.ld_run.specs.RunStep.{run_step}
use Rattle.ld_tree.specs.Tree.{tree_lines, is_open}
use Rattle.ld_lines.specs.declared.line.Line.{Line}
use Rattle.ld_lines.specs.declared.line.Line.TheVariants.{Create}
use Rattle.ld_world.specs.World.{world_step, reply_block}
use Rattle.ld_laws.specs.Courses.{learner, an_activity, choice, a_structure, course, one_part, a_moment, at, told}

-- A sequence of `x`, the hidden `y`, and `z`.
abbrev pub the_course : Unit
the_course = course (codes "u") (learner ∷ []) (choice (codes "x") ∷ an_activity (codes "y") false UserChoice
    ∷ choice (codes "z") ∷ [])
    (a_structure (codes "s") Sequence None (codes "x" ∷ codes "y" ∷ codes "z" ∷ [])
    ∷ []) (one_part (codes "s"))

-- `ann` says that `x`, `z` and the hidden `y` are completed; the tree is looked at after `x` and at the end.
abbrev pub the_lines : List Line
the_lines =
    Create (a_moment 8 0) (codes "r") (codes "u")
    ∷ at 8 0 (Enrol (codes "ann"))
    ∷ at 8 0 (Assign (codes "ann") (codes "learner"))
    ∷ at 9 0 Start
    ∷ at 10 0 (Complete (codes "ann") (codes "x"))
    ∷ at 10 0 (Tree (codes "ann"))
    ∷ at 10 0 (Complete (codes "ann") (codes "z"))
    ∷ at 10 0 (Complete (codes "ann") (codes "y"))
    ∷ at 10 0 (Tree (codes "ann")) ∷ []

-- `z` is open once `x` is done, the hidden `y` cannot be completed, and so the sequence is never done.
pub hidden_child : told 1 the_course the_lines ≡
    codes "ok create\n"
    ∷ codes "ok enrol turns=0 fired=0 rejected=0 sent=0\n"
    ∷ codes "ok assign turns=0 fired=0 rejected=0 sent=0\n"
    ∷ codes "ok start turns=1 fired=1 rejected=0 sent=0\n"
    ∷ codes "ok complete turns=1 fired=1 rejected=0 sent=0\n"
    ∷ (codes "ok tree turns=0 fired=0 rejected=0 sent=0 lines=7\n" ++ codes "unit u open\n"
    ++ codes "  play p open\n" ++ codes "    act a open\n" ++ codes "      part rp open\n"
    ++ codes "        structure s open\n" ++ codes "          activity x done\n"
    ++ codes "          activity z open\n")
    ∷ codes "ok complete turns=1 fired=1 rejected=0 sent=0\n"
    ∷ codes "no 31 not-open\n"
    ∷ (codes "ok tree turns=0 fired=0 rejected=0 sent=0 lines=7\n" ++ codes "unit u open\n"
    ++ codes "  play p open\n" ++ codes "    act a open\n" ++ codes "      part rp open\n"
    ++ codes "        structure s open\n" ++ codes "          activity x done\n"
    ++ codes "          activity z done\n") ∷ []
unfolding world_step reply_block run_step admitted visited fired_below after_sweeps all_firings run_settling site_test site_firing value_set_parts condition_true_parts completed_parts completion_parts follows_parts on_completion_parts role_part property_parts_at object_parts_at service_parts environment_parts_at parts_before_items ending_parts activity_parts_at structure_parts_at role_part_parts_at act_parts_at play_parts_at method_parts unit_parts action_parts condition_parts_at middle_parts parts_of named_by change_parts notice_parts cell_of begins_as tree_lines is_open digits escape_byte value_of text_of truth_of integer_of signed_numeral numeral fits_in
hidden_child = refl
