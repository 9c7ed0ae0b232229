-- A condition sends one notice each time that it turns true.
use Rattle.std.specs.Prelude.{◌≡◌, refl, List, [], ◌∷◌, ◌++◌, Some, None, codes}
use Rattle.std.specs.Fmt.{digits}
use Rattle.json.specs.Print.{escape_byte}
use Rattle.ld_value.specs.Calendar.{text_of_moment, day_and_second_text}
use Rattle.ld_value.specs.Values.{value_of, text_of, truth_of, integer_of, signed_numeral, fits_in}
use Rattle.ld_model.specs.Expressions.{property_term}
use Rattle.ld_value.specs.Numeral.{numeral}
use Rattle.ld_value.specs.declared.kind.Kind.TheVariants.{Integer as IntegerKind}
use Rattle.ld_state.specs.RunCells.{begins_as}
use Rattle.ld_model.specs.declared.condition.Action.TheVariants.{Notify}
use Rattle.ld_model.specs.declared.property.PropertyKind.TheVariants.{Loc}
use Rattle.ld_model.specs.declared.unit.Unit.{Unit}
use Rattle.ld_cascade.specs.Settling.{visited, fired_below, after_sweeps, all_firings}
use Rattle.ld_names.specs.Names.{named_by}
use Rattle.ld_parts.specs.Listing.{value_set_parts, condition_true_parts, completed_parts, completion_parts, follows_parts, on_completion_parts, role_part, property_parts_at, object_parts_at, service_parts, environment_parts_at, parts_before_items, ending_parts, activity_parts_at, structure_parts_at, role_part_parts_at, act_parts_at, play_parts_at, method_parts, unit_parts, action_parts, condition_parts_at, middle_parts, parts_of}
use Rattle.ld_walk.specs.CommonParts.{change_parts, notice_parts}
use Rattle.ld_firing.specs.Actions.{site_firing}
use Rattle.ld_state.specs.RunState.{cell_of}
use Rattle.ld_rules.specs.SiteTests.{site_test}
use Rattle.ld_firing.specs.RunSettling.{run_settling}
use Rattle.ld_admission.specs.Checks.{admitted}
use Rattle.ld_lines.specs.declared.command.RunCommand.TheVariants.{Enrol, Assign, Start, Set, Outbox}
use Rattle.ld_run.specs.RunStep.{run_step}
use Rattle.ld_tree.specs.Tree.{tree_lines, is_open}
use Rattle.ld_lines.specs.declared.line.Line.{Line}
use Rattle.ld_lines.specs.declared.line.Line.TheVariants.{Create}
use Rattle.ld_world.specs.World.{world_step, reply_block}
use Rattle.ld_laws.specs.Courses.{whole, is_greater, learner, choice, course, one_part, a_property, with_conditions, a_condition, clock, a_moment, at, told}

-- A notice is sent to learners where `n`, which is 1 at first, is greater than 0; no test asks `m`.
abbrev pub the_course : Unit
the_course = with_conditions
    (a_property (codes "n") Loc IntegerKind (Some (codes "1")) ∷ a_property (codes "m") Loc IntegerKind None
    ∷ [])
    (a_condition (is_greater (property_term (codes "n")) (whole (codes "0")))
    (Notify (record { roles = codes "learner" ∷ []; subject = Some (codes "Go"); activity = None }) ∷ []) []
    ∷ [])
    (course (codes "u") (learner ∷ []) (choice (codes "read") ∷ []) [] (one_part (codes "read")))

-- `m` is set, then `n` to 0 and to 2; the outbox is looked at after the first and at the end.
abbrev pub the_lines : List Line
the_lines =
    Create (a_moment 8 0) (codes "r") (codes "u")
    ∷ at 8 0 (Enrol (codes "ann"))
    ∷ at 8 0 (Assign (codes "ann") (codes "learner"))
    ∷ at 9 0 Start
    ∷ at 9 30 (Set (codes "ann") (codes "m") (codes "5"))
    ∷ at 9 31 (Outbox (codes "ann"))
    ∷ at 10 0 (Set (codes "ann") (codes "n") (codes "0"))
    ∷ at 10 0 (Set (codes "ann") (codes "n") (codes "2"))
    ∷ at 10 0 (Outbox (codes "ann")) ∷ []

-- A notice is sent at the start and one when `n` becomes 2, and none for `m` or for the 0.
pub notice_each_time : told 1 the_course the_lines ≡
    codes "ok create\n"
    ∷ codes "ok enrol turns=0 fired=0 rejected=0 sent=0\n"
    ∷ codes "ok assign turns=0 fired=0 rejected=0 sent=0\n"
    ∷ codes "ok start turns=1 fired=2 rejected=0 sent=1\n"
    ∷ codes "ok set turns=0 fired=0 rejected=0 sent=0\n"
    ∷ (codes "ok outbox turns=0 fired=0 rejected=0 sent=0 lines=1\n" ++ codes "notice 1 "
    ++ text_of_moment (clock 9 0) ++ codes " - \"Go\"\n")
    ∷ codes "ok set turns=1 fired=1 rejected=0 sent=0\n"
    ∷ codes "ok set turns=1 fired=1 rejected=0 sent=1\n"
    ∷ (codes "ok outbox turns=0 fired=0 rejected=0 sent=0 lines=2\n" ++ codes "notice 1 "
    ++ text_of_moment (clock 9 0) ++ codes " - \"Go\"\n" ++ codes "notice 2 "
    ++ text_of_moment (clock 10 0) ++ codes " - \"Go\"\n") ∷ []
unfolding world_step reply_block run_step admitted visited fired_below after_sweeps all_firings run_settling site_test site_firing value_set_parts condition_true_parts completed_parts completion_parts follows_parts on_completion_parts role_part property_parts_at object_parts_at service_parts environment_parts_at parts_before_items ending_parts activity_parts_at structure_parts_at role_part_parts_at act_parts_at play_parts_at method_parts unit_parts action_parts condition_parts_at middle_parts parts_of named_by change_parts notice_parts cell_of begins_as tree_lines is_open digits escape_byte value_of text_of truth_of integer_of signed_numeral numeral fits_in text_of_moment day_and_second_text
notice_each_time = refl
