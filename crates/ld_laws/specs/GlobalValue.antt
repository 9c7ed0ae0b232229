-- A global value reaches another run at its own next command.
use Rattle.std.specs.Prelude.{◌≡◌, refl, ℕ, List, [], ◌∷◌, ◌++◌, Some, None, codes}
use Rattle.std.specs.Fmt.{digits}
use Rattle.json.specs.Print.{escape_byte}
use Rattle.ld_value.specs.Calendar.{text_of_moment, day_and_second_text}
use Rattle.ld_value.specs.Values.{value_of, text_of, truth_of, integer_of, signed_numeral, fits_in}
use Rattle.ld_model.specs.Expressions.{property_term}
use Rattle.ld_value.specs.Numeral.{numeral}
use Rattle.ld_value.specs.declared.kind.Kind.TheVariants.{Integer as IntegerKind}
use Rattle.ld_state.specs.RunCells.{begins_as}
use Rattle.ld_model.specs.declared.condition.Action.TheVariants.{Notify}
use Rattle.ld_model.specs.declared.property.PropertyKind.TheVariants.{Glob}
use Rattle.ld_model.specs.declared.unit.Unit.{Unit}
use Rattle.ld_cascade.specs.Settling.{visited, fired_below, after_sweeps, all_firings}
use Rattle.ld_names.specs.Names.{named_by}
use Rattle.ld_parts.specs.Listing.{value_set_parts, condition_true_parts, completed_parts, completion_parts, follows_parts, on_completion_parts, role_part, property_parts_at, object_parts_at, service_parts, environment_parts_at, parts_before_items, ending_parts, activity_parts_at, structure_parts_at, role_part_parts_at, act_parts_at, play_parts_at, method_parts, unit_parts, action_parts, condition_parts_at, middle_parts, parts_of}
use Rattle.ld_walk.specs.CommonParts.{change_parts, notice_parts}
use Rattle.ld_firing.specs.Actions.{site_firing}
use Rattle.ld_state.specs.RunState.{cell_of}
use Rattle.ld_rules.specs.SiteTests.{site_test}
use Rattle.ld_firing.specs.RunSettling.{run_settling}
use Rattle.ld_admission.specs.Checks.{admitted}
use Rattle.ld_lines.specs.declared.command.RunCommand.TheVariants.{Enrol, Assign, Start, Set, Tree, Outbox, Tick}
use Rattle.ld_lines.specs.declared.command.RunCommand.{RunCommand}
use Rattle.ld_run.specs.RunStep.{run_step}
use Rattle.ld_tree.specs.Tree.{tree_lines, is_open}
use Rattle.ld_lines.specs.declared.line.Line.{Line}
use Rattle.ld_lines.specs.declared.line.Line.TheVariants.{Create, OfRun, GlobalSet, GlobalGet}
use Rattle.ld_world.specs.World.{world_step, reply_block}
use Rattle.ld_laws.specs.Courses.{whole, is_greater, learner, choice, course, one_part, a_property, with_conditions, a_condition, clock, a_moment, at, told}

-- A global property that all share, and a condition that sends a notice where it is greater than 0.
abbrev pub the_course : Unit
the_course = with_conditions
    (record (a_property (codes "g") Glob IntegerKind (Some (codes "0"))) { uri = Some (codes "urn:g") } ∷ [])
    (a_condition (is_greater (property_term (codes "g")) (whole (codes "0")))
    (Notify (record { roles = codes "learner" ∷ []; subject = Some (codes "G"); activity = None }) ∷ []) []
    ∷ [])
    (course (codes "u") (learner ∷ []) (choice (codes "read") ∷ []) [] (one_part (codes "read")))

-- A command of the run `s`.
abbrev in_s : ℕ → ℕ → RunCommand → Line
in_s hour minute command = OfRun (a_moment hour minute) (codes "s") command

-- The value is set in the run `r`, met by the run `s`, and then asked and set by lines of no run.
abbrev pub the_lines : List Line
the_lines =
    Create (a_moment 8 0) (codes "r") (codes "u")
    ∷ at 8 0 (Enrol (codes "ann"))
    ∷ at 8 0 (Assign (codes "ann") (codes "learner"))
    ∷ at 9 0 Start
    ∷ Create (a_moment 8 0) (codes "s") (codes "u")
    ∷ in_s 8 0 (Enrol (codes "ann"))
    ∷ in_s 8 0 (Assign (codes "ann") (codes "learner"))
    ∷ in_s 9 0 Start
    ∷ at 10 0 (Set (codes "ann") (codes "g") (codes "5"))
    ∷ in_s 11 0 (Tree (codes "ann"))
    ∷ in_s 11 5 (Outbox (codes "ann"))
    ∷ GlobalGet (a_moment 8 0) (codes "urn:g") None
    ∷ GlobalSet (a_moment 8 0) (codes "urn:g") None (codes "x")
    ∷ GlobalSet (a_moment 8 0) (codes "urn:g") (Some (codes "ann")) (codes "6")
    ∷ GlobalSet (a_moment 8 0) (codes "urn:h") None (codes "1")
    ∷ GlobalSet (a_moment 8 0) (codes "urn:g") None (codes "0")
    ∷ at 11 6 Tick ∷ []

-- Each run sends its notice at its own command, `s` an hour after `r`. Refused are a text that is no value, a
-- person for a value that all share, and a uri that nobody declares.
pub global_value : told 1 the_course the_lines ≡
    codes "ok create\n"
    ∷ codes "ok enrol turns=0 fired=0 rejected=0 sent=0\n"
    ∷ codes "ok assign turns=0 fired=0 rejected=0 sent=0\n"
    ∷ codes "ok start turns=1 fired=2 rejected=0 sent=0\n"
    ∷ codes "ok create\n"
    ∷ codes "ok enrol turns=0 fired=0 rejected=0 sent=0\n"
    ∷ codes "ok assign turns=0 fired=0 rejected=0 sent=0\n"
    ∷ codes "ok start turns=1 fired=2 rejected=0 sent=0\n"
    ∷ codes "ok set turns=1 fired=1 rejected=0 sent=1\n"
    ∷ (codes "ok tree turns=1 fired=1 rejected=0 sent=1 lines=5\n" ++ codes "unit u open\n"
    ++ codes "  play p open\n" ++ codes "    act a open\n" ++ codes "      part rp open\n"
    ++ codes "        activity read open\n")
    ∷ (codes "ok outbox turns=0 fired=0 rejected=0 sent=0 lines=1\n" ++ codes "notice 1 "
    ++ text_of_moment (clock 11 0) ++ codes " - \"G\"\n")
    ∷ codes "ok global-get \"5\"\n"
    ∷ codes "no 21 bad-value\n"
    ∷ codes "no 22 not-allowed\n"
    ∷ codes "no 20 unknown-global\n"
    ∷ codes "ok global-set\n"
    ∷ codes "ok tick turns=1 fired=1 rejected=0 sent=0\n" ∷ []
unfolding world_step reply_block run_step admitted visited fired_below after_sweeps all_firings run_settling site_test site_firing value_set_parts condition_true_parts completed_parts completion_parts follows_parts on_completion_parts role_part property_parts_at object_parts_at service_parts environment_parts_at parts_before_items ending_parts activity_parts_at structure_parts_at role_part_parts_at act_parts_at play_parts_at method_parts unit_parts action_parts condition_parts_at middle_parts parts_of named_by change_parts notice_parts cell_of begins_as tree_lines is_open digits escape_byte value_of text_of truth_of integer_of signed_numeral numeral fits_in text_of_moment day_and_second_text
global_value = refl
