-- What follows completions: changes for each person, rejected writes, notices, and terms over moments.
use Rattle.std.specs.Prelude.{◌≡◌, refl, ℕ, List, [], ◌∷◌, ◌++◌, Option, Some, None, true, codes}
use Rattle.std.specs.Fmt.{digits}
use Rattle.json.specs.Print.{escape_byte}
use Rattle.ld_value.specs.Calendar.{text_of_moment, day_and_second_text}
use Rattle.ld_value.specs.Values.{value_of, text_of, truth_of, integer_of, signed_numeral, fits_in}
use Rattle.ld_model.specs.Expressions.{property_term, done_test, now_term, started_term, TermOf}
use Rattle.ld_value.specs.Numeral.{numeral}
use Rattle.ld_value.specs.Duration.{duration_of, time_in, front_part, seconds_if, is_duration, seconds_of}
use Rattle.ld_model.specs.declared.completion.Change.{Change as ChangeOf}
use Rattle.ld_model.specs.declared.completion.Notice.{Notice}
use Rattle.ld_model.specs.declared.method.Act.{Act}
use Rattle.ld_value.specs.declared.kind.Kind.TheVariants.{Integer as IntegerKind}
use Rattle.ld_state.specs.RunCells.{begins_as}
use Rattle.ld_model.specs.declared.activity.Activity.{Activity}
use Rattle.ld_model.specs.declared.completion.Completion.TheVariants.{WhenConditionTrue, WhenPropertyValueIsSet}
use Rattle.ld_model.specs.declared.condition.Action.TheVariants.{Change, Notify}
use Rattle.ld_model.specs.declared.property.Property.{Property as PropertyOf}
use Rattle.ld_model.specs.declared.property.PropertyKind.TheVariants.{Loc, LocPers}
use Rattle.ld_model.specs.declared.unit.Unit.{Unit}
use Rattle.ld_cascade.specs.Settling.{visited, fired_below, after_sweeps, all_firings}
use Rattle.ld_names.specs.Names.{named_by}
use Rattle.ld_parts.specs.Listing.{value_set_parts, condition_true_parts, completed_parts, completion_parts, follows_parts, on_completion_parts, role_part, property_parts_at, object_parts_at, service_parts, environment_parts_at, parts_before_items, ending_parts, activity_parts_at, structure_parts_at, role_part_parts_at, act_parts_at, play_parts_at, method_parts, unit_parts, action_parts, condition_parts_at, middle_parts, parts_of}
use Rattle.ld_walk.specs.CommonParts.{change_parts, notice_parts}
use Rattle.ld_firing.specs.Actions.{site_firing}
use Rattle.ld_state.specs.RunState.{cell_of}
use Rattle.ld_rules.specs.SiteTests.{site_test}
use Rattle.ld_firing.specs.RunSettling.{run_settling}
use Rattle.ld_admission.specs.Checks.{admitted}
use Rattle.ld_lines.specs.declared.command.RunCommand.TheVariants.{Enrol, Assign, Start, Complete, Get, Outbox, Tick}
use Rattle.ld_run.specs.RunStep.{run_step}
use Rattle.ld_tree.specs.Tree.{tree_lines, is_open}
use Rattle.ld_lines.specs.declared.line.Line.{Line}
use Rattle.ld_lines.specs.declared.line.Line.TheVariants.{Create}
use Rattle.ld_world.specs.World.{world_step, reply_block}
use Rattle.ld_laws.specs.Courses.{whole, span, is_greater, sum_of_two, less_by, learner, an_activity, choice, a_part, an_act, course, a_property, with_conditions, a_condition, clock, a_moment, at, told}

-- Each person's own integer, 0 at first.
abbrev score : PropertyOf
score = a_property (codes "score") LocPers IntegerKind (Some (codes "0"))

-- An integer of the run, 4 at first and 5 at most.
abbrev total : PropertyOf
total = record (a_property (codes "total") Loc IntegerKind (Some (codes "4"))) {
  restrictions = Some (record {
    min_inclusive = None;
    max_inclusive = Some (codes "5");
    min_length = None;
    max_length = None;
    enumeration = [];
  });
}

-- The change that gives the property the term's value.
abbrev set_to : List ℕ → TermOf → ChangeOf
set_to id value = record { property = id; value = value }

-- A notice to all learners, of this subject and about this activity, if it is about one.
abbrev note : List ℕ → Option (List ℕ) → Notice
note subject activity = record { roles = codes "learner" ∷ []; subject = Some subject; activity = activity }

-- An activity by choice, which changes the person's own score when it is completed.
abbrev x : TermOf → Activity
x next = record (choice (codes "x")) {
  on_completion =
      Some (record { feedback = []; change = set_to (codes "score") next ∷ []; notify = [] });
}

-- An act that is done when each learner has a score above 0. Then the total and all scores are changed, and a
-- notice is sent.
abbrev a : TermOf → TermOf → Act
a next_score next_total = record (an_act (codes "a")
    (a_part (codes "rp1") (codes "learner") (codes "x") ∷ a_part (codes "rp2") (codes "learner") (codes "w")
    ∷ [])
    (Some (WhenConditionTrue (codes "learner")
    (is_greater (property_term (codes "score")) (whole (codes "0")))))) {
      on_completion = Some (record {
        feedback = [];
        change = set_to (codes "total") next_total ∷ set_to (codes "score") next_score ∷ [];
        notify = note (codes "Done") (Some (codes "x")) ∷ [];
      });
    }

-- One condition changes the total once more when the act is done; another sends a notice after an hour.
abbrev pub the_course : TermOf → TermOf → TermOf → Unit
the_course next_score next_total elapsed = with_conditions (score ∷ total ∷ [])
    (a_condition (done_test (codes "a")) (Change (set_to (codes "total") next_total) ∷ []) []
    ∷ a_condition (is_greater elapsed (span (codes "PT1H"))) (Notify (note (codes "Late") None) ∷ []) [] ∷ [])
    (course (codes "u") (learner ∷ [])
    (x next_score ∷ an_activity (codes "w") true (WhenPropertyValueIsSet (codes "total") (Some (codes "5")))
    ∷ [])
    [] (a next_score next_total ∷ []))

-- Both learners complete `x`; values and notices are looked at; an hour passes, and a minute more.
abbrev pub the_lines : List Line
the_lines =
    Create (a_moment 8 0) (codes "r") (codes "u")
    ∷ at 8 0 (Enrol (codes "ann"))
    ∷ at 8 0 (Assign (codes "ann") (codes "learner"))
    ∷ at 8 0 (Enrol (codes "bob"))
    ∷ at 8 0 (Assign (codes "bob") (codes "learner"))
    ∷ at 9 0 Start
    ∷ at 9 10 (Complete (codes "ann") (codes "x"))
    ∷ at 9 20 (Complete (codes "bob") (codes "x"))
    ∷ at 9 21 (Get (codes "ann") (codes "score"))
    ∷ at 9 21 (Get (codes "ann") (codes "total"))
    ∷ at 9 22 (Outbox (codes "bob"))
    ∷ at 10 0 Tick
    ∷ at 10 1 Tick ∷ []

-- The property's value, and one more.
abbrev pub one_more_than : List ℕ → TermOf
one_more_than id = sum_of_two (property_term id) (whole (codes "1"))

-- How long ago the run was started.
abbrev pub since_start : TermOf
since_start = less_by now_term started_term

-- The total stays at 5, so that the change by the condition is rejected for each person. With the full
-- hour no notice is sent, and with a minute more one for each person.
pub effects :
    told 2 (the_course (one_more_than (codes "score")) (one_more_than (codes "total")) since_start) the_lines ≡
    codes "ok create\n"
    ∷ codes "ok enrol turns=0 fired=0 rejected=0 sent=0\n"
    ∷ codes "ok assign turns=0 fired=0 rejected=0 sent=0\n"
    ∷ codes "ok enrol turns=0 fired=0 rejected=0 sent=0\n"
    ∷ codes "ok assign turns=0 fired=0 rejected=0 sent=0\n"
    ∷ codes "ok start turns=1 fired=5 rejected=0 sent=0\n"
    ∷ codes "ok complete turns=1 fired=1 rejected=0 sent=0\n"
    ∷ codes "ok complete turns=2 fired=8 rejected=2 sent=1\n"
    ∷ codes "ok get turns=0 fired=0 rejected=0 sent=0 value=\"2\"\n"
    ∷ codes "ok get turns=0 fired=0 rejected=0 sent=0 value=\"5\"\n"
    ∷ (codes "ok outbox turns=0 fired=0 rejected=0 sent=0 lines=1\n" ++ codes "notice 1 "
    ++ text_of_moment (clock 9 20) ++ codes " x \"Done\"\n")
    ∷ codes "ok tick turns=0 fired=0 rejected=0 sent=0\n"
    ∷ codes "ok tick turns=1 fired=2 rejected=0 sent=2\n" ∷ []
unfolding world_step reply_block run_step admitted visited fired_below after_sweeps all_firings run_settling site_test site_firing value_set_parts condition_true_parts completed_parts completion_parts follows_parts on_completion_parts role_part property_parts_at object_parts_at service_parts environment_parts_at parts_before_items ending_parts activity_parts_at structure_parts_at role_part_parts_at act_parts_at play_parts_at method_parts unit_parts action_parts condition_parts_at middle_parts parts_of named_by change_parts notice_parts cell_of begins_as tree_lines is_open digits escape_byte value_of text_of truth_of integer_of signed_numeral numeral fits_in text_of_moment day_and_second_text duration_of time_in front_part seconds_if is_duration seconds_of
effects = refl
