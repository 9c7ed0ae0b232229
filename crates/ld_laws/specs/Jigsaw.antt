-- A small jigsaw course: each of two learners becomes an expert in one of two subjects, and a tutor hears
-- of it.
use Rattle.std.specs.Prelude.{◌≡◌, refl, ℕ, List, [], ◌∷◌, ◌++◌, map, Some, None, codes}
use Rattle.std.specs.Fmt.{digits}
use Rattle.json.specs.Print.{escape_byte}
use Rattle.ld_value.specs.Calendar.{text_of_moment, day_and_second_text}
use Rattle.ld_value.specs.Values.{value_of, text_of, truth_of, integer_of, signed_numeral, fits_in}
use Rattle.ld_model.specs.Expressions.{done_test}
use Rattle.ld_value.specs.Numeral.{numeral}
use Rattle.ld_model.specs.declared.method.Act.{Act}
use Rattle.ld_state.specs.RunCells.{begins_as}
use Rattle.ld_model.specs.declared.activity.StructureKind.TheVariants.{Selection}
use Rattle.ld_model.specs.declared.completion.Completion.TheVariants.{WhenRolePartCompleted, WhenPlayCompleted, WhenLastActCompleted}
use Rattle.ld_model.specs.declared.condition.Action.TheVariants.{Notify}
use Rattle.ld_model.specs.declared.condition.Condition.{Condition}
use Rattle.ld_model.specs.declared.unit.Unit.{Unit}
use Rattle.ld_cascade.specs.Settling.{visited, fired_below, after_sweeps, all_firings}
use Rattle.ld_names.specs.Names.{named_by}
use Rattle.ld_parts.specs.Listing.{value_set_parts, condition_true_parts, completed_parts, completion_parts, follows_parts, on_completion_parts, role_part, property_parts_at, object_parts_at, service_parts, environment_parts_at, parts_before_items, ending_parts, activity_parts_at, structure_parts_at, role_part_parts_at, act_parts_at, play_parts_at, method_parts, unit_parts, action_parts, condition_parts_at, middle_parts, parts_of}
use Rattle.ld_walk.specs.CommonParts.{change_parts, notice_parts}
use Rattle.ld_firing.specs.Actions.{site_firing}
use Rattle.ld_state.specs.RunState.{cell_of}
use Rattle.ld_rules.specs.SiteTests.{site_test}
use Rattle.ld_firing.specs.RunSettling.{run_settling}
use Rattle.ld_admission.specs.Checks.{admitted}
use Rattle.ld_lines.specs.declared.command.RunCommand.TheVariants.{Enrol, Assign, Start, Complete, Tree, Outbox}
use Rattle.ld_run.specs.RunStep.{run_step}
use Rattle.ld_tree.specs.Tree.{tree_lines, is_open}
use Rattle.ld_lines.specs.declared.line.Line.{Line}
use Rattle.ld_lines.specs.declared.line.Line.TheVariants.{Create}
use Rattle.ld_world.specs.World.{world_step, reply_block}
use Rattle.ld_laws.specs.Courses.{learner, tutor, choice, a_structure, a_part, an_act, the_play, course, with_conditions, a_condition, clock, a_moment, at, told}

-- For each person who has done the activity, the tutors get a notice of this subject.
abbrev sends : List ℕ → List ℕ → Condition
sends id subject = a_condition (done_test id) (Notify (record {
  roles = codes "tutor"
      ∷ [];
  subject = Some subject;
  activity = Some id;
}) ∷ []) []

-- An act of one part for learners and one for tutors, which is done when both of them are.
abbrev both : List ℕ → List ℕ → List ℕ → List ℕ → List ℕ → Act
both id p q s w = an_act id (a_part p (codes "learner") s ∷ a_part q (codes "tutor") w
    ∷ []) (Some (WhenRolePartCompleted (p ∷ q ∷ [])))

-- Each learner selects one of two subjects, and each tutor has an activity; all is done with the one act.
abbrev pub the_course : Unit
the_course = record (with_conditions [] (sends (codes "e01") (codes "Expert e01")
    ∷ sends (codes "e02") (codes "Expert e02") ∷ [])
    (course (codes "jigsaw") (learner ∷ tutor ∷ []) (map choice (codes "e01" ∷ codes "e02" ∷ codes "w1"
    ∷ []))
    (a_structure (codes "s1") Selection (Some 1) (codes "e01" ∷ codes "e02" ∷ []) ∷ [])
    [])) {
      method = record {
        plays = record (the_play (both (codes "a1") (codes "rp1") (codes "rp2") (codes "s1") (codes "w1")
            ∷ [])) { complete = Some WhenLastActCompleted } ∷ [];
        complete = Some (WhenPlayCompleted (codes "p" ∷ []));
        on_completion = None;
      };
    }

-- The learners each complete a subject, and the tutor in between the activity of tutors.
abbrev pub the_lines : List Line
the_lines =
    Create (a_moment 8 0) (codes "r") (codes "jigsaw")
    ∷ at 8 0 (Enrol (codes "l01"))
    ∷ at 8 0 (Enrol (codes "l02"))
    ∷ at 8 0 (Enrol (codes "t01"))
    ∷ at 8 0 (Assign (codes "l01") (codes "learner"))
    ∷ at 8 0 (Assign (codes "l02") (codes "learner"))
    ∷ at 8 0 (Assign (codes "t01") (codes "tutor"))
    ∷ at 9 0 Start
    ∷ at 9 30 (Complete (codes "l01") (codes "e01"))
    ∷ at 9 31 (Outbox (codes "t01"))
    ∷ at 9 32 (Tree (codes "l01"))
    ∷ at 9 33 (Complete (codes "t01") (codes "w1"))
    ∷ at 9 35 (Tree (codes "t01"))
    ∷ at 9 40 (Complete (codes "l02") (codes "e02"))
    ∷ at 9 41 (Tree (codes "l01")) ∷ []

-- The tutor gets the notice of the first subject at once; with the second learner the whole unit is done.
pub jigsaw : told 3 the_course the_lines ≡
    codes "ok create\n"
    ∷ codes "ok enrol turns=0 fired=0 rejected=0 sent=0\n"
    ∷ codes "ok enrol turns=0 fired=0 rejected=0 sent=0\n"
    ∷ codes "ok enrol turns=0 fired=0 rejected=0 sent=0\n"
    ∷ codes "ok assign turns=0 fired=0 rejected=0 sent=0\n"
    ∷ codes "ok assign turns=0 fired=0 rejected=0 sent=0\n"
    ∷ codes "ok assign turns=0 fired=0 rejected=0 sent=0\n"
    ∷ codes "ok start turns=1 fired=7 rejected=0 sent=0\n"
    ∷ codes "ok complete turns=1 fired=3 rejected=0 sent=1\n"
    ∷ (codes "ok outbox turns=0 fired=0 rejected=0 sent=0 lines=1\n" ++ codes "notice 1 "
    ++ text_of_moment (clock 9 30) ++ codes " e01 \"Expert e01\"\n")
    ∷ (codes "ok tree turns=0 fired=0 rejected=0 sent=0 lines=7\n" ++ codes "unit jigsaw open\n"
    ++ codes "  play p open\n" ++ codes "    act a1 open\n" ++ codes "      part rp1 open\n"
    ++ codes "        structure s1 done\n" ++ codes "          activity e01 done\n"
    ++ codes "          activity e02 open\n")
    ∷ codes "ok complete turns=1 fired=2 rejected=0 sent=0\n"
    ∷ (codes "ok tree turns=0 fired=0 rejected=0 sent=0 lines=5\n" ++ codes "unit jigsaw open\n"
    ++ codes "  play p open\n" ++ codes "    act a1 open\n" ++ codes "      part rp2 done\n"
    ++ codes "        activity w1 done\n")
    ∷ codes "ok complete turns=1 fired=7 rejected=0 sent=1\n"
    ∷ (codes "ok tree turns=0 fired=0 rejected=0 sent=0 lines=3\n" ++ codes "unit jigsaw done\n"
    ++ codes "  play p done\n" ++ codes "    act a1 done\n") ∷ []
unfolding world_step reply_block run_step admitted visited fired_below after_sweeps all_firings run_settling site_test site_firing value_set_parts condition_true_parts completed_parts completion_parts follows_parts on_completion_parts role_part property_parts_at object_parts_at service_parts environment_parts_at parts_before_items ending_parts activity_parts_at structure_parts_at role_part_parts_at act_parts_at play_parts_at method_parts unit_parts action_parts condition_parts_at middle_parts parts_of named_by change_parts notice_parts cell_of begins_as tree_lines is_open digits escape_byte value_of text_of truth_of integer_of signed_numeral numeral fits_in text_of_moment day_and_second_text
jigsaw = refl
