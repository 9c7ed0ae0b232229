-- What a run meets in a history: its own lines with its unit and the values that the store holds for it.
use Rattle.std.specs.Prelude.{◌≡◌, refl, ℕ, pos, List, [], ◌∷◌, map, filter, Option, Some, None, not, codes}
use Rattle.std.specs.Fmt.{digits}
use Rattle.ld_value.specs.Datum.{Datum, number_datum}
use Rattle.ld_value.specs.Values.{value_of, integer_of, signed_numeral, fits_in, text_of, truth_of}
use Rattle.ld_value.specs.Numeral.{numeral}
use Rattle.ld_value.specs.declared.kind.Kind.TheVariants.{Integer as IntegerKind}
use Rattle.ld_model.specs.declared.property.PropertyKind.TheVariants.{Glob, GlobPers, Loc}
use Rattle.ld_model.specs.declared.unit.Unit.{Unit}
use Rattle.ld_lines.specs.declared.command.RunCommand.TheVariants.{Enrol, Assign}
use Rattle.ld_lines.specs.declared.line.Line.{Line}
use Rattle.ld_lines.specs.declared.line.Line.TheVariants.{Create, OfRun, GlobalSet}
use Rattle.ld_state.specs.RunCells.{begins_as}
use Rattle.ld_admission.specs.Checks.{admitted}
use Rattle.ld_run.specs.RunStep.{run_step}
use Rattle.ld_world.specs.Answers.{replies}
use Rattle.ld_world.specs.World.{seated_world, world_step, reply_block}
use Rattle.json.specs.Print.{escape_byte}
use Rattle.ld_cascade.specs.Settling.{visited, fired_below, after_sweeps, all_firings}
use Rattle.ld_names.specs.Names.{named_by}
use Rattle.ld_parts.specs.Listing.{value_set_parts, condition_true_parts, completed_parts, completion_parts, follows_parts, on_completion_parts, role_part, property_parts_at, object_parts_at, service_parts, environment_parts_at, parts_before_items, ending_parts, activity_parts_at, structure_parts_at, role_part_parts_at, act_parts_at, play_parts_at, method_parts, unit_parts, action_parts, condition_parts_at, middle_parts, parts_of}
use Rattle.ld_walk.specs.CommonParts.{change_parts, notice_parts}
use Rattle.ld_firing.specs.Actions.{site_firing}
use Rattle.ld_state.specs.RunState.{cell_of}
use Rattle.ld_rules.specs.SiteTests.{site_test}
use Rattle.ld_firing.specs.RunSettling.{run_settling}
use Rattle.ld_tree.specs.Tree.{tree_lines, is_open}
use Rattle.ld_laws.specs.Histories.{AnsweredLine, met, nothing, replies_to, says_no_memory, the_unit, the_values}
use Rattle.ld_laws.specs.Courses.{learner, choice, course, one_part, a_property, with_conditions, a_moment, at}

-- One global property of which each person has a value, one that all share, and one of the run.
abbrev pub the_course : Unit
the_course = with_conditions
    (record (a_property (codes "g") GlobPers IntegerKind (Some (codes "0"))) { uri = Some (codes "urn:g") }
    ∷ record (a_property (codes "h") Glob IntegerKind (Some (codes "1"))) { uri = Some (codes "urn:h") }
    ∷ a_property (codes "l") Loc IntegerKind (Some (codes "2")) ∷ [])
    []
    (course (codes "u") (learner ∷ []) (choice (codes "read") ∷ []) [] (one_part (codes "read")))

-- A line, and what was written for it.
abbrev wrote : Line → List ℕ → AnsweredLine
wrote line text = record { asked = Some line; text = text }

-- Lines of the run `r`, the first of them before it is made, of another run, and of no run. For one of them memory
-- ran out.
abbrev pub the_history : List AnsweredLine
the_history =
    wrote (at 7 0 (Enrol (codes "ann"))) (codes "no 4 unknown-run\n")
    ∷ wrote (Create (a_moment 8 0) (codes "r") (codes "u")) (codes "ok create\n")
    ∷ wrote (Create (a_moment 8 0) (codes "s") (codes "u")) (codes "ok create\n")
    ∷ wrote (GlobalSet (a_moment 8 0) (codes "urn:g") (Some (codes "bob")) (codes "4")) (codes "ok global-set\n")
    ∷ wrote (at 8 0 (Enrol (codes "ann"))) (codes "ok enrol turns=0 fired=0 rejected=0 sent=0\n")
    ∷ wrote (at 8 0 (Enrol (codes "zoe"))) (codes "no 99 no-memory\n")
    ∷ wrote (GlobalSet (a_moment 8 0) (codes "urn:h") None (codes "5")) (codes "ok global-set\n")
    ∷ wrote (OfRun (a_moment 8 0) (codes "s") (Enrol (codes "zoe"))) (codes "ok enrol turns=0 fired=0 rejected=0 sent=0\n")
    ∷ wrote (at 8 1 (Enrol (codes "bob"))) (codes "ok enrol turns=0 fired=0 rejected=0 sent=0\n")
    ∷ wrote (at 8 2 (Assign (codes "ann") (codes "learner"))) (codes "ok assign turns=0 fired=0 rejected=0 sent=0\n") ∷ []

-- The lines that count as given.
abbrev pub those_given : List AnsweredLine
those_given = filter (λ one. not (says_no_memory one.text)) the_history

-- What was written for these is what is replied to them.
pub what_is_written : replies (seated_world 2 (the_course ∷ [])) (map (λ one. one.asked) those_given) ≡ map (λ one. one.text) those_given
unfolding world_step reply_block run_step admitted visited fired_below after_sweeps all_firings run_settling site_test site_firing value_set_parts condition_true_parts completed_parts completion_parts follows_parts on_completion_parts role_part property_parts_at object_parts_at service_parts environment_parts_at parts_before_items ending_parts activity_parts_at structure_parts_at role_part_parts_at act_parts_at play_parts_at method_parts unit_parts action_parts condition_parts_at middle_parts parts_of named_by change_parts notice_parts cell_of begins_as tree_lines is_open digits escape_byte value_of text_of truth_of integer_of signed_numeral numeral fits_in
what_is_written = refl

-- The value of a property that is this integer.
abbrev whole_number : ℕ → Option Datum
whole_number n = Some (number_datum (pos n))

-- Before it is made the run meets nothing, by the line that makes it its unit, and then, property by
-- property, the values of its persons, the one who joins included, or the one that all share. The line for which
-- memory ran out is none of what it meets.
pub what_is_met : met (seated_world 2 (the_course ∷ [])) (codes "r") the_history ≡
    record { line = Some (at 7 0 (Enrol (codes "ann"))); meeting = nothing }
    ∷ record { line = Some (Create (a_moment 8 0) (codes "r") (codes "u")); meeting = the_unit (Some the_course) }
    ∷ record {
      line = Some (at 8 0 (Enrol (codes "ann")));
      meeting = the_values ((whole_number 0 ∷ []) ∷ (whole_number 1 ∷ []) ∷ [] ∷ []);
    }
    ∷ record {
      line = Some (at 8 1 (Enrol (codes "bob")));
      meeting = the_values ((whole_number 0 ∷ whole_number 4 ∷ []) ∷ (whole_number 5 ∷ []) ∷ [] ∷ []);
    }
    ∷ record {
      line = Some (at 8 2 (Assign (codes "ann") (codes "learner")));
      meeting = the_values ((whole_number 0 ∷ whole_number 4 ∷ []) ∷ (whole_number 5 ∷ []) ∷ [] ∷ []);
    } ∷ []
unfolding world_step reply_block run_step admitted begins_as digits value_of integer_of signed_numeral numeral fits_in
what_is_met = refl

-- ---- another history, in which the run meets the same

-- A second unit is published, there is no other run, values are set at other times, and memory runs out for another
-- line.
abbrev pub another_history : List AnsweredLine
another_history =
    wrote (at 7 0 (Enrol (codes "ann"))) (codes "no 4 unknown-run\n")
    ∷ wrote (Create (a_moment 8 0) (codes "r") (codes "u")) (codes "ok create\n")
    ∷ wrote (at 8 0 (Enrol (codes "ann"))) (codes "ok enrol turns=0 fired=0 rejected=0 sent=0\n")
    ∷ wrote (GlobalSet (a_moment 8 0) (codes "urn:h") None (codes "5")) (codes "ok global-set\n")
    ∷ wrote (GlobalSet (a_moment 8 0) (codes "urn:g") (Some (codes "bob")) (codes "9")) (codes "ok global-set\n")
    ∷ wrote (GlobalSet (a_moment 8 0) (codes "urn:g") (Some (codes "bob")) (codes "4")) (codes "ok global-set\n")
    ∷ wrote (GlobalSet (a_moment 8 0) (codes "urn:g") (Some (codes "ann")) (codes "7")) (codes "no 99 no-memory\n")
    ∷ wrote (at 8 1 (Enrol (codes "bob"))) (codes "ok enrol turns=0 fired=0 rejected=0 sent=0\n")
    ∷ wrote (at 8 2 (Assign (codes "ann") (codes "learner"))) (codes "ok assign turns=0 fired=0 rejected=0 sent=0\n") ∷ []

-- A unit without properties.
abbrev pub the_other_course : Unit
the_other_course = course (codes "v") (learner ∷ []) (choice (codes "read") ∷ []) [] (one_part (codes "read"))

pub the_same_is_met :
    met (seated_world 2 (the_other_course ∷ the_course ∷ [])) (codes "r") another_history
    ≡ met (seated_world 2 (the_course ∷ [])) (codes "r") the_history
unfolding world_step reply_block run_step admitted begins_as digits value_of integer_of signed_numeral numeral fits_in
the_same_is_met = refl

-- So the replies to the run's lines are the same.
pub the_same_is_replied : replies_to (codes "r") another_history ≡ replies_to (codes "r") the_history
unfolding reply_block digits
the_same_is_replied = refl
