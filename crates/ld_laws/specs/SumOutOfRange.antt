-- A sum that leaves 64 bits has no value: the write is rejected.
use Rattle.std.specs.Prelude.{◌≡◌, refl, List, [], ◌∷◌, Some, codes}
use Rattle.std.specs.Fmt.{digits}
use Rattle.json.specs.Print.{escape_byte}
use Rattle.ld_value.specs.Values.{value_of, text_of, truth_of, integer_of, signed_numeral, fits_in}
use Rattle.ld_model.specs.Expressions.{property_term, TermOf}
use Rattle.ld_value.specs.Numeral.{numeral}
use Rattle.ld_value.specs.declared.kind.Kind.TheVariants.{Boolean as BooleanKind, Integer as IntegerKind}
use Rattle.ld_state.specs.RunCells.{begins_as}
use Rattle.ld_model.specs.declared.condition.Action.TheVariants.{Change}
use Rattle.ld_model.specs.declared.property.PropertyKind.TheVariants.{Loc}
use Rattle.ld_model.specs.declared.unit.Unit.{Unit}
use Rattle.ld_cascade.specs.Settling.{visited, fired_below, after_sweeps, all_firings}
use Rattle.ld_names.specs.Names.{named_by}
use Rattle.ld_parts.specs.Listing.{value_set_parts, condition_true_parts, completed_parts, completion_parts, follows_parts, on_completion_parts, role_part, property_parts_at, object_parts_at, service_parts, environment_parts_at, parts_before_items, ending_parts, activity_parts_at, structure_parts_at, role_part_parts_at, act_parts_at, play_parts_at, method_parts, unit_parts, action_parts, condition_parts_at, middle_parts, parts_of}
use Rattle.ld_walk.specs.CommonParts.{change_parts, notice_parts}
use Rattle.ld_firing.specs.Actions.{site_firing}
use Rattle.ld_state.specs.RunState.{cell_of}
use Rattle.ld_rules.specs.SiteTests.{site_test}
use Rattle.ld_firing.specs.RunSettling.{run_settling}
use Rattle.ld_admission.specs.Checks.{admitted}
use Rattle.ld_lines.specs.declared.command.RunCommand.TheVariants.{Enrol, Assign, Start, Set, Get}
use Rattle.ld_run.specs.RunStep.{run_step}
use Rattle.ld_tree.specs.Tree.{tree_lines, is_open}
use Rattle.ld_lines.specs.declared.line.Line.{Line}
use Rattle.ld_lines.specs.declared.line.Line.TheVariants.{Create}
use Rattle.ld_world.specs.World.{world_step, reply_block}
use Rattle.ld_laws.specs.Courses.{whole, truth, is_equal, sum_of_two, learner, choice, course, one_part, a_property, with_conditions, a_condition, a_moment, at, told}

-- Where `go` turns true, `n`, which is the greatest integer, gets the value of the term.
abbrev pub the_course : TermOf → Unit
the_course more = with_conditions
    (a_property (codes "n") Loc IntegerKind (Some (codes "9223372036854775807"))
    ∷ a_property (codes "go") Loc BooleanKind (Some (codes "false")) ∷ [])
    (a_condition (is_equal (property_term (codes "go")) (truth (codes "true")))
    (Change (record { property = codes "n"; value = more }) ∷ []) [] ∷ [])
    (course (codes "u") (learner ∷ []) (choice (codes "read") ∷ []) [] (one_part (codes "read")))

-- `go` is set to true, and `n` is read.
abbrev pub the_lines : List Line
the_lines =
    Create (a_moment 8 0) (codes "r") (codes "u")
    ∷ at 8 0 (Enrol (codes "ann"))
    ∷ at 8 0 (Assign (codes "ann") (codes "learner"))
    ∷ at 9 0 Start
    ∷ at 10 0 (Set (codes "ann") (codes "go") (codes "true"))
    ∷ at 10 0 (Get (codes "ann") (codes "n")) ∷ []

-- `n` and one more.
abbrev pub n_and_one : TermOf
n_and_one = sum_of_two (property_term (codes "n")) (whole (codes "1"))

-- One change is counted as rejected, and `n` is what it was.
pub sum_out_of_range : told 1 (the_course n_and_one) the_lines ≡
    codes "ok create\n"
    ∷ codes "ok enrol turns=0 fired=0 rejected=0 sent=0\n"
    ∷ codes "ok assign turns=0 fired=0 rejected=0 sent=0\n"
    ∷ codes "ok start turns=1 fired=2 rejected=0 sent=0\n"
    ∷ codes "ok set turns=1 fired=1 rejected=1 sent=0\n"
    ∷ codes "ok get turns=0 fired=0 rejected=0 sent=0 value=\"9223372036854775807\"\n" ∷ []
unfolding world_step reply_block run_step admitted visited fired_below after_sweeps all_firings run_settling site_test site_firing value_set_parts condition_true_parts completed_parts completion_parts follows_parts on_completion_parts role_part property_parts_at object_parts_at service_parts environment_parts_at parts_before_items ending_parts activity_parts_at structure_parts_at role_part_parts_at act_parts_at play_parts_at method_parts unit_parts action_parts condition_parts_at middle_parts parts_of named_by change_parts notice_parts cell_of begins_as tree_lines is_open digits escape_byte value_of text_of truth_of integer_of signed_numeral numeral fits_in
sum_out_of_range = refl
