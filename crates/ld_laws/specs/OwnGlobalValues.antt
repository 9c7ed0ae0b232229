-- Each person's own value of a global property: a run takes it in when the person joins, and gives it back.
use Rattle.std.specs.Prelude.{◌≡◌, refl, List, [], ◌∷◌, Some, None, codes}
use Rattle.std.specs.Fmt.{digits}
use Rattle.json.specs.Print.{escape_byte}
use Rattle.ld_value.specs.Values.{value_of, text_of, truth_of, integer_of, signed_numeral, fits_in}
use Rattle.ld_value.specs.Numeral.{numeral}
use Rattle.ld_value.specs.declared.kind.Kind.TheVariants.{Integer as IntegerKind}
use Rattle.ld_state.specs.RunCells.{begins_as}
use Rattle.ld_model.specs.declared.property.PropertyKind.TheVariants.{GlobPers}
use Rattle.ld_model.specs.declared.unit.Unit.{Unit}
use Rattle.ld_cascade.specs.Settling.{visited, fired_below, after_sweeps, all_firings}
use Rattle.ld_names.specs.Names.{named_by}
use Rattle.ld_parts.specs.Listing.{value_set_parts, condition_true_parts, completed_parts, completion_parts, follows_parts, on_completion_parts, role_part, property_parts_at, object_parts_at, service_parts, environment_parts_at, parts_before_items, ending_parts, activity_parts_at, structure_parts_at, role_part_parts_at, act_parts_at, play_parts_at, method_parts, unit_parts, action_parts, condition_parts_at, middle_parts, parts_of}
use Rattle.ld_walk.specs.CommonParts.{change_parts, notice_parts}
use Rattle.ld_firing.specs.Actions.{site_firing}
use Rattle.ld_state.specs.RunState.{cell_of}
use Rattle.ld_rules.specs.SiteTests.{site_test}
use Rattle.ld_firing.specs.RunSettling.{run_settling}
use Rattle.ld_admission.specs.Checks.{admitted}
use Rattle.ld_lines.specs.declared.command.RunCommand.TheVariants.{Enrol, Start, Set, Clear, Get}
use Rattle.ld_run.specs.RunStep.{run_step}
use Rattle.ld_tree.specs.Tree.{tree_lines, is_open}
use Rattle.ld_lines.specs.declared.line.Line.{Line}
use Rattle.ld_lines.specs.declared.line.Line.TheVariants.{Create, GlobalSet, GlobalGet}
use Rattle.ld_world.specs.World.{world_step, reply_block}
use Rattle.ld_laws.specs.Courses.{learner, choice, course, one_part, a_property, with_conditions, a_moment, at, told}

-- A global property of which each person has a value, 0 at first.
abbrev pub the_course : Unit
the_course = with_conditions
    (record (a_property (codes "g") GlobPers IntegerKind (Some (codes "0"))) { uri = Some (codes "urn:g") } ∷ [])
    []
    (course (codes "u") (learner ∷ []) (choice (codes "read") ∷ []) [] (one_part (codes "read")))

-- Values are set before a person joins, then in the run and by lines of no run, and asked in both ways.
abbrev pub the_lines : List Line
the_lines =
    Create (a_moment 8 0) (codes "r") (codes "u")
    ∷ GlobalSet (a_moment 8 0) (codes "urn:g") (Some (codes "ann")) (codes "4")
    ∷ GlobalSet (a_moment 8 0) (codes "urn:g") None (codes "4")
    ∷ at 8 0 (Enrol (codes "ann"))
    ∷ at 8 0 (Enrol (codes "bob"))
    ∷ at 9 0 Start
    ∷ at 9 0 (Get (codes "ann") (codes "g"))
    ∷ at 9 0 (Get (codes "bob") (codes "g"))
    ∷ at 9 1 (Set (codes "bob") (codes "g") (codes "9"))
    ∷ GlobalGet (a_moment 8 0) (codes "urn:g") (Some (codes "bob"))
    ∷ GlobalGet (a_moment 8 0) (codes "urn:g") (Some (codes "ann"))
    ∷ GlobalGet (a_moment 8 0) (codes "urn:g") (Some (codes "zoe"))
    ∷ GlobalGet (a_moment 8 0) (codes "urn:g") None
    ∷ at 9 2 (Clear (codes "ann") (codes "g"))
    ∷ GlobalGet (a_moment 8 0) (codes "urn:g") (Some (codes "ann"))
    ∷ GlobalSet (a_moment 8 0) (codes "urn:g") (Some (codes "ann")) (codes "7")
    ∷ at 9 3 (Get (codes "ann") (codes "g")) ∷ []

-- `ann` joins with the 4 that was set, `bob` with the 0; what one side sets or clears the other sees. A line
-- of no run has to name a person.
pub own_global_values : told 2 the_course the_lines ≡
    codes "ok create\n"
    ∷ codes "ok global-set\n"
    ∷ codes "no 22 not-allowed\n"
    ∷ codes "ok enrol turns=0 fired=0 rejected=0 sent=0\n"
    ∷ codes "ok enrol turns=0 fired=0 rejected=0 sent=0\n"
    ∷ codes "ok start turns=1 fired=1 rejected=0 sent=0\n"
    ∷ codes "ok get turns=0 fired=0 rejected=0 sent=0 value=\"4\"\n"
    ∷ codes "ok get turns=0 fired=0 rejected=0 sent=0 value=\"0\"\n"
    ∷ codes "ok set turns=0 fired=0 rejected=0 sent=0\n"
    ∷ codes "ok global-get \"9\"\n"
    ∷ codes "ok global-get \"4\"\n"
    ∷ codes "ok global-get \"0\"\n"
    ∷ codes "no 22 not-allowed\n"
    ∷ codes "ok clear turns=0 fired=0 rejected=0 sent=0\n"
    ∷ codes "ok global-get none\n"
    ∷ codes "ok global-set\n"
    ∷ codes "ok get turns=0 fired=0 rejected=0 sent=0 value=\"7\"\n" ∷ []
unfolding world_step reply_block run_step admitted visited fired_below after_sweeps all_firings run_settling site_test site_firing value_set_parts condition_true_parts completed_parts completion_parts follows_parts on_completion_parts role_part property_parts_at object_parts_at service_parts environment_parts_at parts_before_items ending_parts activity_parts_at structure_parts_at role_part_parts_at act_parts_at play_parts_at method_parts unit_parts action_parts condition_parts_at middle_parts parts_of named_by change_parts notice_parts cell_of begins_as tree_lines is_open digits escape_byte value_of text_of truth_of integer_of signed_numeral numeral fits_in
own_global_values = refl
