-- A tree with all kinds of lines: environments, services, structures in structures, support, feedback, plays.
use Rattle.std.specs.Prelude.{◌≡◌, refl, ℕ, List, [], ◌∷◌, ◌++◌, Option, Some, None, Bool, true, false, codes}
use Rattle.std.specs.Fmt.{digits}
use Rattle.json.specs.Print.{escape_byte}
use Rattle.ld_value.specs.Values.{value_of, text_of, truth_of, integer_of, signed_numeral, fits_in}
use Rattle.ld_value.specs.Numeral.{numeral}
use Rattle.ld_model.specs.declared.activity.ActivityKind.TheVariants.{Support}
use Rattle.ld_model.specs.declared.completion.OnCompletion.{OnCompletion}
use Rattle.ld_model.specs.declared.environment.Environment.{Environment}
use Rattle.ld_model.specs.declared.environment.LearningObject.{LearningObject}
use Rattle.ld_model.specs.declared.environment.Service.{Service}
use Rattle.ld_model.specs.declared.environment.ServiceKind.{ServiceKind}
use Rattle.ld_model.specs.declared.environment.ServiceKind.TheVariants.{SendMail, Monitor}
use Rattle.ld_model.specs.declared.method.Act.{Act}
use Rattle.ld_model.specs.declared.method.Play.{Play}
use Rattle.ld_state.specs.RunCells.{begins_as}
use Rattle.ld_model.specs.declared.activity.Activity.{Activity}
use Rattle.ld_model.specs.declared.activity.StructureKind.TheVariants.{Sequence, Selection}
use Rattle.ld_model.specs.declared.completion.Completion.TheVariants.{WhenRolePartCompleted, WhenPlayCompleted, WhenLastActCompleted}
use Rattle.ld_model.specs.declared.item.Item.{Item}
use Rattle.ld_model.specs.declared.role.RoleKind.TheVariants.{Learner}
use Rattle.ld_model.specs.declared.unit.Unit.{Unit}
use Rattle.ld_cascade.specs.Settling.{visited, fired_below, after_sweeps, all_firings}
use Rattle.ld_names.specs.Names.{named_by}
use Rattle.ld_parts.specs.Listing.{value_set_parts, condition_true_parts, completed_parts, completion_parts, follows_parts, on_completion_parts, role_part, property_parts_at, object_parts_at, service_parts, environment_parts_at, parts_before_items, ending_parts, activity_parts_at, structure_parts_at, role_part_parts_at, act_parts_at, play_parts_at, method_parts, unit_parts, action_parts, condition_parts_at, middle_parts, parts_of}
use Rattle.ld_walk.specs.CommonParts.{change_parts, notice_parts}
use Rattle.ld_firing.specs.Actions.{site_firing}
use Rattle.ld_state.specs.RunState.{cell_of}
use Rattle.ld_rules.specs.SiteTests.{site_test}
use Rattle.ld_firing.specs.RunSettling.{run_settling}
use Rattle.ld_admission.specs.Checks.{admitted}
use Rattle.ld_lines.specs.declared.command.RunCommand.TheVariants.{Enrol, Assign, Start, Complete, Tree}
use Rattle.ld_run.specs.RunStep.{run_step}
use Rattle.ld_tree.specs.Tree.{tree_lines, is_open}
use Rattle.ld_lines.specs.declared.line.Line.{Line}
use Rattle.ld_lines.specs.declared.line.Line.TheVariants.{Create}
use Rattle.ld_world.specs.World.{world_step, reply_block}
use Rattle.ld_laws.specs.Courses.{a_role, learner, enclosing, tutor, choice, a_structure, a_part, an_act, the_play, course, a_moment, at, told}

-- A visible item without a title.
abbrev item : List ℕ → List ℕ → Item
item id href = record { identifier = id; href = href; title = None; visible = true }

-- What follows a completion: this one item is shown as feedback, and nothing else is done.
abbrev with_feedback : Item → Option OnCompletion
with_feedback shown = Some (record { feedback = shown ∷ []; change = []; notify = [] })

-- A learning object of these items, without a title.
abbrev object : List ℕ → Bool → List Item → LearningObject
object id visible items = record { identifier = id; title = None; visible = visible; items = items }

-- A visible service without a title.
abbrev service : List ℕ → ServiceKind → Service
service id kind = record { identifier = id; kind = kind; title = None; visible = true }

-- A learning object that is visible and one that is not, a service, and a reference to `e2`.
abbrev e1 : Environment
e1 = record {
  identifier = codes "e1";
  title = Some (codes "Env");
  visible = true;
  learning_objects = object (codes "o1") true (item (codes "io1") (codes "o1.html") ∷ [])
      ∷ object (codes "o2") false (item (codes "io2") (codes "o2.html") ∷ []) ∷ [];
  services = service (codes "s1") Monitor ∷ [];
  environments = codes "e2" ∷ [];
}

-- A service alone.
abbrev e2 : Environment
e2 = record {
  identifier = codes "e2";
  title = None;
  visible = true;
  learning_objects = [];
  services = service (codes "s2") SendMail ∷ [];
  environments = [];
}

-- A learning activity with an environment, an item, and another item as feedback.
abbrev x : Activity
x = record (choice (codes "x")) {
  title = Some (codes "X");
  environments = codes "e1" ∷ [];
  items = item (codes "ix") (codes "x.html") ∷ [];
  on_completion = with_feedback (item (codes "fx") (codes "fx.html"));
}

-- A support activity.
abbrev y : Activity
y = record (choice (codes "y")) { kind = Support }

-- A part for learners and one for tutors; the act is done with the first of them, and has feedback.
abbrev a1 : Act
a1 = record (an_act (codes "a1") (a_part (codes "rp1") (codes "learner") (codes "seq")
    ∷ a_part (codes "rp2") (codes "tutor") (codes "y") ∷ [])
    (Some (WhenRolePartCompleted (codes "rp1"
    ∷ [])))) { on_completion = with_feedback (item (codes "fa") (codes "a.html")) }

-- A play that is done with its act, and has feedback.
abbrev p1 : Play
p1 = record (the_play (a1 ∷ [])) {
  identifier = codes "p1";
  complete = Some WhenLastActCompleted;
  on_completion = with_feedback (item (codes "fp") (codes "p.html"));
}

-- A play that is hidden at first.
abbrev p2 : Play
p2 = record (the_play (an_act (codes "c1") (a_part (codes "rp4") (codes "tutor") (codes "y") ∷ []) None
    ∷ [])) { identifier = codes "p2"; visible = false }

-- A play that shows learners an environment.
abbrev p3 : Play
p3 = record (the_play (an_act (codes "b1") (a_part (codes "rp3") (codes "learner") (codes "e2") ∷ []) None
    ∷ [])) { identifier = codes "p3" }

-- A course of two environments, a selection within a sequence, and three plays; it is done when `p1` is.
abbrev pub the_course : Unit
the_course = record (course (codes "t") (enclosing learner (a_role (codes "leader") Learner ∷ []) ∷ tutor
    ∷ [])
    (x ∷ y ∷ choice (codes "z") ∷ choice (codes "z1") ∷ choice (codes "z2") ∷ [])
    (a_structure (codes "seq") Sequence None (codes "x" ∷ codes "in" ∷ codes "z" ∷ [])
    ∷ a_structure (codes "in") Selection (Some 1) (codes "z1" ∷ codes "z2" ∷ []) ∷ [])
    []) {
      title = Some (codes "T");
      environments = e1 ∷ e2 ∷ [];
      method = record {
        plays = p1 ∷ p2 ∷ p3 ∷ [];
        complete = Some (WhenPlayCompleted (codes "p1" ∷ []));
        on_completion = with_feedback (item (codes "fu") (codes "u.html"));
      };
    }

-- `bob`, a leader of learners, completes the sequence; `tim` is a tutor, and both look at their trees.
abbrev pub the_lines : List Line
the_lines =
    Create (a_moment 8 0) (codes "r") (codes "t")
    ∷ at 8 0 (Enrol (codes "bob"))
    ∷ at 8 0 (Enrol (codes "tim"))
    ∷ at 8 0 (Assign (codes "bob") (codes "leader"))
    ∷ at 8 0 (Assign (codes "tim") (codes "tutor"))
    ∷ at 9 0 Start
    ∷ at 9 0 (Tree (codes "bob"))
    ∷ at 9 0 (Tree (codes "tim"))
    ∷ at 9 1 (Complete (codes "bob") (codes "z1"))
    ∷ at 9 1 (Complete (codes "bob") (codes "x"))
    ∷ at 9 2 (Tree (codes "bob"))
    ∷ at 9 3 (Complete (codes "bob") (codes "z1"))
    ∷ at 9 4 (Complete (codes "bob") (codes "z"))
    ∷ at 9 5 (Tree (codes "bob"))
    ∷ at 9 6 (Complete (codes "bob") (codes "z2")) ∷ []

-- A child of the sequence is closed until those before it are done. At the end the unit, the play `p1` and the act
-- `a1` are done and show their feedback, and no activity is open.
pub all_kinds_of_lines : told 2 the_course the_lines ≡
    codes "ok create\n"
    ∷ codes "ok enrol turns=0 fired=0 rejected=0 sent=0\n"
    ∷ codes "ok enrol turns=0 fired=0 rejected=0 sent=0\n"
    ∷ codes "ok assign turns=0 fired=0 rejected=0 sent=0\n"
    ∷ codes "ok assign turns=0 fired=0 rejected=0 sent=0\n"
    ∷ codes "ok start turns=1 fired=4 rejected=0 sent=0\n"
    ∷ (codes "ok tree turns=0 fired=0 rejected=0 sent=0 lines=20\n" ++ codes "unit t open \"T\"\n"
    ++ codes "  play p1 open\n" ++ codes "    act a1 open\n" ++ codes "      part rp1 open\n"
    ++ codes "        structure seq open\n" ++ codes "          activity x open \"X\"\n"
    ++ codes "            environment e1 \"Env\"\n" ++ codes "              object o1\n"
    ++ codes "                item io1 o1.html\n" ++ codes "              service s1 monitor\n"
    ++ codes "              environment e2\n" ++ codes "                service s2 send-mail\n"
    ++ codes "            item ix x.html\n" ++ codes "          structure in closed\n"
    ++ codes "          activity z closed\n" ++ codes "  play p3 open\n" ++ codes "    act b1 open\n"
    ++ codes "      part rp3 done\n" ++ codes "        environment e2\n"
    ++ codes "          service s2 send-mail\n")
    ∷ (codes "ok tree turns=0 fired=0 rejected=0 sent=0 lines=7\n" ++ codes "unit t open \"T\"\n"
    ++ codes "  play p1 open\n" ++ codes "    act a1 open\n" ++ codes "      part rp2 open\n"
    ++ codes "        support y open\n" ++ codes "  play p3 open\n" ++ codes "    act b1 open\n")
    ∷ codes "no 31 not-open\n"
    ∷ codes "ok complete turns=1 fired=1 rejected=0 sent=0\n"
    ∷ (codes "ok tree turns=0 fired=0 rejected=0 sent=0 lines=23\n" ++ codes "unit t open \"T\"\n"
    ++ codes "  play p1 open\n" ++ codes "    act a1 open\n" ++ codes "      part rp1 open\n"
    ++ codes "        structure seq open\n" ++ codes "          activity x done \"X\"\n"
    ++ codes "            environment e1 \"Env\"\n" ++ codes "              object o1\n"
    ++ codes "                item io1 o1.html\n" ++ codes "              service s1 monitor\n"
    ++ codes "              environment e2\n" ++ codes "                service s2 send-mail\n"
    ++ codes "            item ix x.html\n" ++ codes "            item fx fx.html\n"
    ++ codes "          structure in open\n" ++ codes "            activity z1 open\n"
    ++ codes "            activity z2 open\n" ++ codes "          activity z closed\n"
    ++ codes "  play p3 open\n" ++ codes "    act b1 open\n" ++ codes "      part rp3 done\n"
    ++ codes "        environment e2\n" ++ codes "          service s2 send-mail\n")
    ∷ codes "ok complete turns=1 fired=2 rejected=0 sent=0\n"
    ∷ codes "ok complete turns=1 fired=6 rejected=0 sent=0\n"
    ∷ (codes "ok tree turns=0 fired=0 rejected=0 sent=0 lines=7\n" ++ codes "unit t done \"T\"\n"
    ++ codes "  item fu u.html\n" ++ codes "  play p1 done\n" ++ codes "    item fp p.html\n"
    ++ codes "    act a1 done\n" ++ codes "      item fa a.html\n" ++ codes "  play p3 open\n")
    ∷ codes "no 31 not-open\n" ∷ []
unfolding world_step reply_block run_step admitted visited fired_below after_sweeps all_firings run_settling site_test site_firing value_set_parts condition_true_parts completed_parts completion_parts follows_parts on_completion_parts role_part property_parts_at object_parts_at service_parts environment_parts_at parts_before_items ending_parts activity_parts_at structure_parts_at role_part_parts_at act_parts_at play_parts_at method_parts unit_parts action_parts condition_parts_at middle_parts parts_of named_by change_parts notice_parts cell_of begins_as tree_lines is_open digits escape_byte value_of text_of truth_of integer_of signed_numeral numeral fits_in
all_kinds_of_lines = refl
