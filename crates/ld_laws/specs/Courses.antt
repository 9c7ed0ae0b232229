-- Small courses, made of parts that have nothing that is not said, and lines about them.
use Rattle.std.specs.Prelude.{ℕ, ℤ, pos, ◌+◌, ◌*◌, List, [], ◌∷◌, ◌++◌, map, Option, Some, None, Bool, true, codes}
use Rattle.ld_value.specs.declared.kind.Kind.{Kind}
use Rattle.ld_value.specs.declared.kind.Kind.TheVariants as kind
use Rattle.ld_value.specs.declared.moment.Moment.{Moment}
use Rattle.ld_model.specs.Expressions.{TermOf, literal_term, list_term, pair_term, term_and, no_term, adding, subtracting, TestOf, compare_test, all_test, test_and, no_test, equal, greater}
use Rattle.ld_model.specs.RoleRows.{RoleRow, rows_within}
use Rattle.ld_model.specs.declared.activity.Activity.{Activity}
use Rattle.ld_model.specs.declared.activity.ActivityKind.TheVariants.{Learning}
use Rattle.ld_model.specs.declared.activity.Structure.{Structure}
use Rattle.ld_model.specs.declared.activity.StructureKind.{StructureKind}
use Rattle.ld_model.specs.declared.completion.Completion.{Completion}
use Rattle.ld_model.specs.declared.completion.Completion.TheVariants.{UserChoice}
use Rattle.ld_model.specs.declared.condition.Action.{Action}
use Rattle.ld_model.specs.declared.condition.Condition.{Condition}
use Rattle.ld_model.specs.declared.method.Act.{Act}
use Rattle.ld_model.specs.declared.method.Play.{Play}
use Rattle.ld_model.specs.declared.method.RolePart.{RolePart}
use Rattle.ld_model.specs.declared.property.Property.{Property}
use Rattle.ld_model.specs.declared.property.PropertyKind.{PropertyKind}
use Rattle.ld_model.specs.declared.role.CreateNew.TheVariants.{NotAllowed}
use Rattle.ld_model.specs.declared.role.MatchPersons.TheVariants.{NotExclusively}
use Rattle.ld_model.specs.declared.role.RoleKind.{RoleKind}
use Rattle.ld_model.specs.declared.role.RoleKind.TheVariants.{Learner, Staff}
use Rattle.ld_model.specs.declared.unit.Level.TheVariants.{C}
use Rattle.ld_model.specs.declared.unit.Unit.{Unit}
use Rattle.ld_lines.specs.declared.command.RunCommand.{RunCommand}
use Rattle.ld_lines.specs.declared.command.RunCommand.TheVariants.{Enrol, Assign}
use Rattle.ld_lines.specs.declared.line.Line.{Line}
use Rattle.ld_lines.specs.declared.line.Line.TheVariants.{Create, OfRun}
use Rattle.ld_world.specs.Answers.{replies}
use Rattle.ld_world.specs.World.{seated_world}

-- ---- parts

-- A role of this identifier and kind, with no bounds and no roles within it.
abbrev pub a_role : List ℕ → RoleKind → List RoleRow
a_role id kind = record {
  identifier = id;
  kind = kind;
  title = None;
  create_new = NotAllowed;
  match_persons = NotExclusively;
  min_persons = 0;
  max_persons = None;
  path = [];
} ∷ []

-- The role `learner`, of the kind of learners.
abbrev pub learner : List RoleRow
learner = a_role (codes "learner") Learner

-- A role, and roles within it.
abbrev pub enclosing : List RoleRow → List (List RoleRow) → List RoleRow
enclosing outer inner = outer ++ rows_within inner

-- The role `tutor`, of the kind of staff.
abbrev pub tutor : List RoleRow
tutor = a_role (codes "tutor") Staff

-- A learning activity without items, visible at first or not, that is completed so.
abbrev pub an_activity : List ℕ → Bool → Completion → Activity
an_activity id visible complete = record {
  identifier =
      id;
  kind = Learning;
  title = None;
  visible = visible;
  learning_objectives = [];
  prerequisites = [];
  supports = [];
  environments = [];
  items = [];
  complete = Some complete;
  on_completion = None;
}

-- An activity that is completed by choice.
abbrev pub choice : List ℕ → Activity
choice id = an_activity id true UserChoice

-- A sequence or a selection of these children, visible at first, with the number to select, if one is said.
abbrev pub a_structure : List ℕ → StructureKind → Option ℕ → List (List ℕ) → Structure
a_structure id kind number children = record {
  identifier = id;
  kind = kind;
  title = None;
  visible = true;
  number_to_select = number;
  environments = [];
  children = children;
}

-- A role-part of this role. It refers to what has the last identifier.
abbrev pub a_part : List ℕ → List ℕ → List ℕ → RolePart
a_part id role target = record { identifier = id; title = None; role = role; target = target }

-- An act of these role-parts, perhaps with a completion of its own.
abbrev pub an_act : List ℕ → List RolePart → Option Completion → Act
an_act id parts complete =
    record { identifier = id; title = None; role_parts = parts; complete = complete; on_completion = None }

-- The play `p` of these acts, visible at first. It is not said when it is completed.
abbrev pub the_play : List Act → Play
the_play acts =
    record {
      identifier =
          codes "p";
      title = None;
      visible = true;
      acts = acts;
      complete = None;
      on_completion = None;
    }

-- A course of one play. It has the highest level, which may have all that is put into it.
abbrev pub course : List ℕ → List (List RoleRow) → List Activity → List Structure → List Act → Unit
course id roles activities structures acts = record {
  roles =
      roles;
  properties = [];
  environments = [];
  activities = activities;
  structures = structures;
  format = 1;
  identifier =
      id;
  level = C;
  title = None;
  turns = 64;
  metadata = None;
  learning_objectives = [];
  prerequisites = [];
  method = record { plays = the_play acts ∷ []; complete = None; on_completion = None };
  conditions = [];
}

-- One act `a` of one part `rp` of the role `learner`, which refers to what has this identifier.
abbrev pub one_part : List ℕ → List Act
one_part target = an_act (codes "a") (a_part (codes "rp") (codes "learner") target ∷ []) None ∷ []

-- A property of this kind and datatype, with its initial text, if it has one, and without restrictions.
abbrev pub a_property : List ℕ → PropertyKind → Kind → Option (List ℕ) → Property
a_property id kind datatype initial = record {
  identifier = id;
  kind = kind;
  datatype = datatype;
  title = None;
  role = None;
  uri = None;
  initial = initial;
  restrictions = None;
}

-- The integer that the text is, as a term.
abbrev pub whole : List ℕ → TermOf
whole text = literal_term kind.Integer text

-- The truth value that the text is, as a term.
abbrev pub truth : List ℕ → TermOf
truth text = literal_term kind.Boolean text

-- The duration that the text is, as a term.
abbrev pub span : List ℕ → TermOf
span text = literal_term kind.Duration text

-- The sum of two terms.
abbrev pub sum_of_two : TermOf → TermOf → TermOf
sum_of_two a b = list_term adding (term_and a (term_and b no_term))

-- The difference of two terms: the first less the second.
abbrev pub less_by : TermOf → TermOf → TermOf
less_by a b = pair_term subtracting a b

-- The test whether two terms have equal values.
abbrev pub is_equal : TermOf → TermOf → TestOf
is_equal a b = compare_test equal a b

-- The test whether the first term's value is greater than the second's.
abbrev pub is_greater : TermOf → TermOf → TestOf
is_greater a b = compare_test greater a b

-- The test whether both of these tests hold.
abbrev pub are_both : TestOf → TestOf → TestOf
are_both a b = all_test (test_and a (test_and b no_test))

-- A condition: the test, what is done where it holds, and what is done where it does not.
abbrev pub a_condition : TestOf → List Action → List Action → Condition
a_condition holds then_do else_do = record { test = holds; yes = then_do; no = else_do }

-- The course with these properties and conditions in place of its own.
abbrev pub with_conditions : List Property → List Condition → Unit → Unit
with_conditions properties conditions unit = record unit { properties = properties; conditions = conditions }

-- ---- lines

-- So many minutes after an hour of 2024-01-01.
abbrev pub clock : ℕ → ℕ → ℤ
clock hour minute = pos (1704067200 + 3600 * hour + 60 * minute)

-- That time of 2024-01-01 as the moment of a line.
abbrev pub a_moment : ℕ → ℕ → Moment
a_moment hour minute = record { 0 = clock hour minute }

-- So many seconds after the first moment of 1970.
abbrev pub after_1970 : ℕ → Moment
after_1970 seconds = record { 0 = pos seconds }

-- A command of the run `r`.
abbrev pub at : ℕ → ℕ → RunCommand → Line
at hour minute command = OfRun (a_moment hour minute) (codes "r") command

-- The run `r` is made, and `ann`, a learner, is enrolled.
abbrev pub setup : List ℕ → List Line
setup unit =
    Create (a_moment 8 0) (codes "r") unit
    ∷ at 8 0 (Enrol (codes "ann"))
    ∷ at 8 0 (Assign (codes "ann") (codes "learner")) ∷ []

-- What is answered to lines about this course alone, where each run has this many seats. With all 200 of the
-- program it is the same, as long as no run is full: proofs/AllSeats.
abbrev pub told : ℕ → Unit → List Line → List (List ℕ)
told seats unit lines = replies (seated_world seats (unit ∷ [])) (map Some lines)
