-- The unit of the generator. (docs/GENERATOR.md, "The unit")
use Rattle.std.specs.Prelude.{ℕ, List, [], ◌∷◌, ◌++◌, map, Some, None, true, codes, decimal}
use Rattle.ld_base.specs.Numbers.{numbers_below}
use Rattle.ld_value.specs.declared.kind.Kind.TheVariants.{Integer}
use Rattle.ld_model.specs.Expressions.{TermOf, TestOf, property_term, literal_term, list_term, term_and, no_term, adding, compare_test, greater, users_test, done_test}
use Rattle.ld_model.specs.RoleRows.{RoleRow}
use Rattle.ld_model.specs.declared.activity.Activity.{Activity}
use Rattle.ld_model.specs.declared.activity.ActivityKind.TheVariants.{Learning}
use Rattle.ld_model.specs.declared.activity.Structure.{Structure}
use Rattle.ld_model.specs.declared.activity.StructureKind.TheVariants.{Selection}
use Rattle.ld_model.specs.declared.completion.Completion.TheVariants.{UserChoice, WhenRolePartCompleted, WhenLastActCompleted, WhenPlayCompleted}
use Rattle.ld_model.specs.declared.condition.Action.{Action}
use Rattle.ld_model.specs.declared.condition.Action.TheVariants.{Change, Notify}
use Rattle.ld_model.specs.declared.condition.Condition.{Condition}
use Rattle.ld_model.specs.declared.method.Act.{Act}
use Rattle.ld_model.specs.declared.method.Method.{Method}
use Rattle.ld_model.specs.declared.method.Play.{Play}
use Rattle.ld_model.specs.declared.method.RolePart.{RolePart}
use Rattle.ld_model.specs.declared.property.Property.{Property}
use Rattle.ld_model.specs.declared.property.PropertyKind.TheVariants.{LocPers}
use Rattle.ld_model.specs.declared.role.CreateNew.TheVariants.{NotAllowed}
use Rattle.ld_model.specs.declared.role.MatchPersons.TheVariants.{NotExclusively}
use Rattle.ld_model.specs.declared.role.RoleKind.TheVariants.{Learner}
use Rattle.ld_model.specs.declared.unit.Level.TheVariants.{C}
use Rattle.ld_model.specs.declared.unit.Unit.{Unit}

-- ---- roles, properties, activities

-- The role `learner`, without bounds.
abbrev pub learner : List RoleRow
learner = record {
  identifier = codes "learner";
  kind = Learner;
  title = None;
  create_new = NotAllowed;
  match_persons = NotExclusively;
  min_persons = 0;
  max_persons = None;
  path = [];
} ∷ []

-- The property `score`: a whole number of each person in each run, 0 at first.
abbrev pub score : Property
score = record {
  identifier = codes "score";
  kind = LocPers;
  datatype = Integer;
  title = None;
  role = None;
  uri = None;
  initial = Some (codes "0");
  restrictions = None;
}

-- The identifier of the activity of this number: `a0`, `a1` and so on.
abbrev pub activity_name : ℕ → List ℕ
activity_name k = codes "a" ++ decimal k

-- The learning activity of this number, which is done when a person says so.
abbrev pub numbered_activity : ℕ → Activity
numbered_activity k = record {
  identifier = activity_name k;
  kind = Learning;
  title = None;
  visible = true;
  learning_objectives = [];
  prerequisites = [];
  supports = [];
  environments = [];
  items = [];
  complete = Some UserChoice;
  on_completion = None;
}

-- The selection `all` of the forty activities, all of which have to be done.
abbrev pub all_activities : Structure
all_activities = record {
  identifier = codes "all";
  kind = Selection;
  title = None;
  visible = true;
  number_to_select = None;
  environments = [];
  children = map activity_name (numbers_below 40);
}

-- ---- the method

-- The learners do all activities.
abbrev pub the_part : RolePart
the_part = record { identifier = codes "rp"; title = None; role = codes "learner"; target = codes "all" }

-- The act `t`, which is done when its part is.
abbrev pub the_act : Act
the_act = record {
  identifier = codes "t";
  title = None;
  role_parts = the_part ∷ [];
  complete = Some (WhenRolePartCompleted (codes "rp" ∷ []));
  on_completion = None;
}

-- The play `p`, which is done when its act is.
abbrev pub the_play : Play
the_play = record {
  identifier = codes "p";
  title = None;
  visible = true;
  acts = the_act ∷ [];
  complete = Some WhenLastActCompleted;
  on_completion = None;
}

-- The method, which is done when its play is.
abbrev pub the_method : Method
the_method = record {
  plays = the_play ∷ [];
  complete = Some (WhenPlayCompleted (codes "p" ∷ []));
  on_completion = None;
}

-- ---- conditions

-- The value of `score`.
abbrev pub score_term : TermOf
score_term = property_term (codes "score")

-- `score` becomes one more.
abbrev pub one_more : Action
one_more = Change (record {
  property = codes "score";
  value = list_term adding (term_and score_term (term_and (literal_term Integer (codes "1")) no_term));
})

-- Whoever has done the activity of this number has one more in `score`.
abbrev pub scoring : ℕ → Condition
scoring k = record { test = done_test (activity_name k); yes = one_more ∷ []; no = [] }

-- There are learners, and each has more than 29.
abbrev pub all_have_scored : TestOf
all_have_scored =
    users_test (codes "learner") (compare_test greater score_term (literal_term Integer (codes "29")))

-- The learners get a notice.
abbrev pub notifying : Action
notifying = Notify (record { roles = codes "learner" ∷ []; subject = Some (codes "all"); activity = None })

-- Once each learner has more than 29, the learners get a notice.
abbrev pub telling : Condition
telling = record { test = all_have_scored; yes = notifying ∷ []; no = [] }

-- ---- the unit

-- The unit `gen`.
abbrev pub generated_unit : Unit
generated_unit = record {
  format = 1;
  identifier = codes "gen";
  level = C;
  title = None;
  turns = 64;
  metadata = None;
  learning_objectives = [];
  prerequisites = [];
  roles = learner ∷ [];
  properties = score ∷ [];
  environments = [];
  activities = map numbered_activity (numbers_below 40);
  structures = all_activities ∷ [];
  method = the_method;
  conditions = map scoring (numbers_below 30) ++ telling ∷ [];
}
