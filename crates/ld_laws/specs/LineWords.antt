-- What the lines of a person's tree say of activities.
use Rattle.std.specs.Prelude.{◌≡◌, ℕ, List, Some, Bool, true, ◌||◌, codes, Contains}
use Rattle.std.specs.Str.{bytes_eq}
use Rattle.ld_model.specs.declared.activity.Activity.{Activity}
use Rattle.ld_model.specs.declared.method.Act.{Act}
use Rattle.ld_model.specs.declared.method.Play.{Play}
use Rattle.ld_model.specs.declared.method.RolePart.{RolePart}
use Rattle.ld_model.specs.declared.unit.Unit.{Unit}
use Rattle.ld_expr.specs.Lookup.{activity_named}
use Rattle.ld_expr.specs.Membership.{is_member_of}
use Rattle.ld_expr.specs.Seen.{Seen}
use Rattle.ld_rules.specs.Reach.{StandsBelow}
use Rattle.ld_tree.specs.Tree.{is_act_opened}

-- The line begins as one of an activity does.
abbrev pub is_activity_word : List ℕ → Bool
is_activity_word word = bytes_eq word (codes "activity") || bytes_eq word (codes "support")

-- An act that is opened has a role-part, of whose role the person is a member, and what stands below what it
-- refers to has this name.
pub record IsTheirs (unit : Unit) (seen : Seen) (p : ℕ) (name : List ℕ) : Type 0 where
  pub play : Play
  pub act : Act
  pub part : RolePart
  pub in_unit : Contains unit.method.plays play
  pub in_play : Contains play.acts act
  pub in_act : Contains act.role_parts part
  pub opened : is_act_opened unit seen act.identifier ≡ true
  pub member : is_member_of unit seen part.role p ≡ true
  pub below : StandsBelow unit part.target name

-- An activity has the identifier, and the name by which it is referred to is the person's.
pub record IsTheirActivity (unit : Unit) (seen : Seen) (p : ℕ) (id : List ℕ) : Type 0 where
  pub name : List ℕ
  pub activity : Activity
  pub named : activity_named unit name ≡ Some activity
  pub identified : activity.identifier ≡ id
  pub theirs : IsTheirs unit seen p name
