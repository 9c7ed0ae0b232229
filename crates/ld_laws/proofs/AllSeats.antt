-- The courses are computed with few seats, since that is quick. With the 200 of the program the replies are
-- the same, as none of them says that a run is full.
use Rattle.std.proofs.Common.{◌≡◌, ◌<◌, ◌≤◌, ℕ, List, [], ◌∷◌, map, Some, true, refl, sym, ◌∙◌, arith, codes}
use Rattle.std.specs.Fmt.{digits}
use Rattle.ld_model.specs.declared.unit.Unit.{Unit}
use Rattle.ld_lines.specs.declared.line.Line.{Line}
use Rattle.ld_world.specs.SameWorlds.{tell_none_full}
use Rattle.ld_world.specs.World.{reply_block}
use Rattle.ld_world.proofs.SeatsOfWorlds.{told_with_more}
use Rattle.ld_laws.specs.Courses.{told}
use Rattle.ld_laws.specs.AllKindsOfLines
use Rattle.ld_laws.specs.AllMembers
use Rattle.ld_laws.specs.BudgetOfThree
use Rattle.ld_laws.specs.Effects
use Rattle.ld_laws.specs.EmptyRole
use Rattle.ld_laws.specs.FirstRun
use Rattle.ld_laws.specs.FourTurns
use Rattle.ld_laws.specs.GlobalValue
use Rattle.ld_laws.specs.HiddenChild
use Rattle.ld_laws.specs.Jigsaw
use Rattle.ld_laws.specs.LastMoment
use Rattle.ld_laws.specs.NoticeEachTime
use Rattle.ld_laws.specs.OrderOfRefusals
use Rattle.ld_laws.specs.OtherRefusals
use Rattle.ld_laws.specs.OwnGlobalValues
use Rattle.ld_laws.specs.RoleBounds
use Rattle.ld_laws.specs.SumOutOfRange
use Rattle.ld_laws.specs.TimeLimits
use Rattle.ld_laws.specs.TwoActs
use Rattle.ld_laws.specs.TwoOfThree
use Rattle.ld_laws.specs.UndoingConditions

same_with_all : (seats : ℕ) (unit : Unit) (lines : List Line) {texts : List (List ℕ)} → 0 < seats → seats ≤ 200 → told seats unit lines ≡ texts → tell_none_full texts ≡ true → told 200 unit lines ≡ told seats unit lines
same_with_all seats unit lines {texts = texts} seat few told_so none =
    told_with_more (unit ∷ []) (map Some lines) texts seats 200 seat few told_so none ∙ sym told_so

pub all_kinds_of_lines : told 200 AllKindsOfLines.the_course AllKindsOfLines.the_lines ≡ told 2 AllKindsOfLines.the_course AllKindsOfLines.the_lines
unfolding reply_block digits
all_kinds_of_lines = same_with_all 2 AllKindsOfLines.the_course AllKindsOfLines.the_lines (omega arith) (omega arith) AllKindsOfLines.all_kinds_of_lines refl

pub all_members : told 200 (AllMembers.the_course AllMembers.all_okay) AllMembers.the_lines ≡ told 2 (AllMembers.the_course AllMembers.all_okay) AllMembers.the_lines
unfolding reply_block digits
all_members = same_with_all 2 (AllMembers.the_course AllMembers.all_okay) AllMembers.the_lines (omega arith) (omega arith) AllMembers.all_members refl

pub budget_of_three : told 200 BudgetOfThree.the_course BudgetOfThree.the_lines ≡ told 1 BudgetOfThree.the_course BudgetOfThree.the_lines
unfolding reply_block digits
budget_of_three = same_with_all 1 BudgetOfThree.the_course BudgetOfThree.the_lines (omega arith) (omega arith) BudgetOfThree.budget_of_three refl

pub effects : told 200 (Effects.the_course (Effects.one_more_than (codes "score")) (Effects.one_more_than (codes "total")) Effects.since_start) Effects.the_lines ≡ told 2 (Effects.the_course (Effects.one_more_than (codes "score")) (Effects.one_more_than (codes "total")) Effects.since_start) Effects.the_lines
unfolding reply_block digits
effects = same_with_all 2 (Effects.the_course (Effects.one_more_than (codes "score")) (Effects.one_more_than (codes "total")) Effects.since_start) Effects.the_lines (omega arith) (omega arith) Effects.effects refl

pub empty_role : told 200 EmptyRole.the_course EmptyRole.the_lines ≡ told 1 EmptyRole.the_course EmptyRole.the_lines
unfolding reply_block digits
empty_role = same_with_all 1 EmptyRole.the_course EmptyRole.the_lines (omega arith) (omega arith) EmptyRole.empty_role refl

pub first_run : told 200 FirstRun.the_course FirstRun.the_lines ≡ told 1 FirstRun.the_course FirstRun.the_lines
unfolding reply_block digits
first_run = same_with_all 1 FirstRun.the_course FirstRun.the_lines (omega arith) (omega arith) FirstRun.first_run refl

pub four_turns : told 200 FourTurns.the_course FourTurns.the_lines ≡ told 1 FourTurns.the_course FourTurns.the_lines
unfolding reply_block digits
four_turns = same_with_all 1 FourTurns.the_course FourTurns.the_lines (omega arith) (omega arith) FourTurns.four_turns refl

pub global_value : told 200 GlobalValue.the_course GlobalValue.the_lines ≡ told 1 GlobalValue.the_course GlobalValue.the_lines
unfolding reply_block digits
global_value = same_with_all 1 GlobalValue.the_course GlobalValue.the_lines (omega arith) (omega arith) GlobalValue.global_value refl

pub hidden_child : told 200 HiddenChild.the_course HiddenChild.the_lines ≡ told 1 HiddenChild.the_course HiddenChild.the_lines
unfolding reply_block digits
hidden_child = same_with_all 1 HiddenChild.the_course HiddenChild.the_lines (omega arith) (omega arith) HiddenChild.hidden_child refl

pub jigsaw : told 200 Jigsaw.the_course Jigsaw.the_lines ≡ told 3 Jigsaw.the_course Jigsaw.the_lines
unfolding reply_block digits
jigsaw = same_with_all 3 Jigsaw.the_course Jigsaw.the_lines (omega arith) (omega arith) Jigsaw.jigsaw refl

pub last_moment : told 200 LastMoment.the_course LastMoment.the_lines ≡ told 1 LastMoment.the_course LastMoment.the_lines
unfolding reply_block digits
last_moment = same_with_all 1 LastMoment.the_course LastMoment.the_lines (omega arith) (omega arith) LastMoment.last_moment_told refl

pub notice_each_time : told 200 NoticeEachTime.the_course NoticeEachTime.the_lines ≡ told 1 NoticeEachTime.the_course NoticeEachTime.the_lines
unfolding reply_block digits
notice_each_time = same_with_all 1 NoticeEachTime.the_course NoticeEachTime.the_lines (omega arith) (omega arith) NoticeEachTime.notice_each_time refl

pub order_of_refusals : told 200 OrderOfRefusals.the_course OrderOfRefusals.the_lines ≡ told 1 OrderOfRefusals.the_course OrderOfRefusals.the_lines
unfolding reply_block digits
order_of_refusals = same_with_all 1 OrderOfRefusals.the_course OrderOfRefusals.the_lines (omega arith) (omega arith) OrderOfRefusals.order_of_refusals refl

pub other_refusals : told 200 OtherRefusals.the_course OtherRefusals.the_lines ≡ told 1 OtherRefusals.the_course OtherRefusals.the_lines
unfolding reply_block digits
other_refusals = same_with_all 1 OtherRefusals.the_course OtherRefusals.the_lines (omega arith) (omega arith) OtherRefusals.other_refusals refl

pub own_global_values : told 200 OwnGlobalValues.the_course OwnGlobalValues.the_lines ≡ told 2 OwnGlobalValues.the_course OwnGlobalValues.the_lines
unfolding reply_block digits
own_global_values = same_with_all 2 OwnGlobalValues.the_course OwnGlobalValues.the_lines (omega arith) (omega arith) OwnGlobalValues.own_global_values refl

pub role_bounds : told 200 RoleBounds.the_course RoleBounds.the_lines ≡ told 3 RoleBounds.the_course RoleBounds.the_lines
unfolding reply_block digits
role_bounds = same_with_all 3 RoleBounds.the_course RoleBounds.the_lines (omega arith) (omega arith) RoleBounds.role_bounds_told refl

pub sum_out_of_range : told 200 (SumOutOfRange.the_course SumOutOfRange.n_and_one) SumOutOfRange.the_lines ≡ told 1 (SumOutOfRange.the_course SumOutOfRange.n_and_one) SumOutOfRange.the_lines
unfolding reply_block digits
sum_out_of_range = same_with_all 1 (SumOutOfRange.the_course SumOutOfRange.n_and_one) SumOutOfRange.the_lines (omega arith) (omega arith) SumOutOfRange.sum_out_of_range refl

pub time_limits : told 200 TimeLimits.the_course TimeLimits.the_lines ≡ told 1 TimeLimits.the_course TimeLimits.the_lines
unfolding reply_block digits
time_limits = same_with_all 1 TimeLimits.the_course TimeLimits.the_lines (omega arith) (omega arith) TimeLimits.time_limits refl

pub two_acts : told 200 TwoActs.the_course TwoActs.the_lines ≡ told 2 TwoActs.the_course TwoActs.the_lines
unfolding reply_block digits
two_acts = same_with_all 2 TwoActs.the_course TwoActs.the_lines (omega arith) (omega arith) TwoActs.two_acts refl

pub two_of_three : told 200 TwoOfThree.the_course TwoOfThree.the_lines ≡ told 1 TwoOfThree.the_course TwoOfThree.the_lines
unfolding reply_block digits
two_of_three = same_with_all 1 TwoOfThree.the_course TwoOfThree.the_lines (omega arith) (omega arith) TwoOfThree.two_of_three refl

pub undoing_conditions : told 200 (UndoingConditions.the_course UndoingConditions.goes_without_b) UndoingConditions.the_lines ≡ told 1 (UndoingConditions.the_course UndoingConditions.goes_without_b) UndoingConditions.the_lines
unfolding reply_block digits
undoing_conditions = same_with_all 1 (UndoingConditions.the_course UndoingConditions.goes_without_b) UndoingConditions.the_lines (omega arith) (omega arith) UndoingConditions.undoing_conditions refl
