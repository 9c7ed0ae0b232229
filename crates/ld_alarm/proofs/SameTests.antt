-- Between two moments of which both or neither has come to each switch, the tests of sites stay as they are.
use Rattle.std.proofs.Common.{◌≡◌, refl, sym, ap, ap₂, ◌∙◌, ℕ, ℤ, pos, ◌+ℤ◌, inl, List, [], ◌∷◌, Option, Some, None, Bool, true, ◌&&◌, ◌||◌, int_le, is_some, option_map, slice_get}
use Rattle.ld_base.specs.Maybe.{◌>>=◌}
use Rattle.ld_value.specs.Datum.{Datum, same_datum}
use Rattle.ld_model.specs.declared.activity.Activity.{Activity}
use Rattle.ld_model.specs.declared.cell.Owner.{Owner}
use Rattle.ld_model.specs.declared.cell.Owner.TheVariants.{Run, Person}
use Rattle.ld_model.specs.declared.completion.Completion.{Completion}
use Rattle.ld_model.specs.declared.completion.Completion.TheVariants.{UserChoice, TimeLimit, WhenPropertyValueIsSet, WhenRolePartCompleted, WhenConditionTrue, WhenLastActCompleted, WhenPlayCompleted}
use Rattle.ld_model.specs.declared.method.Act.{Act}
use Rattle.ld_model.specs.declared.method.Play.{Play}
use Rattle.ld_model.specs.declared.method.RolePart.{RolePart}
use Rattle.ld_model.specs.declared.unit.Unit.{Unit}
use Rattle.ld_names.specs.Names.{thing_number}
use Rattle.ld_names.specs.Rules.{Site}
use Rattle.ld_names.specs.declared.rule.Rule.{Rule}
use Rattle.ld_names.specs.declared.rule.Rule.TheVariants.{CompletesActivity, CompletesStructure, OpensAct, CompletesPart, CompletesAct, CompletesPlay, CompletesUnit, JudgesCondition}
use Rattle.ld_refs.specs.Extents.{play_at, act_at, role_part_at}
use Rattle.ld_expr.specs.Lookup.{is_some_and, list_from}
use Rattle.ld_expr.specs.Membership.{members_of, some_and_each}
use Rattle.ld_expr.specs.Owners.{of_person}
use Rattle.ld_expr.specs.PropertyTests.{has_value, value_for}
use Rattle.ld_expr.specs.Seen.{Seen, says_yes, moment_of_value, chosen_cell, opened_cell}
use Rattle.ld_rules.specs.Reach.{is_mine}
use Rattle.ld_rules.specs.SiteTests.{Completing, completion_holds, activity_completing, act_completing, play_completing, unit_completing, holds_or_absent, rule_holds, activity_test, act_test, play_test, part_test, target_is_done, is_opened, condition_test, person_test, run_test, rule_test, is_latched, rule_of, site_test}
use Rattle.ld_rules.proofs.Alike.{same_if}
use Rattle.ld_alarm.specs.SeenAt.{seen_at}
use Rattle.ld_alarm.proofs.Timely.{IsTimelyUnit, is_timely_rule, is_timely_if}
use Rattle.ld_alarm.specs.Switches.{test_switches, completion_switches, completion_switches_if, person_switches, run_switches, rule_switches, site_switches}
use Rattle.ld_alarm.proofs.Between.{same_test, same_of_users}
use Rattle.ld_alarm.proofs.Comparing.{AreNotPassed}
use Rattle.ld_alarm.proofs.Unmoved.{unmoved_property, unmoved_opening}

-- What is to be completed has its cells beside `Now`.
record IsApart (seen : Seen) (moment : ℤ) (c : Completing) : Type 0 where
  chosen : is_some_and (λ cell. says_yes ((seen_at seen moment).value cell)) c.chosen ≡ is_some_and (λ cell. says_yes (seen.value cell)) c.chosen
  start : (c.start >>= (seen_at seen moment).value) ≡ (c.start >>= seen.value)

module _ (unit : Unit) (seen : Seen) (moment : ℤ) where
  chosen_apart : (p : ℕ) (o : Option ℕ)
      → is_some_and (λ cell. says_yes ((seen_at seen moment).value cell)) (option_map (λ thing. chosen_cell thing p) o)
      ≡ is_some_and (λ cell. says_yes (seen.value cell)) (option_map (λ thing. chosen_cell thing p) o)
  chosen_apart p None = refl
  chosen_apart p (Some thing) = refl

  started_apart : (p : ℕ) (o : Option ℕ)
      → (option_map (λ thing. opened_cell thing (of_person p)) o >>= (seen_at seen moment).value)
      ≡ (option_map (λ thing. opened_cell thing (of_person p)) o >>= seen.value)
  started_apart p None = refl
  started_apart p (Some thing) = refl

  activity_apart : (p : ℕ) (activity : Activity) → IsApart seen moment (activity_completing unit p activity)
  activity_apart p activity = record {
    chosen = chosen_apart p (thing_number unit activity.identifier);
    start = started_apart p (thing_number unit activity.identifier);
  }

  act_apart : (act : Act) → IsApart seen moment (act_completing unit act)
  act_apart act = record { chosen = refl; start = unmoved_opening unit seen moment act }

  play_apart : (play : Play) → IsApart seen moment (play_completing play)
  play_apart play = record { chosen = refl; start = refl }

  unit_apart : IsApart seen moment unit_completing
  unit_apart = record { chosen = refl; start = refl }

-- This many seconds after the start it is that moment, or later.
abbrev passed_at : ℕ → Option Datum → ℤ → Bool
passed_at seconds start moment = is_some_and (λ begun. int_le (begun +ℤ pos seconds) moment) (moment_of_value start)

same_limit : (seconds : ℕ) (start : Option ℤ) (s t : ℤ)
    → AreNotPassed (list_from (λ begun. (begun +ℤ pos seconds) ∷ []) start) s t
    → is_some_and (λ begun. int_le (begun +ℤ pos seconds) s) start ≡ is_some_and (λ begun. int_le (begun +ℤ pos seconds) t) start
same_limit seconds None s t kept = refl
same_limit seconds (Some begun) s t kept = kept (begun +ℤ pos seconds) (inl refl)

module _ (unit : Unit) (seen : Seen) (s t : ℤ) where
  same_text : (owner : Owner) (id : List ℕ) (text : Option (List ℕ))
      → has_value unit (seen_at seen s) owner id text ≡ has_value unit (seen_at seen t) owner id text
  same_text owner id None =
      ap is_some (unmoved_property unit seen s owner id ∙ sym (unmoved_property unit seen t owner id))
  same_text owner id (Some text) =
      ap (λ value. is_some_and (λ wanted. is_some_and (same_datum wanted) value) (value_for unit id text))
      (unmoved_property unit seen s owner id ∙ sym (unmoved_property unit seen t owner id))

  -- ---- completion rules

  same_completion : (c : Completing) (completion : Completion)
      → IsApart seen s c → IsApart seen t c → is_timely_rule completion ≡ true
      → AreNotPassed (completion_switches unit seen c completion) s t
      → completion_holds unit (seen_at seen s) c completion ≡ completion_holds unit (seen_at seen t) c completion
  same_completion c UserChoice here there timely kept = here.chosen ∙ sym there.chosen
  same_completion c (TimeLimit seconds) here there timely kept =
      ap (λ start. passed_at seconds start s) here.start
      ∙ same_limit seconds (moment_of_value (c.start >>= seen.value)) s t kept
      ∙ ap (λ start. passed_at seconds start t) (sym there.start)
  same_completion c (WhenPropertyValueIsSet property text) here there timely kept = same_text c.owner property text
  same_completion c (WhenRolePartCompleted parts) here there timely kept = refl
  same_completion c (WhenConditionTrue role test) here there timely kept =
      same_of_users unit seen s t role test timely kept
  same_completion c WhenLastActCompleted here there timely kept = refl
  same_completion c (WhenPlayCompleted plays) here there timely kept = refl

  same_or_absent : (c : Completing) (completion : Option Completion)
      → IsApart seen s c → IsApart seen t c → is_timely_if completion ≡ true
      → AreNotPassed (completion_switches_if unit seen c completion) s t
      → holds_or_absent (completion_holds unit (seen_at seen s) c) completion ≡ holds_or_absent (completion_holds unit (seen_at seen t) c) completion
  same_or_absent c None here there timely kept = refl
  same_or_absent c (Some completion) here there timely kept = same_completion c completion here there timely kept

  same_rule : (c : Completing) (completion : Option Completion)
      → IsApart seen s c → IsApart seen t c → is_timely_if completion ≡ true
      → AreNotPassed (completion_switches_if unit seen c completion) s t
      → rule_holds unit (seen_at seen s) c completion ≡ rule_holds unit (seen_at seen t) c completion
  same_rule c None here there timely kept = refl
  same_rule c (Some completion) here there timely kept = same_completion c completion here there timely kept

  -- ---- the tests of rules

  same_activity : (p : ℕ) (activity : Activity) → is_timely_if activity.complete ≡ true
      → AreNotPassed (completion_switches_if unit seen (activity_completing unit p activity) activity.complete) s t
      → activity_test unit (seen_at seen s) p activity ≡ activity_test unit (seen_at seen t) p activity
  same_activity p activity timely kept =
      ap (λ holds. is_mine unit seen activity.identifier p && holds)
      (same_or_absent (activity_completing unit p activity) activity.complete (activity_apart unit seen s p activity)
      (activity_apart unit seen t p activity) timely kept)

  same_opened : (act : Act) → is_opened unit (seen_at seen s) act ≡ is_opened unit (seen_at seen t) act
  same_opened act = ap is_some (unmoved_opening unit seen s act ∙ sym (unmoved_opening unit seen t act))

  same_part : (act : Act) (part : RolePart) → part_test unit (seen_at seen s) act part ≡ part_test unit (seen_at seen t) act part
  same_part act part =
      ap (λ opened. opened && some_and_each (target_is_done unit seen part) (members_of unit seen part.role)) (same_opened act)

  same_part_there : (p n r : ℕ)
      → run_test unit (seen_at seen s) (CompletesPart p n r) ≡ run_test unit (seen_at seen t) (CompletesPart p n r)
  same_part_there p n r = same_if (λ act. is_some_and (part_test unit (seen_at seen s) act) (role_part_at unit p n r))
      (λ act. is_some_and (part_test unit (seen_at seen t) act) (role_part_at unit p n r)) (act_at unit p n)
      (λ act is. same_if (part_test unit (seen_at seen s) act) (part_test unit (seen_at seen t) act) (role_part_at unit p n r)
      (λ part at. same_part act part))

  same_act : (act : Act) → is_timely_if act.complete ≡ true
      → AreNotPassed (completion_switches_if unit seen (act_completing unit act) act.complete) s t
      → act_test unit (seen_at seen s) act ≡ act_test unit (seen_at seen t) act
  same_act act timely kept =
      ap₂ (λ opened holds. opened && holds) (same_opened act)
      (same_rule (act_completing unit act) act.complete (act_apart unit seen s act) (act_apart unit seen t act) timely kept)

  same_play : (play : Play) → is_timely_if play.complete ≡ true
      → AreNotPassed (completion_switches_if unit seen (play_completing play) play.complete) s t
      → play_test unit (seen_at seen s) play ≡ play_test unit (seen_at seen t) play
  same_play play timely kept =
      same_rule (play_completing play) play.complete (play_apart unit seen s play) (play_apart unit seen t play) timely kept

  -- The same of what is found, if it is found.
  same_found : {A : Type 0} → (switches : A → List ℤ) (f g : A → Bool) (o : Option A)
      → ((x : A) → o ≡ Some x → AreNotPassed (switches x) s t → f x ≡ g x)
      → AreNotPassed (list_from switches o) s t
      → is_some_and f o ≡ is_some_and g o
  same_found switches f g None each kept = refl
  same_found switches f g (Some x) each kept = each x refl kept

  module _ (timely : IsTimelyUnit unit) where
    same_person_test : (p : ℕ) (rule : Rule) → AreNotPassed (person_switches unit seen p rule) s t
        → person_test unit (seen_at seen s) p rule ≡ person_test unit (seen_at seen t) p rule
    same_person_test p (CompletesActivity n) kept =
        same_found (λ activity. completion_switches_if unit seen (activity_completing unit p activity) activity.complete)
        (activity_test unit (seen_at seen s) p) (activity_test unit (seen_at seen t) p) (slice_get unit.activities n)
        (λ activity is. same_activity p activity (timely.activities n activity is)) kept
    same_person_test p (CompletesStructure n) kept = refl
    same_person_test p (JudgesCondition n) kept =
        same_found (λ condition. test_switches unit seen (of_person p) condition.test)
        (condition_test unit (seen_at seen s) p) (condition_test unit (seen_at seen t) p) (slice_get unit.conditions n)
        (λ condition is. same_test unit seen s t (of_person p) condition.test (timely.conditions n condition is)) kept
    same_person_test p (OpensAct _ _) kept = refl
    same_person_test p (CompletesPart _ _ _) kept = refl
    same_person_test p (CompletesAct _ _) kept = refl
    same_person_test p (CompletesPlay _) kept = refl
    same_person_test p CompletesUnit kept = refl

    same_run_test : (rule : Rule) → AreNotPassed (run_switches unit seen rule) s t
        → run_test unit (seen_at seen s) rule ≡ run_test unit (seen_at seen t) rule
    same_run_test (OpensAct p n) kept = refl
    same_run_test (CompletesPart p n r) kept = same_part_there p n r
    same_run_test (CompletesAct p n) kept =
        same_found (λ act. completion_switches_if unit seen (act_completing unit act) act.complete)
        (act_test unit (seen_at seen s)) (act_test unit (seen_at seen t)) (act_at unit p n)
        (λ act is. same_act act (timely.acts p n act is)) kept
    same_run_test (CompletesPlay p) kept =
        same_found (λ play. completion_switches_if unit seen (play_completing play) play.complete)
        (play_test unit (seen_at seen s)) (play_test unit (seen_at seen t)) (play_at unit p)
        (λ play is. same_play play (timely.plays p play is)) kept
    same_run_test CompletesUnit kept =
        same_rule unit_completing unit.method.complete (unit_apart unit seen s) (unit_apart unit seen t) timely.whole kept
    same_run_test (CompletesActivity _) kept = refl
    same_run_test (CompletesStructure _) kept = refl
    same_run_test (JudgesCondition _) kept = refl

    same_rule_test : (owner : Owner) (rule : Rule) → AreNotPassed (rule_switches unit seen owner rule) s t
        → rule_test unit (seen_at seen s) owner rule ≡ rule_test unit (seen_at seen t) owner rule
    same_rule_test (Person p) rule kept = same_person_test p.0 rule kept
    same_rule_test Run rule kept = same_run_test rule kept

    same_by_rule : (site : Site) (rule : Option Rule) → AreNotPassed (list_from (rule_switches unit seen site.owner) rule) s t
        → is_some_and (λ found. is_latched (seen_at seen s) site found || rule_test unit (seen_at seen s) site.owner found) rule
        ≡ is_some_and (λ found. is_latched (seen_at seen t) site found || rule_test unit (seen_at seen t) site.owner found) rule
    same_by_rule site None kept = refl
    same_by_rule site (Some rule) kept =
        ap (λ asked. is_latched seen site rule || asked) (same_rule_test site.owner rule kept)

    pub same_site_test : (site : Site) → AreNotPassed (site_switches unit seen site) s t
        → site_test unit (seen_at seen s) site ≡ site_test unit (seen_at seen t) site
    unfolding site_test
    same_site_test site kept = same_by_rule site (rule_of unit site) kept
