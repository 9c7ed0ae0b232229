-- What is done stays done, through each firing.
use Rattle.std.proofs.Common.{◌≡◌, refl, sym, ap, ◌∙◌, ℕ, List, slice_get, Option, Some, None, true, arith}
use Rattle.std.specs.Option.{option_map, option_and_then}
use Rattle.ld_base.specs.Maybe.{◌>>=◌}
use Rattle.ld_model.specs.Counting.{number_where}
use Rattle.ld_model.specs.declared.cell.Owner.{Owner}
use Rattle.ld_model.specs.declared.unit.Unit.{Unit}
use Rattle.ld_walk.specs.declared.place.Place.{Place}
use Rattle.ld_walk.specs.declared.place.Place.TheVariants.{Play, Act, RolePart, Activity, Structure, Environment, Object, Service, Item}
use Rattle.ld_names.specs.declared.names.Named.{Named}
use Rattle.ld_names.specs.declared.names.Named.TheVariants.{Role, Thing, Prop, Unit as Whole}
use Rattle.ld_names.specs.declared.rule.Rule.{Rule}
use Rattle.ld_names.specs.declared.rule.Rule.TheVariants.{CompletesActivity, CompletesStructure, OpensAct, CompletesPart, CompletesAct, CompletesPlay, CompletesUnit, JudgesCondition}
use Rattle.ld_names.specs.Names.{number_at, names_of, named_by, rule_named}
use Rattle.ld_names.specs.Rules.{Site, same_rule, rules_of}
use Rattle.ld_names.specs.Things.{Entry, things_of}
use Rattle.ld_expr.specs.Done.{mark_for, is_done, marked_owner}
use Rattle.ld_expr.specs.Lookup.{is_some_and, completing_number}
use Rattle.ld_expr.specs.Seen.{says_yes}
use Rattle.ld_firing.specs.Actions.{site_firing}
use Rattle.ld_rules.specs.LawWords.{is_marked, is_for_good}
use Rattle.ld_state.specs.RunState.{RunState, seen_in, cell_of}
use Rattle.ld_rules.specs.SiteTests.{says_for_good}
use Rattle.ld_state.proofs.Elements.{none_is_some}
use Rattle.ld_firing.proofs.Found.{found_by}
use Rattle.ld_firing.proofs.LawsLatching.{firing_latches}
use Rattle.ld_firing.proofs.Named.{rules_by_thing}

same_good : (a b : Rule) → same_rule a b ≡ true → says_for_good a ≡ says_for_good b
same_good (CompletesActivity _) (CompletesActivity _) is = refl
same_good (CompletesStructure _) (CompletesStructure _) is = refl
same_good (OpensAct _ _) (OpensAct _ _) is = refl
same_good (CompletesPart _ _ _) (CompletesPart _ _ _) is = refl
same_good (CompletesAct _ _) (CompletesAct _ _) is = refl
same_good (CompletesPlay _) (CompletesPlay _) is = refl
same_good CompletesUnit CompletesUnit is = refl
same_good (JudgesCondition _) (JudgesCondition _) is = refl
same_good _ _ is = absurd (cc)

good_there : (unit : Unit) (rule : Rule) (n : ℕ) → says_for_good rule ≡ true → number_where (same_rule rule) (rules_of unit) ≡ Some n → is_for_good unit n ≡ true
good_there unit rule n good found =
    let by = found_by (same_rule rule) (rules_of unit) 0 n found in
    let same : by.number ≡ n = omega (arith, by.sum) in
    ap (is_some_and says_for_good) (ap (slice_get (rules_of unit)) (sym same) ∙ by.at) ∙ sym (same_good rule by.element by.passes) ∙ good

good_place : (unit : Unit) (place : Place) (n : ℕ) → number_at (rules_of unit) place ≡ Some n → is_for_good unit n ≡ true
good_place unit (Activity a) n is = good_there unit (CompletesActivity a) n refl is
good_place unit (Structure s) n is = good_there unit (CompletesStructure s) n refl is
good_place unit (RolePart p a r) n is = good_there unit (CompletesPart p a r) n refl is
good_place unit (Act p a) n is = good_there unit (CompletesAct p a) n refl is
good_place unit (Play p) n is = good_there unit (CompletesPlay p) n refl is
good_place unit (Environment _) n is = none_is_some is
good_place unit (Object _ _) n is = none_is_some is
good_place unit (Service _ _) n is = none_is_some is
good_place unit Item n is = none_is_some is

-- The rule by which something is done is no condition.
pub completes_for_good : (unit : Unit) (id : List ℕ) (n : ℕ) → completing_number unit id ≡ Some n → is_for_good unit n ≡ true
completes_for_good unit id n is = by (named_by (names_of unit) id) is
  where
    of_entry : (entry : Option Entry) → option_and_then (λ rule. rule) (option_map (λ (one : Entry). number_at (rules_of unit) one.place) entry) ≡ Some n → is_for_good unit n ≡ true
    of_entry None is = none_is_some is
    of_entry (Some entry) is = good_place unit entry.place n is

    by : (named : Option Named) → (named >>= rule_named (names_of unit)) ≡ Some n → is_for_good unit n ≡ true
    by None is = none_is_some is
    by (Some Whole) is = good_there unit CompletesUnit n refl is
    by (Some (Role _)) is = none_is_some is
    by (Some (Prop _)) is = none_is_some is
    by (Some (Thing t)) is = of_entry (slice_get (things_of unit) t.0) (sym (rules_by_thing unit t.0) ∙ is)

-- Where marks for good of the owner, or of the run, stay, what is done stays done.
pub done_stays : (unit : Unit) (s t : RunState) (owner : Owner) (id : List ℕ)
    → ((rule : ℕ) → is_for_good unit rule ≡ true → is_marked s rule (marked_owner (rules_of unit) rule owner) ≡ true → is_marked t rule (marked_owner (rules_of unit) rule owner) ≡ true)
    → is_done unit (seen_in unit s) owner id ≡ true → is_done unit (seen_in unit t) owner id ≡ true
unfolding cell_of
done_stays unit s t owner id stays done = by (completing_number unit id) refl done
  where
    by : (number : Option ℕ) → completing_number unit id ≡ number
        → is_some_and (λ n. says_yes (cell_of unit s (mark_for unit owner n))) number ≡ true
        → is_some_and (λ n. says_yes (cell_of unit t (mark_for unit owner n))) number ≡ true
    by None is done = done
    by (Some n) is done = stays n (completes_for_good unit id n is) done

pub firing_leaves_done : (unit : Unit) (s : RunState) (site : Site) (owner : Owner) (id : List ℕ)
    → is_done unit (seen_in unit s) owner id ≡ true → is_done unit (seen_in unit (site_firing unit s site).state) owner id ≡ true
firing_leaves_done unit s site owner id done =
    done_stays unit s (site_firing unit s site).state owner id (λ rule good told. firing_latches unit s site rule (marked_owner (rules_of unit) rule owner) good told) done
