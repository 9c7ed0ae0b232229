-- The notices of a firing, a sweep, a settling and a command are those that are sent, in order.
use Rattle.std.proofs.Common.{◌≡◌, refl, sym, ap, subst, ◌∙◌, ℕ, zero, suc, ◌+◌, List, [], ◌∷◌, ◌++◌, map, length, Option, Some, None, Result, Ok, inl, inr, Bool, true, false, ◌&&◌, cond, option_map, arith, append_assoc, append-nil, length-append}
use Rattle.std.specs.Option.{option_map_or}
use Rattle.ld_cascade.specs.System.{fires}
use Rattle.ld_cascade.specs.Settling.{Firing, step, fired, visited, fired_below, after_sweeps, sweep_firings, all_firings}
use Rattle.ld_model.specs.declared.unit.Unit.{Unit}
use Rattle.ld_names.specs.declared.rule.Rule.{Rule}
use Rattle.ld_names.specs.Rules.{Site}
use Rattle.ld_state.specs.RunState.{NoticeState, RunState, seen_in}
use Rattle.ld_state.proofs.Elements.{different, none_is_some, some_same}
use Rattle.ld_rules.specs.LawWords.{notices_among}
use Rattle.ld_rules.specs.SiteTests.{rule_of, site_test}
use Rattle.ld_firing.specs.Actions.{Doing, actions_of, nothing_done, notice_now, site_firing}
use Rattle.ld_firing.specs.RunSettling.{Settlement, run_settling, settlement_after, turns_within}
use Rattle.ld_firing.specs.RunSystem.{firing_at, of_site, run_system, site_at}
use Rattle.ld_firing.proofs.LawsKept.{unruled_firing}
use Rattle.ld_firing.proofs.LawsNotices.{firing_sends}
use Rattle.ld_run.specs.Changes.{directly_changed, has_change}
use Rattle.ld_run.specs.RunStep.{settled}
use Rattle.ld_run.proofs.LawsKept.{begun}
use Rattle.ld_run.proofs.LawsNotices.{changed_outbox, step_sent}
use Rattle.ld_run.proofs.Settlings.{either_settled}
use Rattle.ld_admission.specs.Checks.{is_started}
use Rattle.ld_admission.specs.Refusals.{Refusal}
use Rattle.ld_laws.specs.NoticeLaws.{CommandSends, FiringSends, firings_of, notices_in, notices_of}
use Rattle.ld_laws.proofs.LawsUnmoved.{stages_of}

-- ---- a firing

pub firing_sends_all : FiringSends
firing_sends_all unit s site = by (rule_of unit site) refl
  where
    by : (found : Option Rule) → rule_of unit site ≡ found
        → (site_firing unit s site).state.outbox
        ≡ s.outbox ++ option_map_or (λ rule. map (notice_now unit s) (notices_among (actions_of unit rule (site_test unit (seen_in unit s) site)))) found []
    by None is = ap (λ (doing : Doing). doing.state.outbox) (unruled_firing unit s site is) ∙ sym (append-nil s.outbox)
    by (Some rule) is = firing_sends unit s site rule is

-- ---- a settling

ok_same : {A : Type 0} {x y : A} → ◌≡◌ {A = Result A Refusal} (Ok x) (Ok y) → x ≡ y
ok_same is = cc

module _ (unit : Unit) where
  both_in : (these those : List (Firing (run_system unit))) → notices_in unit (these ++ those) ≡ notices_in unit these ++ notices_in unit those
  both_in [] those = refl
  both_in (f ∷ these) those =
      let mine = of_site unit f.before f.site (notices_of unit f.before) [] in
      ap (λ (ns : List NoticeState). mine ++ ns) (both_in these those)
      ∙ sym (append_assoc mine (notices_in unit these) (notices_in unit those))

  -- A state behind firings, whose outbox has grown by their notices.
  abbrev Sends : RunState → RunState → List (Firing (run_system unit)) → Type 0
  Sends s t firings = t.outbox ≡ s.outbox ++ notices_in unit firings

  sends_on : (s t u : RunState) (these those : List (Firing (run_system unit))) → Sends s t these → Sends t u those → Sends s u (these ++ those)
  sends_on s t u these those first second =
      second ∙ ap (λ (ns : List NoticeState). ns ++ notices_in unit those) first
      ∙ append_assoc s.outbox (notices_in unit these) (notices_in unit those)
      ∙ ap (λ (ns : List NoticeState). s.outbox ++ ns) (sym (both_in these those))

  sends_none : (s : RunState) → Sends s s []
  sends_none s = sym (append-nil s.outbox)

  number_fires : (s : RunState) (i : ℕ) → (firing_at unit s i).state.outbox ≡ s.outbox ++ of_site unit s i (notices_of unit s) []
  number_fires s i = by (site_at unit s i)
    where
      by : (found : Option Site) → (option_map_or (site_firing unit s) found (nothing_done s)).state.outbox ≡ s.outbox ++ option_map_or (notices_of unit s) found []
      by None = sends_none s
      by (Some site) = firing_sends_all unit s site

  number_sends : (s : RunState) (i : ℕ) → Sends s (step (run_system unit) s i) (fired (run_system unit) s i)
  number_sends s i = by (fires (run_system unit) s i)
    where
      one : Firing (run_system unit)
      one = record { before = s; site = i }

      by : (b : Bool) → Sends s (cond b (firing_at unit s i).state s) (cond b (one ∷ []) [])
      by false = sends_none s
      by true = number_fires s i ∙ ap (λ (ns : List NoticeState). s.outbox ++ ns) (sym (append-nil (of_site unit s i (notices_of unit s) [])))

  visits_send : (s : RunState) (n : ℕ) → Sends s (visited (run_system unit) s n) (fired_below (run_system unit) s n)
  unfolding visited fired_below
  visits_send s zero = sends_none s
  visits_send s (suc n) =
      let mid = visited (run_system unit) s n in
      sends_on s mid (step (run_system unit) mid n) (fired_below (run_system unit) s n) (fired (run_system unit) mid n) (visits_send s n) (number_sends mid n)

  sweeps_send : (s : RunState) (k : ℕ) → Sends s (after_sweeps (run_system unit) s k) (all_firings (run_system unit) s k)
  unfolding after_sweeps all_firings
  sweeps_send s zero = sends_none s
  sweeps_send s (suc k) =
      let mid = after_sweeps (run_system unit) s k in
      sends_on s mid (after_sweeps (run_system unit) s (suc k)) (all_firings (run_system unit) s k) (sweep_firings (run_system unit) mid)
      (sweeps_send s k) (visits_send mid ((run_system unit).count mid))

  settling_sends : (s : RunState) (x : Settlement) → run_settling unit s ≡ Some x → Sends s x.state (all_firings (run_system unit) s x.turns)
  unfolding run_settling
  settling_sends s x is = by (turns_within (run_system unit) s unit.turns) is
    where
      by : (turns : Option ℕ) → option_map (settlement_after unit s) turns ≡ Some x → Sends s x.state (all_firings (run_system unit) s x.turns)
      by None none = none_is_some none
      by (Some turns) some =
          subst (λ (y : Settlement). Sends s y.state (all_firings (run_system unit) s y.turns)) (some_same some) (sweeps_send s turns)

  rest_sends : (s : RunState) → Sends s s (all_firings (run_system unit) s 0)
  unfolding all_firings
  rest_sends s = sends_none s

  settled_sends : (settles : Bool) (s : RunState) (x : Settlement) → settled settles unit s ≡ Ok x → Sends s x.state (all_firings (run_system unit) s x.turns)
  settled_sends true s x is = elim (either_settled unit true s x is) [
    | inl moved ↦ settling_sends s x moved.1
    | inr stayed ↦ different stayed.0
  ]
  settled_sends false s x is = subst (λ (y : Settlement). Sends s y.state (all_firings (run_system unit) s y.turns)) (ok_same is) (rest_sends s)

-- ---- a command

pub command_sends : CommandSends
command_sends unit s store moment asked d is =
    let both = (stages_of unit s store moment asked d is).settlings in
    let found = begun unit store s moment in
    let changed = directly_changed unit store both.first.state moment d.command in
    let firings = firings_of unit s store moment d both.first both.second in
    let first = settled_sends unit (is_started s) found both.first both.settled_first in
    let second = settled_sends unit (has_change d.command && is_started changed) changed both.second both.settled_second in
    let kept : Sends unit both.first.state changed [] = changed_outbox unit store both.first.state moment d.command ∙ sym (append-nil both.first.state.outbox) in
    let behind = sends_on unit both.first.state changed both.second.state [] (all_firings (run_system unit) changed both.second.turns) kept second in
    let sent : d.state.outbox ≡ s.outbox ++ notices_in unit firings =
    ap (λ (t : RunState). t.outbox) both.state
    ∙ sends_on unit found both.first.state both.second.state (all_firings (run_system unit) found both.first.turns) (all_firings (run_system unit) changed both.second.turns) first behind in (
      both.first,
      both.second,
      record { before = both.settled_first; behind = both.settled_second },
      sent,
      omega (arith, ap length sent, length-append s.outbox (notices_in unit firings), step_sent unit s store moment asked d is),
    )
