-- After each command a run that is started is at rest: the mark of each rule is what its test says.
use Rattle.std.proofs.Common.{◌≡◌, refl, sym, ap, subst, ◌∙◌, ℕ, zero, suc, ℤ, ◌+◌, inl, inr, List, [], ◌∷◌, ◌++◌, map, length, slice_get, Option, Some, None, Ok, Bool, true, false, ◌&&◌, ◌==◌, cond, option_map, arith, Contains}
use Rattle.std.proofs.lemmas.Bool.{eqb-true}
use Rattle.std.specs.List.{range_with_len}
use Rattle.ld_base.specs.Numbers.{numbers_below}
use Rattle.ld_cascade.specs.System.{due}
use Rattle.ld_cascade.specs.Settling.{sweep_firings, after_sweeps}
use Rattle.ld_model.specs.declared.unit.Unit.{Unit}
use Rattle.ld_names.specs.Rules.{Site}
use Rattle.ld_lines.specs.declared.command.RunCommand.{RunCommand}
use Rattle.ld_state.specs.GlobalValues.{GlobalValues}
use Rattle.ld_state.specs.RunCells.{begins_as}
use Rattle.ld_state.specs.RunState.{RunState, seen_in}
use Rattle.ld_state.proofs.Elements.{IsIn, in_from_contains, none_is_some, some_same, different}
use Rattle.ld_firing.specs.RunSettling.{Settlement, settlement_after, is_quiet_after, turns_within, run_settling}
use Rattle.ld_firing.specs.RunSystem.{run_system, verdict_in}
use Rattle.ld_rules.specs.SiteTests.{site_test, site_mark}
use Rattle.ld_firing.specs.SiteWalk.{HasSeats, is_due, walk_firings, all_sites, with_number}
use Rattle.ld_firing.specs.Actions.{site_firing}
use Rattle.ld_firing.proofs.Found.{found_by}
use Rattle.ld_firing.proofs.SeatsSweep.{sweep_fires}
use Rattle.ld_firing.proofs.Walks.{no_length}
use Rattle.ld_run.specs.Changes.{directly_changed, has_change}
use Rattle.ld_admission.specs.Checks.{is_started}
use Rattle.ld_run.specs.Reached.{IsReached, made, left_by}
use Rattle.ld_run.specs.RunStep.{DoneCommand, run_step}
use Rattle.ld_run.proofs.LawsKept.{begun}
use Rattle.ld_run.proofs.LinkedRuns.{still_there}
use Rattle.ld_run.proofs.Settlings.{either_settled}
use Rattle.ld_laws.proofs.LawsUnmoved.{HasStages, stages_of}

-- ---- a settling ends at rest

number_at : (a n k x : ℕ) → slice_get (range_with_len a n) k ≡ Some x → x ≡ a + k
number_at a zero k x at = none_is_some at
number_at a (suc n) zero x at = omega (arith, some_same at)
number_at a (suc n) (suc k) x at = omega (arith, number_at (a + 1) n k x at)

is_empty : {A : Type 0} (xs : List A) → (length xs == 0) ≡ true → xs ≡ []
is_empty xs none = no_length xs (eqb-true (length xs) 0 none)

settling_rests : (unit : Unit) (s : RunState) (x : Settlement) → run_settling unit s ≡ Some x → sweep_firings (run_system unit) x.state ≡ []
unfolding run_settling
settling_rests unit s x is = by (turns_within (run_system unit) s unit.turns) refl is
  where
    by : (turns : Option ℕ) → turns_within (run_system unit) s unit.turns ≡ turns → option_map (settlement_after unit s) turns ≡ Some x
        → sweep_firings (run_system unit) x.state ≡ []
    by None found none = none_is_some none
    by (Some turns) found some =
        let first = found_by (is_quiet_after (run_system unit) s) (numbers_below (unit.turns + 1)) 0 turns found in
        let number : first.element ≡ turns = omega (arith, first.sum, number_at 0 (unit.turns + 1) first.number first.element first.at) in
        let quiet : is_quiet_after (run_system unit) s turns ≡ true = subst (λ n. is_quiet_after (run_system unit) s n ≡ true) number first.passes in
        subst (λ (y : Settlement). sweep_firings (run_system unit) y.state ≡ []) (some_same some)
        (is_empty (sweep_firings (run_system unit) (after_sweeps (run_system unit) s turns)) quiet)

-- ---- a command does

-- In a run that is started, no rule would fire after a command.
started_rests : (unit : Unit) (s : RunState) (store : GlobalValues) (moment : ℤ) (asked : RunCommand) (d : DoneCommand)
    → run_step unit s store moment asked ≡ Ok d → is_started d.state ≡ true → sweep_firings (run_system unit) d.state ≡ []
started_rests unit s store moment asked d is started =
    rests_at (sym stages.settlings.state)
    (elim (either_settled unit (has_change d.command && is_started changed) changed stages.settlings.second stages.settlings.settled_second) [
      | inl moved ↦ settling_rests unit changed stages.settlings.second moved.1
      | inr stayed ↦ rests_at (sym (unchanged stayed.0 stayed.1)) (first_rests (ap is_started (sym (unchanged stayed.0 stayed.1) ∙ sym stages.settlings.state) ∙ started))
    ])
  where
    stages : HasStages unit s store moment asked d
    stages = stages_of unit s store moment asked d is

    changed : RunState
    changed = directly_changed unit store stages.settlings.first.state moment d.command

    rests_at : {t u : RunState} → t ≡ u → sweep_firings (run_system unit) t ≡ [] → sweep_firings (run_system unit) u ≡ []
    rests_at same rests = subst (λ (v : RunState). sweep_firings (run_system unit) v ≡ []) same rests

    no_change : (a b : Bool) → (a && b) ≡ false → b ≡ true → a ≡ false
    no_change true b none now = different (sym now ∙ none)
    no_change false b none now = refl

    unchanged : (has_change d.command && is_started changed) ≡ false → stages.settlings.second.state ≡ changed → stages.settlings.second.state ≡ stages.settlings.first.state
    unchanged none stayed =
        stayed ∙ sym (still_there unit store stages.settlings.first.state moment d.command
        (no_change (has_change d.command) (is_started changed) none (ap is_started (sym stayed ∙ sym stages.settlings.state) ∙ started)))

    first_rests : is_started stages.settlings.first.state ≡ true → sweep_firings (run_system unit) stages.settlings.first.state ≡ []
    first_rests now = elim (either_settled unit (is_started s) (begun unit store s moment) stages.settlings.first stages.settlings.settled_first) [
      | inl moved ↦ settling_rests unit (begun unit store s moment) stages.settlings.first moved.1
      | inr stayed ↦ different (sym now ∙ ap is_started stayed.1 ∙ stayed.0)
    ]

pub reached_rests : (unit : Unit) (s : RunState) → IsReached unit s → is_started s ≡ true → sweep_firings (run_system unit) s ≡ []
unfolding begins_as
reached_rests unit s (made seats store moment) started = different (sym started)
reached_rests unit s (left_by before store moment asked d reached is) started = started_rests unit before store moment asked d is started

-- ---- each rule has said what its test says

none_mapped : {A B : Type 0} (f : A → B) (xs : List A) → map f xs ≡ [] → xs ≡ []
none_mapped f [] none = refl
none_mapped f (x ∷ xs) none = absurd (cc)

walk_rests : (unit : Unit) (s : RunState) (sites : List Site) (site : Site) → walk_firings unit s sites ≡ [] → IsIn sites site → is_due unit s site ≡ false
walk_rests unit s [] site none there = absurd there
walk_rests unit s (first ∷ sites) site none there = by (λ later. walk_rests unit s sites site later) (is_due unit s first) refl none there
  where
    by : (walk_firings unit s sites ≡ [] → IsIn sites site → is_due unit s site ≡ false) → (b : Bool) → is_due unit s first ≡ b
        → cond b (record { before = s; site = first } ∷ []) [] ++ walk_firings unit (cond b (site_firing unit s first).state s) sites ≡ []
        → IsIn (first ∷ sites) site → is_due unit s site ≡ false
    by rest true fires some there = absurd (cc)
    by rest false rests none (inl is) = ap (is_due unit s) (sym is) ∙ rests
    by rest false rests none (inr later) = rest none later

not_due : (test : Bool) (mark : Option Bool) → due test mark ≡ false → mark ≡ Some test
not_due true (Some true) none = refl
not_due false (Some false) none = refl
not_due true (Some false) some = different some
not_due false (Some true) some = different some
not_due true None some = different some
not_due false None some = different some

-- In each state of a started run that has a seat for each person, the mark of each rule, for the run or for a
-- person, is what its test says.
pub marks_tell_tests : (unit : Unit) (s : RunState) (site : Site) → IsReached unit s → is_started s ≡ true → HasSeats s
    → Contains (all_sites unit s) site → verdict_in (s.cells (site_mark site)) ≡ Some (site_test unit (seen_in unit s) site)
marks_tell_tests unit s site reached started seats there =
    not_due (site_test unit (seen_in unit s) site) (verdict_in (s.cells (site_mark site)))
    (walk_rests unit s (all_sites unit s) site
    (none_mapped (with_number unit s.seats) (walk_firings unit s (all_sites unit s)) (sym (sweep_fires unit s seats) ∙ reached_rests unit s reached started))
    (in_from_contains (all_sites unit s) site there))
