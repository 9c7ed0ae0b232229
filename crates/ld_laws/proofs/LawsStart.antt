-- A command that starts a run opens the first act of each play, at its own moment.
use Rattle.std.proofs.Common.{◌≡◌, refl, sym, ap, subst, ◌∙◌, ℕ, ℤ, ◌⊎◌, inl, inr, slice_get, Option, Some, None, Ok, Bool, true, false, ◌&&◌, ◌||◌, is_some, codes, length, option_map}
use Rattle.ld_base.specs.Maybe.{◌>>=◌}
use Rattle.ld_value.specs.Datum.{Datum, moment_datum}
use Rattle.ld_model.specs.declared.cell.CellName.TheVariants.{Started}
use Rattle.ld_model.specs.declared.cell.Owner.TheVariants.{Run}
use Rattle.ld_model.specs.declared.method.Act.{Act as ActOf}
use Rattle.ld_model.specs.declared.method.Play.{Play}
use Rattle.ld_model.specs.declared.unit.Unit.{Unit}
use Rattle.ld_walk.specs.CommonParts.{unshown_part}
use Rattle.ld_walk.specs.Parts.{Part}
use Rattle.ld_walk.specs.Places.{nth}
use Rattle.ld_walk.specs.declared.place.Place.TheVariants.{Act}
use Rattle.ld_parts.specs.Listing.{act_parts_at, method_at, parts_of}
use Rattle.ld_names.specs.declared.rule.Rule.TheVariants.{OpensAct}
use Rattle.ld_names.specs.Names.{thing_number}
use Rattle.ld_names.specs.Rules.{rules_at, rules_of}
use Rattle.ld_lines.specs.declared.command.RunCommand.TheVariants.{Start}
use Rattle.ld_refs.specs.Extents.{act_at}
use Rattle.ld_expr.specs.Lookup.{is_some_and}
use Rattle.ld_expr.specs.Seen.{act_opened_cell, mark_cell}
use Rattle.ld_roles.specs.Roster.{short_at_start}
use Rattle.ld_state.specs.GlobalValues.{GlobalValues}
use Rattle.ld_state.specs.RunState.{RunState, seen_in, cell_of}
use Rattle.ld_state.proofs.Elements.{IsIn, Stands, in_flat_map, stands_in, none_is_some, different}
use Rattle.ld_rules.specs.LawWords.{IsValid, is_marked}
use Rattle.ld_rules.specs.SiteTests.{is_latched, rule_test, opening_of, site_test}
use Rattle.ld_firing.specs.SiteWalk.{HasSeats}
use Rattle.ld_firing.proofs.ChecksMet.{checks_met}
use Rattle.ld_firing.proofs.LawsOpenings.{settling_leaves_start}
use Rattle.ld_firing.proofs.MetChecks.{act_listed}
use Rattle.ld_firing.proofs.Named.{IsThing, thing_number_is}
use Rattle.ld_firing.proofs.RulesThere.{act_of, act_is}
use Rattle.ld_firing.proofs.SitesNumbered.{run_site_there}
use Rattle.ld_run.specs.Changes.{directly_changed, has_change}
use Rattle.ld_admission.specs.Checks.{admitted, in_time, not_running, none_short, is_started}
use Rattle.ld_admission.specs.Commands.{Admitted, starts}
use Rattle.ld_run.specs.Reached.{IsReached, left_by}
use Rattle.ld_run.specs.RunStep.{DoneCommand, run_step}
use Rattle.ld_laws.proofs.LawsActs.{step_opens_now}
use Rattle.ld_run.proofs.LawsKept.{Fits, fits}
use Rattle.ld_laws.specs.ActLaws.{IsOpener}
use Rattle.ld_laws.proofs.LawsOpeners.{verdict_yes, yes_is_opened}
use Rattle.ld_laws.proofs.LawsRest.{marks_tell_tests}
use Rattle.ld_run.proofs.Settlings.{either_settled}
use Rattle.ld_laws.proofs.LawsUnmoved.{HasStages, stages_of}
use Rattle.ld_laws.proofs.LawsUnstarted.{untouched_until_started}
use Rattle.ld_run.proofs.SeatsOfChecks.{Each, each_then}
use Rattle.ld_run.proofs.SeatsOfSteps.{KeepsSeats, step_keeps}

-- ---- the start

admits_start : (unit : Unit) (s : RunState) (moment : ℤ) → Each (λ (command : Admitted). command ≡ starts) (admitted unit s moment Start)
unfolding admitted
admits_start unit s moment =
    let P = λ (command : Admitted). command ≡ starts in
    each_then P (in_time s moment) _ (each_then P (not_running s) _ (each_then P (none_short unit (short_at_start unit s.persons)) _ refl))

-- The command was a start, and the run was not started before.
record IsStart (s : RunState) (d : DoneCommand) : Type 0 where
  is : d.command ≡ starts
  before : is_started s ≡ false

is_start : (unit : Unit) (s : RunState) (store : GlobalValues) (moment : ℤ) (d : DoneCommand) → run_step unit s store moment Start ≡ Ok d → IsStart s d
is_start unit s store moment d is =
    let stages = stages_of unit s store moment Start d is in
    let start = subst (Each (λ (command : Admitted). command ≡ starts)) stages.checked (admits_start unit s moment) in
    record { is = start; before = subst (Fits s) start (subst (Each (Fits s)) stages.checked (fits unit s moment Start)) }

-- A start that is done keeps its moment.
pub start_starts : (unit : Unit) (s : RunState) (store : GlobalValues) (moment : ℤ) (d : DoneCommand)
    → run_step unit s store moment Start ≡ Ok d → d.state.cells Started ≡ Some (moment_datum moment)
start_starts unit s store moment d is =
    ap (λ (t : RunState). t.cells Started) stages.settlings.state
    ∙ second
    ∙ ap (λ command. (directly_changed unit store stages.settlings.first.state moment command).cells Started) (is_start unit s store moment d is).is
  where
    stages : HasStages unit s store moment Start d
    stages = stages_of unit s store moment Start d is

    changed : RunState
    changed = directly_changed unit store stages.settlings.first.state moment d.command

    second : stages.settlings.second.state.cells Started ≡ (directly_changed unit store stages.settlings.first.state moment d.command).cells Started
    second = elim (either_settled unit (has_change d.command && is_started changed) changed stages.settlings.second stages.settlings.settled_second) [
      | inl moved ↦ settling_leaves_start unit changed stages.settlings.second moved.1
      | inr stayed ↦ ap (λ (t : RunState). t.cells Started) stayed.1
    ]

-- ---- the rule that opens an act

opener_listed : (unit : Unit) (p a : ℕ) (act : ActOf) → act_at unit p a ≡ Some act → IsIn (rules_of unit) (OpensAct p a)
unfolding act_parts_at
opener_listed unit p a act at = by (slice_get unit.method.plays p) refl at
  where
    by : (play : Option Play) → slice_get unit.method.plays p ≡ play → (play >>= λ one. slice_get one.acts a) ≡ Some act → IsIn (rules_of unit) (OpensAct p a)
    by None there none = none_is_some none
    by (Some play) there within =
        let part = unshown_part (nth (nth method_at (codes "plays") p) (codes "acts") a) (Act p a) act.identifier in
        in_flat_map (λ (one : Part). rules_at one.what) (parts_of unit) part (OpensAct p a)
        (act_listed unit p a play act part there within (inl refl)) (inl refl)

later_holds : (a b : Bool) → b ≡ true → (a || b) ≡ true
later_holds true b is = refl
later_holds false b is = is

-- The rule that opens the first act of a play always says yes.
first_says_yes : (unit : Unit) (s : RunState) (rule p : ℕ) → slice_get (rules_of unit) rule ≡ Some (OpensAct p 0)
    → site_test unit (seen_in unit s) (record { rule = rule; owner = Run }) ≡ true
unfolding site_test
first_says_yes unit s rule p ruled =
    ap (is_some_and (λ one. is_latched (seen_in unit s) (record { rule = rule; owner = Run }) one || rule_test unit (seen_in unit s) Run one)) ruled
    ∙ later_holds (is_latched (seen_in unit s) (record { rule = rule; owner = Run }) (OpensAct p 0)) true refl

-- ---- the first act of each play

this_moment : (was now : Option Datum) (moment : Datum) → is_some now ≡ true → was ≡ None → (now ≡ was) ⊎ (now ≡ Some moment) → now ≡ Some moment
this_moment was now moment there none (inl same) = different (sym there ∙ ap is_some (same ∙ none))
this_moment was now moment there none (inr opened) = opened

-- A start that is done opens the first act of each play at its moment, in a run of a valid unit with a seat for
-- each person.
pub start_opens : (unit : Unit) (s : RunState) (store : GlobalValues) (moment : ℤ) (d : DoneCommand) (p : ℕ) (act : ActOf)
    → IsValid unit → IsReached unit s → HasSeats s → run_step unit s store moment Start ≡ Ok d
    → act_at unit p 0 ≡ Some act → opening_of unit (seen_in unit d.state) act ≡ Some (moment_datum moment)
unfolding cell_of
start_opens unit s store moment d p act valid reached seats is at =
    ap (λ (o : Option ℕ). option_map act_opened_cell o >>= cell_of unit d.state) number
    ∙ this_moment (s.cells (act_opened_cell thing.number)) (d.state.cells (act_opened_cell thing.number)) (moment_datum moment)
    (yes_is_opened unit d.state rule.number thing.number after opener yes)
    ((untouched_until_started unit s reached (is_start unit s store moment d is).before).no_act thing.number)
    (step_opens_now unit s store moment Start d thing.number is)
  where
    thing : IsThing unit act.identifier (Act p 0)
    thing = act_is unit (checks_met unit valid) p 0 act (act_of unit p 0 act at)

    number : thing_number unit act.identifier ≡ Some thing.number
    number = thing_number_is unit act.identifier (Act p 0) thing

    rule : Stands (rules_of unit) (OpensAct p 0)
    rule = stands_in (rules_of unit) (OpensAct p 0) (opener_listed unit p 0 act at)

    opener : IsOpener unit rule.number thing.number
    opener = record { one = OpensAct p 0; ruled = rule.at; opens = ap (λ (found : Option ActOf). found >>= λ one. thing_number unit one.identifier) at ∙ number }

    after : IsReached unit d.state
    after = left_by s store moment Start d reached is

    seated : HasSeats d.state
    seated = (subst (Each (KeepsSeats s)) is (step_keeps unit s store moment Start seats)).0

    yes : is_marked d.state rule.number Run ≡ true
    yes =
        verdict_yes (d.state.cells (mark_cell rule.number Run))
        (marks_tell_tests unit d.state (record { rule = rule.number; owner = Run }) after (ap is_some (start_starts unit s store moment d is)) seated
        (run_site_there unit (length d.state.persons) rule.number (OpensAct p 0) rule.at refl)
        ∙ ap Some (first_says_yes unit d.state rule.number p rule.at))
