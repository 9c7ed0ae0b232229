-- What a firing does: acts open, properties change, things are shown and hidden, notices are sent.
use Rattle.std.specs.Prelude.{ℕ, pos, List, [], ◌∷◌, ◌++◌, map, filter, fold, length, Option, Some, None, Bool, true, false, not, ◌+◌, unwrap_or, slice_get}
use Rattle.std.specs.List.{list_any}
use Rattle.std.specs.Option.{option_eq, option_map_or}
use Rattle.ld_base.specs.Maybe.{◌>>=◌, provided}
use Rattle.ld_base.specs.Numbers.{numbers_below}
use Rattle.ld_value.specs.Datum.{Datum, truth_datum, same_datum}
use Rattle.ld_model.specs.declared.cell.CellName.{CellName}
use Rattle.ld_model.specs.declared.cell.CellName.TheVariants.{Now}
use Rattle.ld_model.specs.declared.cell.Owner.{Owner}
use Rattle.ld_model.specs.declared.cell.Owner.TheVariants.{Run, Person}
use Rattle.ld_model.specs.declared.completion.Change.{Change as ChangeOf}
use Rattle.ld_model.specs.declared.completion.Notice.{Notice}
use Rattle.ld_model.specs.declared.completion.OnCompletion.{OnCompletion}
use Rattle.ld_model.specs.declared.condition.Action.{Action}
use Rattle.ld_model.specs.declared.condition.Action.TheVariants.{Show, Hide, Change, Notify}
use Rattle.ld_model.specs.declared.condition.Condition.{Condition}
use Rattle.ld_model.specs.declared.unit.Unit.{Unit}
use Rattle.ld_names.specs.declared.rule.Rule.{Rule}
use Rattle.ld_names.specs.declared.rule.Rule.TheVariants.{CompletesActivity, CompletesStructure, OpensAct, CompletesPart, CompletesAct, CompletesPlay, CompletesUnit, JudgesCondition}
use Rattle.ld_names.specs.Holders.{holder_of}
use Rattle.ld_names.specs.Names.{thing_number}
use Rattle.ld_names.specs.declared.holder.Holder.{Holder}
use Rattle.ld_names.specs.declared.holder.Holder.TheVariants.{Run as HeldByRun, Persons as HeldByPersons}
use Rattle.ld_names.specs.Rules.{Site}
use Rattle.ld_refs.specs.Extents.{act_at, play_at}
use Rattle.ld_expr.specs.Lookup.{list_from, property_of}
use Rattle.ld_expr.specs.Membership.{is_member_of}
use Rattle.ld_expr.specs.Owners.{of_person, fits_property}
use Rattle.ld_expr.specs.Seen.{Seen, everyone, moment_of_value, visibility_cell, act_opened_cell}
use Rattle.ld_expr.specs.Terms.{term_value, cell_of_property}
use Rattle.ld_state.specs.RunCells.{cell_if}
use Rattle.ld_state.specs.RunState.{RunState, NoticeState, seen_in, with_cell}
use Rattle.ld_rules.specs.SiteTests.{site_test, site_mark, rule_of}

-- A state, and what was done on the way to it: the cells that got another value, in order and with
-- repeats, how many changes were rejected, and how many notices were sent.
pub record Doing : Type 0 where
  pub state : RunState
  pub changes : List CellName
  pub rejected : ℕ
  pub sent : ℕ

-- The state as it is, and nothing done on the way to it.
abbrev pub nothing_done : RunState → Doing
nothing_done s = record { state = s; changes = []; rejected = 0; sent = 0 }

-- The two are neither the same value nor both none.
abbrev pub differs : Option Datum → Option Datum → Bool
differs a b = not (option_eq same_datum a b)

-- The cell gets the value.
abbrev pub with_write : Doing → CellName → Option Datum → Doing
with_write doing cell value = record doing {
  state = with_cell doing.state cell value;
  changes = doing.changes ++ cell_if (differs (doing.state.cells cell) value) cell;
}

-- ---- changes

-- The cell gets the value; where one of them is missing, all stays, and the change is rejected.
abbrev pub with_change : Doing → Option CellName → Option Datum → Doing
with_change doing (Some cell) (Some value) = with_write doing cell (Some value)
with_change doing _ _ = record doing { rejected = doing.rejected + 1 }

-- The value, where it fits the property of this identifier.
abbrev pub if_fitting : Unit → List ℕ → Datum → Option Datum
if_fitting unit id value =
    property_of unit id >>= λ property. provided (fits_property property value) value

-- The owner's value of the property becomes what the term says for this owner.
abbrev pub change_for : Unit → ChangeOf → Doing → Owner → Doing
change_for unit change doing owner =
    let value = term_value unit (seen_in unit doing.state) owner change.value in
    with_change doing (cell_of_property unit owner change.property)
    (value >>= if_fitting unit change.property)

-- For whom a change of the holder's value is made at a site of the owner: at the run's site, where each
-- person has a value, for each person, else for the owner.
abbrev pub owners_of_change : Holder → ℕ → Owner → List Owner
owners_of_change HeldByRun persons owner = owner ∷ []
owners_of_change HeldByPersons persons Run = map of_person (numbers_below persons)
owners_of_change HeldByPersons persons (Person p) = Person p ∷ []

-- Who has values of the property of this identifier; where it names none, no person has one.
abbrev pub holder_named : Unit → List ℕ → Holder
holder_named unit id = option_map_or (holder_of unit) (property_of unit id) HeldByRun

-- For whom the change is made at a site of the owner, in this state.
abbrev pub targets_of : Unit → RunState → Owner → ChangeOf → List Owner
targets_of unit s owner change = owners_of_change (holder_named unit change.property) (length s.persons) owner

-- The change is made for each of them, one after another, each time in what was left before.
abbrev pub do_change : Unit → Owner → Doing → ChangeOf → Doing
do_change unit owner doing change =
    fold (change_for unit change) doing (targets_of unit doing.state owner change)

-- ---- notices

-- The members of the roles, each once, in the order of enrolment.
abbrev pub recipients : Unit → Seen → List (List ℕ) → List ℕ
recipients unit seen roles =
    filter (λ p. list_any (λ role. is_member_of unit seen role p) roles) (everyone seen)

-- The notice as it is sent now; one without a subject has an empty one.
abbrev pub notice_now : Unit → RunState → Notice → NoticeState
notice_now unit s notice = record {
  moment = unwrap_or (moment_of_value (s.cells Now)) (pos 0);
  subject = unwrap_or notice.subject [];
  activity = notice.activity >>= thing_number unit;
  to = recipients unit (seen_in unit s) notice.roles;
}

-- The notice is sent: it is put at the end of the outbox.
abbrev pub do_notify : Unit → Doing → Notice → Doing
do_notify unit doing notice = record doing {
  state = record doing.state { outbox = doing.state.outbox ++ notice_now unit doing.state notice ∷ [] };
  sent = doing.sent + 1;
}

-- ---- actions

-- The thing is visible for the person, or not.
abbrev pub with_visible : ℕ → Bool → Doing → Option ℕ → Doing
with_visible p visible doing None = doing
with_visible p visible doing (Some thing) =
    with_write doing (visibility_cell thing p) (Some (truth_datum visible))

-- The same for the site's person, of a thing by its identifier.
abbrev pub set_visible : Unit → Owner → Bool → Doing → List ℕ → Doing
set_visible unit Run visible doing id = doing
set_visible unit (Person p) visible doing id = with_visible p.0 visible doing (thing_number unit id)

-- The action is done at a site of the owner.
abbrev pub do_action : Unit → Owner → Doing → Action → Doing
do_action unit owner doing (Show things) = fold (set_visible unit owner true) doing things
do_action unit owner doing (Hide things) = fold (set_visible unit owner false) doing things
do_action unit owner doing (Change change) = do_change unit owner doing change
do_action unit owner doing (Notify notice) = do_notify unit doing notice

-- ---- what follows a firing

-- Its changes in order, and then its notices.
abbrev pub actions_in : OnCompletion → List Action
actions_in follows = map Change follows.change ++ map Notify follows.notify

-- The same, where it is said what follows; else none.
abbrev pub actions_if : Option OnCompletion → List Action
actions_if follows = list_from actions_in follows

-- The actions of the condition for the verdict: those of `then` for yes, those of `else` for no.
abbrev pub branch_of : Bool → Condition → List Action
branch_of true condition = condition.yes
branch_of false condition = condition.no

-- The actions of a rule whose mark was set to the verdict.
abbrev pub actions_of : Unit → Rule → Bool → List Action
actions_of unit (CompletesActivity a) verdict =
    list_from (λ activity. actions_if activity.on_completion) (slice_get unit.activities a)
actions_of unit (CompletesStructure _) verdict = []
actions_of unit (OpensAct _ _) verdict = []
actions_of unit (CompletesPart _ _ _) verdict = []
actions_of unit (CompletesAct p a) verdict = list_from (λ act. actions_if act.on_completion) (act_at unit p a)
actions_of unit (CompletesPlay p) verdict = list_from (λ play. actions_if play.on_completion) (play_at unit p)
actions_of unit CompletesUnit verdict = actions_if unit.method.on_completion
actions_of unit (JudgesCondition c) verdict = list_from (branch_of verdict) (slice_get unit.conditions c)

-- The thing that a firing opens: an act.
abbrev pub opened_by : Unit → Rule → Option ℕ
opened_by unit (OpensAct p a) = act_at unit p a >>= λ act. thing_number unit act.identifier
opened_by unit (CompletesActivity _) = None
opened_by unit (CompletesStructure _) = None
opened_by unit (CompletesPart _ _ _) = None
opened_by unit (CompletesAct _ _) = None
opened_by unit (CompletesPlay _) = None
opened_by unit CompletesUnit = None
opened_by unit (JudgesCondition _) = None

-- The act was opened now.
abbrev pub with_opening : Doing → Option ℕ → Doing
with_opening doing None = doing
with_opening doing (Some thing) = with_write doing (act_opened_cell thing) (doing.state.cells Now)

-- What follows once a rule's mark is set to the verdict.
abbrev pub rule_effect : Unit → Owner → Rule → Bool → Doing → Doing
rule_effect unit owner rule verdict doing =
    fold (do_action unit owner) (with_opening doing (opened_by unit rule)) (actions_of unit rule verdict)

-- The firing of a site by its rule: first its mark is set to its test, and then the effect follows.
abbrev pub firing_by : Unit → RunState → Site → Rule → Doing
firing_by unit s site rule =
    let verdict = site_test unit (seen_in unit s) site in
    rule_effect unit site.owner rule verdict
    (with_write (nothing_done s) (site_mark site) (Some (truth_datum verdict)))

-- What the firing of a site does: nothing where there is no rule of its number.
unfoldable pub site_firing : Unit → RunState → Site → Doing
site_firing unit s site = elim (rule_of unit site) as (λ _. Doing) [
  | None ↦ nothing_done s
  | Some rule ↦ firing_by unit s site rule
]
