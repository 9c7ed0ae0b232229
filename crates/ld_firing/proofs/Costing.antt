-- What actions cost in states with the same persons.
use Rattle.std.proofs.Common.{◌≡◌, refl, ap, ap₂, ◌∙◌, sym, ℕ, ◌+◌, ◌*◌, ◌≤◌, List, ◌++◌, map, length, Option, Some, arith}
use mathlib.Core.Path.{fun_ext}
use Rattle.std.proofs.lemmas.List.Sums.{sum_by-append}
use Rattle.std.specs.List.{sum_by}
use Rattle.ld_model.specs.declared.cell.Owner.{Owner}
use Rattle.ld_model.specs.declared.completion.Change.{Change as ChangeOf}
use Rattle.ld_model.specs.declared.completion.Notice.{Notice}
use Rattle.ld_model.specs.declared.completion.OnCompletion.{OnCompletion}
use Rattle.ld_model.specs.declared.condition.Action.{Action}
use Rattle.ld_model.specs.declared.condition.Action.TheVariants.{Show, Hide, Change, Notify}
use Rattle.ld_model.specs.declared.unit.Unit.{Unit}
use Rattle.ld_roles.specs.Kept.{persons_of}
use Rattle.ld_firing.specs.Actions.{actions_if, holder_named, owners_of_change}
use Rattle.ld_firing.specs.Costs.{action_cost, term_leaves}
use Rattle.ld_state.specs.RunState.{RunState}
use Rattle.ld_state.specs.StateView.{StateView, run_of}
use Rattle.ld_state.proofs.SeenSame.{persons_counted}

pub change_costs : (unit : Unit) (s : RunState) (owner : Owner) (change : ChangeOf) (n : ℕ) → n ≡ length s.persons
    → (term_leaves change.value + 2) * length (owners_of_change (holder_named unit change.property) n owner) ≡ action_cost unit s owner (Change change)
change_costs unit s owner change n same =
    ap (λ m. (term_leaves change.value + 2) * length (owners_of_change (holder_named unit change.property) m owner)) same

pub notice_costs : (unit : Unit) (s : RunState) (owner : Owner) (notice : Notice) (n : ℕ) → n ≡ length s.persons
    → n * length notice.roles + 1 ≡ action_cost unit s owner (Notify notice)
notice_costs unit s owner notice n same = ap (λ m. m * length notice.roles + 1) same

same_cost : (unit : Unit) (s t : RunState) (owner : Owner) (action : Action) → length s.persons ≡ length t.persons
    → action_cost unit s owner action ≡ action_cost unit t owner action
same_cost unit s t owner (Show things) same = refl
same_cost unit s t owner (Hide things) same = refl
same_cost unit s t owner (Change change) same = change_costs unit t owner change (length s.persons) same
same_cost unit s t owner (Notify notice) same = notice_costs unit t owner notice (length s.persons) same

pub same_persons_counted : (s t : StateView) → s.rows ≡ t.rows → length s.rows ≡ length (run_of t).persons
same_persons_counted s t same = ap length same ∙ sym (persons_counted t)

pub same_costs : (unit : Unit) (s t : StateView) (owner : Owner) (action : Action) → s.rows ≡ t.rows
    → action_cost unit (run_of s) owner action ≡ action_cost unit (run_of t) owner action
same_costs unit s t owner action same =
    same_cost unit (run_of s) (run_of t) owner action (ap (λ rows. length (persons_of rows)) same)

sums_same : (unit : Unit) (s t : StateView) (owner : Owner) (actions : List Action) → s.rows ≡ t.rows
    → sum_by (action_cost unit (run_of s) owner) actions ≡ sum_by (action_cost unit (run_of t) owner) actions
sums_same unit s t owner actions same =
    ap (λ (cost : Action → ℕ). sum_by cost actions) (fun_ext (λ action. same_costs unit s t owner action same))

-- What follows a completion: its changes, and then its notices.
pub follow_costs : (unit : Unit) (s t : StateView) (owner : Owner) (follows : Option OnCompletion) (one : OnCompletion)
    (changes : List ChangeOf) (notices : List Notice) (start middle end : ℕ) → t.rows ≡ s.rows → follows ≡ Some one
    → changes ≡ one.change → notices ≡ one.notify
    → middle ≤ start + sum_by (action_cost unit (run_of s) owner) (map Change changes)
    → end ≤ middle + sum_by (action_cost unit (run_of t) owner) (map Notify notices)
    → end ≤ start + sum_by (action_cost unit (run_of s) owner) (actions_if follows)
follow_costs unit s t owner follows one changes notices start middle end rows is same_changes same_notices first second =
    let cost = action_cost unit (run_of s) owner in
    let all : sum_by cost (actions_if follows) ≡ sum_by cost (map Change changes) + sum_by cost (map Notify notices) =
    ap (λ (o : Option OnCompletion). sum_by cost (actions_if o)) is
    ∙ ap₂ (λ xs ys. sum_by cost (map Change xs ++ map Notify ys)) (sym same_changes) (sym same_notices)
    ∙ sum_by-append cost (map Change changes) (map Notify notices) in
    omega (arith, first, second, all, sums_same unit t s owner (map Notify notices) rows)
