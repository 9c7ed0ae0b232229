-- What a site does neither looks at the seats of the run nor changes them or the persons.
use Rattle.std.proofs.Common.{◌≡◌, ℕ, List, [], ◌∷◌, ◌++◌, fold, length, Bool, true, false, cond, Option, Some, None, refl, ap, ◌∙◌}
use Rattle.ld_base.specs.Maybe.{◌>>=◌}
use Rattle.ld_value.specs.Datum.{Datum, truth_datum}
use Rattle.ld_model.specs.declared.cell.CellName.{CellName}
use Rattle.ld_model.specs.declared.cell.CellName.TheVariants.{Prop, Vis, Member, Chosen, Opened, ActOpened, Started, Mark, Now, Roster}
use Rattle.ld_model.specs.declared.cell.Owner.{Owner}
use Rattle.ld_model.specs.declared.cell.Owner.TheVariants.{Run, Person}
use Rattle.ld_model.specs.declared.completion.Change.{Change as ChangeOf}
use Rattle.ld_model.specs.declared.completion.Notice.{Notice}
use Rattle.ld_model.specs.declared.condition.Action.{Action}
use Rattle.ld_model.specs.declared.condition.Action.TheVariants.{Show, Hide, Change, Notify}
use Rattle.ld_model.specs.declared.unit.Unit.{Unit}
use Rattle.ld_names.specs.declared.rule.Rule.{Rule}
use Rattle.ld_names.specs.Names.{thing_number}
use Rattle.ld_names.specs.Rules.{Site}
use Rattle.ld_expr.specs.Terms.{term_value, cell_of_property}
use Rattle.ld_roles.specs.Roster.{Persons}
use Rattle.ld_firing.specs.Actions.{Doing, nothing_done, with_write, with_change, if_fitting, change_for, targets_of, do_change, notice_now, do_notify, with_visible, set_visible, do_action, actions_of, opened_by, with_opening, rule_effect, firing_by, site_firing, recipients}
use Rattle.ld_state.specs.RunState.{RunState, NoticeState, cell_of, seen_in}
use Rattle.ld_cascade.specs.System.{due}
use Rattle.ld_firing.specs.RunSystem.{verdict_in}
use Rattle.ld_rules.specs.SiteTests.{site_test, site_mark, rule_of}
use Rattle.ld_firing.specs.SiteWalk.{is_due, after_visit, walked}
use Rattle.ld_firing.specs.Seating.{reseated}

pub fold_through : {A B : Type 0} (through : B → B) (f : B → A → B) → ((b : B) (x : A) → f (through b) x ≡ through (f b x)) → (b : B) (xs : List A) → fold f (through b) xs ≡ through (fold f b xs)
fold_through through f each b [] = refl
fold_through through f each b (x ∷ xs) = ap (λ c. fold f c xs) (each b x) ∙ fold_through through f each (f b x) xs

pub fold_keeps : {A B C : Type 0} (part : B → C) (f : B → A → B) → ((b : B) (x : A) → part (f b x) ≡ part b) → (b : B) (xs : List A) → part (fold f b xs) ≡ part b
fold_keeps part f each b [] = refl
fold_keeps part f each b (x ∷ xs) = fold_keeps part f each (f b x) xs ∙ each b x

-- ---- seats

cell_same : (unit : Unit) (n : ℕ) (s : RunState) (name : CellName) → cell_of unit (reseated n s) name ≡ cell_of unit s name
unfolding cell_of
cell_same unit n s (Prop p owner) = refl
cell_same unit n s (Vis t p) = refl
cell_same unit n s (Member r p) = refl
cell_same unit n s (Chosen t owner) = refl
cell_same unit n s (Opened t owner) = refl
cell_same unit n s (ActOpened t) = refl
cell_same unit n s Started = refl
cell_same unit n s (Mark r owner) = refl
cell_same unit n s Now = refl
cell_same unit n s Roster = refl

-- Nothing that is seen of a run tells its seats.
pub seen_same : (unit : Unit) (n : ℕ) (s : RunState) → seen_in unit (reseated n s) ≡ seen_in unit s
seen_same unit n s = λ i. record { persons = length s.persons; value = λ name. cell_same unit n s name i }

abbrev doing_reseated : ℕ → Doing → Doing
doing_reseated n doing = record doing { state = reseated n doing.state }

change_through : (n : ℕ) (doing : Doing) (cell : Option CellName) (value : Option Datum) → with_change (doing_reseated n doing) cell value ≡ doing_reseated n (with_change doing cell value)
change_through n doing None value = refl
change_through n doing (Some cell) None = refl
change_through n doing (Some cell) (Some value) = refl

change_for_through : (unit : Unit) (n : ℕ) (change : ChangeOf) (doing : Doing) (owner : Owner) → change_for unit change (doing_reseated n doing) owner ≡ doing_reseated n (change_for unit change doing owner)
change_for_through unit n change doing owner =
    ap (λ seen. with_change (doing_reseated n doing) (cell_of_property unit owner change.property) (term_value unit seen owner change.value >>= if_fitting unit change.property)) (seen_same unit n doing.state)
    ∙ change_through n doing (cell_of_property unit owner change.property) (term_value unit (seen_in unit doing.state) owner change.value >>= if_fitting unit change.property)

targets_same : (unit : Unit) (n : ℕ) (s : RunState) (owner : Owner) (change : ChangeOf) → targets_of unit (reseated n s) owner change ≡ targets_of unit s owner change
targets_same unit n s owner change = refl

do_change_through : (unit : Unit) (n : ℕ) (owner : Owner) (doing : Doing) (change : ChangeOf) → do_change unit owner (doing_reseated n doing) change ≡ doing_reseated n (do_change unit owner doing change)
do_change_through unit n owner doing change =
    fold_through (doing_reseated n) (change_for unit change) (change_for_through unit n change) doing (targets_of unit doing.state owner change)

notice_same : (unit : Unit) (n : ℕ) (s : RunState) (notice : Notice) → notice_now unit (reseated n s) notice ≡ notice_now unit s notice
notice_same unit n s notice = ap (λ seen. record (notice_now unit s notice) { to = recipients unit seen notice.roles }) (seen_same unit n s)

do_notify_through : (unit : Unit) (n : ℕ) (doing : Doing) (notice : Notice) → do_notify unit (doing_reseated n doing) notice ≡ doing_reseated n (do_notify unit doing notice)
do_notify_through unit n doing notice =
    ap (λ (sent : NoticeState). record (doing_reseated n doing) { state = record (reseated n doing.state) { outbox = doing.state.outbox ++ sent ∷ [] }; sent = (do_notify unit doing notice).sent }) (notice_same unit n doing.state notice)

visible_through : (n p : ℕ) (visible : Bool) (doing : Doing) (thing : Option ℕ) → with_visible p visible (doing_reseated n doing) thing ≡ doing_reseated n (with_visible p visible doing thing)
visible_through n p visible doing None = refl
visible_through n p visible doing (Some thing) = refl

set_visible_through : (unit : Unit) (n : ℕ) (owner : Owner) (visible : Bool) (doing : Doing) (id : List ℕ) → set_visible unit owner visible (doing_reseated n doing) id ≡ doing_reseated n (set_visible unit owner visible doing id)
set_visible_through unit n Run visible doing id = refl
set_visible_through unit n (Person p) visible doing id = visible_through n p.0 visible doing (thing_number unit id)

do_action_through : (unit : Unit) (n : ℕ) (owner : Owner) (doing : Doing) (action : Action) → do_action unit owner (doing_reseated n doing) action ≡ doing_reseated n (do_action unit owner doing action)
do_action_through unit n owner doing (Show things) = fold_through (doing_reseated n) (set_visible unit owner true) (set_visible_through unit n owner true) doing things
do_action_through unit n owner doing (Hide things) = fold_through (doing_reseated n) (set_visible unit owner false) (set_visible_through unit n owner false) doing things
do_action_through unit n owner doing (Change change) = do_change_through unit n owner doing change
do_action_through unit n owner doing (Notify notice) = do_notify_through unit n doing notice

opening_through : (n : ℕ) (doing : Doing) (thing : Option ℕ) → with_opening (doing_reseated n doing) thing ≡ doing_reseated n (with_opening doing thing)
opening_through n doing None = refl
opening_through n doing (Some thing) = refl

effect_through : (unit : Unit) (n : ℕ) (owner : Owner) (rule : Rule) (verdict : Bool) (doing : Doing) → rule_effect unit owner rule verdict (doing_reseated n doing) ≡ doing_reseated n (rule_effect unit owner rule verdict doing)
effect_through unit n owner rule verdict doing =
    ap (λ (opened : Doing). fold (do_action unit owner) opened (actions_of unit rule verdict)) (opening_through n doing (opened_by unit rule))
    ∙ fold_through (doing_reseated n) (do_action unit owner) (do_action_through unit n owner) (with_opening doing (opened_by unit rule)) (actions_of unit rule verdict)

firing_by_through : (unit : Unit) (n : ℕ) (s : RunState) (site : Site) (rule : Rule) → firing_by unit (reseated n s) site rule ≡ doing_reseated n (firing_by unit s site rule)
firing_by_through unit n s site rule =
    ap (λ seen. rule_effect unit site.owner rule (site_test unit seen site) (with_write (nothing_done (reseated n s)) (site_mark site) (Some (truth_datum (site_test unit seen site))))) (seen_same unit n s)
    ∙ effect_through unit n site.owner rule (site_test unit (seen_in unit s) site) (with_write (nothing_done s) (site_mark site) (Some (truth_datum (site_test unit (seen_in unit s) site))))

-- A firing does the same for any number of seats.
pub firing_through : (unit : Unit) (n : ℕ) (s : RunState) (site : Site) → site_firing unit (reseated n s) site ≡ doing_reseated n (site_firing unit s site)
unfolding site_firing
firing_through unit n s site = by (rule_of unit site)
  where
    by : (rule : Option Rule) → (elim rule as (λ _. Doing) [ None ↦ nothing_done (reseated n s) | Some rule ↦ firing_by unit (reseated n s) site rule ]) ≡ doing_reseated n (elim rule as (λ _. Doing) [ None ↦ nothing_done s | Some rule ↦ firing_by unit s site rule ])
    by None = refl
    by (Some rule) = firing_by_through unit n s site rule

-- ---- what firings leave as it is

-- A firing leaves the seats as they are.
pub seats_kept : (unit : Unit) (s : RunState) (site : Site) → (site_firing unit s site).state.seats ≡ s.seats
seats_kept unit s site = ap (λ (doing : Doing). doing.state.seats) (firing_through unit s.seats s site)

abbrev persons_in : Doing → Persons
persons_in doing = doing.state.persons

change_keeps : (doing : Doing) (cell : Option CellName) (value : Option Datum) → persons_in (with_change doing cell value) ≡ persons_in doing
change_keeps doing None value = refl
change_keeps doing (Some cell) None = refl
change_keeps doing (Some cell) (Some value) = refl

visible_keeps : (p : ℕ) (visible : Bool) (doing : Doing) (thing : Option ℕ) → persons_in (with_visible p visible doing thing) ≡ persons_in doing
visible_keeps p visible doing None = refl
visible_keeps p visible doing (Some thing) = refl

set_visible_keeps : (unit : Unit) (owner : Owner) (visible : Bool) (doing : Doing) (id : List ℕ) → persons_in (set_visible unit owner visible doing id) ≡ persons_in doing
set_visible_keeps unit Run visible doing id = refl
set_visible_keeps unit (Person p) visible doing id = visible_keeps p.0 visible doing (thing_number unit id)

change_for_keeps : (unit : Unit) (change : ChangeOf) (doing : Doing) (owner : Owner) → persons_in (change_for unit change doing owner) ≡ persons_in doing
change_for_keeps unit change doing owner = change_keeps doing (cell_of_property unit owner change.property) (term_value unit (seen_in unit doing.state) owner change.value >>= if_fitting unit change.property)

do_action_keeps : (unit : Unit) (owner : Owner) (doing : Doing) (action : Action) → persons_in (do_action unit owner doing action) ≡ persons_in doing
do_action_keeps unit owner doing (Show things) = fold_keeps persons_in (set_visible unit owner true) (set_visible_keeps unit owner true) doing things
do_action_keeps unit owner doing (Hide things) = fold_keeps persons_in (set_visible unit owner false) (set_visible_keeps unit owner false) doing things
do_action_keeps unit owner doing (Change change) = fold_keeps persons_in (change_for unit change) (change_for_keeps unit change) doing (targets_of unit doing.state owner change)
do_action_keeps unit owner doing (Notify notice) = refl

opening_keeps : (doing : Doing) (thing : Option ℕ) → persons_in (with_opening doing thing) ≡ persons_in doing
opening_keeps doing None = refl
opening_keeps doing (Some thing) = refl

effect_keeps : (unit : Unit) (owner : Owner) (rule : Rule) (verdict : Bool) (doing : Doing) → persons_in (rule_effect unit owner rule verdict doing) ≡ persons_in doing
effect_keeps unit owner rule verdict doing =
    fold_keeps persons_in (do_action unit owner) (do_action_keeps unit owner) (with_opening doing (opened_by unit rule)) (actions_of unit rule verdict)
    ∙ opening_keeps doing (opened_by unit rule)

-- A firing leaves the persons as they are.
pub persons_kept : (unit : Unit) (s : RunState) (site : Site) → (site_firing unit s site).state.persons ≡ s.persons
unfolding site_firing
persons_kept unit s site = by (rule_of unit site)
  where
    by : (rule : Option Rule) → persons_in (elim rule as (λ _. Doing) [ None ↦ nothing_done s | Some rule ↦ firing_by unit s site rule ]) ≡ s.persons
    by None = refl
    by (Some rule) = effect_keeps unit site.owner rule (site_test unit (seen_in unit s) site) (with_write (nothing_done s) (site_mark site) (Some (truth_datum (site_test unit (seen_in unit s) site))))

-- ---- visits and walks

pub due_same : (unit : Unit) (n : ℕ) (s : RunState) (site : Site) → is_due unit (reseated n s) site ≡ is_due unit s site
due_same unit n s site = ap (λ seen. due (site_test unit seen site) (verdict_in (s.cells (site_mark site)))) (seen_same unit n s)

pub visit_through : (unit : Unit) (n : ℕ) (s : RunState) (site : Site) → after_visit unit (reseated n s) site ≡ reseated n (after_visit unit s site)
visit_through unit n s site =
    ap (λ b. cond b (site_firing unit (reseated n s) site).state (reseated n s)) (due_same unit n s site)
    ∙ ap (λ (doing : Doing). cond (is_due unit s site) doing.state (reseated n s)) (firing_through unit n s site)
    ∙ by (is_due unit s site)
  where
    by : (b : Bool) → cond b (reseated n (site_firing unit s site).state) (reseated n s) ≡ reseated n (cond b (site_firing unit s site).state s)
    by true = refl
    by false = refl

pub visit_keeps_persons : (unit : Unit) (s : RunState) (site : Site) → (after_visit unit s site).persons ≡ s.persons
visit_keeps_persons unit s site = by (is_due unit s site)
  where
    by : (b : Bool) → (cond b (site_firing unit s site).state s).persons ≡ s.persons
    by true = persons_kept unit s site
    by false = refl

pub visit_keeps_seats : (unit : Unit) (s : RunState) (site : Site) → (after_visit unit s site).seats ≡ s.seats
visit_keeps_seats unit s site = by (is_due unit s site)
  where
    by : (b : Bool) → (cond b (site_firing unit s site).state s).seats ≡ s.seats
    by true = seats_kept unit s site
    by false = refl

pub walk_through : (unit : Unit) (n : ℕ) (s : RunState) (sites : List Site) → walked unit (reseated n s) sites ≡ reseated n (walked unit s sites)
walk_through unit n s sites = fold_through (reseated n) (after_visit unit) (visit_through unit n) s sites

pub walk_keeps_persons : (unit : Unit) (s : RunState) (sites : List Site) → (walked unit s sites).persons ≡ s.persons
walk_keeps_persons unit s sites = fold_keeps (λ (t : RunState). t.persons) (after_visit unit) (visit_keeps_persons unit) s sites

pub walk_keeps_seats : (unit : Unit) (s : RunState) (sites : List Site) → (walked unit s sites).seats ≡ s.seats
walk_keeps_seats unit s sites = fold_keeps (λ (t : RunState). t.seats) (after_visit unit) (visit_keeps_seats unit) s sites
