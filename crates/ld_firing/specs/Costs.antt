-- How many steps a firing may take.
use Rattle.std.specs.Prelude.{ℕ, ◌+◌, ◌*◌, length, sum_by}
use Rattle.ld_model.specs.Expressions.{TermOf, TermsOf, property_term, literal_term, list_term, pair_term, now_term, opened_term, started_term, no_term, term_and}
use Rattle.ld_model.specs.declared.cell.Owner.{Owner}
use Rattle.ld_model.specs.declared.condition.Action.{Action}
use Rattle.ld_model.specs.declared.condition.Action.TheVariants.{Show, Hide, Change, Notify}
use Rattle.ld_model.specs.declared.unit.Unit.{Unit}
use Rattle.ld_names.specs.Rules.{Site}
use Rattle.ld_expr.specs.Lookup.{list_from}
use Rattle.ld_firing.specs.Actions.{actions_of, targets_of}
use Rattle.ld_state.specs.RunState.{RunState, seen_in}
use Rattle.ld_rules.specs.SiteTests.{site_test, rule_of}

-- How many leaves a term has.
abbrev mutual
  pub term_leaves : TermOf → ℕ
  term_leaves (property_term id) = 1
  term_leaves (literal_term kind text) = 1
  term_leaves (list_term operator terms) = terms_leaves terms
  term_leaves (pair_term operator a b) = term_leaves a + term_leaves b
  term_leaves now_term = 1
  term_leaves (opened_term id) = 1
  term_leaves started_term = 1

  pub terms_leaves : TermsOf → ℕ
  terms_leaves no_term = 0
  terms_leaves (term_and term terms) = term_leaves term + terms_leaves terms

-- A change has, for each one for whom it is made, its leaves and two more; a notice each person in each of
-- its roles, and one more.
abbrev pub action_cost : Unit → RunState → Owner → Action → ℕ
action_cost unit s owner (Show things) = 0
action_cost unit s owner (Hide things) = 0
action_cost unit s owner (Change change) =
    (term_leaves change.value + 2) * length (targets_of unit s owner change)
action_cost unit s owner (Notify notice) = length s.persons * length notice.roles + 1

-- Four, and what the actions of the fired list have.
unfoldable pub site_cost : Unit → RunState → Site → ℕ
site_cost unit s site =
    let verdict = site_test unit (seen_in unit s) site in
    let actions = list_from (λ rule. actions_of unit rule verdict) (rule_of unit site) in
    4 + sum_by (action_cost unit s site.owner) actions
