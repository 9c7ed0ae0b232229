-- Feeding as it is decided: in a run of one person, who holds every role.
use Rattle.std.specs.Prelude.{ℕ, List, [], ◌∷◌, ◌++◌, slice_get, None, Bool, true, false, if◌then◌else◌}
use Rattle.std.specs.List.{list_any}
use Rattle.ld_model.specs.Cells.{same_cell}
use Rattle.ld_model.specs.Expressions.{TestOf, users_test}
use Rattle.ld_model.specs.declared.cell.CellName.{CellName}
use Rattle.ld_model.specs.declared.cell.CellName.TheVariants.{Prop, Vis, Member, Chosen, Opened, ActOpened, Started, Mark, Now, Roster}
use Rattle.ld_model.specs.declared.cell.Owner.{Owner}
use Rattle.ld_model.specs.declared.cell.Owner.TheVariants.{Run}
use Rattle.ld_model.specs.declared.unit.Unit.{Unit}
use Rattle.ld_names.specs.declared.rule.Rule.{Rule}
use Rattle.ld_names.specs.Rules.{Site, rules_of, kind_of}
use Rattle.ld_expr.specs.Looks.{test_looks}
use Rattle.ld_expr.specs.Lookup.{is_some_and}
use Rattle.ld_expr.specs.Owners.{mark_owner, of_person}
use Rattle.ld_expr.specs.Seen.{Seen}
use Rattle.ld_state.specs.RunState.{RunState, seen_in}
use Rattle.ld_firing.specs.ActionCells.{opened_act_cells}
use Rattle.ld_rules.specs.SiteLooks.{rule_looks}
use Rattle.ld_rules.specs.SiteTests.{says_for_good}
use Rattle.ld_rank.specs.Feeding.{branch_writes, feeding_cells}

-- A run of one person, who holds every role, and of which nothing else is known.
abbrev pub alone : RunState
alone = record {
  seats = 1;
  persons = record { name = []; holds = λ _. true } ∷ [];
  outbox = [];
  cells = λ _. None;
}

-- What is seen of it.
abbrev pub seen_alone : Unit → Seen
seen_alone unit = seen_in unit alone

-- For whom the rule is judged in that run.
abbrev pub owner_alone : Rule → Owner
owner_alone rule = mark_owner (kind_of rule) (of_person 0)

-- What the rule asks to look at in that run.
abbrev pub looks_alone : Unit → Rule → List CellName
looks_alone unit rule = rule_looks unit (seen_alone unit) (owner_alone rule) rule

-- What the rule writes in that run beside its mark, whatever that becomes: what a rule for good does is the
-- same for each verdict.
abbrev pub writes_alone : Unit → Rule → List CellName
writes_alone unit rule =
    let branch = branch_writes unit 1 (owner_alone rule) rule in
    opened_act_cells unit rule ++ (if says_for_good rule then branch true else branch true ++ branch false)

-- The rule's site in that run.
abbrev pub site_alone : ℕ → Rule → Site
site_alone number rule = record { rule = number; owner = owner_alone rule }

-- Some cell is in both lists.
abbrev pub have_common : List CellName → List CellName → Bool
have_common xs ys = list_any (λ x. list_any (same_cell x) ys) xs

-- Whether a rule, the first of these numbers, writes there what another, the second, looks at.
abbrev pub feeds_by : Unit → ℕ → ℕ → Rule → Rule → Bool
feeds_by unit a b first second =
    have_common (feeding_cells unit 1 (site_alone a first) b) (looks_alone unit second)

-- The same by the numbers of the rules; a number that is no rule's feeds nothing.
abbrev pub feeds_between : Unit → ℕ → ℕ → Bool
feeds_between unit a b = is_some_and
    (λ first. is_some_and (λ second. feeds_by unit a b first second) (slice_get (rules_of unit) b))
    (slice_get (rules_of unit) a)

-- The cell may be looked at and written by a firing: a property's value, an act's opening or a mark.
abbrev pub is_fed : CellName → Bool
is_fed (Prop _ _) = true
is_fed (ActOpened _) = true
is_fed (Mark _ _) = true
is_fed (Vis _ _) = false
is_fed (Member _ _) = false
is_fed (Chosen _ _) = false
is_fed (Opened _ _) = false
is_fed Started = false
is_fed Now = false
is_fed Roster = false

-- What is looked at to know whether the test holds for the members of the role.
abbrev pub users_looks : Unit → List ℕ → TestOf → List CellName
users_looks unit role test = test_looks unit (seen_alone unit) Run (users_test role test)
