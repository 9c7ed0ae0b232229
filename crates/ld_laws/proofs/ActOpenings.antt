-- Which firing opens an act; and that no command opens one by its own change.
use Rattle.std.proofs.Common.{◌≡◌, refl, sym, ap, ◌∙◌, ℕ, ℤ, ◌⊎◌, inl, inr, Option, Some, None, Bool, true, false, cond, nat_eq}
use Rattle.std.proofs.lemmas.Bool.{eqb-true}
use Rattle.ld_value.specs.Datum.{truth_datum}
use Rattle.ld_model.specs.declared.cell.CellName.TheVariants.{Now}
use Rattle.ld_model.specs.declared.cell.Owner.TheVariants.{Run}
use Rattle.ld_model.specs.declared.unit.Unit.{Unit}
use Rattle.ld_names.specs.Rules.{Site}
use Rattle.ld_expr.specs.Seen.{act_opened_cell, mark_cell}
use Rattle.ld_state.specs.GlobalValues.{GlobalValues}
use Rattle.ld_state.specs.RunState.{RunState, seen_in}
use Rattle.ld_firing.specs.Actions.{Doing, nothing_done, with_write, opened_by, with_opening, site_firing}
use Rattle.ld_rules.specs.SiteTests.{site_test, site_mark}
use Rattle.ld_firing.proofs.LawsKept.{IsFired}
use Rattle.ld_firing.proofs.LawsOrder.{firing_opening}
use Rattle.ld_run.specs.Changes.{directly_changed}
use Rattle.ld_admission.specs.Commands.{Admitted}
use Rattle.ld_run.proofs.LawsKept.{Fits, change_leaves}
use Rattle.ld_laws.proofs.LawsLatching.{IsLeft, left_untouched, mark_left}

-- ---- which firing opens an act

-- The firing of a site leaves when an act was opened, or opens it now, by the rule that does.
pub firing_opens : (unit : Unit) (s : RunState) (site : Site) (thing : ℕ) (fired : IsFired unit s site)
    → ((site_firing unit s site).state.cells (act_opened_cell thing) ≡ s.cells (act_opened_cell thing))
    ⊎ (((site_firing unit s site).state.cells (act_opened_cell thing) ≡ s.cells Now) × (opened_by unit fired.rule ≡ Some thing))
firing_opens unit s site thing fired = by (opened_by unit fired.rule) refl
  where
    set : Doing
    set = with_write (nothing_done s) (site_mark site) (Some (truth_datum (site_test unit (seen_in unit s) site)))

    is : (site_firing unit s site).state.cells (act_opened_cell thing) ≡ (with_opening set (opened_by unit fired.rule)).state.cells (act_opened_cell thing)
    is = firing_opening unit s site fired.rule thing fired.ruled

    told : (o : Option ℕ) → opened_by unit fired.rule ≡ o → (site_firing unit s site).state.cells (act_opened_cell thing) ≡ (with_opening set o).state.cells (act_opened_cell thing)
    told o found = is ∙ ap (λ (p : Option ℕ). (with_opening set p).state.cells (act_opened_cell thing)) found

    which : (other : ℕ) → opened_by unit fired.rule ≡ Some other → (b : Bool) → nat_eq thing other ≡ b
        → (site_firing unit s site).state.cells (act_opened_cell thing) ≡ cond b (s.cells Now) (s.cells (act_opened_cell thing))
        → ((site_firing unit s site).state.cells (act_opened_cell thing) ≡ s.cells (act_opened_cell thing))
        ⊎ (((site_firing unit s site).state.cells (act_opened_cell thing) ≡ s.cells Now) × (opened_by unit fired.rule ≡ Some thing))
    which other found true same now = inr (now, found ∙ ap Some (sym (eqb-true thing other same)))
    which other found false apart stays = inl stays

    by : (o : Option ℕ) → opened_by unit fired.rule ≡ o
        → ((site_firing unit s site).state.cells (act_opened_cell thing) ≡ s.cells (act_opened_cell thing))
        ⊎ (((site_firing unit s site).state.cells (act_opened_cell thing) ≡ s.cells Now) × (opened_by unit fired.rule ≡ Some thing))
    by None none = inl (told None none)
    by (Some other) some = which other some (nat_eq thing other) refl
        (told (Some other) some)

-- ---- what direct changes leave

opening_left : (s : RunState) (thing : ℕ) → IsLeft s (act_opened_cell thing)
opening_left s thing = record { property = refl; joining = refl; started = refl; opened = λ other p. refl; chosen = λ other p. refl }

now_left : (s : RunState) → IsLeft s Now
now_left s = record { property = refl; joining = refl; started = refl; opened = λ other p. refl; chosen = λ other p. refl }

pub change_leaves_act : (unit : Unit) (store : GlobalValues) (s t : RunState) (moment : ℤ) (command : Admitted) (thing : ℕ) → Fits s command
    → (directly_changed unit store t moment command).cells (act_opened_cell thing) ≡ t.cells (act_opened_cell thing)
change_leaves_act unit store s t moment command thing fit =
    change_leaves unit store t moment command (act_opened_cell thing) (left_untouched s t command (act_opened_cell thing) fit (opening_left t thing))

pub change_leaves_now : (unit : Unit) (store : GlobalValues) (s t : RunState) (moment : ℤ) (command : Admitted) → Fits s command
    → (directly_changed unit store t moment command).cells Now ≡ t.cells Now
change_leaves_now unit store s t moment command fit =
    change_leaves unit store t moment command Now (left_untouched s t command Now fit (now_left t))

pub change_leaves_run_mark : (unit : Unit) (store : GlobalValues) (s t : RunState) (moment : ℤ) (command : Admitted) (rule : ℕ) → Fits s command
    → (directly_changed unit store t moment command).cells (mark_cell rule Run) ≡ t.cells (mark_cell rule Run)
change_leaves_run_mark unit store s t moment command rule fit =
    change_leaves unit store t moment command (mark_cell rule Run) (left_untouched s t command (mark_cell rule Run) fit (mark_left t rule Run tt))
