-- The next alarm of a run in which no site is due is the earliest alarm of its sites; and a site that does not look at
-- `Now` has none.
use Rattle.std.proofs.Common.{◌≡◌, refl, sym, ap, ap₂, subst, ◌∙◌, ℤ, List, [], ◌∷◌, inl, inr, Option, Some, None, Bool, true, false, not}
use Rattle.std.specs.List.{list_any}
use Rattle.ld_base.specs.Maybe.{◌>>=◌}
use Rattle.ld_value.specs.Datum.{Datum, same_truth}
use Rattle.ld_model.specs.declared.cell.CellName.{CellName}
use Rattle.ld_model.specs.declared.cell.CellName.TheVariants.{Prop, Vis, Member, Chosen, Opened, ActOpened, Started, Mark, Now, Roster}
use Rattle.ld_model.specs.declared.unit.Unit.{Unit}
use Rattle.ld_names.specs.Rules.{Site}
use Rattle.ld_expr.specs.Seen.{Seen, moment_of_value}
use Rattle.ld_state.specs.RunState.{RunState, cell_of, seen_in}
use Rattle.ld_state.proofs.Elements.{IsIn}
use Rattle.ld_rules.specs.SiteLooks.{site_looks}
use Rattle.ld_rules.specs.SiteTests.{site_mark, site_test}
use Rattle.ld_rules.proofs.SitesAlike.{same_site_test}
use Rattle.ld_cascade.specs.System.{due}
use Rattle.ld_firing.specs.RunSystem.{verdict_in}
use Rattle.ld_firing.specs.SiteWalk.{is_due, all_sites}
use Rattle.ld_alarm.specs.Later.{earlier, earliest_of}
use Rattle.ld_alarm.specs.Alarm.{differs_at, first_after, site_alarm}
use Rattle.ld_alarm.specs.SeenAt.{seen_at}
use Rattle.ld_alarm.proofs.FirstMoments.{none_after}
use Rattle.ld_alarm.proofs.Watching.{not_same}
use Rattle.ld_alarm.specs.NextAlarm.{at_moment, some_due, next_alarm}
use Rattle.ld_alarm.proofs.BothMoments.{first_of_both, first_alike}

-- ---- the same cells

cells_alike : (unit : Unit) (s : RunState) (moment : ℤ) (c : CellName)
    → (seen_in unit (at_moment s moment)).value c ≡ (seen_at (seen_in unit s) moment).value c
unfolding cell_of
cells_alike unit s moment (Prop n owner) = refl
cells_alike unit s moment (Vis t p) = refl
cells_alike unit s moment (Member r p) = refl
cells_alike unit s moment (Chosen t owner) = refl
cells_alike unit s moment (Opened t owner) = refl
cells_alike unit s moment (ActOpened t) = refl
cells_alike unit s moment Started = refl
cells_alike unit s moment (Mark r owner) = refl
cells_alike unit s moment Now = refl
cells_alike unit s moment Roster = refl

test_alike : (unit : Unit) (s : RunState) (moment : ℤ) (site : Site)
    → site_test unit (seen_in unit (at_moment s moment)) site ≡ site_test unit (seen_at (seen_in unit s) moment) site
test_alike unit s moment site =
    same_site_test unit (seen_in unit (at_moment s moment)) (seen_at (seen_in unit s) moment) (λ _. refl) site
    (λ c there. cells_alike unit s moment c)

-- ---- one site

-- A site that is not due has the mark that its test gives: it is due then where its test is another one.
due_then : (test then : Bool) (mark : Option Datum) → due test (verdict_in mark) ≡ false
    → due then (verdict_in mark) ≡ not (same_truth then test)
due_then test then mark quiet = by test then (verdict_in mark) quiet
  where
    by : (test then : Bool) (verdict : Option Bool) → due test verdict ≡ false → due then verdict ≡ not (same_truth then test)
    by true true (Some true) quiet = refl
    by true false (Some true) quiet = refl
    by false true (Some false) quiet = refl
    by false false (Some false) quiet = refl
    by true then (Some false) quiet = absurd (cc)
    by false then (Some true) quiet = absurd (cc)
    by true then None quiet = absurd (cc)
    by false then None quiet = absurd (cc)

due_at : (unit : Unit) (s : RunState) (site : Site) → is_due unit s site ≡ false → (moment : ℤ)
    → is_due unit (at_moment s moment) site ≡ differs_at unit (seen_in unit s) site moment
due_at unit s site quiet moment =
    ap (λ test. due test (verdict_in (s.cells (site_mark site)))) (test_alike unit s moment site)
    ∙ due_then (site_test unit (seen_in unit s) site) (site_test unit (seen_at (seen_in unit s) moment) site) (s.cells (site_mark site)) quiet

-- ---- all sites

-- The earliest of the alarms of these sites.
abbrev pub earliest : Unit → RunState → List Site → Option ℤ
earliest unit s sites = earliest_of (site_alarm unit (seen_in unit s)) sites

-- None of these sites is due.
abbrev pub AreQuiet : Unit → RunState → List Site → Type 0
AreQuiet unit s sites = (site : Site) → IsIn sites site → is_due unit s site ≡ false

none_passes : (now : ℤ) → first_after now (λ z. false) ≡ None
none_passes now = none_after now (λ z. false) (λ z low high. refl)

earliest_is : (unit : Unit) (s : RunState) (now : ℤ) (sites : List Site) → moment_of_value (cell_of unit s Now) ≡ Some now
    → AreQuiet unit s sites
    → first_after now (λ z. list_any (is_due unit (at_moment s z)) sites) ≡ earliest unit s sites
earliest_is unit s now [] is quiet = none_passes now
earliest_is unit s now (site ∷ sites) is quiet =
    first_of_both now (λ z. is_due unit (at_moment s z) site) (λ z. list_any (is_due unit (at_moment s z)) sites)
    ∙ ap₂ earlier
    (first_alike now (λ z. is_due unit (at_moment s z) site) (differs_at unit (seen_in unit s) site) (due_at unit s site (quiet site (inl refl)))
    ∙ sym (ap (λ found. found >>= λ moment. first_after moment (differs_at unit (seen_in unit s) site)) is))
    (earliest_is unit s now sites is (λ other there. quiet other (inr there)))

never_earliest : (unit : Unit) (s : RunState) (sites : List Site) → moment_of_value (cell_of unit s Now) ≡ None
    → earliest unit s sites ≡ None
never_earliest unit s [] is = refl
never_earliest unit s (site ∷ sites) is =
    ap₂ earlier
    (ap (λ found. found >>= λ moment. first_after moment (differs_at unit (seen_in unit s) site)) is)
    (never_earliest unit s sites is)

now_alike : (unit : Unit) (s : RunState) → cell_of unit s Now ≡ s.cells Now
unfolding cell_of
now_alike unit s = refl

pub alarm_of_sites : (unit : Unit) (s : RunState) → AreQuiet unit s (all_sites unit s)
    → next_alarm unit s ≡ earliest unit s (all_sites unit s)
alarm_of_sites unit s quiet = by (moment_of_value (s.cells Now)) refl
  where
    by : (now : Option ℤ) → moment_of_value (s.cells Now) ≡ now
        → (now >>= λ moment. first_after moment (λ z. some_due unit (at_moment s z))) ≡ earliest unit s (all_sites unit s)
    by None is = sym (never_earliest unit s (all_sites unit s) (ap moment_of_value (now_alike unit s) ∙ is))
    by (Some now) is = earliest_is unit s now (all_sites unit s) (ap moment_of_value (now_alike unit s) ∙ is) quiet

-- ---- sites that do not look at `Now`

other_cell : (seen : Seen) (moment : ℤ) (c : CellName) → (c ≡ Now → ⊥) → (seen_at seen moment).value c ≡ seen.value c
other_cell seen moment (Prop n owner) other = refl
other_cell seen moment (Vis t p) other = refl
other_cell seen moment (Member r p) other = refl
other_cell seen moment (Chosen t owner) other = refl
other_cell seen moment (Opened t owner) other = refl
other_cell seen moment (ActOpened t) other = refl
other_cell seen moment Started other = refl
other_cell seen moment (Mark r owner) other = refl
other_cell seen moment Now other = absurd (other refl)
other_cell seen moment Roster other = refl

-- The site does not look at `Now`.
abbrev pub LooksElsewhere : Unit → Seen → Site → Type 0
LooksElsewhere unit seen site = IsIn (site_looks unit seen site) Now → ⊥

then_alike : (unit : Unit) (seen : Seen) (site : Site) → LooksElsewhere unit seen site → (moment : ℤ)
    → site_test unit (seen_at seen moment) site ≡ site_test unit seen site
then_alike unit seen site elsewhere moment =
    sym (same_site_test unit seen (seen_at seen moment) (λ _. refl) site
    (λ c there. sym (other_cell seen moment c (λ is. elsewhere (subst (λ cell. IsIn (site_looks unit seen site) cell) is there)))))

pub no_alarm_elsewhere : (unit : Unit) (seen : Seen) (site : Site) → LooksElsewhere unit seen site
    → site_alarm unit seen site ≡ None
no_alarm_elsewhere unit seen site elsewhere = by (moment_of_value (seen.value Now))
  where
    by : (now : Option ℤ) → (now >>= λ moment. first_after moment (differs_at unit seen site)) ≡ None
    by None = refl
    by (Some now) = none_after now (differs_at unit seen site)
        (λ z low high. not_same (site_test unit (seen_at seen z) site) (site_test unit seen site) (then_alike unit seen site elsewhere z))
