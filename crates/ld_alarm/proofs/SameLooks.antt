-- Where a site looks does not depend on the moment of the command.
use Rattle.std.proofs.Common.{◌≡◌, refl, sym, ℤ, Some, true}
use Rattle.ld_value.specs.Datum.{moment_datum}
use Rattle.ld_model.specs.declared.cell.CellName.{CellName}
use Rattle.ld_model.specs.declared.cell.CellName.TheVariants.{Prop, Vis, Member, Chosen, Opened, ActOpened, Started, Mark, Now, Roster}
use Rattle.ld_model.specs.declared.unit.Unit.{Unit}
use Rattle.ld_names.specs.Rules.{Site}
use Rattle.ld_expr.specs.Seen.{Seen}
use Rattle.ld_state.specs.StateView.{is_following}
use Rattle.ld_rules.specs.SiteLooks.{open_looks}
use Rattle.ld_rules.specs.SiteTests.{site_test}
use Rattle.ld_rules.proofs.LooksAlike.{same_open_looks}
use Rattle.ld_rules.proofs.SitesAlike.{same_site_test}
use Rattle.ld_alarm.specs.SeenAt.{seen_at}

following_kept : (seen : Seen) (moment : ℤ) (c : CellName) → is_following c ≡ true → (seen_at seen moment).value c ≡ seen.value c
following_kept seen moment (Prop n owner) follows = refl
following_kept seen moment (Vis t p) follows = refl
following_kept seen moment (Member r p) follows = refl
following_kept seen moment (Chosen t owner) follows = refl
following_kept seen moment (Opened t owner) follows = refl
following_kept seen moment (ActOpened t) follows = refl
following_kept seen moment Started follows = refl
following_kept seen moment (Mark r owner) follows = refl
following_kept seen moment Now follows = absurd (cc)
following_kept seen moment Roster follows = refl

pub open_looks_at : (unit : Unit) (seen : Seen) (moment : ℤ) (site : Site)
    → open_looks unit (seen_at seen moment) site ≡ open_looks unit seen site
open_looks_at unit seen moment site =
    same_open_looks unit (seen_at seen moment) seen (λ _. refl) site (λ c there follows. following_kept seen moment c follows)

-- Where `Now` has the moment, all is as it is.
kept_at : (seen : Seen) (moment : ℤ) → seen.value Now ≡ Some (moment_datum moment) → (c : CellName)
    → (seen_at seen moment).value c ≡ seen.value c
kept_at seen moment is (Prop n owner) = refl
kept_at seen moment is (Vis t p) = refl
kept_at seen moment is (Member r p) = refl
kept_at seen moment is (Chosen t owner) = refl
kept_at seen moment is (Opened t owner) = refl
kept_at seen moment is (ActOpened t) = refl
kept_at seen moment is Started = refl
kept_at seen moment is (Mark r owner) = refl
kept_at seen moment is Now = sym is
kept_at seen moment is Roster = refl

pub test_now : (unit : Unit) (seen : Seen) (moment : ℤ) (site : Site) → seen.value Now ≡ Some (moment_datum moment)
    → site_test unit (seen_at seen moment) site ≡ site_test unit seen site
test_now unit seen moment site is =
    same_site_test unit (seen_at seen moment) seen (λ _. refl) site (λ c there. kept_at seen moment is c)
