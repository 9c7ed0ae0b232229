-- The alarm of a site whose rule has said yes for good, and of one whose rule has not.
use Rattle.std.proofs.Common.{◌≡◌, refl, sym, ap, ◌∙◌, ℤ, Option, Some, None, Bool, true, ◌||◌}
use Rattle.ld_base.specs.Maybe.{◌>>=◌}
use Rattle.ld_value.specs.Datum.{Datum, text_datum, truth_datum, number_datum, moment_datum, span_datum}
use Rattle.ld_model.specs.declared.cell.CellName.TheVariants.{Now}
use Rattle.ld_model.specs.declared.unit.Unit.{Unit}
use Rattle.ld_names.specs.Rules.{Site}
use Rattle.ld_names.specs.declared.rule.Rule.{Rule}
use Rattle.ld_expr.specs.Lookup.{is_some_and}
use Rattle.ld_expr.specs.Seen.{Seen, moment_of_value}
use Rattle.ld_rules.specs.SiteTests.{is_latched, rule_of, rule_test, site_test}
use Rattle.ld_alarm.specs.Alarm.{differs_at, first_after, site_alarm}
use Rattle.ld_alarm.specs.SeenAt.{seen_at}
use Rattle.ld_alarm.proofs.FirstMoments.{none_after}
use Rattle.ld_alarm.proofs.Watching.{not_same}

-- The value that a moment is.
pub is_that : (value : Option Datum) (moment : ℤ) → Some moment ≡ moment_of_value value → value ≡ Some (moment_datum moment)
is_that None moment is = absurd (cc)
is_that (Some (text_datum x)) moment is = absurd (cc)
is_that (Some (truth_datum x)) moment is = absurd (cc)
is_that (Some (number_datum x)) moment is = absurd (cc)
is_that (Some (moment_datum x)) moment is = ap (λ z. Some (moment_datum z)) (sym (same is))
  where
    same : {a b : ℤ} → Some a ≡ Some b → a ≡ b
    same p = cc
is_that (Some (span_datum x)) moment is = absurd (cc)

-- What is latched says yes whatever else it asks.
latched_says : (seen : Seen) (site : Site) (asks : Rule → Bool) (rule : Option Rule) → is_some_and (is_latched seen site) rule ≡ true
    → is_some_and (λ found. is_latched seen site found || asks found) rule ≡ true
latched_says seen site asks None latched = latched
latched_says seen site asks (Some rule) latched = rw latched refl

always_says : (unit : Unit) (seen : Seen) (site : Site) → is_some_and (is_latched seen site) (rule_of unit site) ≡ true
    → site_test unit seen site ≡ true
unfolding site_test
always_says unit seen site latched = latched_says seen site (rule_test unit seen site.owner) (rule_of unit site) latched

then_says : (unit : Unit) (seen : Seen) (moment : ℤ) (site : Site) → is_some_and (is_latched seen site) (rule_of unit site) ≡ true
    → site_test unit (seen_at seen moment) site ≡ true
unfolding site_test
then_says unit seen moment site latched =
    latched_says seen site (rule_test unit (seen_at seen moment) site.owner) (rule_of unit site) latched

never_after : (unit : Unit) (seen : Seen) (site : Site) (now : Option ℤ) → is_some_and (is_latched seen site) (rule_of unit site) ≡ true
    → (now >>= λ moment. first_after moment (differs_at unit seen site)) ≡ None
never_after unit seen site None latched = refl
never_after unit seen site (Some now) latched =
    none_after now (differs_at unit seen site)
    (λ z low high. not_same (site_test unit (seen_at seen z) site) (site_test unit seen site)
    (then_says unit seen z site latched ∙ sym (always_says unit seen site latched)))

pub latched_never : (unit : Unit) (seen : Seen) (site : Site) → is_some_and (is_latched seen site) (rule_of unit site) ≡ true
    → None ≡ site_alarm unit seen site
latched_never unit seen site latched = sym (never_after unit seen site (moment_of_value (seen.value Now)) latched)
