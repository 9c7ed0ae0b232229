use Rattle.std.proofs.Common.{sym, ap, ◌∙◌, ◌/◌, ◌%◌, nat_lt}
use Rattle.ld_base.specs.Maybe.{◌>>=◌, provided}
use Rattle.ld_names.specs.Rules.{kind_of}
use Rattle.ld_settling.specs.SiteParts.{placed_site, places_taken}
use Rattle.ld_settling.proofs.SiteNumbers.{site_by_parts}
use Rattle.ld_settling.proofs.SitesFound.{rule_missing, rule_there}
use Rattle.ld_settling.proofs.site_numbers.SiteNumbers.site.Goals as goal

pub returns-in_default : goal.returns-in_default
returns-in_default c =
    let unit = c.args.self.now.unit.now in
    let n = c.args.number in
    let persons = c.args.persons in
    let out = rule_missing unit c.rules.result.now (n / 200) c.rules.ensures.rules c.get.result c.in_default.is c.get.ensures.lookup.2 in
    sym (site_by_parts unit persons n c.requires
    ∙ ap (λ found. found >>= (λ rule. provided (nat_lt (n % 200) (places_taken persons (kind_of rule))) (placed_site (kind_of rule) (n / 200) (n % 200)))) out)

pub returns : goal.returns
returns c =
    let unit = c.args.self.now.unit.now in
    let n = c.args.number in
    let persons = c.args.persons in
    let at = rule_there unit c.rules.result.now (n / 200) c.in-Some.found.now c.rules.ensures.rules
    c.in-Some.ensures.lookup.3.0 c.in-Some.ensures.lookup.1 in
    c.site_at_place.ensures
    ∙ ap (λ kind. provided (nat_lt (n % 200) (places_taken persons kind)) (placed_site kind (n / 200) (n % 200))) c.kind.ensures
    ∙ sym (site_by_parts unit persons n c.requires
    ∙ ap (λ found. found >>= (λ rule. provided (nat_lt (n % 200) (places_taken persons (kind_of rule))) (placed_site (kind_of rule) (n / 200) (n % 200)))) at)
