use Rattle.std.proofs.Common.{sym, ap, ◌∙◌, ◌*◌}
use Rattle.ld_names.specs.Rules.{rules_of}
use Rattle.ld_names.proofs.SitesNumbered.{count_constant}
use Rattle.ld_settling.proofs.site_numbers.SiteNumbers.count.Goals as goal

pub returns : goal.returns
returns c = ap (λ n. n * 200) c.rules.ensures.count ∙ sym (count_constant 200 (rules_of c.args.self.now.unit.now))
