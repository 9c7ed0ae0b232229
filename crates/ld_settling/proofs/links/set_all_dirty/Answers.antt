use Rattle.std.proofs.Common.{arith, refl, ◌≡◌, ℕ, ◌<◌, true, Contains}
use borrow.Author.Count.{below_more}
use Rattle.ld_graph.specs.Table.{has}
use Rattle.ld_names.specs.Rules.{Site, sites_of}
use Rattle.ld_names.specs.SiteNumbers.{site_number}
use Rattle.ld_roles.specs.declared.limit.TheConstants.{SEATS}
use Rattle.ld_settling.proofs.PersonsTold.{loosens_then}
use Rattle.ld_settling.proofs.SiteNumbers.{placed}
use Rattle.ld_settling.proofs.links.set_all_dirty.Goals as goal

pub loop-rule-preserved : goal.loop-rule-preserved
loop-rule-preserved c =
    let e = c.set_dirty.ensures in
    let v = c.loop-rule.invariant in
    let unit = c.args.numbers.now.unit.now in
    let n = c.loop-rule.rule in
    let now = c.set_dirty.new.links in
    let D : ℕ → Type 0 = λ r. (site : Site) → Contains (sites_of unit c.args.persons) site → site.rule ≡ r
    → has now.dirty (site_number unit SEATS site) ≡ true in
    let dirty_below : (r : ℕ) → r < n → D r = λ r lt site there is. e.rest.dirty (site_number unit SEATS site) (v.0 r lt site there is) in (
      below_more D n dirty_below (λ site there is. e.dirty (site_number unit SEATS site) (c.of_rule.ensures.all site there is)),
      loosens_then v.1 e.rest,
      e.loose v.2,
      omega (arith, c.loop-rule-test.true),
    )

pub returns-clause-dirty : goal.returns-clause-dirty
returns-clause-dirty c site there =
    let is = placed c.args.numbers.now.unit.now c.args.persons site there in
    c.loop-rule.invariant.0 site.rule (omega (arith, is.within, c.rules-rules.ensures.count, c.loop-rule-test.false)) site there refl
