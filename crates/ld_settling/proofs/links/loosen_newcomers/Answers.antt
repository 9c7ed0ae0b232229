use Rattle.std.proofs.Common.{arith, refl, ◌≡◌, ℕ, ◌<◌, inl, inr, true}
use borrow.Author.Count.{below_more}
use Rattle.ld_graph.specs.Table.{has}
use Rattle.ld_names.specs.Rules.{Site}
use Rattle.ld_names.specs.SiteNumbers.{site_number}
use Rattle.ld_roles.specs.declared.limit.TheConstants.{SEATS}
use Rattle.ld_settling.specs.RunLinking.{IsNewSite}
use Rattle.ld_settling.proofs.PersonsTold.{loosens_then}
use Rattle.ld_settling.proofs.SiteNumbers.{placed}
use Rattle.ld_settling.proofs.links.loosen_newcomers.Goals as goal

pub loop-rule-preserved : goal.loop-rule-preserved
loop-rule-preserved c =
    let e = c.set_dirty.ensures in
    let v = c.loop-rule.invariant in
    let unit = c.args.numbers.now.unit.now in
    let n = c.loop-rule.rule in
    let now = c.set_dirty.new.links in
    let number : Site → ℕ = site_number unit SEATS in
    let all = c.newcomers.ensures.all in
    let D : ℕ → Type 0 = λ r. (site : Site) → IsNewSite unit c.args.from c.args.below site → site.rule ≡ r → has now.dirty (number site) ≡ true in
    let L : ℕ → Type 0 = λ r. (site : Site) → IsNewSite unit c.args.from c.args.below site → site.rule ≡ r → has now.loose (number site) ≡ true in
    let dirty_below : (r : ℕ) → r < n → D r = λ r lt site new is. e.rest.dirty (number site) (v.0 r lt site new is) in
    let loose_below : (r : ℕ) → r < n → L r = λ r lt site new is. e.rest.loose (number site) (v.1 r lt site new is) in (
      below_more D n dirty_below (λ site new is. e.dirty (number site) (all site new is)),
      below_more L n loose_below (λ site new is. e.loosened (number site) (all site new is)),
      loosens_then v.2 e.rest,
      omega (arith, c.loop-rule-test.true),
      λ i is_in. elim (e.only i is_in) [
        | inl was ↦ v.4 i was
        | inr among ↦ inr (c.newcomers.ensures.only i among)
      ],
    )

pub returns-clause-dirty : goal.returns-clause-dirty
returns-clause-dirty c site new =
    let is = placed c.args.numbers.now.unit.now c.args.below site new.there in
    c.loop-rule.invariant.0 site.rule (omega (arith, is.within, c.rules-rules.ensures.count, c.loop-rule-test.false)) site new refl

pub returns-clause-loose : goal.returns-clause-loose
returns-clause-loose c site new =
    let is = placed c.args.numbers.now.unit.now c.args.below site new.there in
    c.loop-rule.invariant.1 site.rule (omega (arith, is.within, c.rules-rules.ensures.count, c.loop-rule-test.false)) site new refl
