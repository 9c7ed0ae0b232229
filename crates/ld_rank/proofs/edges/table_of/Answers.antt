use Rattle.std.proofs.Common.{◌≡◌, ℕ, ◌&&◌, ◌||◌, length, nat_eq, not, ap, ◌∙◌, arith}
use Rattle.std.specs.List.{list_any}
use Rattle.ld_names.specs.Rules.{rules_of}
use Rattle.ld_rules.specs.SiteTests.{says_for_good, site_mark}
use Rattle.ld_rank.specs.Alone.{site_alone}
use Rattle.ld_rank.specs.Lookers.{is_at}
use Rattle.ld_rank.proofs.Rows.{row_back, row_of}
use Rattle.ld_rank.proofs.edges.table_of.Goals as goal

pub returns : goal.returns
returns c =
    let unit = c.args.unit.now in
    let lookers = c.args.lookers.now in
    let a = c.args.number in
    let rule = c.args.rule in
    let items = c.in_ok-table.table.items in
    let new = c.name_fed.new.fed in
    let each : length new ≡ length items = c.name_fed.ensures.each ∙ ap length c.deref_mut.ensures.value in
    let many : length items ≡ length (rules_of unit) =
    omega (arith, c.in_ok-table.table.ok.0, c.in_ok-table.ensures.len, ap length c.rules.ensures.rules) in
    let own = λ (b : ℕ). not (nat_eq a b && says_for_good rule) && is_at lookers (site_mark (site_alone a rule)) b in
    row_back unit a c.in_ok-table.table.len new items each c.in_ok-table.table.ok.0
    (row_of unit lookers c.requires.lookers a rule c.requires.at new (each ∙ many)
    (λ b within. c.name_fed.ensures.value b (omega (arith, within, many, ap length c.deref_mut.ensures.value))
    ∙ ap (λ cells. own b || list_any (λ cell. is_at lookers cell b) cells) (c.deref.ensures.value ∙ c.in_ok-writes.ensures)))
