use Rattle.std.proofs.Common.{◌≡◌, ◌+◌, ◌*◌, ◌∙◌, [], ◌∷◌, ap, ap₂, sym, length, map, arith}
use Rattle.std.proofs.lemmas.List.FromFn.{length-map-range_with_len}
use Rattle.ld_base.specs.Numbers.{numbers_below}
use Rattle.ld_expr.specs.Owners.{of_person}
use Rattle.ld_firing.specs.Actions.{holder_named, owners_of_change}
use Rattle.ld_firing.specs.Costs.{term_leaves}
use Rattle.ld_state.proofs.Written.{on_ok}
use Rattle.ld_firing.proofs.Progressing.{changed_alone, changed_by_all}
use Rattle.ld_state.proofs.SeenSame.{persons_counted}
use Rattle.ld_firing.proofs.actor.Actor.do_change.Goals as goal

pub returns-in-Run-clause-does : goal.returns-in-Run-clause-does
returns-in-Run-clause-does g c =
    let owner = c.args.self.now.owner in
    on_ok c.change_for.result c.change_for.ensures.does (λ does. changed_alone c.args.change.now owner
    (λ n. ap (λ holder. owners_of_change holder n owner) (sym c.holder.ensures ∙ c.in-Run.is)) does)

pub returns-in-Run-owner-clause-does : goal.returns-in-Run-owner-clause-does
returns-in-Run-owner-clause-does g c =
    on_ok c.change_for_everyone.result c.change_for_everyone.ensures.does (λ does.
    changed_by_all c.args.change.now c.args.self.now.owner (length c.args.state.now.rows) c.in-Run-owner.is
    (sym c.holder.ensures ∙ c.in-Persons.is) (persons_counted c.args.state.now) does)

pub returns-in-Run-owner-clause-cost : goal.returns-in-Run-owner-clause-cost
returns-in-Run-owner-clause-cost g c =
    let persons = length c.args.state.now.rows in
    let holder = holder_named c.args.self.now.unit.now c.args.change.now.property in
    let all : owners_of_change holder persons c.args.self.now.owner ≡ map of_person (numbers_below persons) =
    ap₂ (λ one owner. owners_of_change one persons owner) (sym c.holder.ensures ∙ c.in-Persons.is) c.in-Run-owner.is in
    let many : length (owners_of_change holder persons c.args.self.now.owner) ≡ persons =
    ap length all ∙ length-map-range_with_len of_person 0 persons in
    omega (arith, c.change_for_everyone.ensures.cost, ap (λ n. (term_leaves c.args.change.now.value + 2) * n) many)

pub returns-in-Person-clause-does : goal.returns-in-Person-clause-does
returns-in-Person-clause-does g c =
    on_ok c.change_for-in-Person.result c.change_for-in-Person.ensures.does (λ does.
    changed_alone c.args.change.now c.args.self.now.owner
    (λ n. ap₂ (λ holder owner. owners_of_change holder n owner) (sym c.holder.ensures ∙ c.in-Persons.is) c.in-Person.is
    ∙ ap (λ owner. owner ∷ []) (sym c.in-Person.is)) does)
