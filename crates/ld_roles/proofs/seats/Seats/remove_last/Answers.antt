use Rattle.std.proofs.Common.{◌≡◌, ◌++◌, ◌∙◌, ap, sym, length, arith, length-append}
use Rattle.std.proofs.lemmas.List.Elements.{All-pop}
use Rattle.std.specs.Option.{option_to_list}
use Rattle.ld_roles.specs.Seats.{IsSeated, seated_in}
use Rattle.ld_roles.proofs.Seating.{added_last, none_left}
use Rattle.ld_roles.proofs.seats.Seats.remove_last.Goals as goal

pub invariant_of-self-in_default : goal.invariant_of-self-in_default
invariant_of-self-in_default c =
    let first = c.self.inside.first in
    let others = c.self.inside.others.entries in
    let left = c.pop.new.self.entries in
    let last = option_to_list c.pop.result in
    let is : seated_in first others ≡ seated_in first left ++ last = ap (seated_in first) c.pop.ensures.entries ∙ added_last first left last in
    record {
      in_order = λ none. none_left left last (sym c.pop.ensures.entries ∙ c.self.invariant.in_order none);
      seated = (All-pop (λ each. IsSeated c.self.inside.roles.value each.1) (seated_in first others) (seated_in first left) c.pop.result is c.self.invariant.seated).0;
      few = omega (arith, c.self.invariant.few, ap length is, length-append (seated_in first left) last);
    }
