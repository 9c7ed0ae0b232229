use Rattle.std.proofs.Common.{◌<◌, ℕ, Bool, cond, ap, sym, ◌∙◌, length, arith}
use Rattle.std.proofs.lemmas.List.{length-map}
use Rattle.ld_roles.specs.Kept.{persons_of, person_of}
use Rattle.ld_roles.proofs.People.{as_number, counted_member}
use Rattle.ld_roles.proofs.members.count_members.Goals as goal

pub loop-person-preserved : goal.loop-person-preserved
loop-person-preserved c =
    let seats = c.args.seats.now in
    let persons = persons_of seats.rows in
    let within : c.loop-person.person < length persons = omega (arith, length-map seats.rows person_of) in
    let number : Bool → ℕ = λ is. cond is 1 0 in
    let one = c.from-count.ensures ∙ as_number c.is_member.result ∙ ap number c.is_member.ensures in
    rw (one, c.loop-person.invariant) (sym (counted_member seats.roles persons c.args.role c.loop-person.person within))
