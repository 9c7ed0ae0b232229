use Rattle.std.proofs.Common.{◌≡◌, ◌∙◌, ap, sym, List, ℕ, Some, None, false, length}
use Rattle.std.specs.List.{position}
use Rattle.std.specs.Map.{keys_of}
use Rattle.std.specs.Str.{bytes_eq}
use Rattle.ld_roles.specs.Kept.{persons_of}
use Rattle.ld_roles.specs.Persons.{person_number}
use Rattle.ld_roles.specs.declared.seat.Seat.{Seat}
use Rattle.ld_roles.proofs.Seating.{found_later, none_of_none}
use Rattle.ld_roles.proofs.seats.Seats.number.Goals as goal

pub returns-then-is_empty-clause-number : goal.returns-then-is_empty-clause-number
returns-then-is_empty-clause-number c =
    let name = c.args.name.now in
    let others = c.self.inside.others.entries in
    let first : List ℕ × Seat = (c.in-Some.first, c.in-Some.field-0-1) in
    let other : bytes_eq name first.0 ≡ false = cc in
    let empty : length others ≡ 0 = c.is_empty.ensures.0 c.if-is_empty.true in
    sym (found_later name c.self.inside.first first others None c.in-Some.is other (none_of_none name others empty))
    ∙ ap (λ seats. person_number (persons_of seats.rows) name) c.self.view_is

pub returns-in_err-place-clause-number : goal.returns-in_err-place-clause-number
returns-in_err-place-clause-number c =
    let name = c.args.name.now in
    let others = c.self.inside.others.entries in
    let first : List ℕ × Seat = (c.in-Some.first, c.in-Some.field-0-1) in
    let other : bytes_eq name first.0 ≡ false = cc in
    let at : position (bytes_eq name) (keys_of others) ≡ None = sym c.get_index_of.ensures.index ∙ c.in_err-place.was in
    let none : c.from_residual.result ≡ None = cc in
    none ∙ sym (found_later name c.self.inside.first first others None c.in-Some.is other at)
    ∙ ap (λ seats. person_number (persons_of seats.rows) name) c.self.view_is

pub returns-clause-number : goal.returns-clause-number
returns-clause-number c =
    let name = c.args.name.now in
    let others = c.self.inside.others.entries in
    let first : List ℕ × Seat = (c.in-Some.first, c.in-Some.field-0-1) in
    let other : bytes_eq name first.0 ≡ false = cc in
    let at : position (bytes_eq name) (keys_of others) ≡ Some c.in_ok-place.place = sym c.get_index_of.ensures.index ∙ c.in_ok-place.was in
    sym (found_later name c.self.inside.first first others (Some c.in_ok-place.place) c.in-Some.is other at)
    ∙ ap (λ seats. person_number (persons_of seats.rows) name) c.self.view_is
