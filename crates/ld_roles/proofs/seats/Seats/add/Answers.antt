use Rattle.std.proofs.Common.{false, replicate, ◌≡◌, ◌++◌, ◌∷◌, [], ◌<◌, length, map, All, None, ap, sym, ◌∙◌, arith, length-append, subst}
use Rattle.std.proofs.lemmas.List.{length-map, map-append}
use Rattle.std.proofs.lemmas.List.Elements.{All-push}
use Rattle.ld_roles.specs.Kept.{person_of, persons_of}
use Rattle.ld_roles.specs.Persons.{person_number}
use Rattle.ld_roles.specs.Seats.{IsSeated, row_of, new_row, seated_in}
use Rattle.ld_roles.specs.declared.limit.TheConstants.{SEATS}
use Rattle.ld_roles.proofs.People.{person_new}
use Rattle.ld_roles.proofs.Seating.{added_last, new_last, rows_last}
use Rattle.ld_roles.proofs.seats.Seats.add.Goals as goal

pub invariant_of-self-2 : goal.invariant_of-self-2
invariant_of-self-2 c =
    let first = c.self.inside.first in
    let others = c.self.inside.others.entries in
    let persons = seated_in first others in
    let roles = c.self.inside.roles.value in
    let seat = c.in_ok-seat.seat in
    let new : person_number (persons_of (map row_of persons)) c.args.name ≡ None = ap (λ seats. person_number (persons_of seats.rows) c.args.name) c.self.view_is ∙ c.requires.new in
    let is : seated_in first c.insert.new.self.entries ≡ persons ++ (c.args.name, seat) ∷ [] = ap (seated_in first) (c.in_ok-insert.ensures.entries ∙ new_last c.args.name seat first others new) ∙ added_last first others ((c.args.name, seat) ∷ []) in
    let room : length persons < SEATS = omega (arith, length-map persons row_of, ap (λ seats. length seats.rows) c.self.view_is, c.requires.room) in
    let seated : IsSeated roles seat = rw c.deref.ensures at c.in_ok-seat.ensures.seated in
    record {
      in_order = λ none. absurd (c.in_default.not-None none);
      seated = subst (λ all. All (λ each. IsSeated roles each.1) all) (sym is) (All-push (λ each. IsSeated roles each.1) persons (c.args.name, seat) c.self.invariant.seated seated);
      few = omega (arith, room, ap length is, length-append persons ((c.args.name, seat) ∷ []));
    }

pub returns-clause-rows : goal.returns-clause-rows
returns-clause-rows c =
    let first = c.self.inside.first in
    let others = c.self.inside.others.entries in
    let persons = seated_in first others in
    let roles = c.self.inside.roles.value in
    let seat = c.in_ok-seat.seat in
    let new : person_number (persons_of (map row_of persons)) c.args.name ≡ None = ap (λ seats. person_number (persons_of seats.rows) c.args.name) c.self.view_is ∙ c.requires.new in
    let is : seated_in first c.insert.new.self.entries ≡ persons ++ (c.args.name, seat) ∷ [] = ap (seated_in first) (c.in_ok-insert.ensures.entries ∙ new_last c.args.name seat first others new) ∙ added_last first others ((c.args.name, seat) ∷ []) in
    let holds : seat.holds.items ≡ replicate (length roles) false = rw c.deref.ensures at c.in_ok-seat.ensures.holds in
    let row : row_of (c.args.name, seat) ≡ new_row roles c.args.name = ap (λ held. record { name = c.args.name; held = held }) holds in
    ap (map row_of) is
    ∙ rows_last persons c.args.name seat (new_row roles c.args.name) row
    ∙ ap (λ seats. seats.rows ++ new_row seats.roles c.args.name ∷ []) c.self.view_is

pub returns-clause-persons : goal.returns-clause-persons
returns-clause-persons c =
    ap persons_of (returns-clause-rows c)
    ∙ map-append person_of c.args.self.now.rows (new_row c.args.self.now.roles c.args.name ∷ [])
    ∙ ap (λ person. persons_of c.args.self.now.rows ++ person ∷ []) (person_new c.args.self.now.roles c.args.name)
