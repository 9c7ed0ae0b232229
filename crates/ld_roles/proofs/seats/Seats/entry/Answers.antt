use Rattle.std.proofs.Common.{◌≡◌, ◌∙◌, ap, sym, subst, List, ℕ, Some, option_map, slice_get}
use Rattle.std.proofs.lemmas.Option.{slice_get-map}
use Rattle.ld_roles.specs.Seats.{IsSeated, row_of, seated_in}
use Rattle.ld_roles.specs.declared.seat.Seat.{Seat}
use Rattle.ld_roles.proofs.Seating.{other_at, seated_at}
use Rattle.ld_roles.proofs.seats.Seats.entry.Goals as goal

pub returns-then-person-eq0-clause-seated : goal.returns-then-person-eq0-clause-seated
returns-then-person-eq0-clause-seated c =
    let first : List ℕ × Seat = (c.in-Some.name, c.in-Some.seat) in
    let there : slice_get (seated_in c.self.inside.first c.self.inside.others.entries) 0 ≡ Some first = ap (λ found. slice_get (seated_in found c.self.inside.others.entries) 0) c.in-Some.is in
    subst (λ roles. IsSeated roles c.in-Some.seat) (ap (λ seats. seats.roles) c.self.view_is) (seated_at (seated_in c.self.inside.first c.self.inside.others.entries) c.self.invariant.seated 0 first there)

pub returns-clause-row : goal.returns-clause-row
returns-clause-row c =
    let persons = seated_in c.self.inside.first c.self.inside.others.entries in
    let entry : List ℕ × Seat = (c.in-Some-get_index.entry.0.now, c.in-Some-get_index.entry.1.now) in
    let there : slice_get persons c.args.person ≡ Some entry = other_at c.self.inside.first c.self.inside.others.entries c.args.person c.self.invariant.in_order c.if-person-eq0.false ∙ sym c.in-Some-get_index.ensures.entry in
    ap (λ seats. slice_get seats.rows c.args.person) (sym c.self.view_is)
    ∙ slice_get-map row_of persons c.args.person ∙ ap (option_map row_of) there

pub returns-clause-seated : goal.returns-clause-seated
returns-clause-seated c =
    let persons = seated_in c.self.inside.first c.self.inside.others.entries in
    let entry : List ℕ × Seat = (c.in-Some-get_index.entry.0.now, c.in-Some-get_index.entry.1.now) in
    let there : slice_get persons c.args.person ≡ Some entry = other_at c.self.inside.first c.self.inside.others.entries c.args.person c.self.invariant.in_order c.if-person-eq0.false ∙ sym c.in-Some-get_index.ensures.entry in
    subst (λ roles. IsSeated roles entry.1) (ap (λ seats. seats.roles) c.self.view_is) (seated_at persons c.self.invariant.seated c.args.person entry there)
