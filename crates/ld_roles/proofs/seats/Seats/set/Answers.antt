use Rattle.std.proofs.Common.{◌-◌, ◌∙◌, ap, sym, subst, map, length, List, ℕ, ◌≡◌, ◌<◌, All, Some, option_map, slice_get, arith}
use Rattle.std.proofs.lemmas.Option.{slice_get-map}
use Rattle.std.specs.Map.{values_of}
use Rattle.indexmap.specs.IndexMap.{set_value_at}
use Rattle.ld_roles.specs.Kept.{persons_of}
use Rattle.ld_roles.specs.Persons.{changed_at}
use Rattle.ld_roles.specs.Seats.{IsSeated, row_of, seated_in, with_held}
use Rattle.ld_roles.specs.declared.seat.Seat.{Seat}
use Rattle.ld_roles.proofs.Seating.{entry_of, length_set, other_set, other_value, rows_set, seated_at, seated_set, seated_value}
use Rattle.ld_roles.proofs.People.{persons_changed}
use Rattle.ld_roles.proofs.seats.Seats.set.Goals as goal

pub set-requires-clause-seated : goal.set-requires-clause-seated
set-requires-clause-seated c =
    let first : List ℕ × Seat = (c.in-Some.field-0-0, c.in-Some.seat) in
    let persons = seated_in c.self.inside.first c.self.inside.others.entries in
    let there : slice_get persons 0 ≡ Some first = ap (λ found. slice_get (seated_in found c.self.inside.others.entries) 0) c.in-Some.is in
    rw c.deref.ensures (seated_at persons c.self.invariant.seated 0 first there)

pub invariant_of-self : goal.invariant_of-self
invariant_of-self c =
    let others = c.self.inside.others.entries in
    let first : List ℕ × Seat = (c.in-Some.field-0-0, c.in-Some.seat) in
    let all = subst (λ found. All (λ each. IsSeated c.self.inside.roles.value each.1) (seated_in found others)) c.in-Some.is c.self.invariant.seated in
    record {
      in_order = λ none. cc;
      seated = seated_set (seated_in (Some first) others) 0 c.set.new.self all (rw c.deref.ensures at c.set.ensures.seated);
      few = rw c.in-Some.is at c.self.invariant.few;
    }

pub set-requires-2-clause-seated : goal.set-requires-2-clause-seated
set-requires-2-clause-seated c =
    let old = c.in-Some-get_index_mut.seat.now in
    let persons = seated_in c.self.inside.first c.self.inside.others.entries in
    let there : slice_get (values_of persons) c.args.person ≡ Some old = other_value c.self.inside.first c.self.inside.others.entries c.args.person c.self.invariant.in_order c.if-person-eq0.false ∙ sym c.in-Some-get_index_mut.ensures.value in
    rw c.deref-2.ensures (seated_value persons c.self.invariant.seated c.args.person old there)

pub invariant_of-self-2 : goal.invariant_of-self-2
invariant_of-self-2 c =
    let first = c.self.inside.first in
    let others = c.self.inside.others.entries in
    let new = c.set-2.new.self in
    let is : seated_in first (set_value_at others (c.args.person - 1) new) ≡ set_value_at (seated_in first others) c.args.person new = other_set first others c.args.person new c.self.invariant.in_order c.if-person-eq0.false in
    record {
      in_order = λ none. ap (λ each. set_value_at each (c.args.person - 1) new) (c.self.invariant.in_order none);
      seated = subst (λ all. All (λ each. IsSeated c.self.inside.roles.value each.1) all) (sym is) (seated_set (seated_in first others) c.args.person new c.self.invariant.seated (rw c.deref-2.ensures at c.set-2.ensures.seated));
      few = rw (is, length_set (seated_in first others) c.args.person new) c.self.invariant.few;
    }

pub returns-clause-rows : goal.returns-clause-rows
returns-clause-rows c =
    let first = c.self.inside.first in
    let others = c.self.inside.others.entries in
    let old = c.in-Some-get_index_mut.seat.now in
    let new = c.set-2.new.self in
    let there : slice_get (values_of (seated_in first others)) c.args.person ≡ Some old = other_value first others c.args.person c.self.invariant.in_order c.if-person-eq0.false ∙ sym c.in-Some-get_index_mut.ensures.value in
    ap (map row_of) (other_set first others c.args.person new c.self.invariant.in_order c.if-person-eq0.false)
    ∙ rows_set (seated_in first others) c.args.person c.args.role c.args.held old new there c.set-2.ensures.holds
    ∙ ap (λ seats. changed_at (with_held c.args.role c.args.held) c.args.person seats.rows) c.self.view_is

pub returns-clause-persons : goal.returns-clause-persons
returns-clause-persons c =
    let first = c.self.inside.first in
    let others = c.self.inside.others.entries in
    let old = c.in-Some-get_index_mut.seat.now in
    let persons = seated_in first others in
    let there : slice_get (values_of persons) c.args.person ≡ Some old = other_value first others c.args.person c.self.invariant.in_order c.if-person-eq0.false ∙ sym c.in-Some-get_index_mut.ensures.value in
    let entry = entry_of persons c.args.person old there in
    let seated = seated_at persons c.self.invariant.seated c.args.person entry.0 entry.1 in
    let row : slice_get (map row_of persons) c.args.person ≡ Some (row_of entry.0) = slice_get-map row_of persons c.args.person ∙ ap (option_map row_of) entry.1 in
    let roles : length c.self.inside.roles.value ≡ length c.args.self.now.roles = ap (λ seats. length seats.roles) c.self.view_is in
    let within : c.args.role < length entry.0.1.holds.items = omega (arith, roles, seated.count, c.requires.role) in
    let rows : map row_of persons ≡ c.args.self.now.rows = ap (λ seats. seats.rows) c.self.view_is in
    ap persons_of (returns-clause-rows c) ∙ persons_changed c.args.self.now.rows c.args.person c.args.role c.args.held (row_of entry.0) (rw rows at row) within
