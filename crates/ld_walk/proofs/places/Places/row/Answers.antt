use Rattle.std.proofs.Common.{sym, ◌∙◌, ap, Some}
use Rattle.std.proofs.lemmas.Option.{slice_get-get_or}
use Rattle.ld_walk.proofs.PlaceLaws.{stands_at, stands_past, below_at}
use Rattle.ld_walk.proofs.places.Places.row.Goals as goal

pub returns-in-Some-clause-place : goal.returns-in-Some-clause-place
returns-in-Some-clause-place c =
    let found = rw c.deref.ensures.value at c.in-Some.ensures.lookup in
    let there = slice_get-get_or c.self.inside.rows.items c.args.number c.in-Some.row.now found.3.0 ∙ ap (λ row. Some row) (sym found.1) in
    rw (sym c.self.view_is) (stands_at c.self.inside.rows.items c.args.number c.in-Some.row.now c.self.invariant there)

pub returns-in-Some-clause-below : goal.returns-in-Some-clause-below
returns-in-Some-clause-below c =
    let found = rw c.deref.ensures.value at c.in-Some.ensures.lookup in
    let there = slice_get-get_or c.self.inside.rows.items c.args.number c.in-Some.row.now found.3.0 ∙ ap (λ row. Some row) (sym found.1) in
    below_at c.self.inside.rows.items c.args.number c.in-Some.row.now c.self.invariant there

pub returns-in-None-clause-place : goal.returns-in-None-clause-place
returns-in-None-clause-place c =
    let gone = rw c.deref.ensures.value at c.in-None.ensures.lookup in
    rw (sym c.self.view_is) (stands_past c.self.inside.rows.items c.args.number gone.3)
