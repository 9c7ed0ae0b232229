use Rattle.std.proofs.Common.{◌≡◌, ap, sym, ◌∙◌, refl}
use Rattle.std.specs.List.{list_any}
use Rattle.ld_roles.specs.Kept.{held_in, persons_of}
use Rattle.ld_roles.specs.RoleTree.{with_inner}
use Rattle.ld_roles.specs.Seats.{without}
use Rattle.ld_roles.proofs.People.{as_number, counted_dropped, held_by}
use Rattle.ld_roles.proofs.members.count_once_dropped.Goals as goal

pub overflow_sub-result : goal.overflow_sub-result
overflow_sub-result c =
    let seats = c.args.seats.now in
    let who = held_by seats.rows c.args.person c.held.result.now c.held.ensures.row in
    let counted = counted_dropped seats.roles (persons_of seats.rows) c.args.role c.args.dropped c.args.person c.is_member.result (list_any (without c.args.dropped who.0.holds) (with_inner seats.roles c.args.role)) who.0 who.1 c.is_member.ensures refl in
    rw (c.from-is_member.ensures, as_number c.is_member.result, c.count_members.ensures.count) counted.0

pub returns : goal.returns
returns c =
    let seats = c.args.seats.now in
    let who = held_by seats.rows c.args.person c.held.result.now c.held.ensures.row in
    let holds : c.is_member_without-stays_member.result ≡ list_any (without c.args.dropped who.0.holds) (with_inner seats.roles c.args.role) =
    c.is_member_without-stays_member.ensures
    ∙ ap (λ tree. list_any (without c.args.dropped (held_in c.held.result.now)) (with_inner tree c.args.role)) c.roles.ensures
    ∙ ap (λ held. list_any (without c.args.dropped held) (with_inner seats.roles c.args.role)) (sym who.2) in
    let counted = counted_dropped seats.roles (persons_of seats.rows) c.args.role c.args.dropped c.args.person c.is_member.result c.is_member_without-stays_member.result who.0 who.1 c.is_member.ensures holds in
    rw (c.from-is_member.ensures, as_number c.is_member.result, c.from.ensures, as_number c.is_member_without-stays_member.result, c.count_members.ensures.count) counted.1
