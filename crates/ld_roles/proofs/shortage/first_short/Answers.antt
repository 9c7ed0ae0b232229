use Rattle.std.proofs.Common.{◌≡◌, ◌<◌, ◌∙◌, sym, Some, None, option_map, length}
use Rattle.ld_roles.specs.Kept.{persons_of}
use Rattle.ld_roles.specs.Membership.{shortage_of}
use Rattle.ld_roles.specs.Refusals.{short_of}
use Rattle.ld_roles.proofs.Shortages.{found_next, found_later}
use Rattle.ld_roles.proofs.shortage.first_short.Goals as goal

pub returns-in-Some : goal.returns-in-Some
returns-in-Some c =
    let seats = c.args.seats.now in
    let persons = persons_of seats.rows in
    let within : c.loop-role.role < length seats.roles = rw (c.len-role-end.ensures.count, c.roles-roles.ensures) at c.loop-role-test.true in
    let said = rw c.roles-roles.ensures at (c.in-Some.ensures persons) in
    let is : option_map short_of (shortage_of seats.roles persons c.loop-role.role) ≡ Some c.in-Some.short = sym (said (sym c.count_members.ensures.count)) in
    sym (found_next short_of (shortage_of seats.roles persons) c.loop-role.role (length seats.roles) c.in-Some.short within is) ∙ c.loop-role.invariant

pub loop-role-preserved : goal.loop-role-preserved
loop-role-preserved c =
    let seats = c.args.seats.now in
    let persons = persons_of seats.rows in
    let within : c.loop-role.role < length seats.roles = rw (c.len-role-end.ensures.count, c.roles-roles.ensures) at c.loop-role-test.true in
    let said = rw c.roles-roles.ensures at (c.shortage.ensures persons) in
    let is : option_map short_of (shortage_of seats.roles persons c.loop-role.role) ≡ None = sym (said (sym c.count_members.ensures.count)) ∙ c.in_default.is in
    found_later short_of (shortage_of seats.roles persons) c.loop-role.role (length seats.roles) within is ∙ c.loop-role.invariant
