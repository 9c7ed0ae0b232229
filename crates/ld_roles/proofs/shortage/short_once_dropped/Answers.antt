use Rattle.std.proofs.Common.{rules, ◌≡◌, ◌+◌, ◌-◌, ◌∙◌, true, false, sym, Some, None, option_map, arith}
use Rattle.ld_roles.specs.Kept.{persons_of}
use Rattle.ld_roles.specs.Membership.{dropped, shortage_of}
use Rattle.ld_roles.specs.Refusals.{short_of}
use Rattle.ld_roles.specs.RoleTree.{is_within}
use Rattle.ld_roles.proofs.Shortages.{found_last, found_before, found_beside}
use Rattle.ld_roles.proofs.shortage.short_once_dropped.Goals as goal

pub loop-role-preserved-then-not-is_within : goal.loop-role-preserved-then-not-is_within
loop-role-preserved-then-not-is_within c =
    let seats = c.args.seats.now in
    let persons = dropped (persons_of seats.rows) c.args.dropped c.args.person in
    let role = c.loop-role.role - 1 in
    let next : role + 1 ≡ c.loop-role.role = omega arith in
    let chosen : is_within seats.roles role c.args.dropped ≡ false = sym (rw c.roles-roles.ensures at c.is_within.ensures) ∙ search rules in
    record {
      within = omega arith;
      rest = found_beside short_of (shortage_of seats.roles persons) (λ outer. is_within seats.roles outer c.args.dropped) c.loop-role.role role next chosen ∙ c.loop-role.invariant.rest;
    }

pub returns-in-Some : goal.returns-in-Some
returns-in-Some c =
    let seats = c.args.seats.now in
    let persons = dropped (persons_of seats.rows) c.args.dropped c.args.person in
    let role = c.loop-role.role - 1 in
    let next : role + 1 ≡ c.loop-role.role = omega arith in
    let chosen : is_within seats.roles role c.args.dropped ≡ true = sym (rw c.roles-roles.ensures at c.is_within.ensures) ∙ search rules in
    let said = rw c.roles-roles.ensures at (c.in-Some.ensures persons) in
    let is : option_map short_of (shortage_of seats.roles persons role) ≡ Some c.in-Some.short = sym (said (sym c.count_once_dropped-count.ensures)) in
    sym (found_last short_of (shortage_of seats.roles persons) (λ outer. is_within seats.roles outer c.args.dropped) c.loop-role.role role c.in-Some.short next chosen is) ∙ c.loop-role.invariant.rest

pub loop-role-preserved : goal.loop-role-preserved
loop-role-preserved c =
    let seats = c.args.seats.now in
    let persons = dropped (persons_of seats.rows) c.args.dropped c.args.person in
    let role = c.loop-role.role - 1 in
    let next : role + 1 ≡ c.loop-role.role = omega arith in
    let chosen : is_within seats.roles role c.args.dropped ≡ true = sym (rw c.roles-roles.ensures at c.is_within.ensures) ∙ search rules in
    let said = rw c.roles-roles.ensures at (c.shortage.ensures persons) in
    let is : option_map short_of (shortage_of seats.roles persons role) ≡ None = sym (said (sym c.count_once_dropped-count.ensures)) ∙ c.in_default.is in
    record {
      within = omega arith;
      rest = found_before short_of (shortage_of seats.roles persons) (λ outer. is_within seats.roles outer c.args.dropped) c.loop-role.role role next chosen is ∙ c.loop-role.invariant.rest;
    }
