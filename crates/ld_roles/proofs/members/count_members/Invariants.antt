use Rattle.std.proofs.Common.{◌≡◌, take}
use Rattle.std.specs.List.{count_by}
use Rattle.ld_roles.specs.Kept.{persons_of}
use Rattle.ld_roles.specs.Membership.{is_member_by}
use Rattle.ld_roles.proofs.members.count_members.Given as goal

abbrev pub invariant-loop-person : goal.invariant-loop-person
invariant-loop-person l = l.count ≡ count_by (λ person. is_member_by l.seats.roles person l.role) (take l.person (persons_of l.seats.rows))
