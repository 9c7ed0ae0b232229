-- The switches of a test that is asked for each member of a role.
use Rattle.std.specs.Prelude.{ℕ, ℤ, List}
use Rattle.std.specs.List.{flat_map}
use Rattle.ld_model.specs.Expressions.{TestOf}
use Rattle.ld_model.specs.declared.unit.Unit.{Unit}
use Rattle.ld_expr.specs.Membership.{members, members_of}
use Rattle.ld_expr.specs.Owners.{of_person}
use Rattle.ld_expr.specs.Seen.{Seen}
use Rattle.ld_alarm.specs.Switches.{test_switches}

-- The switches of the test where it is asked of the person of this number.
abbrev pub switches_for : Unit → Seen → TestOf → ℕ → List ℤ
switches_for unit seen test p = test_switches unit seen (of_person p) test

-- The switches of the test for each member of the role of this number.
abbrev pub switches_for_members : Unit → Seen → ℕ → TestOf → List ℤ
switches_for_members unit seen role test = flat_map (switches_for unit seen test) (members seen role)

-- The same of a role by its identifier.
abbrev pub switches_for_users : Unit → Seen → List ℕ → TestOf → List ℤ
switches_for_users unit seen role test = flat_map (switches_for unit seen test) (members_of unit seen role)
