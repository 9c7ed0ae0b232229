-- Tests of a list, one after another.
use Rattle.std.proofs.Common.{◌≡◌, sym, ap, ◌∙◌, ℕ, ℤ, ◌+◌, ◌<◌, List, drop, get_or, length, length-append, Option}
use Rattle.ld_model.specs.Expressions.{TestOf, tests_from}
use Rattle.ld_model.specs.declared.cell.Owner.{Owner}
use Rattle.ld_model.specs.declared.unit.Unit.{Unit}
use Rattle.ld_expr.specs.Looks.{test_looks, tests_looks}
use Rattle.ld_expr.specs.Seen.{Seen}
use Rattle.ld_expr.proofs.Totals.{from_here}
use Rattle.ld_alarm.specs.Later.{earlier, next_after}
use Rattle.ld_alarm.specs.Switches.{test_switches, tests_switches}
use Rattle.ld_alarm.proofs.NextAfter.{earlier_assoc, next_append}

-- One test more has been taken from the list: what is still to be found, and how long the lists are.
pub record IsTaken (unit : Unit) (seen : Seen) (owner : Owner) (tests : List TestOf) (i : ℕ) (test : TestOf) (after : ℤ) (before now : Option ℤ) : Type 0 where
  pub value : earlier now (next_after after (tests_switches unit seen owner (tests_from (drop (i + 1) tests))))
      ≡ earlier before (next_after after (tests_switches unit seen owner (tests_from (drop i tests))))
  pub looks : length (tests_looks unit seen owner (tests_from (drop i tests)))
      ≡ length (test_looks unit seen owner test) + length (tests_looks unit seen owner (tests_from (drop (i + 1) tests)))
  pub switches : length (tests_switches unit seen owner (tests_from (drop i tests)))
      ≡ length (test_switches unit seen owner test) + length (tests_switches unit seen owner (tests_from (drop (i + 1) tests)))

pub test_taken : (unit : Unit) (seen : Seen) (owner : Owner) (tests : List TestOf) (i : ℕ) (test : TestOf) (after : ℤ) (before own now : Option ℤ)
    → i < length tests → test ≡ get_or tests i test → own ≡ next_after after (test_switches unit seen owner test) → now ≡ earlier before own
    → IsTaken unit seen owner tests i test after before now
test_taken unit seen owner tests i test after before own now within is own_is now_is =
    let more = drop (i + 1) tests in
    let mine = test_switches unit seen owner test in
    let rest = tests_switches unit seen owner (tests_from more) in
    let cut = from_here tests i test within is in
    record {
      value =
          ap (λ o. earlier o (next_after after rest)) (now_is ∙ ap (earlier before) own_is)
          ∙ earlier_assoc before (next_after after mine) (next_after after rest)
          ∙ ap (earlier before) (sym (next_append after mine rest))
          ∙ ap (λ xs. earlier before (next_after after (tests_switches unit seen owner (tests_from xs)))) (sym cut);
      looks = rw cut (length-append (test_looks unit seen owner test) (tests_looks unit seen owner (tests_from more)));
      switches = rw cut (length-append mine rest);
    }
