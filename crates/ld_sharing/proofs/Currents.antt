-- Runs stay current while others write, and are so as they are made and once they have given their values back.
use Rattle.std.proofs.Common.{◌≡◌, ◌∙◌, refl, sym, ap, ℕ, List, Option, Some, None, Bool, true, false, option_map, unwrap_or, arith}
use Rattle.std.proofs.lemmas.Bool.{eq-eqb, true≢false}
use Rattle.std.proofs.lemmas.Bool.Decides.{Decides-int_eq}
use Rattle.std.proofs.lemmas.Slice.Eq.{bytes_eq-Decides}
use Rattle.std.specs.Option.{option_eq}
use Rattle.ld_globals.specs.Store.{KeepsWrites, Store, key_at, value_at, written_since}
use Rattle.ld_value.specs.Datum.{Datum, text_datum, truth_datum, number_datum, moment_datum, span_datum, same_datum, same_truth}
use Rattle.ld_model.specs.declared.cell.CellName.{CellName}
use Rattle.ld_model.specs.declared.unit.Unit.{Unit}
use Rattle.ld_state.specs.RunState.{RunState}
use Rattle.ld_state.proofs.SameCells.{one_value}
use Rattle.ld_sharing.specs.Current.{IsCurrentAsOf}
use Rattle.ld_sharing.specs.Globals.{giving_back}
use Rattle.ld_sharing.specs.StoreView.{Serves, values_of}
use Rattle.ld_sharing.proofs.KeyCells.{key_declared}

-- ---- one value

pub truth_itself : (b : Bool) → same_truth b b ≡ true
truth_itself true = refl
truth_itself false = refl

datum_itself : (d : Datum) → same_datum d d ≡ true
datum_itself (text_datum text) = (bytes_eq-Decides text text).1 refl
datum_itself (truth_datum b) = truth_itself b
datum_itself (number_datum z) = (Decides-int_eq z z).1 refl
datum_itself (moment_datum z) = (Decides-int_eq z z).1 refl
datum_itself (span_datum n) = eq-eqb n n refl

pub value_itself : (v : Option Datum) → option_eq same_datum v v ≡ true
value_itself None = refl
value_itself (Some d) = datum_itself d

-- Values of which it can't be that they differ.
same_unless : (a b : Option Datum) → (((a ≡ b) → ⊥) → ⊥) → a ≡ b
same_unless a b unless = by (option_eq same_datum a b) refl
  where
    by : (test : Bool) → option_eq same_datum a b ≡ test → a ≡ b
    by true is = one_value a b is
    by false is =
        absurd (unless (λ same. true≢false (sym (value_itself b) ∙ ap (λ v. option_eq same_datum v b) (sym same) ∙ is)))

-- ---- while others write

module _ (unit : Unit) (s : RunState) (stamp : ℕ) (old new : Store) (serves : Serves old unit) (kept : KeepsWrites old new) where
  -- A key that was not written since the stamp was not written before either, and its value is the same.
  before_too : (current : IsCurrentAsOf unit s stamp old) (uri : List ℕ) (person : Option (List ℕ))
      → written_since new stamp (key_at uri person) ≡ false → (was : Bool) → written_since old stamp (key_at uri person) ≡ was → was ≡ false
  before_too current uri person not_since false was = refl
  before_too current uri person not_since true was =
      absurd (true≢false (sym (kept.written stamp (key_at uri person) current.passed was) ∙ not_since))

  pub stays_current : IsCurrentAsOf unit s stamp old → IsCurrentAsOf unit s stamp new
  stays_current current = record {
    passed = omega (arith, current.passed, kept.stamp);
    values = λ uri person cell is not_since.
        let key = key_at uri person in
        current.values uri person cell is
        (before_too current uri person not_since (written_since old stamp key) refl)
        ∙ sym (same_unless (value_at new key) (value_at old key) (λ other.
        true≢false (sym (kept.changed stamp key current.passed (key_declared unit old serves s.persons uri person cell is) other) ∙ not_since)));
  }

-- ---- once a run has given its values back

pub current_now : (unit : Unit) (s : RunState) (old new : Store) → values_of new ≡ giving_back unit s (values_of old)
    → IsCurrentAsOf unit s new.stamp new
current_now unit s old new given = record {
  passed = omega arith;
  values = λ uri person cell is not_since.
      sym (ap (λ (found : Option CellName). unwrap_or (option_map s.cells found) (values_of old uri person)) is)
      ∙ sym (ap (λ store. store uri person) given);
}
