-- What the firing of a site leaves as it is, and what it tells of its changes.
use Rattle.std.proofs.Common.{◌≡◌, refl, sym, ap, subst, ◌∙◌, ℕ, ◌⊎◌, inl, inr, [], ◌∷◌, ◌++◌, Option, Some, Bool, true, false, not, cond}
use Rattle.std.specs.Option.{option_eq}
use Rattle.ld_value.specs.Datum.{Datum, truth_datum, same_datum}
use Rattle.ld_model.specs.Cells.{CellMap, put_cell, same_cell}
use Rattle.ld_model.specs.declared.cell.CellName.{CellName}
use Rattle.ld_model.specs.declared.cell.CellName.TheVariants.{Mark, Now}
use Rattle.ld_model.specs.declared.cell.Owner.{Owner}
use Rattle.ld_model.specs.declared.unit.Unit.{Unit}
use Rattle.ld_names.specs.declared.rule.Rule.{Rule}
use Rattle.ld_names.specs.Rules.{Site}
use Rattle.ld_expr.specs.Seen.{mark_cell}
use Rattle.ld_firing.specs.Actions.{Doing, nothing_done, differs, with_write, site_firing}
use Rattle.ld_state.specs.RunCells.{cell_if, suits_cell}
use Rattle.ld_state.specs.RunState.{RunState, seen_in, with_cell}
use Rattle.ld_rules.specs.SiteTests.{site_test, site_mark, rule_of}
use Rattle.ld_state.proofs.Elements.{IsIn, in_left, in_right}
use Rattle.ld_state.proofs.SameCells.{one_cell, one_value, same_cell_itself}
use Rattle.ld_firing.proofs.Effects.{is_written, StaysTrue, through_firing, through_any_firing}

-- ---- the enrolment

-- The state has these seats and persons.
pub record IsEnrolled (s t : RunState) : Type 0 where
  pub seats : t.seats ≡ s.seats
  pub persons : t.persons ≡ s.persons

keeps_enrolment : (unit : Unit) (s : RunState) → StaysTrue unit (λ doing. IsEnrolled s doing.state)
keeps_enrolment unit s = record {
  writes = λ doing cell value fair holds. record { seats = holds.seats; persons = holds.persons };
  rejects = λ doing holds. holds;
  sends = λ doing notice holds. record { seats = holds.seats; persons = holds.persons };
}

pub firing_enrolment : (unit : Unit) (s : RunState) (site : Site)
    → IsEnrolled s (site_firing unit s site).state
firing_enrolment unit s site =
    through_any_firing unit (λ doing. IsEnrolled s doing.state) (keeps_enrolment unit s) s site
    (record { seats = refl; persons = refl }) (record { seats = refl; persons = refl })

-- ---- marks

-- The cells have these marks.
HasMarks : CellMap → Doing → Type 0
HasMarks cells doing = (r : ℕ) (owner : Owner) → doing.state.cells (mark_cell r owner) ≡ cells (mark_cell r owner)

no_mark : (r : ℕ) (owner : Owner) (cell : CellName) → is_written cell ≡ true
    → same_cell (mark_cell r owner) cell ≡ false
no_mark r owner (Mark _ _) written = absurd (cc)
no_mark r owner _ written = refl

pub other_cell : (cells : CellMap) (cell c : CellName) (value : Option Datum) → same_cell c cell ≡ false
    → put_cell cells cell value c ≡ cells c
other_cell cells cell c value other = ap (λ b. cond b value (cells c)) other

own_cell : (cells : CellMap) (cell : CellName) (value : Option Datum) → put_cell cells cell value cell ≡ value
own_cell cells cell value = ap (λ b. cond b value (cells cell)) (same_cell_itself cell)

keeps_marks : (unit : Unit) (cells : CellMap) → StaysTrue unit (HasMarks cells)
unfolding HasMarks
keeps_marks unit cells = record {
  writes = λ doing cell value fair holds r owner.
      other_cell doing.state.cells cell (mark_cell r owner) value (no_mark r owner cell fair.written) ∙ holds r owner;
  rejects = λ doing holds. holds;
  sends = λ doing notice holds. holds;
}

-- All marks are as they were once the own one was set.
pub firing_marks : (unit : Unit) (s : RunState) (site : Site) (rule : Rule) → rule_of unit site ≡ Some rule
    → (r : ℕ) (owner : Owner)
    → (site_firing unit s site).state.cells (mark_cell r owner) ≡ put_cell s.cells (site_mark site) (Some (truth_datum (site_test unit (seen_in unit s) site))) (mark_cell r owner)
unfolding HasMarks
firing_marks unit s site rule ruled =
    let set = put_cell s.cells (site_mark site) (Some (truth_datum (site_test unit (seen_in unit s) site))) in
    through_firing unit (HasMarks set) (keeps_marks unit set) s site rule ruled (λ r owner. refl)

pub firing_own_mark : (unit : Unit) (s : RunState) (site : Site) (rule : Rule) → rule_of unit site ≡ Some rule
    → (site_firing unit s site).state.cells (site_mark site) ≡ Some (truth_datum (site_test unit (seen_in unit s) site))
firing_own_mark unit s site rule ruled =
    firing_marks unit s site rule ruled site.rule site.owner
    ∙ own_cell s.cells (site_mark site) (Some (truth_datum (site_test unit (seen_in unit s) site)))

pub firing_other_mark : (unit : Unit) (s : RunState) (site other : Site) (rule : Rule)
    → rule_of unit site ≡ Some rule → same_cell (site_mark other) (site_mark site) ≡ false
    → (site_firing unit s site).state.cells (site_mark other) ≡ s.cells (site_mark other)
firing_other_mark unit s site other rule ruled apart =
    firing_marks unit s site rule ruled other.rule other.owner
    ∙ other_cell s.cells (site_mark site) (site_mark other) (Some (truth_datum (site_test unit (seen_in unit s) site))) apart

-- ---- what is told

-- Each cell is among the changes, or has what it had.
IsTold : RunState → Doing → Type 0
IsTold s doing = (c : CellName) → IsIn doing.changes c ⊎ (doing.state.cells c ≡ s.cells c)

told_by : (s : RunState) (doing : Doing) (cell c : CellName) (value : Option Datum) (same differ : Bool)
    → same_cell c cell ≡ same → differs (doing.state.cells cell) value ≡ differ
    → IsIn doing.changes c ⊎ (doing.state.cells c ≡ s.cells c)
    → IsIn (doing.changes ++ cell_if differ cell) c ⊎ (cond same value (doing.state.cells c) ≡ s.cells c)
told_by s doing cell c value same differ is old (inl early) = inl (in_left doing.changes (cell_if differ cell) c early)
told_by s doing cell c value false differ is old (inr stays) = inr stays
told_by s doing cell c value true true is old (inr stays) =
    inl (in_right doing.changes (cell ∷ []) c (inl (sym (one_cell c cell is))))
told_by s doing cell c value true false is old (inr stays) =
    inr (sym (one_value (doing.state.cells cell) value
    (equal (option_eq same_datum (doing.state.cells cell) value) old)) ∙ sym (ap doing.state.cells (one_cell c cell is)) ∙ stays)
  where
    equal : (b : Bool) → not b ≡ false → b ≡ true
    equal true is = refl
    equal false is = absurd (cc)

-- A write tells of the cell, or leaves what it had.
pub write_told : (s : RunState) (cell : CellName) (value : Option Datum) (c : CellName)
    → IsIn (cell_if (differs (s.cells cell) value) cell) c ⊎ ((with_cell s cell value).cells c ≡ s.cells c)
write_told s cell value c =
    told_by s (nothing_done s) cell c value (same_cell c cell) (differs (s.cells cell) value) refl refl (inr refl)

tells_write : (s : RunState) (doing : Doing) (cell : CellName) (value : Option Datum) → IsTold s doing
    → IsTold s (with_write doing cell value)
unfolding IsTold
tells_write s doing cell value told c =
    told_by s doing cell c value (same_cell c cell) (differs (doing.state.cells cell) value) refl refl (told c)

keeps_told : (unit : Unit) (s : RunState) → StaysTrue unit (IsTold s)
unfolding IsTold
keeps_told unit s = record {
  writes = λ doing cell value fair told. tells_write s doing cell value told;
  rejects = λ doing told. told;
  sends = λ doing notice told. told;
}

pub firing_told : (unit : Unit) (s : RunState) (site : Site) (c : CellName)
    → IsIn (site_firing unit s site).changes c ⊎ ((site_firing unit s site).state.cells c ≡ s.cells c)
unfolding IsTold
firing_told unit s site =
    through_any_firing unit (IsTold s) (keeps_told unit s) s site (λ c. inr refl)
    (tells_write s (nothing_done s) (site_mark site) (Some (truth_datum (site_test unit (seen_in unit s) site))) (λ c. inr refl))

-- ---- values that suit

-- The moment is as it was, and each cell that had a value that suits it has one.
pub record Suits (unit : Unit) (s t : RunState) : Type 0 where
  pub now : t.cells Now ≡ s.cells Now
  pub cells : (c : CellName) → suits_cell unit c (s.cells c) ≡ true → suits_cell unit c (t.cells c) ≡ true

not_now : (cell : CellName) → is_written cell ≡ true → same_cell Now cell ≡ false
not_now Now written = absurd (cc)
not_now _ written = refl

suits_write : (unit : Unit) (cells : CellMap) (cell c : CellName) (value : Option Datum)
    → suits_cell unit cell value ≡ true → suits_cell unit c (cells c) ≡ true
    → suits_cell unit c (put_cell cells cell value c) ≡ true
suits_write unit cells cell c value suits old = by (same_cell c cell) refl
  where
    by : (same : Bool) → same_cell c cell ≡ same → suits_cell unit c (cond same value (cells c)) ≡ true
    by true is = subst (λ name. suits_cell unit name value ≡ true) (sym (one_cell c cell is)) suits
    by false is = old

keeps_suits : (unit : Unit) (s : RunState) → suits_cell unit Now (s.cells Now) ≡ true
    → StaysTrue unit (λ doing. Suits unit s doing.state)
keeps_suits unit s moment = record {
  writes = λ doing cell value fair holds. record {
    now = other_cell doing.state.cells cell Now value (not_now cell fair.written) ∙ holds.now;
    cells = λ c suits. suits_write unit doing.state.cells cell c value
        (fair.suits (subst (λ now. suits_cell unit Now now ≡ true) (sym holds.now) moment)) (holds.cells c suits);
  };
  rejects = λ doing holds. holds;
  sends = λ doing notice holds. record { now = holds.now; cells = holds.cells };
}

pub firing_suits : (unit : Unit) (s : RunState) (site : Site) → suits_cell unit Now (s.cells Now) ≡ true
    → Suits unit s (site_firing unit s site).state
firing_suits unit s site moment =
    through_any_firing unit (λ doing. Suits unit s doing.state) (keeps_suits unit s moment) s site
    (record { now = refl; cells = λ c suits. suits })
    (record { now = refl; cells = λ c suits. suits_write unit s.cells (site_mark site) c (Some (truth_datum (site_test unit (seen_in unit s) site))) refl suits })
