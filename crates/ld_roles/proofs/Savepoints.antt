-- What was done since the savepoint, and what it is rolled back to.
use Rattle.std.proofs.Common.{◌≡◌, ℕ, ◌<◌, List, Bool, true, false, Option, Some, None, option_map, IfSome, length, refl, sym, ap, ◌∙◌, arith}
use Rattle.std.specs.Option.{option_and}
use Rattle.ld_roles.specs.Changes.{persons_before, IsUndoable}
use Rattle.ld_roles.specs.Kept.{PersonRow}
use Rattle.ld_roles.specs.Persons.{Persons, changed_at, holds_role}
use Rattle.ld_roles.specs.Refusals.{assign_fault, drop_fault}
use Rattle.ld_roles.specs.RoleBounds.{RoleBounds}
use Rattle.ld_roles.specs.Seats.{Seated}
use Rattle.ld_roles.specs.declared.change.Change.{Change}
use Rattle.ld_roles.proofs.People.{length-changed_at}

-- What is noted can be rolled back.
pub noted_undoable : (seats : Seated) (since : Option Change) (change : Change) → IsUndoable seats change → IfSome (option_and since (Some change)) (IsUndoable seats)
noted_undoable seats None change can = tt
noted_undoable seats (Some old) change can = can

-- What is kept stays, where all was as at the savepoint and the change is rolled back to that.
pub noted_keeps : (since : Option Change) (change : Change) (old new : List PersonRow) → persons_before change new ≡ old → IfSome (option_map (λ each. persons_before each old) since) (λ kept. kept ≡ old) → option_map (λ each. persons_before each new) (option_and since (Some change)) ≡ option_map (λ each. persons_before each old) since
noted_keeps None change old new back marked = refl
noted_keeps (Some first) change old new back marked = ap Some (back ∙ sym marked)

-- Who may be given a role does not hold it.
pub free_to_hold : (roles : List RoleBounds) (persons : Persons) (role p : ℕ) → None ≡ assign_fault roles persons role p → holds_role persons role p ≡ false
free_to_hold roles persons role p may = by (holds_role persons role p) refl
  where
    by : (holds : Bool) → holds_role persons role p ≡ holds → holds_role persons role p ≡ false
    by false is = is
    by true is = let refused = rw is at may in cc

-- Who may drop a role holds it.
pub held_to_drop : (roles : List RoleBounds) (persons : Persons) (role p : ℕ) (started : Bool) → None ≡ drop_fault roles persons role p started → holds_role persons role p ≡ true
held_to_drop roles persons role p started may = by (holds_role persons role p) refl
  where
    by : (holds : Bool) → holds_role persons role p ≡ holds → holds_role persons role p ≡ true
    by true is = is
    by false is = let refused = rw is at may in cc

-- As many persons are there after a change at a number.
pub still_there : (seats new : Seated) (p role : ℕ) (change : PersonRow → PersonRow) → new.rows ≡ changed_at change p seats.rows → new.roles ≡ seats.roles → p < length seats.rows → role < length seats.roles → (p < length new.rows) × (role < length new.roles)
still_there seats new p role change rows roles person within =
    let count : length new.rows ≡ length seats.rows = ap length rows ∙ length-changed_at change p seats.rows in
    let bounds : length new.roles ≡ length seats.roles = ap length roles in
    (omega (arith, count, person), omega (arith, bounds, within))
