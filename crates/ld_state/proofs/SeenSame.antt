-- What is seen of a state is what is seen of its run.
use Rattle.std.proofs.Common.{◌≡◌, refl, sym, ap, ◌∙◌, ℕ, length, pos, Option, Some, None, Bool, true, false, ◌&&◌, nat_lt}
use Rattle.std.proofs.lemmas.Bool.{and_from, and_parts, lt-ltb, ltb-true}
use Rattle.std.proofs.lemmas.List.{length-map}
use Rattle.ld_base.specs.Maybe.{◌>>=◌, provided}
use Rattle.ld_value.specs.Datum.{truth_datum, number_datum}
use Rattle.ld_model.specs.declared.cell.CellName.{CellName}
use Rattle.ld_model.specs.declared.cell.CellName.TheVariants.{Member, Roster}
use Rattle.ld_model.specs.declared.unit.Unit.{Unit}
use Rattle.ld_expr.specs.Seen.{member_cell}
use Rattle.ld_roles.specs.Kept.{person_of, persons_of}
use Rattle.ld_roles.specs.Membership.{is_member_among}
use Rattle.ld_roles.specs.RoleBounds.{role_bounds}
use Rattle.ld_state.specs.Layout.{Layout, layout_of, slot_in}
use Rattle.ld_state.specs.RunState.{cell_of, membership_of, seen_in}
use Rattle.ld_state.specs.StateView.{StateView, IsStateOf, run_of, seen_in_slot, seen_of}
use Rattle.ld_state.proofs.There.{own_of_slot, role_of_slot, slot_of_member, slot_of_roster}

pub persons_counted : (s : StateView) → length (run_of s).persons ≡ length s.rows
persons_counted s = length-map s.rows person_of

some_is_some : {A B : Type 0} (a : A) → None ≡ Some a → B
some_is_some a is = cc

module _ (unit : Unit) (s : StateView) (own : IsStateOf unit s) where
  at : (name : CellName) → slot_in s.layout (length s.rows) name ≡ slot_in (layout_of unit) (length s.rows) name
  at name = ap (λ (l : Layout). slot_in l (length s.rows) name) own.layout

  -- There is the role, and there is the person.
  abbrev there : ℕ → ℕ → Bool
  there r p = nat_lt r (length (role_bounds unit)) && nat_lt p (length (run_of s).persons)

  -- The slot of whether the person is a member of the role is there where both are.
  member_seen : (r p : ℕ) → (found : Option ℕ) → slot_in s.layout (length s.rows) (member_cell r p) ≡ found
      → (found >>= seen_in_slot s (member_cell r p)) ≡ membership_of unit (run_of s).persons r p
  member_seen r p (Some slot) is =
      let here = sym (at (member_cell r p)) ∙ is in
      let role = role_of_slot unit (length s.rows) r p slot here in
      let person = (own_of_slot unit (length s.rows) p (member_cell r p) slot refl here).below in
      let counted : length (run_of s).persons ≡ length s.rows = persons_counted s in
      let both : there r p ≡ true =
      and_from (nat_lt r (length (role_bounds unit))) (nat_lt p (length (run_of s).persons))
      (lt-ltb r (length (role_bounds unit)) role) (lt-ltb p (length (run_of s).persons) (rw counted person)) in
      ap (λ roles. Some (truth_datum (is_member_among roles (persons_of s.rows) r p))) own.roles
      ∙ sym (ap (λ b. provided b (truth_datum (is_member_among (role_bounds unit) (persons_of s.rows) r p))) both)
  member_seen r p None is = by (there r p) refl
    where
      by : (b : Bool) → there r p ≡ b
          → None ≡ provided b (truth_datum (is_member_among (role_bounds unit) (persons_of s.rows) r p))
      by false both = refl
      by true both =
          let parts = and_parts (nat_lt r (length (role_bounds unit))) (nat_lt p (length (run_of s).persons)) both in
          let counted : length (run_of s).persons ≡ length s.rows = persons_counted s in
          let person = rw counted at (ltb-true p (length (run_of s).persons) parts.1) in
          let has = slot_of_member unit (length s.rows) r p person (ltb-true r (length (role_bounds unit)) parts.0) in
          some_is_some has.slot (sym is ∙ at (member_cell r p) ∙ has.at)

  roster_seen : (found : Option ℕ) → slot_in s.layout (length s.rows) Roster ≡ found
      → (found >>= seen_in_slot s Roster) ≡ Some (number_datum (pos (length (run_of s).persons)))
  roster_seen (Some slot) is = ap (λ n. Some (number_datum (pos n))) (sym (persons_counted s))
  roster_seen None is =
      let has = slot_of_roster unit (length s.rows) in
      some_is_some has.slot (sym is ∙ at Roster ∙ has.at)

  cell_seen : (name : CellName) → (seen_of s).value name ≡ cell_of unit (run_of s) name
  unfolding cell_of
  cell_seen (Member r p) = member_seen r.0 p.0 (slot_in s.layout (length s.rows) (Member r p)) refl
  cell_seen Roster = roster_seen (slot_in s.layout (length s.rows) Roster) refl
  cell_seen _ = refl

  pub seen_same : seen_of s ≡ seen_in unit (run_of s)
  seen_same = λ i. record { persons = sym (persons_counted s) i; value = λ name. cell_seen name i }
