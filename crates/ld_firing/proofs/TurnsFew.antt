-- That a valid unit allows few turns.
use Rattle.std.proofs.Common.{◌≡◌, ℕ, ◌≤◌, List, length, Option, Some, None, Bool, true, ◌&&◌, nat_le}
use Rattle.std.proofs.lemmas.Bool.{leb-true}
use Rattle.ld_base.specs.Identifier.{has_identifier_form}
use Rattle.ld_model.specs.declared.unit.Unit.{Unit}
use Rattle.ld_formats.specs.Units.{is_well_formed, unit as unit_shape, parts, method_documents, head, content_members, format, declared_parts, head_and_conditions}
use Rattle.ld_value.proofs.Choices.{and_left, and_right}

abbrev has_title_form : Option (List ℕ) → Bool
has_title_form None = true
has_title_form (Some text) = nat_le 1 (length text) && nat_le (length text) 256

in_the_middle : (first middle rest : Bool) → (first && (middle && rest)) ≡ true → middle ≡ true
in_the_middle first middle rest all = and_left middle rest (and_right first (middle && rest) all)

third : (first second rest : Bool) → (first && (second && rest)) ≡ true → rest ≡ true
third first second rest all = and_right second rest (and_right first (second && rest) all)

-- A well-formed unit allows at most 256 turns.
pub turns_are_few : (unit : Unit) → is_well_formed unit ≡ true → unit.turns ≤ 256
unfolding is_well_formed unit_shape method_documents head content_members
turns_are_few unit formed =
    let own = in_the_middle (parts.has_form (declared_parts unit)) (head.has_form (head_and_conditions unit).0) _ formed in
    let behind = third (format.has_form unit.format) (has_identifier_form unit.identifier) _ own in
    let turns = in_the_middle (has_title_form unit.title) (nat_le 1 unit.turns && nat_le unit.turns 256) _ behind in
    leb-true unit.turns 256 (and_right (nat_le 1 unit.turns) (nat_le unit.turns 256) turns)
