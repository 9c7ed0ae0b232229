use Rattle.std.proofs.Common.{◌≡◌, ◌∙◌, ℕ, List, Option, Some, None, ap, ap₂, is_some, option_copied, option_map, refl, sym}
use Rattle.std.specs.Borrow.{Bor}
use Rattle.ld_base.specs.Maybe.{◌>>=◌}
use Rattle.ld_model.specs.Counting.{number_where}
use Rattle.ld_model.specs.declared.cell.Owner.{Owner}
use Rattle.ld_expr.specs.Seen.{property_cell}
use Rattle.ld_roles.specs.Kept.{persons_of}
use Rattle.ld_sharing.specs.Globals.{has_uri}
use Rattle.ld_sharing.specs.Readable.{owner_named}
use Rattle.ld_sharing.proofs.KeyCells.{found_cell}
use Rattle.ld_sharing.proofs.finding.find_cell.Goals as goal

-- Whether a name is given.
is_given : (name : Option (Bor (List ℕ))) → is_some name ≡ is_some (option_copied name)
is_given None = refl
is_given (Some name) = refl

pub returns : goal.returns
returns c =
    let unit = c.args.unit.now in
    let uri = c.args.uri.now.bytes in
    let persons = persons_of c.args.state.now.rows in
    let person = option_copied c.args.person in
    let n = c.in-Some.property.0 in
    let owner = c.in-Some-find_owner.owner in
    let number : Some n ≡ number_where (has_uri uri (is_some person)) unit.properties =
    sym (ap (option_map (λ property. property.0)) c.in-Some.is) ∙ c.in_ok-property.ensures
    ∙ ap (λ personal. number_where (has_uri uri personal) unit.properties) (c.is_some.ensures ∙ is_given c.args.person) in
    let who : Some owner ≡ owner_named persons person = sym c.in-Some-find_owner.is ∙ c.find_owner.ensures in
    ap₂ (λ (found : Option ℕ) (one : Option Owner). found >>= λ m. one >>= λ o. Some (property_cell m o)) number who
    ∙ found_cell unit persons uri person
