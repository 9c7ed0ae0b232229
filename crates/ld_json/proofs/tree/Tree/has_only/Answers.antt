use Rattle.std.proofs.Common.{◌≡◌, Some, ap, ◌∙◌, rules}
use Rattle.json.specs.Find as json_find
use Rattle.json.specs.Value.{value_view, members_view}
use Rattle.ld_json.proofs.Trees.{listing_of_tree}
use Rattle.ld_json.proofs.tree.Tree.has_only.Goals as goal

pub returns-in_ok-members_of-in-Read : goal.returns-in_ok-members_of-in-Read
returns-in_ok-members_of-in-Read c =
    let j = value_view c.in-Read.value.now in
    let members = c.in_ok-members_of-in-Read.field-0.now in
    let is : Some (members_view members) ≡ json_find.as_object j = search rules in
    rw c.in-Read.is (ap Some c.are_listed.ensures ∙ listing_of_tree c.args.names.now j members is)
