-- What contracts see of a node: the part of a document at one place.
use Rattle.std.specs.Prelude.{ℕ, List, refl}
use Rattle.std.specs.Coded.{Coded, code_by, coded×, coded_ℕ, coded_list}
use Rattle.serde_json.specs.Data.{Data}
use Rattle.ld_json.specs.declared.file.FileNo.{FileNo}
use Rattle.ld_json.specs.contracts.file.FileNo as file_no
use Rattle.ld_json.specs.TreeCode.{coded_tree}
use Rattle.ld_json.specs.Places.{member_place, item_place}

-- A tree with the file and the place at which it stands.
pub record Placed : Type 0 where
  pub file : FileNo
  pub place : List ℕ
  pub tree : Data

-- It is stored as its three parts.
abbrev pub placed_code : Coded Placed
placed_code = code_by (FileNo × (List ℕ × Data)) (coded× file_no.the_row.coded (coded× (coded_list coded_ℕ) coded_tree)) (λ n. (n.file, (n.place, n.tree))) (λ p. record { file = p.0; place = p.1.0; tree = p.1.1 }) (λ _. refl)

-- The node of the member of this name, whose tree is given.
abbrev pub member_node : Placed → List ℕ → Data → Placed
member_node node name tree = record { file = node.file; place = member_place node.place name; tree = tree }

-- The node of the element at this index, whose tree is given.
abbrev pub item_node : Placed → ℕ → Data → Placed
item_node node index tree = record { file = node.file; place = item_place node.place index; tree = tree }
