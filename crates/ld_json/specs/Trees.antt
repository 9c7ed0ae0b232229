-- The tree that a value of the `json` library stands for, as serde_json takes that value.
use Rattle.std.specs.Prelude.{◌≡◌, ℕ, List, Bool, true, ◌&&◌, Option, Some, None, is_some, option_and_then, ⊤}
use Rattle.json.specs.Lex.{tokens}
use Rattle.json.specs.Json as json
use Rattle.json.specs.Value.{value_view}
use Rattle.serde_json.specs.Data.{Num, Data, null, boolean, number, string, array, object, Items, no_items, item, Members, no_members, put}
use Rattle.serde_json.specs.Read.{number_of, max_depth, read}
use Rattle.serde_json.specs.View.{view}
use Rattle.ld_json.specs.declared.tree.OwnedTree.{OwnedTree}
use Rattle.ld_json.specs.declared.tree.OwnedTree.TheVariants as owned
use Rattle.ld_json.specs.declared.tree.Tree.{Tree}
use Rattle.ld_json.specs.declared.tree.Tree.TheVariants as borrowed

-- The number that is written, where it is in range.
abbrev pub number_tree : Option Num → Data
number_tree (Some n) = number n
number_tree None = null

-- Members go in one after another, so a name that comes twice has its last value.
abbrev mutual
  pub tree_of : json.Json → Data
  tree_of json.null = null
  tree_of (json.boolean b) = boolean b
  tree_of (json.number s) = number_tree (number_of s)
  tree_of (json.string s) = string s
  tree_of (json.array js) = array (trees_of js)
  tree_of (json.object ms) = object (members_into no_members ms)

  pub trees_of : json.Items → Items
  trees_of json.no_items = no_items
  trees_of (json.item j js) = item (tree_of j) (trees_of js)

  pub members_into : Members → json.Members → Members
  members_into found json.no_members = found
  members_into found (json.member k j ms) = members_into (put k (tree_of j) found) ms

-- Each number is in the range that serde_json reads: none is too large for a float.
abbrev mutual
  pub is_in_range : json.Json → Bool
  is_in_range json.null = true
  is_in_range (json.boolean b) = true
  is_in_range (json.number s) = is_some (number_of s)
  is_in_range (json.string s) = true
  is_in_range (json.array js) = are_in_range js
  is_in_range (json.object ms) = have_range ms

  pub are_in_range : json.Items → Bool
  are_in_range json.no_items = true
  are_in_range (json.item j js) = is_in_range j && are_in_range js

  pub have_range : json.Members → Bool
  have_range json.no_members = true
  have_range (json.member k j ms) = is_in_range j && have_range ms

-- The value that a whole text is, where arrays and objects nest no deeper than serde_json reads.
abbrev pub whole_value : List ℕ → Option json.Json
whole_value text = option_and_then (λ p. json.if_last p.0 p.1) (json.value max_depth (tokens text))

-- The tree that a document keeps.
abbrev pub kept_tree : OwnedTree → Data
kept_tree (owned.Read text value) = tree_of (value_view value)
kept_tree (owned.Built tree) = view tree

-- A tree that was read is the one that serde_json reads from the text.
abbrev pub IsOfText : OwnedTree → Type 0
IsOfText (owned.Read text value) = read text.now ≡ Some (tree_of (value_view value))
IsOfText (owned.Built tree) = ⊤

-- The tree that a node looks at.
abbrev pub seen_tree : Tree → Data
seen_tree (borrowed.Read value) = tree_of (value_view value.now)
seen_tree (borrowed.Built tree) = view tree.now
