-- What a node gives, and which fault it has where it does not give it.
use Rattle.std.specs.Prelude.{ℕ, ◌+◌, List, [], ◌∷◌, Bool, true, ◌&&◌, if◌then◌else◌, Option, Some, None, option_and_then, IsSome}
use Rattle.std.specs.List.{list_any}
use Rattle.std.specs.Str.{bytes_eq}
use Rattle.serde_json.specs.Data.{Data, Items, no_items, item, Members, no_members, member}
use Rattle.serde_json.specs.Find.{get, as_number, as_u64, as_bool, as_str, as_array, as_object}
use Rattle.ld_json.specs.declared.code.Code.TheVariants.{WrongShape, UnknownMember, Missing}
use Rattle.ld_json.specs.Node.{Placed, item_node}
use Rattle.ld_json.specs.Places.{member_place}
use Rattle.ld_json.specs.Fault.{Told, node_fault}

-- The node is an object.
abbrev pub IsObject : Placed → Type 0
IsObject node = IsSome (as_object node.tree)

-- The node is an array.
abbrev pub IsArray : Placed → Type 0
IsArray node = IsSome (as_array node.tree)

-- The number, where the tree is one that serde_json reads as a u64.
abbrev pub whole_of : Data → Option ℕ
whole_of tree = option_and_then as_u64 (as_number tree)

-- A node of another shape than is wanted has one fault, at its own place.
abbrev pub wrong_shape_faults : {A : Type 0} → Placed → Option A → List Told
wrong_shape_faults node (Some _) = []
wrong_shape_faults node None = node_fault node WrongShape ∷ []

-- The node is to be a text.
abbrev pub not_text_faults : Placed → List Told
not_text_faults node = wrong_shape_faults node (as_str node.tree)

-- The node is to be such a number.
abbrev pub whole_faults : Placed → List Told
whole_faults node = wrong_shape_faults node (whole_of node.tree)

-- The node is to be true or false.
abbrev pub flag_faults : Placed → List Told
flag_faults node = wrong_shape_faults node (as_bool node.tree)

-- The node is to be an array.
abbrev pub list_faults : Placed → List Told
list_faults node = wrong_shape_faults node (as_array node.tree)

-- The name of the only member of an object.
abbrev pub only_name : Members → Option (List ℕ)
only_name no_members = None
only_name (member name _ no_members) = Some name
only_name (member _ _ (member _ _ _)) = None

-- The name of the only member, where the tree is an object with just one.
abbrev pub sole_of : Data → Option (List ℕ)
sole_of tree = option_and_then only_name (as_object tree)

-- The node is to be an object with just one member.
abbrev pub sole_faults : Placed → List Told
sole_faults node = wrong_shape_faults node (sole_of node.tree)

-- Each member has one of these names.
abbrev pub all_listed : List (List ℕ) → Members → Bool
all_listed names no_members = true
all_listed names (member name _ rest) = list_any (bytes_eq name) names && all_listed names rest

-- No object, or an object with a member of another name.
abbrev pub listing_faults : List (List ℕ) → Placed → Option Members → List Told
listing_faults names node None = node_fault node WrongShape ∷ []
listing_faults names node (Some members) = if all_listed names members then [] else node_fault node UnknownMember ∷ []

-- The node is to be an object, and each of its members is to have one of these names.
abbrev pub only_faults : List (List ℕ) → Placed → List Told
only_faults names node = listing_faults names node (as_object node.tree)

-- The object has no member of this name. The fault stands at the place that the member would have.
abbrev pub missing_at : Placed → List ℕ → Told
missing_at node name = record { file = node.file; place = member_place node.place name; code = Missing }

-- This fault, where nothing is there.
abbrev pub absence_faults : Told → Option Data → List Told
absence_faults absent (Some _) = []
absence_faults absent None = absent ∷ []

-- The object is to have a member of this name.
abbrev pub member_faults : List ℕ → Placed → List Told
member_faults name node = absence_faults (missing_at node name) (get name node.tree)

-- The nodes of these elements, the first of which has this index.
abbrev pub nodes_from : Placed → ℕ → Items → List Placed
nodes_from node index no_items = []
nodes_from node index (item tree rest) = item_node node index tree ∷ nodes_from node (index + 1) rest

-- The nodes of the elements, if there are any.
abbrev pub nodes_of : Placed → Option Items → List Placed
nodes_of node None = []
nodes_of node (Some elements) = nodes_from node 0 elements

-- The nodes of an array's elements, in order.
abbrev pub item_nodes : Placed → List Placed
item_nodes node = nodes_of node (as_array node.tree)
