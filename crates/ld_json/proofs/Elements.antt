-- The nodes of an array's elements, one by one.
use Rattle.std.proofs.Common.{◌≡◌, ℕ, zero, suc, ◌+◌, ◌<◌, List, [], ◌∷◌, length, drop, get_or, slice_get, Option, Some, None, IsSome, option_map, refl, sym, ap, ◌∙◌, add-zero, add-one, arith}
use Rattle.std.proofs.lemmas.Option.{slice_get-get_or}
use Rattle.serde_json.specs.Data.{Data, null, boolean, number, string, array, object, Items, no_items, item}
use Rattle.serde_json.specs.Find.{as_array, at, get_item}
use Rattle.serde_json.specs.Events.{items_len}
use Rattle.ld_json.specs.Access.{nodes_from, nodes_of, item_nodes}
use Rattle.ld_json.specs.Node.{Placed, item_node}

length-nodes_from : (node : Placed) (start : ℕ) (elements : Items) → items_len elements ≡ length (nodes_from node start elements)
length-nodes_from node start no_items = refl
length-nodes_from node start (item tree rest) = ap (λ n. suc n) (length-nodes_from node (start + 1) rest)

count_nodes_of : (node : Placed) (count : ℕ) (elements : Option Items) → Some count ≡ option_map items_len elements → count ≡ length (nodes_of node elements)
count_nodes_of node count None is = cc
count_nodes_of node count (Some elements) is = let same : count ≡ items_len elements = cc in same ∙ length-nodes_from node 0 elements

-- An array has as many nodes as elements.
pub count_nodes : (node : Placed) (count : ℕ) → Some count ≡ option_map items_len (as_array node.tree) → count ≡ length (item_nodes node)
count_nodes node count is = count_nodes_of node count (as_array node.tree) is

get-nodes_from : (node : Placed) (start index : ℕ) (elements : Items) → slice_get (nodes_from node start elements) index ≡ option_map (item_node node (start + index)) (get_item index elements)
get-nodes_from node start index no_items = refl
get-nodes_from node start zero (item tree rest) = ap (λ n. Some (item_node node n tree)) (sym (add-zero start))
get-nodes_from node start (suc index) (item tree rest) =
    let same : (start + 1) + index ≡ start + suc index = omega arith in
    get-nodes_from node (start + 1) index rest ∙ ap (λ n. option_map (item_node node n) (get_item index rest)) same

get-nodes_of : (node : Placed) (index : ℕ) (tree : Data) → slice_get (nodes_of node (as_array tree)) index ≡ option_map (item_node node index) (at index tree)
get-nodes_of node index null = refl
get-nodes_of node index (boolean b) = refl
get-nodes_of node index (number n) = refl
get-nodes_of node index (string s) = refl
get-nodes_of node index (array elements) =
    let same : 0 + index ≡ index = omega arith in
    get-nodes_from node 0 index elements ∙ ap (λ n. option_map (item_node node n) (get_item index elements)) same
get-nodes_of node index (object ms) = refl

-- The node at an index is that of the element there.
pub get_item_nodes : (node : Placed) (index : ℕ) → slice_get (item_nodes node) index ≡ option_map (item_node node index) (at index node.tree)
get_item_nodes node index = get-nodes_of node index node.tree

some_under : {A B : Type 0} (f : A → B) (o : Option A) (y : B) → option_map f o ≡ Some y → IsSome o
some_under f None y is = cc
some_under f (Some x) y is = refl

-- An index below the count has an element.
pub at_within : (node : Placed) (index : ℕ) → index < length (item_nodes node) → IsSome (at index node.tree)
at_within node index within =
    some_under (item_node node index) (at index node.tree) (get_or (item_nodes node) index node) (sym (get_item_nodes node index) ∙ slice_get-get_or (item_nodes node) index node within)

-- What is left of a list from an element on.
pub drop_at : {A : Type 0} (xs : List A) (index : ℕ) (x : A) → slice_get xs index ≡ Some x → drop index xs ≡ x ∷ drop (index + 1) xs
drop_at [] index x is = cc
drop_at (y ∷ ys) zero x is = let same : y ≡ x = cc in ap (λ z. z ∷ ys) same
drop_at (y ∷ ys) (suc index) x is = rw (add-one (suc index)) (drop_at ys index x is ∙ rw add-one)
