-- What is found in a value of the `json` library is what serde_json finds in the tree for which it stands.
use Rattle.std.proofs.Common.{◌≡◌, ℕ, zero, suc, ◌+◌, ◌<◌, ◌≤◌, List, [], ◌∷◌, length, drop, get_or, map, Bool, true, false, ◌&&◌, Option, Some, None, is_some, option_map, option_and_then, Bor, Ordering, Less, Equal, Greater, nat_cmp, is_eq, cond, bytes_eq, Global, true≢false, refl, sym, ap, ◌∙◌}
use Rattle.std.proofs.lemmas.List.{drop_more}
use Rattle.std.proofs.lemmas.Map.Text.{is_eq-slice_cmp}
use Rattle.std.proofs.lemmas.Slice.Eq.{bytes_eq-Decides}
use Rattle.std.specs.Cmp.Lexicographic.{slice_cmp}
use Rattle.std.specs.List.{list_any, list_all}
use Rattle.std.specs.Ordering.{match_ordering}
use Rattle.json.specs.Json as json
use Rattle.json.specs.Find as json_find
use Rattle.json.specs.Value.{value_view, items_view, members_view}
use Rattle.json.specs.declared.value.Value.{Value}
use Rattle.serde_json.specs.Data.{Num, Data, number, item, Members, no_members, member, put, depth}
use Rattle.serde_json.specs.Events.{items_len}
use Rattle.serde_json.specs.Find.{get, get_member, get_item, at, as_str, as_bool, as_number, as_array, as_object}
use Rattle.serde_json.specs.Read.{number_of, of_json, of_items, of_members, read, max_depth}
use Rattle.serde_json.specs.View.{items_view as built_items_view}
use Rattle.serde_json.specs.declared.value.Value as built
use Rattle.serde_json.proofs.Nesting.{depth-read}
use Rattle.serde_json.proofs.Views.{get_member-put, get_member-put_other, items_len-items_view}
use Rattle.ld_json.specs.Access.{only_name, all_listed}
use Rattle.ld_json.proofs.Listed.{list_any_map}
use Rattle.ld_json.specs.Trees.{number_tree, tree_of, trees_of, members_into, is_in_range, are_in_range, have_range, whole_value}

-- ---- what serde_json reads

is_none : {A : Type 0} (o : Option A) → is_some o ≡ false → o ≡ None
is_none None is = refl
is_none (Some a) is = absurd (true≢false is)

number_read : (o : Option Num) → is_some o ≡ true → option_map number o ≡ Some (number_tree o)
number_read None is = absurd (true≢false (sym is))
number_read (Some n) is = refl

left : (a b : Bool) → (a && b) ≡ true → a ≡ true
left true b is = refl
left false b is = is

right : (a b : Bool) → (a && b) ≡ true → b ≡ true
right true b is = is
right false b is = absurd (true≢false (sym is))

mutual
  read_in_range : (j : json.Json) → is_in_range j ≡ true → of_json j ≡ Some (tree_of j)
  read_in_range json.null is = refl
  read_in_range (json.boolean b) is = refl
  read_in_range (json.number s) is = number_read (number_of s) is
  read_in_range (json.string s) is = refl
  read_in_range (json.array js) is = rw (items_in_range js is)
  read_in_range (json.object ms) is = rw (members_in_range no_members ms is)

  items_in_range : (js : json.Items) → are_in_range js ≡ true → of_items js ≡ Some (trees_of js)
  items_in_range json.no_items is = refl
  items_in_range (json.item j js) is = rw (read_in_range j (left (is_in_range j) (are_in_range js) is)) (rw (items_in_range js (right (is_in_range j) (are_in_range js) is)))

  members_in_range : (found : Members) (ms : json.Members) → have_range ms ≡ true → of_members ms found ≡ Some (members_into found ms)
  members_in_range found json.no_members is = refl
  members_in_range found (json.member k j ms) is =
      rw (read_in_range j (left (is_in_range j) (have_range ms) is)) (members_in_range (put k (tree_of j) found) ms (right (is_in_range j) (have_range ms) is))

-- ---- what serde_json refuses

nothing_behind : {A B : Type 0} (o : Option A) (f : A → Option B) → ((a : A) → f a ≡ None) → option_and_then f o ≡ None
nothing_behind None f none = refl
nothing_behind (Some a) f none = none a

item_out_of_range : (here : Bool) (j : json.Json) (js : json.Items) → (is_in_range j ≡ false → of_json j ≡ None) → (are_in_range js ≡ false → of_items js ≡ None)
    → is_in_range j ≡ here → (here && are_in_range js) ≡ false → of_items (json.item j js) ≡ None
item_out_of_range false j js first rest here is = rw (first here)
item_out_of_range true j js first rest here is = nothing_behind (of_json j) (λ d. option_map (item d) (of_items js)) (λ d. rw (rest is))

member_out_of_range : (here : Bool) (found : Members) (k : List ℕ) (j : json.Json) (ms : json.Members) → (is_in_range j ≡ false → of_json j ≡ None) → ((more : Members) → have_range ms ≡ false → of_members ms more ≡ None)
    → is_in_range j ≡ here → (here && have_range ms) ≡ false → of_members (json.member k j ms) found ≡ None
member_out_of_range false found k j ms first rest here is = rw (first here)
member_out_of_range true found k j ms first rest here is = nothing_behind (of_json j) (λ d. of_members ms (put k d found)) (λ d. rest (put k d found) is)

mutual
  refused_out_of_range : (j : json.Json) → is_in_range j ≡ false → of_json j ≡ None
  refused_out_of_range json.null is = absurd (true≢false is)
  refused_out_of_range (json.boolean b) is = absurd (true≢false is)
  refused_out_of_range (json.number s) is = rw (is_none (number_of s) is)
  refused_out_of_range (json.string s) is = absurd (true≢false is)
  refused_out_of_range (json.array js) is = rw (items_out_of_range js is)
  refused_out_of_range (json.object ms) is = rw (members_out_of_range ms no_members is)

  items_out_of_range : (js : json.Items) → are_in_range js ≡ false → of_items js ≡ None
  items_out_of_range json.no_items is = absurd (true≢false is)
  items_out_of_range (json.item j js) is = item_out_of_range (is_in_range j) j js (refused_out_of_range j) (items_out_of_range js) refl is

  members_out_of_range : (ms : json.Members) (found : Members) → have_range ms ≡ false → of_members ms found ≡ None
  members_out_of_range json.no_members found is = absurd (true≢false is)
  members_out_of_range (json.member k j ms) found is = member_out_of_range (is_in_range j) found k j ms (refused_out_of_range j) (members_out_of_range ms) refl is

-- ---- whole texts

pub read_whole : (text : List ℕ) (j : json.Json) → whole_value text ≡ Some j → is_in_range j ≡ true → read text ≡ Some (tree_of j)
read_whole text j whole is = ap (option_and_then of_json) whole ∙ read_in_range j is

pub unread : (text : List ℕ) → whole_value text ≡ None → read text ≡ None
unread text nothing = ap (option_and_then of_json) nothing

pub unread_out_of_range : (text : List ℕ) (j : json.Json) → whole_value text ≡ Some j → is_in_range j ≡ false → read text ≡ None
unread_out_of_range text j whole is = ap (option_and_then of_json) whole ∙ refused_out_of_range j is

pub nests : (text : List ℕ) (j : json.Json) → whole_value text ≡ Some j → is_in_range j ≡ true → depth (tree_of j) ≤ max_depth
nests text j whole is = depth-read text (tree_of j) (read_whole text j whole is)

-- ---- texts, flags, numbers

number_is_no_text : (o : Option Num) → as_str (number_tree o) ≡ None
number_is_no_text None = refl
number_is_no_text (Some n) = refl

pub text_of_tree : (j : json.Json) → json_find.as_str j ≡ as_str (tree_of j)
text_of_tree json.null = refl
text_of_tree (json.boolean b) = refl
text_of_tree (json.number s) = sym (number_is_no_text (number_of s))
text_of_tree (json.string s) = refl
text_of_tree (json.array js) = refl
text_of_tree (json.object ms) = refl

number_is_no_flag : (o : Option Num) → as_bool (number_tree o) ≡ None
number_is_no_flag None = refl
number_is_no_flag (Some n) = refl

pub flag_of_tree : (j : json.Json) → json_find.as_bool j ≡ as_bool (tree_of j)
flag_of_tree json.null = refl
flag_of_tree (json.boolean b) = refl
flag_of_tree (json.number s) = sym (number_is_no_flag (number_of s))
flag_of_tree (json.string s) = refl
flag_of_tree (json.array js) = refl
flag_of_tree (json.object ms) = refl

number_is_number : (o : Option Num) → o ≡ as_number (number_tree o)
number_is_number None = refl
number_is_number (Some n) = refl

pub number_in_tree : (j : json.Json) → option_and_then number_of (json_find.as_number j) ≡ as_number (tree_of j)
number_in_tree json.null = refl
number_in_tree (json.boolean b) = refl
number_in_tree (json.number s) = number_is_number (number_of s)
number_in_tree (json.string s) = refl
number_in_tree (json.array js) = refl
number_in_tree (json.object ms) = refl

-- ---- elements

number_is_no_array : (o : Option Num) → as_array (number_tree o) ≡ None
number_is_no_array None = refl
number_is_no_array (Some n) = refl

array_of_tree : (j : json.Json) → option_map trees_of (json_find.as_array j) ≡ as_array (tree_of j)
array_of_tree json.null = refl
array_of_tree (json.boolean b) = refl
array_of_tree (json.number s) = sym (number_is_no_array (number_of s))
array_of_tree (json.string s) = refl
array_of_tree (json.array js) = refl
array_of_tree (json.object ms) = refl

count_trees : (vs : List (Value Global)) → items_len (trees_of (items_view vs)) ≡ length vs
count_trees [] = refl
count_trees (v ∷ vs) = ap suc (count_trees vs)

pub count_of_tree : (j : json.Json) (vs : List (Value Global)) → Some (items_view vs) ≡ json_find.as_array j → Some (length vs) ≡ option_map items_len (as_array (tree_of j))
count_of_tree j vs is =
    ap Some (sym (count_trees vs)) ∙ ap (λ o. option_map items_len (option_map trees_of o)) is ∙ ap (option_map items_len) (array_of_tree j)

pub count_of_built : (d : Data) (vs : List built.Value) → Some (built_items_view vs) ≡ as_array d → Some (length vs) ≡ option_map items_len (as_array d)
count_of_built d vs is = ap Some (sym (items_len-items_view vs)) ∙ ap (option_map items_len) is

item_of_trees : (i : ℕ) (js : json.Items) → option_map tree_of (json_find.get_item i js) ≡ get_item i (trees_of js)
item_of_trees i json.no_items = refl
item_of_trees zero (json.item j js) = refl
item_of_trees (suc i) (json.item j js) = item_of_trees i js

number_has_no_item : (i : ℕ) (o : Option Num) → at i (number_tree o) ≡ None
number_has_no_item i None = refl
number_has_no_item i (Some n) = refl

item_of_tree : (i : ℕ) (j : json.Json) → option_map tree_of (json_find.at i j) ≡ at i (tree_of j)
item_of_tree i json.null = refl
item_of_tree i (json.boolean b) = refl
item_of_tree i (json.number s) = sym (number_has_no_item i (number_of s))
item_of_tree i (json.string s) = refl
item_of_tree i (json.array js) = item_of_trees i js
item_of_tree i (json.object ms) = refl

pub item_found : (i : ℕ) (j k : json.Json) → Some k ≡ json_find.at i j → Some (tree_of k) ≡ at i (tree_of j)
item_found i j k is = ap (option_map tree_of) is ∙ item_of_tree i j

pub item_lacking : (i : ℕ) (j : json.Json) → None ≡ json_find.at i j → None ≡ at i (tree_of j)
item_lacking i j is = ap (option_map tree_of) is ∙ item_of_tree i j

-- ---- members

number_is_no_object : (o : Option Num) → as_object (number_tree o) ≡ None
number_is_no_object None = refl
number_is_no_object (Some n) = refl

pub object_of_tree : (j : json.Json) → option_map (members_into no_members) (json_find.as_object j) ≡ as_object (tree_of j)
object_of_tree json.null = refl
object_of_tree (json.boolean b) = refl
object_of_tree (json.number s) = sym (number_is_no_object (number_of s))
object_of_tree (json.string s) = refl
object_of_tree (json.array js) = refl
object_of_tree (json.object ms) = refl

-- The value that was put last, or else one that was there before.
abbrev last_or : Option json.Json → Option Data → Option Data
last_or None earlier = earlier
last_or (Some j) earlier = Some (tree_of j)

last_of_later : (o : Option json.Json) (same : Bool) (j : json.Json) (earlier : Option Data)
    → last_or (json_find.later_or o (cond same (Some j) None)) earlier ≡ last_or o (cond same (Some (tree_of j)) earlier)
last_of_later None true j earlier = refl
last_of_later None false j earlier = refl
last_of_later (Some i) same j earlier = refl

found_after_put : (same : Bool) (name k : List ℕ) (d : Data) (found : Members) → bytes_eq k name ≡ same → get_member name (put k d found) ≡ cond same (Some d) (get_member name found)
found_after_put true name k d found is =
    let equal : k ≡ name = (bytes_eq-Decides k name).0 is in
    rw (sym equal) (get_member-put k d found)
found_after_put false name k d found is = get_member-put_other name k d found (λ equal. true≢false (sym ((bytes_eq-Decides k name).1 (sym equal)) ∙ is))

member_of_all : (name : List ℕ) (found : Members) (ms : json.Members) → get_member name (members_into found ms) ≡ last_or (json_find.get_member name ms) (get_member name found)
member_of_all name found json.no_members = refl
member_of_all name found (json.member k j ms) =
    member_of_all name (put k (tree_of j) found) ms
    ∙ ap (last_or (json_find.get_member name ms)) (found_after_put (bytes_eq k name) name k (tree_of j) found refl)
    ∙ sym (last_of_later (json_find.get_member name ms) (bytes_eq k name) j (get_member name found))

last_or_nothing : (o : Option json.Json) → option_map tree_of o ≡ last_or o None
last_or_nothing None = refl
last_or_nothing (Some j) = refl

number_has_no_member : (name : List ℕ) (o : Option Num) → get name (number_tree o) ≡ None
number_has_no_member name None = refl
number_has_no_member name (Some n) = refl

member_of_tree : (name : List ℕ) (j : json.Json) → option_map tree_of (json_find.get name j) ≡ get name (tree_of j)
member_of_tree name json.null = refl
member_of_tree name (json.boolean b) = refl
member_of_tree name (json.number s) = sym (number_has_no_member name (number_of s))
member_of_tree name (json.string s) = refl
member_of_tree name (json.array js) = refl
member_of_tree name (json.object ms) = last_or_nothing (json_find.get_member name ms) ∙ sym (member_of_all name no_members ms)

pub member_found : (name : List ℕ) (j k : json.Json) → Some k ≡ json_find.get name j → Some (tree_of k) ≡ get name (tree_of j)
member_found name j k is = ap (option_map tree_of) is ∙ member_of_tree name j

pub member_lacking : (name : List ℕ) (j : json.Json) → None ≡ json_find.get name j → None ≡ get name (tree_of j)
member_lacking name j is = ap (option_map tree_of) is ∙ member_of_tree name j

-- ---- whether all names are listed

again : (a b : Bool) → (a && (a && b)) ≡ (a && b)
again true b = refl
again false b = refl

exchanged : (a b c : Bool) → (a && (b && c)) ≡ (b && (a && c))
exchanged true b c = refl
exchanged false true c = refl
exchanged false false c = refl

together : (a b c : Bool) → (b && (a && c)) ≡ ((a && b) && c)
together true b c = refl
together false true c = refl
together false false c = refl

equal_names : (k l : List ℕ) → slice_cmp nat_cmp k l ≡ Equal → k ≡ l
equal_names k l is = (bytes_eq-Decides k l).0 (sym (is_eq-slice_cmp k l) ∙ ap is_eq is)

listed_after_put_at : (o : Ordering) (names : List (List ℕ)) (k l : List ℕ) (d e : Data) (ms : Members) → slice_cmp nat_cmp k l ≡ o
    → all_listed names (put k d ms) ≡ (list_any (bytes_eq k) names && all_listed names ms)
    → all_listed names (match_ordering o (member k d (member l e ms)) (member l d ms) (member l e (put k d ms))) ≡ (list_any (bytes_eq k) names && all_listed names (member l e ms))
listed_after_put_at Less names k l d e ms is later = refl
listed_after_put_at Equal names k l d e ms is later = rw (equal_names k l is) (sym (again (list_any (bytes_eq l) names) (all_listed names ms)))
listed_after_put_at Greater names k l d e ms is later = rw later (exchanged (list_any (bytes_eq l) names) (list_any (bytes_eq k) names) (all_listed names ms))

listed_after_put : (names : List (List ℕ)) (k : List ℕ) (d : Data) (ms : Members) → all_listed names (put k d ms) ≡ (list_any (bytes_eq k) names && all_listed names ms)
listed_after_put names k d no_members = refl
listed_after_put names k d (member l e ms) = listed_after_put_at _ names k l d e ms refl (listed_after_put names k d ms)

abbrev pub Member : Type 0
Member = Bor (List ℕ) × Value Global

listed_into : (names : List (List ℕ)) (found : Members) (ms : List Member)
    → all_listed names (members_into found (members_view ms)) ≡ (list_all (λ m. list_any (bytes_eq m.0.now) names) ms && all_listed names found)
listed_into names found [] = refl
listed_into names found (m ∷ ms) =
    listed_into names (put m.0.now (tree_of (value_view m.1)) found) ms
    ∙ ap (λ b. list_all (λ x. list_any (bytes_eq x.0.now) names) ms && b) (listed_after_put names m.0.now (tree_of (value_view m.1)) found)
    ∙ together (list_any (bytes_eq m.0.now) names) (list_all (λ x. list_any (bytes_eq x.0.now) names) ms) (all_listed names found)

true_last : (b : Bool) → (b && true) ≡ b
true_last true = refl
true_last false = refl

each_listed : (names : List (Bor (List ℕ))) (ms : List Member)
    → list_all (λ m. list_any (bytes_eq m.0.now) (map (λ n. n.now) names)) ms ≡ list_all (λ m. list_any (λ n. bytes_eq m.0.now n.now) names) ms
each_listed names [] = refl
each_listed names (m ∷ ms) = rw (list_any_map (bytes_eq m.0.now) (λ n. n.now) names) (rw (each_listed names ms))

listed_of_all : (names : List (Bor (List ℕ))) (ms : List Member)
    → list_all (λ m. list_any (λ n. bytes_eq m.0.now n.now) names) ms ≡ all_listed (map (λ n. n.now) names) (members_into no_members (members_view ms))
listed_of_all names ms = sym (listed_into (map (λ n. n.now) names) no_members ms ∙ true_last (list_all (λ m. list_any (bytes_eq m.0.now) (map (λ n. n.now) names)) ms) ∙ each_listed names ms)

pub listing_of_tree : (names : List (Bor (List ℕ))) (j : json.Json) (ms : List Member) → Some (members_view ms) ≡ json_find.as_object j
    → Some (list_all (λ m. list_any (λ n. bytes_eq m.0.now n.now) names) ms) ≡ option_map (all_listed (map (λ n. n.now) names)) (as_object (tree_of j))
listing_of_tree names j ms is =
    ap Some (listed_of_all names ms)
    ∙ ap (λ o. option_map (all_listed (map (λ n. n.now) names)) (option_map (members_into no_members) o)) is
    ∙ ap (option_map (all_listed (map (λ n. n.now) names))) (object_of_tree j)

-- ---- the name of the only member

-- There are two members, or more.
abbrev are_many : Members → Bool
are_many no_members = false
are_many (member k d no_members) = false
are_many (member k d (member l e ms)) = true

no_only_name : (ms : Members) → are_many ms ≡ true → only_name ms ≡ None
no_only_name no_members many = absurd (true≢false (sym many))
no_only_name (member k d no_members) many = absurd (true≢false (sym many))
no_only_name (member k d (member l e ms)) many = refl

still_many_at : (o p : Ordering) (k l n : List ℕ) (d e f : Data) (ms : Members)
    → are_many (match_ordering o (member k d (member l e (member n f ms))) (member l d (member n f ms)) (member l e (match_ordering p (member k d (member n f ms)) (member n d ms) (member n f (put k d ms))))) ≡ true
still_many_at Less p k l n d e f ms = refl
still_many_at Equal p k l n d e f ms = refl
still_many_at Greater Less k l n d e f ms = refl
still_many_at Greater Equal k l n d e f ms = refl
still_many_at Greater Greater k l n d e f ms = refl

still_many : (k : List ℕ) (d : Data) (ms : Members) → are_many ms ≡ true → are_many (put k d ms) ≡ true
still_many k d no_members many = absurd (true≢false (sym many))
still_many k d (member l e no_members) many = absurd (true≢false (sym many))
still_many k d (member l e (member n f ms)) many = still_many_at (slice_cmp nat_cmp k l) (slice_cmp nat_cmp k n) k l n d e f ms

many_into : (found : Members) (ms : json.Members) → are_many found ≡ true → only_name (members_into found ms) ≡ None
many_into found json.no_members many = no_only_name found many
many_into found (json.member k j ms) many = many_into (put k (tree_of j) found) ms (still_many k (tree_of j) found many)

sole_into_at : (o : Ordering) (k l : List ℕ) (d e : Data) (ms : json.Members) (rest : Bool) → slice_cmp nat_cmp l k ≡ o
    → ((f : Data) → only_name (members_into (member k f no_members) ms) ≡ cond rest (Some k) None)
    → only_name (members_into (match_ordering o (member l d (member k e no_members)) (member k d no_members) (member k e (member l d no_members))) ms) ≡ cond (is_eq o && rest) (Some k) None
sole_into_at Less k l d e ms rest is later = many_into (member l d (member k e no_members)) ms refl
sole_into_at Equal k l d e ms rest is later = later d
sole_into_at Greater k l d e ms rest is later = many_into (member k e (member l d no_members)) ms refl

sole_into : (k : List ℕ) (e : Data) (ms : List Member) → only_name (members_into (member k e no_members) (members_view ms)) ≡ cond (list_all (λ m. bytes_eq m.0.now k) ms) (Some k) None
sole_into k e [] = refl
sole_into k e (m ∷ ms) =
    sole_into_at (slice_cmp nat_cmp m.0.now k) k m.0.now (tree_of (value_view m.1)) e (members_view ms) (list_all (λ x. bytes_eq x.0.now k) ms) refl (λ f. sole_into k f ms)
    ∙ ap (λ b. cond (b && list_all (λ x. bytes_eq x.0.now k) ms) (Some k) None) (is_eq-slice_cmp m.0.now k)

pub sole_of_all : (m : Member) (ms : List Member) → only_name (members_into no_members (members_view (m ∷ ms))) ≡ cond (list_all (λ x. bytes_eq x.0.now m.0.now) ms) (Some m.0.now) None
sole_of_all m ms = sole_into m.0.now (tree_of (value_view m.1)) ms

-- ---- elements and members, one by one

pub elements_from : (vs : List (Value Global)) (i : ℕ) (v : Value Global) → i < length vs
    → are_in_range (items_view (drop i vs)) ≡ (is_in_range (value_view (get_or vs i v)) && are_in_range (items_view (drop (i + 1) vs)))
elements_from vs i v within = rw (drop_more vs i v within)

pub members_from : (ms : List Member) (i : ℕ) (m : Member) → i < length ms
    → have_range (members_view (drop i ms)) ≡ (is_in_range (value_view (get_or ms i m).1) && have_range (members_view (drop (i + 1) ms)))
members_from ms i m within = rw (drop_more ms i m within)
