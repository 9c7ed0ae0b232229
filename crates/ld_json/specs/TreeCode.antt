-- How the logic stores a JSON tree: each shape has a number of its own, and its parts follow it. No contract
-- reads more of it than that two trees which are stored alike are equal.
use Rattle.std.proofs.Common.{◌≡◌, ◌≢◌, ℕ, ℤ, Float, ◌⊎◌, inl, inr, refl, ap, arith}
use Rattle.std.specs.Coded.{Coded, code_by, coded_ℕ, coded_ℤ, coded_bool, coded_list, coded⊎}
use base.Stored.{Gv, gnil, gnum, gcons, coded_float}
use Rattle.serde_json.specs.Data.{Num, unsigned, negative, float, Data, null, boolean, number, string, array, object, Items, no_items, item, Members, no_members, member}

-- The first of the two that are stored together; where there are no two, nothing.
abbrev head : Gv → Gv
head gnil = gnil
head (gnum n) = gnil
head (gcons a b) = a

-- The second of the two that are stored together; where there are no two, nothing.
abbrev tail : Gv → Gv
tail gnil = gnil
tail (gnum n) = gnil
tail (gcons a b) = b

apart : (m n : ℕ) {a b : Gv} → gcons (gnum m) a ≡ gcons (gnum n) b → m ≢ n → ⊥
apart m n p other = other (cc)

-- A number as one of three sorts: without a sign, negative, or a float.
abbrev num_to : Num → ℕ ⊎ (ℤ ⊎ Float)
num_to (unsigned n) = inl n
num_to (negative z) = inr (inl z)
num_to (float x) = inr (inr x)

-- The number that is of one of these sorts.
abbrev num_from : ℕ ⊎ (ℤ ⊎ Float) → Num
num_from (inl n) = unsigned n
num_from (inr (inl z)) = negative z
num_from (inr (inr x)) = float x

-- A number that is taken as its sort and made of it again is the same.
pub num_from-num_to : (n : Num) → num_from (num_to n) ≡ n
num_from-num_to (unsigned n) = refl
num_from-num_to (negative z) = refl
num_from-num_to (float x) = refl

-- A number is stored as one of its sort.
abbrev pub coded_num : Coded Num
coded_num = code_by (ℕ ⊎ (ℤ ⊎ Float)) (coded⊎ coded_ℕ (coded⊎ coded_ℤ coded_float)) num_to num_from num_from-num_to

-- How a tree is stored, and the elements of an array and the members of an object in it.
abbrev mutual
  pub tree_code : Data → Gv
  tree_code null = gcons (gnum 0) gnil
  tree_code (boolean b) = gcons (gnum 1) (coded_bool.code b)
  tree_code (number n) = gcons (gnum 2) (coded_num.code n)
  tree_code (string s) = gcons (gnum 3) ((coded_list coded_ℕ).code s)
  tree_code (array ds) = gcons (gnum 4) (items_code ds)
  tree_code (object ms) = gcons (gnum 5) (members_code ms)

  pub items_code : Items → Gv
  items_code no_items = gcons (gnum 0) gnil
  items_code (item d ds) = gcons (gnum 1) (gcons (tree_code d) (items_code ds))

  pub members_code : Members → Gv
  members_code no_members = gcons (gnum 0) gnil
  members_code (member k d ms) = gcons (gnum 1) (gcons ((coded_list coded_ℕ).code k) (gcons (tree_code d) (members_code ms)))

-- Two trees that are stored alike are one tree; so are elements, and members.
mutual
  pub tree_inj : (x y : Data) → tree_code x ≡ tree_code y → x ≡ y
  tree_inj null null p = refl
  tree_inj null (boolean b1) p = absurd (apart 0 1 p (omega arith))
  tree_inj null (number n1) p = absurd (apart 0 2 p (omega arith))
  tree_inj null (string s1) p = absurd (apart 0 3 p (omega arith))
  tree_inj null (array ds1) p = absurd (apart 0 4 p (omega arith))
  tree_inj null (object ms1) p = absurd (apart 0 5 p (omega arith))
  tree_inj (boolean b0) null p = absurd (apart 1 0 p (omega arith))
  tree_inj (boolean b0) (boolean b1) p = λ i. boolean (coded_bool.inj b0 b1 (ap tail p) i)
  tree_inj (boolean b0) (number n1) p = absurd (apart 1 2 p (omega arith))
  tree_inj (boolean b0) (string s1) p = absurd (apart 1 3 p (omega arith))
  tree_inj (boolean b0) (array ds1) p = absurd (apart 1 4 p (omega arith))
  tree_inj (boolean b0) (object ms1) p = absurd (apart 1 5 p (omega arith))
  tree_inj (number n0) null p = absurd (apart 2 0 p (omega arith))
  tree_inj (number n0) (boolean b1) p = absurd (apart 2 1 p (omega arith))
  tree_inj (number n0) (number n1) p = λ i. number (coded_num.inj n0 n1 (ap tail p) i)
  tree_inj (number n0) (string s1) p = absurd (apart 2 3 p (omega arith))
  tree_inj (number n0) (array ds1) p = absurd (apart 2 4 p (omega arith))
  tree_inj (number n0) (object ms1) p = absurd (apart 2 5 p (omega arith))
  tree_inj (string s0) null p = absurd (apart 3 0 p (omega arith))
  tree_inj (string s0) (boolean b1) p = absurd (apart 3 1 p (omega arith))
  tree_inj (string s0) (number n1) p = absurd (apart 3 2 p (omega arith))
  tree_inj (string s0) (string s1) p = λ i. string ((coded_list coded_ℕ).inj s0 s1 (ap tail p) i)
  tree_inj (string s0) (array ds1) p = absurd (apart 3 4 p (omega arith))
  tree_inj (string s0) (object ms1) p = absurd (apart 3 5 p (omega arith))
  tree_inj (array ds0) null p = absurd (apart 4 0 p (omega arith))
  tree_inj (array ds0) (boolean b1) p = absurd (apart 4 1 p (omega arith))
  tree_inj (array ds0) (number n1) p = absurd (apart 4 2 p (omega arith))
  tree_inj (array ds0) (string s1) p = absurd (apart 4 3 p (omega arith))
  tree_inj (array ds0) (array ds1) p = λ i. array (items_inj ds0 ds1 (ap tail p) i)
  tree_inj (array ds0) (object ms1) p = absurd (apart 4 5 p (omega arith))
  tree_inj (object ms0) null p = absurd (apart 5 0 p (omega arith))
  tree_inj (object ms0) (boolean b1) p = absurd (apart 5 1 p (omega arith))
  tree_inj (object ms0) (number n1) p = absurd (apart 5 2 p (omega arith))
  tree_inj (object ms0) (string s1) p = absurd (apart 5 3 p (omega arith))
  tree_inj (object ms0) (array ds1) p = absurd (apart 5 4 p (omega arith))
  tree_inj (object ms0) (object ms1) p = λ i. object (members_inj ms0 ms1 (ap tail p) i)

  pub items_inj : (x y : Items) → items_code x ≡ items_code y → x ≡ y
  items_inj no_items no_items p = refl
  items_inj no_items (item d1 ds1) p = absurd (apart 0 1 p (omega arith))
  items_inj (item d0 ds0) no_items p = absurd (apart 1 0 p (omega arith))
  items_inj (item d0 ds0) (item d1 ds1) p = λ i. item (tree_inj d0 d1 (ap (λ g. head (tail g)) p) i) (items_inj ds0 ds1 (ap (λ g. tail (tail g)) p) i)

  pub members_inj : (x y : Members) → members_code x ≡ members_code y → x ≡ y
  members_inj no_members no_members p = refl
  members_inj no_members (member k1 d1 ms1) p = absurd (apart 0 1 p (omega arith))
  members_inj (member k0 d0 ms0) no_members p = absurd (apart 1 0 p (omega arith))
  members_inj (member k0 d0 ms0) (member k1 d1 ms1) p =
      λ i. member ((coded_list coded_ℕ).inj k0 k1 (ap (λ g. head (tail g)) p) i) (tree_inj d0 d1 (ap (λ g. head (tail (tail g))) p) i) (members_inj ms0 ms1 (ap (λ g. tail (tail (tail g))) p) i)

-- A tree is stored so, and no two trees alike.
abbrev pub coded_tree : Coded Data
coded_tree = record { code = tree_code; inj = tree_inj }
