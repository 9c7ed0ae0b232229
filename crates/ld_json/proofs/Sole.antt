-- The only member of an object is there.
use Rattle.std.proofs.Common.{◌≡◌, ℕ, List, Some, IsSome, Equal, nat_cmp}
use Rattle.std.proofs.lemmas.Cmp.{nat_list_cmp_total, tied_itself}
use Rattle.std.specs.Cmp.Lexicographic.{slice_cmp}
use Rattle.serde_json.specs.Data.{Data, null, boolean, number, string, array, object, Members, no_members, member}
use Rattle.serde_json.specs.Find.{get, get_member}
use Rattle.ld_json.specs.Access.{sole_of, only_name}

same_name : (name : List ℕ) → slice_cmp nat_cmp name name ≡ Equal
same_name = tied_itself nat_list_cmp_total

get_member-first : (name : List ℕ) (tree : Data) (rest : Members) → get_member name (member name tree rest) ≡ Some tree
get_member-first name tree rest = rw (same_name name)

one_member : (members : Members) (name : List ℕ) → only_name members ≡ Some name → IsSome (get_member name members)
one_member no_members name only = cc
one_member (member key tree no_members) name only =
    let same : key ≡ name = cc in
    rw same (rw (get_member-first name tree no_members))
one_member (member _ _ (member _ _ _)) name only = cc

-- The only member of an object is there.
pub get_sole : (tree : Data) (name : List ℕ) → sole_of tree ≡ Some name → IsSome (get name tree)
get_sole null name only = cc
get_sole (boolean b) name only = cc
get_sole (number n) name only = cc
get_sole (string s) name only = cc
get_sole (array ds) name only = cc
get_sole (object ms) name only = one_member ms name only
