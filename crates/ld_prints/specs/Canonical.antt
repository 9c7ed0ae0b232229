-- What it is for a tree to be canonical, said of the tree alone. (docs/FORMATS.md, "Canonical documents")
use Rattle.std.specs.Prelude.{◌≡◌, ℕ, List, [], ◌∷◌, Option, Some, is_none, option_map, find, Bool, true, not, ◌&&◌, codes}
use Rattle.std.specs.Cmp.Lexicographic.{slice_cmp}
use Rattle.std.specs.Ordering.{nat_cmp}
use Rattle.std.specs.Str.{bytes_eq}
use Rattle.std.proofs.Common.{Less}
use Rattle.serde_json.specs.Data.{Num, unsigned, negative, float, Data, null, boolean, number, string, array, object, Items, no_items, item, Members, no_members, member}
use Rattle.ld_value.specs.Duration.{span_text}

-- ---- what members may hold

-- What is meant where a member is not there: the names of such members, each with its default.
abbrev pub defaults : List (List ℕ × Data)
defaults =
    (codes "visible", boolean true)
    ∷ (codes "turns", number (unsigned 64))
    ∷ (codes "kind", string (codes "learning"))
    ∷ (codes "create-new", string (codes "not-allowed"))
    ∷ (codes "match-persons", string (codes "not-exclusively"))
    ∷ (codes "min-persons", number (unsigned 0))
    ∷ []

-- The default of the members of this name, if they have one.
abbrev pub default_of : List ℕ → Option Data
default_of name = option_map (λ row. row.1) (find (λ row. bytes_eq row.0 name) defaults)

-- The tree is the text of a span of time, as spans are printed.
abbrev pub IsSpan : Data → Type 0
IsSpan tree = (span : ℕ) × (tree ≡ string (span_text span))

-- A member of this name may hold the tree: it is not the default; and a span of time is as spans are printed.
pub record MayHold (name : List ℕ) (tree : Data) : Type 0 where
  pub told : default_of name ≡ Some tree → ⊥
  pub spans : name ≡ codes "time-limit" → IsSpan tree

-- Nothing is asked of what members of this name hold.
abbrev pub is_plain : List ℕ → Bool
is_plain name = is_none (default_of name) && not (bytes_eq name (codes "time-limit"))

-- ---- canonical trees

-- The number is a whole one from 0 up.
abbrev pub IsPlainNumber : Num → Type 0
IsPlainNumber (unsigned n) = Unit {0}
IsPlainNumber (negative n) = ⊥
IsPlainNumber (float x) = ⊥

-- The list has an element.
abbrev pub HasItem : Items → Type 0
HasItem no_items = ⊥
HasItem (item tree trees) = Unit {0}

-- The name comes before the first of the members, in the order of bytes.
abbrev pub ComesBefore : List ℕ → Members → Type 0
ComesBefore name no_members = Unit {0}
ComesBefore name (member next tree more) = slice_cmp nat_cmp name next ≡ Less

-- A canonical tree has no null, no empty list and no number but whole ones from 0 up. The names of its objects rise
-- in the order of bytes, and each of them may hold what stands there. So are all trees within it.
abbrev mutual
  pub IsCanonical : Data → Type 0
  IsCanonical null = ⊥
  IsCanonical (boolean flag) = Unit {0}
  IsCanonical (number n) = IsPlainNumber n
  IsCanonical (string text) = Unit {0}
  IsCanonical (array trees) = HasItem trees × EachCanonical trees
  IsCanonical (object members) = HoldCanonical members

  pub EachCanonical : Items → Type 0
  EachCanonical no_items = Unit {0}
  EachCanonical (item tree trees) = IsCanonical tree × EachCanonical trees

  pub HoldCanonical : Members → Type 0
  HoldCanonical no_members = Unit {0}
  HoldCanonical (member name tree more) =
      ComesBefore name more × (MayHold name tree × (IsCanonical tree × HoldCanonical more))
