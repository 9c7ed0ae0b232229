-- The forms of single values in documents, and their shapes. (docs/FORMATS.md, "Documents")
use Rattle.std.specs.Prelude.{ℕ, List, length, Bool, ◌&&◌, nat_le, Option}
use Rattle.std.specs.List.{list_all}
use Rattle.serde_json.specs.Find.{as_str, as_bool}
use Rattle.ld_base.specs.Identifier.{has_identifier_form}
use Rattle.ld_base.specs.Maybe.{◌>>=◌, provided}
use Rattle.ld_json.specs.Access.{whole_of}
use Rattle.ld_shape.specs.Shapes.{Shape, leaf, plain}
use Rattle.ld_shape.specs.Keeping.{Keeps, tested, tested_keeps}
use Rattle.serde_json.specs.Data.{Data}

-- ---- forms

-- A number from one bound to the other.
abbrev pub is_between : ℕ → ℕ → ℕ → Bool
is_between least most number = nat_le least number && nat_le number most

-- The text has at least and at most this many bytes.
abbrev pub has_length : ℕ → ℕ → List ℕ → Bool
has_length least most text = is_between least most (length text)

-- A character of ASCII that is seen: from `!` to `~`.
abbrev pub is_visible_ascii : ℕ → Bool
is_visible_ascii b = nat_le 33 b && nat_le b 126

-- The text has 1 to this many bytes, all of them visible characters of ASCII.
abbrev pub is_address_of : ℕ → List ℕ → Bool
is_address_of most text = has_length 1 most text && list_all is_visible_ascii text

-- ---- texts, numbers and flags

-- True or false.
abbrev pub flag : Shape Bool
flag = plain as_bool

-- A flag that has to be true, which tells nothing more.
unfoldable pub true_of : Data → Option (Unit {0})
true_of tree = as_bool tree >>= λ flag. provided flag tt

-- A flag that has to be true, as a shape.
abbrev pub true_flag : Shape (Unit {0})
true_flag = plain true_of

-- A text of at least and at most this many bytes.
unfoldable pub text_within : ℕ → ℕ → Data → Option (List ℕ)
text_within least most tree = tested (has_length least most) (as_str tree)

-- A text that is read so has at least and at most this many bytes.
pub text_formed : (least most : ℕ) (tree : Data) → Keeps (has_length least most) (text_within least most tree)
unfolding text_within
text_formed least most tree = tested_keeps (has_length least most) (as_str tree)

-- A text of at least and at most this many bytes, as a shape.
abbrev pub text : ℕ → ℕ → Shape (List ℕ)
text least most = leaf (text_within least most) (has_length least most) (text_formed least most)

-- A title or a subject: 1 to 256 bytes.
abbrev pub title : Shape (List ℕ)
title = text 1 256

-- An identifier or a reference.
unfoldable pub identifier_of : Data → Option (List ℕ)
identifier_of tree = tested has_identifier_form (as_str tree)

-- What is read so has the form of an identifier.
pub identifier_formed : (tree : Data) → Keeps has_identifier_form (identifier_of tree)
unfolding identifier_of
identifier_formed tree = tested_keeps has_identifier_form (as_str tree)

-- An identifier or a reference, as a shape; what a reference names is asked later.
abbrev pub identifier : Shape (List ℕ)
identifier = leaf identifier_of has_identifier_form identifier_formed

-- 1 to this many visible characters of ASCII.
unfoldable pub address_of : ℕ → Data → Option (List ℕ)
address_of most tree = tested (is_address_of most) (as_str tree)

-- What is read so is 1 to this many visible characters of ASCII.
pub address_formed : (most : ℕ) (tree : Data) → Keeps (is_address_of most) (address_of most tree)
unfolding address_of
address_formed most tree = tested_keeps (is_address_of most) (as_str tree)

-- 1 to this many visible characters of ASCII, as a shape.
abbrev pub address : ℕ → Shape (List ℕ)
address most = leaf (address_of most) (is_address_of most) (address_formed most)

-- An address: 1 to 1,024 visible characters of ASCII.
abbrev pub href : Shape (List ℕ)
href = address 1024

-- The name that properties of several units share: 1 to 4,096 visible characters of ASCII.
abbrev pub uri : Shape (List ℕ)
uri = address 4096

-- A whole number from one bound to the other.
unfoldable pub number_within : ℕ → ℕ → Data → Option ℕ
number_within least most tree = tested (is_between least most) (whole_of tree)

-- A number that is read so lies between the bounds, or is one of them.
pub number_formed : (least most : ℕ) (tree : Data) → Keeps (is_between least most) (number_within least most tree)
unfolding number_within
number_formed least most tree = tested_keeps (is_between least most) (whole_of tree)

-- A whole number from one bound to the other, as a shape.
abbrev pub number : ℕ → ℕ → Shape ℕ
number least most = leaf (number_within least most) (is_between least most) (number_formed least most)
