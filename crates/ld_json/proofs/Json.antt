-- What bytes are as JSON, by whether they are UTF-8.
use Rattle.std.proofs.Common.{ℕ, List, ◌≡◌, if◌then◌else◌, Option, Some, None, true, false, refl}
use Rattle.std.specs.Str.{IsUtf8, is_utf8}
use Rattle.std.proofs.lemmas.Str.{IsUtf8-from_is_utf8, is_utf8-from_IsUtf8}
use Rattle.serde_json.specs.Data.{Data}
use Rattle.serde_json.specs.Read.{read}
use Rattle.ld_json.specs.Json.{json_of}
use Rattle.ld_json.specs.Reads.{Reads}

pub json_of-reads : (bytes : List ℕ) (tree : Data) → IsUtf8 bytes → read bytes ≡ Some tree → json_of bytes ≡ Some tree
unfolding json_of
json_of-reads bytes tree utf8 reads = rw (is_utf8-from_IsUtf8 bytes utf8) reads

pub json_of-nothing : (bytes : List ℕ) → (IsUtf8 bytes → read bytes ≡ None) → json_of bytes ≡ None
unfolding json_of
json_of-nothing bytes nothing = elim (is_utf8 bytes) as (λ b. is_utf8 bytes ≡ b → (if b then read bytes else None) ≡ None) [
  | true ↦ λ is. nothing (IsUtf8-from_is_utf8 bytes is)
  | false ↦ λ _. refl
] refl

-- The same, of what a document was read from.
pub tree_read : (bytes : List ℕ) (tree : Data) → Reads bytes tree → json_of bytes ≡ Some tree
tree_read bytes tree reads = json_of-reads bytes tree reads.0 reads.1

is_none : (found : Option Data) → ((tree : Data) → found ≡ Some tree → ⊥) → found ≡ None
is_none None never = refl
is_none (Some tree) never = absurd (never tree refl)

pub no_tree : (bytes : List ℕ) → ((tree : Data) → Reads bytes tree → ⊥) → json_of bytes ≡ None
no_tree bytes never = json_of-nothing bytes (λ utf8. is_none (read bytes) (λ tree is. never tree (utf8, is)))
