-- What a set of texts that were seen stands for.
use Rattle.std.specs.Prelude.{◌≡◌, ℕ, List}
use Rattle.std.specs.Borrow.{Bor}
use Rattle.std.specs.HashSet.{HashSet, contains_by}
use Rattle.std.specs.List.{list_any}
use Rattle.std.specs.Str.{bytes_eq}

-- The set has just these texts.
abbrev pub HasSeen : {S : Type 0} → HashSet (Bor (List ℕ)) S → List (List ℕ) → Type 0
HasSeen seen texts = (q : List ℕ) → contains_by (λ text. bytes_eq q text.now) seen ≡ list_any (bytes_eq q) texts
