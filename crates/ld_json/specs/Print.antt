-- How texts and trees are printed.
use Rattle.std.specs.Prelude.{ℕ, List}
use Rattle.serde_json.specs.Data.{string}
use Rattle.serde_json.specs.Written.{compact_text}

-- The text as a JSON text: between quotes, with serde_json's escapes.
abbrev pub json_text : List ℕ → List ℕ
json_text text = compact_text (string text)
