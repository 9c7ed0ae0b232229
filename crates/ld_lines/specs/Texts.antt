-- The tokens of a line, as the elements that they stand for.
use Rattle.std.specs.Prelude.{List, [], ◌∷◌}
use Rattle.json.specs.Token.{Token}
use Rattle.serde_json.specs.Data.{null, string, Items, no_items, item}

-- One element that is no text, as which everything counts that is no array of texts.
abbrev pub no_text : Items
no_text = item null no_items

-- Nothing stands behind the array.
abbrev pub no_more : List Token → Items
no_more [] = no_items
no_more (t ∷ ts) = no_text

-- The texts up to the bracket that closes the array.
abbrev pub texts_left : List Token → Items
texts_left [] = no_text
texts_left (Token.begin_object ∷ ts) = no_text
texts_left (Token.end_object ∷ ts) = no_text
texts_left (Token.begin_array ∷ ts) = no_text
texts_left (Token.end_array ∷ ts) = no_more ts
texts_left (Token.key s ∷ ts) = no_text
texts_left (Token.string s ∷ ts) = item (string s) (texts_left ts)
texts_left (Token.number s ∷ ts) = no_text
texts_left (Token.boolean b ∷ ts) = no_text
texts_left (Token.null ∷ ts) = no_text
texts_left (Token.bad ∷ ts) = no_text

-- The texts of an array.
abbrev pub texts_of_array : List Token → Items
texts_of_array [] = no_text
texts_of_array (Token.begin_object ∷ ts) = no_text
texts_of_array (Token.end_object ∷ ts) = no_text
texts_of_array (Token.begin_array ∷ ts) = texts_left ts
texts_of_array (Token.end_array ∷ ts) = no_text
texts_of_array (Token.key s ∷ ts) = no_text
texts_of_array (Token.string s ∷ ts) = no_text
texts_of_array (Token.number s ∷ ts) = no_text
texts_of_array (Token.boolean b ∷ ts) = no_text
texts_of_array (Token.null ∷ ts) = no_text
texts_of_array (Token.bad ∷ ts) = no_text
