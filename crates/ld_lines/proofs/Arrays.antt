-- What the tokens of a line tell is what its tree tells.
use Rattle.std.proofs.Common.{ℕ, suc, List, [], ◌∷◌, length, ◌≡◌, ◌⊎◌, inl, inr, false, Option, Some, None, IfSome, IsUtf8, refl, sym, ap, subst, ◌∙◌}
use Rattle.std.specs.Option.{option_map, option_and_then}
use Rattle.std.proofs.lemmas.Str.{is_utf8-from_IsUtf8}
use Rattle.json.specs.Token.{Token}
use Rattle.json.specs.Lex.{tokens}
use Rattle.json.specs.Json as json
use Rattle.serde_json.specs.Data.{Data, number, string, array, object, Items, item, no_members}
use Rattle.serde_json.specs.Read.{number_of, of_json, of_items, of_members}
use Rattle.serde_json.specs.Find.{as_array}
use Rattle.ld_json.specs.Json.{json_of}
use Rattle.ld_json.proofs.Json.{json_of-nothing}
use Rattle.ld_lines.specs.Commands.{command_of, line_in}
use Rattle.ld_lines.specs.Texts.{texts_left, texts_of_array}
use Rattle.ld_lines.proofs.Passing.{is_text, all_texts, line_of_texts}

-- The elements of an array that ends the tokens.
abbrev pub last_items : json.Items × List Token → Option Items
last_items (js, []) = of_items js
last_items (js, t ∷ ts) = None

-- The elements up to the closing bracket, read in as many turns as there are of these tokens. Values among them nest no deeper than the number, and one more.
abbrev pub more_items : ℕ → List Token → List Token → Option (json.Items × List Token)
more_items depth turns = json.items (json.value (suc depth)) (length turns)

-- The elements of the array whose opening bracket the tokens follow.
abbrev pub elements_in : ℕ → List Token → Option Items
elements_in depth ts = option_and_then last_items (more_items depth ts ts)

-- An array of other elements than texts, or no array.
abbrev pub IsOther : Option Items → Type 0
IsOther found = IfSome found (λ elements. all_texts elements ≡ false)

-- The tree of a text.

abbrev pub whole : Option (json.Json × List Token) → Option Items
whole found = option_and_then as_array (option_and_then of_json (option_and_then (λ p. json.if_last p.0 p.1) found))

whole_array : (found : Option (json.Items × List Token)) → whole (json.parse_map json.array found) ≡ option_and_then last_items found
whole_array None = refl
whole_array (Some (js, [])) = mapped (of_items js)
  where
    mapped : (found : Option Items) → option_and_then as_array (option_map array found) ≡ found
    mapped None = refl
    mapped (Some ds) = refl
whole_array (Some (js, t ∷ ts)) = refl

whole_other : (j : json.Json) (ts : List Token) → option_and_then as_array (of_json j) ≡ None → whole (Some (j, ts)) ≡ None
whole_other j [] other = other
whole_other j (t ∷ ts) other = refl

no_array : {A : Type 0} (make : A → Data) → ((x : A) → as_array (make x) ≡ None) → (found : Option A) → option_and_then as_array (option_map make found) ≡ None
no_array make other None = refl
no_array make other (Some x) = other x

whole_object : (found : Option (json.Members × List Token)) → whole (json.parse_map json.object found) ≡ None
whole_object None = refl
whole_object (Some (ms, ts)) = whole_other (json.object ms) ts (no_array object (λ _. refl) (of_members ms no_members))

-- An element that is no text, in front.

abbrev pub NotText : Option Data → Type 0
NotText found = IfSome found (λ d. is_text d ≡ false)

not_text : {A : Type 0} (make : A → Data) → ((x : A) → is_text (make x) ≡ false) → (found : Option A) → NotText (option_map make found)
not_text make other None = tt
not_text make other (Some x) = other x

item_other : (d : Option Data) → NotText d → (ds : Option Items) → IsOther (option_and_then (λ d. option_map (item d) ds) d)
item_other None other ds = tt
item_other (Some d) other None = tt
item_other (Some d) other (Some ds) = rw other refl

first_other : (j : json.Json) → NotText (of_json j) → (found : Option (json.Items × List Token)) → IsOther (option_and_then last_items (json.parse_map (json.item j) found))
first_other j other None = tt
first_other j other (Some (js, [])) = item_other (of_json j) other (of_items js)
first_other j other (Some (js, t ∷ ts)) = tt

-- What was read of the first value, and then of the values behind it.
abbrev pub first_then : Option (json.Json × List Token) → (List Token → Option (json.Items × List Token)) → Option Items
first_then found more = option_and_then last_items (option_and_then (λ q. json.parse_map (json.item q.0) (more q.1)) found)

first_array : (found : Option (json.Items × List Token)) (more : List Token → Option (json.Items × List Token)) → IsOther (first_then (json.parse_map json.array found) more)
first_array None more = tt
first_array (Some (js, ts)) more = first_other (json.array js) (not_text array (λ _. refl) (of_items js)) (more ts)

first_object : (found : Option (json.Members × List Token)) (more : List Token → Option (json.Items × List Token)) → IsOther (first_then (json.parse_map json.object found) more)
first_object None more = tt
first_object (Some (ms, ts)) more = first_other (json.object ms) (not_text object (λ _. refl) (of_members ms no_members)) (more ts)

-- A text in front.

first_text : (s : List ℕ) (found : Option (json.Items × List Token)) → option_and_then last_items (json.parse_map (json.item (json.string s)) found) ≡ option_map (item (string s)) (option_and_then last_items found)
first_text s None = refl
first_text s (Some (js, [])) = refl
first_text s (Some (js, t ∷ ts)) = refl

-- The elements are these texts, or both are other elements.
abbrev pub Same : Option Items → Items → Type 0
Same found texts = (found ≡ Some texts) ⊎ (IsOther found × (all_texts texts ≡ false))

same_behind_text : (s : List ℕ) (found : Option Items) (texts : Items) → Same found texts → Same (option_map (item (string s)) found) (item (string s) texts)
same_behind_text s found texts (inl is) = inl (ap (option_map (item (string s))) is)
same_behind_text s None texts (inr other) = inr (tt, other.1)
same_behind_text s (Some ds) texts (inr other) = inr (other.0, other.1)

same : (depth : ℕ) (ts : List Token) → Same (elements_in depth ts) (texts_left ts)
unfolding json.value json.items json.members
same depth [] = inr (tt, refl)
same depth (Token.begin_object ∷ ts) = inr (first_object _ (more_items depth ts), refl)
same depth (Token.end_object ∷ ts) = inr (tt, refl)
same depth (Token.begin_array ∷ ts) = inr (first_array _ (more_items depth ts), refl)
same depth (Token.end_array ∷ []) = inl refl
same depth (Token.end_array ∷ t ∷ ts) = inr (tt, refl)
same depth (Token.key s ∷ ts) = inr (tt, refl)
same depth (Token.string s ∷ ts) =
    subst (λ elements. Same elements (item (string s) (texts_left ts))) (sym (first_text s (more_items depth ts ts)))
    (same_behind_text s (elements_in depth ts) (texts_left ts) (same depth ts))
same depth (Token.number s ∷ ts) = inr (first_other (json.number s) (not_text number (λ _. refl) (number_of s)) (more_items depth ts ts), refl)
same depth (Token.boolean b ∷ ts) = inr (first_other (json.boolean b) refl (more_items depth ts ts), refl)
same depth (Token.null ∷ ts) = inr (first_other json.null refl (more_items depth ts ts), refl)
same depth (Token.bad ∷ ts) = inr (tt, refl)

-- The line.

other_line : (found : Option Items) → IsOther found → option_and_then line_in found ≡ None
other_line None other = refl
other_line (Some elements) other = line_of_texts elements other

same_line : (found : Option Items) (texts : Items) → Same found texts → option_and_then line_in found ≡ line_in texts
same_line found texts (inl is) = ap (option_and_then line_in) is
same_line found texts (inr other) = other_line found other.0 ∙ sym (line_of_texts texts other.1)

no_line : (found : Option Items) → found ≡ None → option_and_then line_in found ≡ None
no_line found is = ap (option_and_then line_in) is

line_of_tokens : (depth : ℕ) (ts : List Token) → option_and_then line_in (whole (json.value (suc (suc depth)) ts)) ≡ line_in (texts_of_array ts)
unfolding json.value
line_of_tokens depth [] = refl
line_of_tokens depth (Token.begin_object ∷ ts) = no_line _ (whole_object (json.members (json.value (suc depth)) (length ts) ts))
line_of_tokens depth (Token.end_object ∷ ts) = refl
line_of_tokens depth (Token.begin_array ∷ ts) =
    ap (option_and_then line_in) (whole_array (more_items depth ts ts)) ∙ same_line (elements_in depth ts) (texts_left ts) (same depth ts)
line_of_tokens depth (Token.end_array ∷ ts) = refl
line_of_tokens depth (Token.key s ∷ ts) = refl
line_of_tokens depth (Token.string s ∷ ts) = no_line _ (whole_other (json.string s) ts refl)
line_of_tokens depth (Token.number s ∷ ts) = no_line _ (whole_other (json.number s) ts (no_array number (λ _. refl) (number_of s)))
line_of_tokens depth (Token.boolean b ∷ ts) = no_line _ (whole_other (json.boolean b) ts refl)
line_of_tokens depth (Token.null ∷ ts) = no_line _ (whole_other json.null ts refl)
line_of_tokens depth (Token.bad ∷ ts) = refl

-- The command of a line in UTF-8 is the line that its tokens' texts are.
pub command_of_tokens : (bytes : List ℕ) → IsUtf8 bytes → command_of bytes ≡ line_in (texts_of_array (tokens bytes))
unfolding command_of json_of
command_of_tokens bytes utf8 = rw (is_utf8-from_IsUtf8 bytes utf8) (line_of_tokens 125 (tokens bytes))

-- A line that is not in UTF-8 is no command line.
pub no_command : (bytes : List ℕ) → (IsUtf8 bytes → ⊥) → command_of bytes ≡ None
unfolding command_of
no_command bytes other = rw (json_of-nothing bytes (λ utf8. absurd (other utf8))) refl
