-- The words of a line: the elements of a JSON array, read one after the other.
use Rattle.std.specs.Prelude.{ℕ, List, [], ◌∷◌, Bool, codes, Option, Some, None}
use Rattle.serde_json.specs.Data.{Items, no_items, item}
use Rattle.serde_json.specs.Find.{as_str}
use Rattle.std.specs.Str.{bytes_eq}
use Prim.Native.String.{String}
use Rattle.ld_base.specs.Identifier.{has_identifier_form}
use Rattle.ld_base.specs.Maybe.{provided}
use Rattle.std.specs.Option.{option_map, option_and_then}
use Rattle.ld_value.specs.Calendar.{moment_of}
use Rattle.ld_value.specs.Values.{is_uri}
use Rattle.ld_value.specs.declared.moment.Moment.{Moment}

-- A form of words: what the elements at the front are, and the elements behind them; nothing where they have another form.
abbrev pub Form : Type 0 → Type 0
Form A = Items → Option (A × Items)

-- What was found, and then another form of the elements behind it.
abbrev pub behind : {A B : Type 0} → Option (A × Items) → (A → Form B) → Option (B × Items)
behind None next = None
behind (Some found) next = next found.0 found.1

-- The same as an operator, by which forms stand one behind the other.
infixl 10 ◌followed_by◌
abbrev pub ◌followed_by◌ : {A B : Type 0} → Form A → (A → Form B) → Form B
(form followed_by next) elements = behind (form elements) next

-- No word: this is what was read.
abbrev pub give : {A : Type 0} → A → Form A
give x elements = Some (x, elements)

-- Nothing, whatever the words are.
abbrev pub no_words : {A : Type 0} → Form A
no_words _ = None

-- No word is left: this is what the line is.
abbrev pub ended_with : {A : Type 0} → A → Form A
ended_with x no_items = Some (x, no_items)
ended_with x (item _ _) = None

-- The next word, with the elements behind it, where it is anything.
abbrev pub next_word : {A : Type 0} → Option A → Items → Option (A × Items)
next_word None rest = None
next_word (Some x) rest = Some (x, rest)

-- One word: a text that is something.
abbrev pub word : {A : Type 0} → (List ℕ → Option A) → Form A
word meaning no_items = None
word meaning (item element rest) = next_word (option_and_then meaning (as_str element)) rest

-- The identifier that the text is.
abbrev pub identifier_in : List ℕ → Option (List ℕ)
identifier_in text = provided (has_identifier_form text) text

-- The uri that the text is.
abbrev pub uri_in : List ℕ → Option (List ℕ)
uri_in text = provided (is_uri text) text

-- The person that the text names: none where it is empty.
abbrev pub person_in : List ℕ → Option (Option (List ℕ))
person_in [] = Some None
person_in (b ∷ bytes) = option_map Some (identifier_in (b ∷ bytes))

-- The moment that the text names.
abbrev pub moment_in : List ℕ → Option Moment
moment_in text = option_map (λ seconds. record { 0 = seconds }) (moment_of text)

-- A text.
abbrev pub any_text : Form (List ℕ)
any_text = word Some

-- An identifier.
abbrev pub one_identifier : Form (List ℕ)
one_identifier = word identifier_in

-- A uri.
abbrev pub one_uri : Form (List ℕ)
one_uri = word uri_in

-- A person, or the empty text.
abbrev pub person_or_none : Form (Option (List ℕ))
person_or_none = word person_in

-- A moment.
abbrev pub one_moment : Form Moment
one_moment = word moment_in

-- The verb has these letters.
infix 20 ◌is◌
abbrev pub ◌is◌ : List ℕ → String → Bool
verb is letters = bytes_eq verb (codes letters)
