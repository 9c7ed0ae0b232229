-- Elements of which one is no text are no command line.
use Rattle.std.proofs.Common.{ℕ, List, ◌≡◌, Bool, true, false, ◌&&◌, if◌then◌else◌, Option, Some, None, IfSome, refl, ap}
use Rattle.std.specs.Option.{option_map}
use Rattle.serde_json.specs.Data.{Data, null, boolean, number, string, array, object, Items, no_items, item}
use Rattle.ld_value.specs.declared.moment.Moment.{Moment}
use Rattle.ld_lines.specs.Words.{Form, behind, ◌followed_by◌, give, no_words, ended_with, next_word, word}
use Rattle.ld_lines.specs.Commands.{showing_command, property_command, command_of_verb, line_of_verb, line_of_words, line_in}

abbrev pub is_text : Data → Bool
is_text null = false
is_text (boolean b) = false
is_text (number n) = false
is_text (string s) = true
is_text (array ds) = false
is_text (object ms) = false

-- Whether all elements are texts.
abbrev pub all_texts : Items → Bool
all_texts no_items = true
all_texts (item d ds) = is_text d && all_texts ds

-- The form passes over no element that is no text.
record Passes {A : Type 0} (form : Form A) : Type 0 where
  leaves : (elements : Items) → all_texts elements ≡ false → IfSome (form elements) (λ found. all_texts found.1 ≡ false)

-- The form finds nothing where an element is no text.
record Refuses {A : Type 0} (form : Form A) : Type 0 where
  refuses : (elements : Items) → all_texts elements ≡ false → form elements ≡ None

-- One form, and then another.

behind_passes : {A B : Type 0} (found : Option (A × Items)) (next : A → Form B) → IfSome found (λ f. all_texts f.1 ≡ false) → ((x : A) → Passes (next x)) → IfSome (behind found next) (λ f. all_texts f.1 ≡ false)
behind_passes None next left passes = tt
behind_passes (Some found) next left passes = (passes found.0).leaves found.1 left

then_passes : {A B : Type 0} (form : Form A) (next : A → Form B) → Passes form → ((x : A) → Passes (next x)) → Passes (form followed_by next)
then_passes form next first passes = record { leaves = λ elements other. behind_passes (form elements) next (first.leaves elements other) passes }

behind_refuses : {A B : Type 0} (found : Option (A × Items)) (next : A → Form B) → IfSome found (λ f. all_texts f.1 ≡ false) → ((x : A) → Refuses (next x)) → behind found next ≡ None
behind_refuses None next left refuses = refl
behind_refuses (Some found) next left refuses = (refuses found.0).refuses found.1 left

then_refuses : {A B : Type 0} (form : Form A) (next : A → Form B) → Passes form → ((x : A) → Refuses (next x)) → Refuses (form followed_by next)
then_refuses form next first refuses = record { refuses = λ elements other. behind_refuses (form elements) next (first.leaves elements other) refuses }

-- Single forms.

next_passes : {A : Type 0} (found : Option A) (rest : Items) → all_texts rest ≡ false → IfSome (next_word found rest) (λ f. all_texts f.1 ≡ false)
next_passes None rest other = tt
next_passes (Some x) rest other = other

word_leaves : {A : Type 0} (meaning : List ℕ → Option A) (elements : Items) → all_texts elements ≡ false → IfSome (word meaning elements) (λ found. all_texts found.1 ≡ false)
word_leaves meaning no_items other = tt
word_leaves meaning (item null rest) other = tt
word_leaves meaning (item (boolean b) rest) other = tt
word_leaves meaning (item (number n) rest) other = tt
word_leaves meaning (item (string s) rest) other = next_passes (meaning s) rest other
word_leaves meaning (item (array ds) rest) other = tt
word_leaves meaning (item (object ms) rest) other = tt

word_passes : {A : Type 0} (meaning : List ℕ → Option A) → Passes (word meaning)
word_passes meaning = record { leaves = word_leaves meaning }

give_passes : {A : Type 0} (x : A) → Passes (give x)
give_passes x = record { leaves = λ elements other. other }

no_words_pass : (A : Type 0) → Passes (no_words {A = A})
no_words_pass A = record { leaves = λ elements other. tt }

end_finds : {A : Type 0} (x : A) (elements : Items) → all_texts elements ≡ false → ended_with x elements ≡ None
end_finds x no_items other = cc
end_finds x (item d ds) other = refl

end_refuses : {A : Type 0} (x : A) → Refuses (ended_with x)
end_refuses x = record { refuses = end_finds x }

either_passes : {A : Type 0} (b : Bool) (first second : Form A) → Passes first → Passes second → Passes (if b then first else second)
either_passes true first second passes more = passes
either_passes false first second passes more = more

-- The forms of the verbs.

showing_passes : (verb : List ℕ) → Passes (showing_command verb)
unfolding showing_command
showing_passes verb = search (either_passes, then_passes, word_passes, give_passes, no_words_pass) depth 30

property_passes : (verb : List ℕ) → Passes (property_command verb)
unfolding property_command
property_passes verb = search (either_passes, then_passes, word_passes, give_passes, showing_passes) depth 30

command_passes : (verb : List ℕ) → Passes (command_of_verb verb)
unfolding command_of_verb
command_passes verb = search (either_passes, then_passes, word_passes, give_passes, property_passes) depth 30

line_passes : (moment : Moment) (verb : List ℕ) → Passes (line_of_verb moment verb)
unfolding line_of_verb
line_passes moment verb = search (either_passes, then_passes, word_passes, give_passes, command_passes) depth 30

line_refuses : Refuses line_of_words
line_refuses = search (then_refuses, word_passes, line_passes, end_refuses)

-- No line has an element that is no text.
pub line_of_texts : (elements : Items) → all_texts elements ≡ false → line_in elements ≡ None
line_of_texts elements other = ap (option_map (λ found. found.0)) (line_refuses.refuses elements other)
