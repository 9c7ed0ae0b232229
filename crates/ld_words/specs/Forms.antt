-- The forms that the words of a call may have. (docs/COMMANDS.md, "Words")
use Rattle.std.specs.Prelude.{ℕ, List, [], ◌∷◌, length, Bool, ◌&&◌, ◌-◌, ◌^◌, nat_le, Option, Some, None, option_map, codes, if◌then◌else◌}
use Rattle.std.specs.List.{list_all}
use Rattle.std.specs.Str.{all_ascii_digits, bytes_eq}
use Rattle.std.specs.Str.Parse.{digits_value}
use Rattle.ld_base.specs.Maybe.{◌>>=◌, provided}
use Rattle.ld_words.specs.Words.{is_plain_word}

-- What a call does, with what its words name for it.
pub data Form : Type 0 where
  replay_form : List (List ℕ) → Form
  check_form : List ℕ → Form
  canon_form : List ℕ → Form
  rank_form : List ℕ → Form
  keep_form : List (List ℕ) → Form
  -- With the number that chooses the lines, and how many persons there are.
  gen_form : ℕ → ℕ → Form

-- One word or more, but not too many.
abbrev pub is_up_to : ℕ → ℕ → Bool
is_up_to most n = nat_le 1 n && nat_le n most

-- The words, where they are 1 to 64. No two of them need differ.
abbrev pub some_words : List (List ℕ) → Option (List (List ℕ))
some_words words = provided (is_up_to 64 (length words)) words

-- The word, where there is just one.
abbrev pub only_word : List (List ℕ) → Option (List ℕ)
only_word [] = None
only_word (word ∷ []) = Some word
only_word (_ ∷ (_ ∷ _)) = None

-- The number that the word writes in 1 to `digits` decimal digits, if it lies between the two.
abbrev pub number_word : ℕ → ℕ → ℕ → List ℕ → Option ℕ
number_word digits least most word =
    provided (all_ascii_digits word && (is_up_to digits (length word)
    && (nat_le least (digits_value 10 word) && nat_le (digits_value 10 word) most))) (digits_value 10 word)

-- A number for the generator: ten digits at most, of less than 2^32.
abbrev pub seed_word : List ℕ → Option ℕ
seed_word = number_word 10 0 (2 ^ 32 - 1)

-- How many persons the generator is to have: 1 to 200.
abbrev pub persons_word : List ℕ → Option ℕ
persons_word = number_word 3 1 200

-- The form of the generator, where there are two words and each is such a number.
abbrev pub gen_words : List (List ℕ) → Option Form
gen_words (number ∷ (persons ∷ [])) = seed_word number >>= λ n. option_map (gen_form n) (persons_word persons)
gen_words _ = None

-- The form of a verb and of the words behind it.
abbrev pub form_behind : List ℕ → List (List ℕ) → Option Form
form_behind verb rest =
    if bytes_eq verb (codes "replay") then option_map replay_form (some_words rest)
    else if bytes_eq verb (codes "check") then option_map check_form (only_word rest)
    else if bytes_eq verb (codes "canon") then option_map canon_form (only_word rest)
    else if bytes_eq verb (codes "rank") then option_map rank_form (only_word rest)
    else if bytes_eq verb (codes "keep") then option_map keep_form (some_words rest)
    else if bytes_eq verb (codes "gen") then gen_words rest
    else None

-- The form of plain words.
abbrev pub form_of_plain : List (List ℕ) → Option Form
form_of_plain [] = None
form_of_plain (verb ∷ rest) = form_behind verb rest

-- The form of the words, if they have one: each of them is plain, and a verb has as many words behind it as it wants.
unfoldable pub form_in : List (List ℕ) → Option Form
form_in words = if list_all is_plain_word words then form_of_plain words else None
