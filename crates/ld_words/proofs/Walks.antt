-- What `clap` makes of words behind a verb, none of which is a flag.
use Rattle.std.proofs.Common.{◌≡◌, ◌∙◌, ℕ, ◌==◌, Bool, true, false, not, ◌&&◌, ◌||◌, List, [], ◌∷◌, ◌++◌, length, Some, None, option_and_then, refl, sym, ap, append-nil, append_assoc, true≢false, codes, nat_lt, if◌then◌else◌, bytes_eq}
use Rattle.std.specs.List.{list_all, fold}
use Rattle.std.specs.Option.{option_map_or}
use Rattle.clap.specs.Lexer.{long_of, long_of_rest, short_of, short_of_rest, strip_byte}
use Rattle.clap.specs.Walk.{Held, Rule, Text, Walk, idle, positional, value, trailing, walked, walk, walk_from, nothing_held, after_step, word_met, long_or_other, short_or_plain, settled, finished}
use Rattle.clap.specs.Simple.{Shape, built_leaf, inherited, filled, with_index}
use Rattle.clap.specs.Faults.{walk_fault, defaults_fault, level_fault, turn_fault, word_fault, step_fault, flag_word_fault, bundle_fault, settle_fault, check_fault}
use Rattle.clap.specs.Kinds.{Kinds, or_else, values_kinds, range_kinds}
use Rattle.clap.specs.declared.builder.value_parser.ValueParser.TheVariants as vp
use Rattle.clap.specs.declared.error.kind.ErrorKind.TheVariants as kind
use Rattle.ld_words.specs.App.{words_rule, verb_shape, bare_app}
use Rattle.ld_words.specs.Words.{is_plain_word}

-- ---- a plain word is no flag

first_is_no_dash : (b : ℕ) (bs : List ℕ) (test : Bool) → (b == 45) ≡ test → not test ≡ true
    → strip_byte 45 (b ∷ bs) ≡ None
first_is_no_dash b bs true is plain = absurd (true≢false (sym plain))
first_is_no_dash b bs false is plain = ap (λ t. if t then Some bs else None) is

no_dash : (word : List ℕ) → is_plain_word word ≡ true → strip_byte 45 word ≡ None
no_dash [] plain = absurd (true≢false (sym plain))
no_dash (b ∷ bs) plain = first_is_no_dash b bs (b == 45) refl plain

first_is_other : (b : ℕ) (bs : List ℕ) (test : Bool) → (b == 45) ≡ test → not test ≡ true
    → bytes_eq (b ∷ bs) (45 ∷ 45 ∷ []) ≡ false
first_is_other b bs true is plain = absurd (true≢false (sym plain))
first_is_other b bs false is plain = ap (λ t. t && bytes_eq bs (45 ∷ [])) is

pub no_dashes : (word : List ℕ) → is_plain_word word ≡ true → bytes_eq word (45 ∷ 45 ∷ []) ≡ false
no_dashes [] plain = absurd (true≢false (sym plain))
no_dashes (b ∷ bs) plain = first_is_other b bs (b == 45) refl plain

pub no_long : (word : List ℕ) → is_plain_word word ≡ true → long_of word ≡ None
no_long word plain =
    ap (λ o. option_and_then long_of_rest (option_and_then (strip_byte 45) o)) (no_dash word plain)

pub no_short : (word : List ℕ) → is_plain_word word ≡ true → short_of word ≡ None
no_short word plain = ap (λ o. option_and_then short_of_rest o) (no_dash word plain)

-- ---- a word behind a verb

abbrev pub rule_of_words : ℕ → Rule
rule_of_words most = with_index 1 (filled (words_rule most))

abbrev pub rules : ℕ → List Rule
rules most = rule_of_words most ∷ []

-- The verb as it is when the program is built.
abbrev pub leaf_of : Text → ℕ → Shape
leaf_of name most = built_leaf (inherited bare_app.top (verb_shape name most))

-- A plain word goes to a positional, where nothing waits for a value or a positional does.
met_idle : (c : List Rule) (position : ℕ) (word : Text) (h : Held) → is_plain_word word ≡ true
    → word_met c [] false idle position word h ≡ (h, value)
met_idle c position word h plain =
    ap (λ t. if t then (h, trailing position) else long_or_other c idle word (long_of word) h) (no_dashes word plain)
    ∙ ap (λ o. long_or_other c idle word o h) (no_long word plain)
    ∙ ap (λ o. short_or_plain c idle word o h) (no_short word plain)

met_positional : (c : List Rule) (position : ℕ) (word : Text) (h : Held) → is_plain_word word ≡ true
    → word_met c [] false positional position word h ≡ (h, value)
met_positional c position word h plain =
    ap (λ t. if t then (h, trailing position) else long_or_other c positional word (long_of word) h)
    (no_dashes word plain)
    ∙ ap (λ o. long_or_other c positional word o h) (no_long word plain)
    ∙ ap (λ o. short_or_plain c positional word o h) (no_short word plain)

-- Nor is it refused as a flag.
no_fault_idle : (s : Shape) (word : Text) (h : Held) → is_plain_word word ≡ true
    → word_fault s [] false idle word h ≡ []
no_fault_idle s word h plain =
    ap (λ t. if t then [] else flag_word_fault s.rules s.args_override_self (long_of word) word h)
    (no_dashes word plain)
    ∙ ap (λ o. flag_word_fault s.rules s.args_override_self o word h) (no_long word plain)
    ∙ ap (λ o. option_map_or (λ flags. bundle_fault s.rules s.args_override_self flags h) o []) (no_short word plain)

no_fault_positional : (s : Shape) (word : Text) (h : Held) → is_plain_word word ≡ true
    → word_fault s [] false positional word h ≡ []
no_fault_positional s word h plain =
    ap (λ t. if t then [] else flag_word_fault s.rules s.args_override_self (long_of word) word h)
    (no_dashes word plain)
    ∙ ap (λ o. flag_word_fault s.rules s.args_override_self o word h) (no_long word plain)
    ∙ ap (λ o. option_map_or (λ flags. bundle_fault s.rules s.args_override_self flags h) o []) (no_short word plain)

-- Where the walk stands behind words of a positional that takes several.
abbrev standing : List Text → Walk
standing words = record {
  held = record { rows = []; pending = Some (codes "words", words); skip = 0 };
  waiting = positional;
  position = 1;
  is_trailing = false;
  stopped = None;
}

pub or_nothing : (kinds : Kinds) → or_else kinds [] ≡ kinds
or_nothing [] = refl
or_nothing (k ∷ ks) = refl

texts_pass : (words : List Text) → values_kinds false vp.String words ≡ []
texts_pass [] = refl
texts_pass (word ∷ words) = texts_pass words

and_left : (a b : Bool) → (a && b) ≡ true → a ≡ true
and_left true b is = refl
and_left false b is = is

and_right : (a b : Bool) → (a && b) ≡ true → b ≡ true
and_right true b is = is
and_right false b is = absurd (true≢false (sym is))

pub first_plain : (word : Text) (words : List Text) → list_all is_plain_word (word ∷ words) ≡ true
    → is_plain_word word ≡ true
first_plain word words plain = and_left (is_plain_word word) (list_all is_plain_word words) plain

pub others_plain : (word : Text) (words : List Text) → list_all is_plain_word (word ∷ words) ≡ true
    → list_all is_plain_word words ≡ true
others_plain word words plain = and_right (is_plain_word word) (list_all is_plain_word words) plain

-- ---- a verb that takes several words

module _ (most : ℕ) (several : (not (1 == most) || nat_lt 1 1) ≡ true) (name : Text) where
  abbrev several_shape : Shape
  several_shape = leaf_of name most

  first_word : (word : Text) → is_plain_word word ≡ true
      → walked (rules most) [] (walk_from nothing_held) word ≡ standing (word ∷ [])
  unfolding walked
  first_word word plain =
      ap (λ met. after_step (rules most) word (walk_from nothing_held) met.0 met.1)
      (met_idle (rules most) 1 word nothing_held plain)
      ∙ rw several

  next_word : (words : List Text) (word : Text) → is_plain_word word ≡ true
      → walked (rules most) [] (standing words) word ≡ standing (words ++ word ∷ [])
  unfolding walked
  next_word words word plain =
      ap (λ met. after_step (rules most) word (standing words) met.0 met.1)
      (met_positional (rules most) 1 word (standing words).held plain)
      ∙ rw several

  next_words : (words more : List Text) → list_all is_plain_word more ≡ true
      → fold (walked (rules most) []) (standing words) more ≡ standing (words ++ more)
  next_words words [] plain = ap standing (sym (append-nil words))
  next_words words (word ∷ more) plain =
      ap (λ w. fold (walked (rules most) []) w more) (next_word words word (first_plain word more plain))
      ∙ next_words (words ++ word ∷ []) more (others_plain word more plain)
      ∙ ap standing (append_assoc words (word ∷ []) more)

  first_turn : (word : Text) → is_plain_word word ≡ true
      → turn_fault several_shape [] (walk_from nothing_held) word ≡ []
  first_turn word plain =
      ap (λ kinds. or_else kinds (step_fault several_shape 1
      (word_met (rules most) [] false idle 1 word nothing_held).0
      (word_met (rules most) [] false idle 1 word nothing_held).1))
      (no_fault_idle several_shape word nothing_held plain)
      ∙ ap (λ met. step_fault several_shape 1 met.0 met.1) (met_idle (rules most) 1 word nothing_held plain)

  next_turn : (words : List Text) (word : Text) → is_plain_word word ≡ true
      → turn_fault several_shape [] (standing words) word ≡ []
  next_turn words word plain =
      ap (λ kinds. or_else kinds (step_fault several_shape 1
      (word_met (rules most) [] false positional 1 word (standing words).held).0
      (word_met (rules most) [] false positional 1 word (standing words).held).1))
      (no_fault_positional several_shape word (standing words).held plain)
      ∙ ap (λ met. step_fault several_shape 1 met.0 met.1)
      (met_positional (rules most) 1 word (standing words).held plain)
      ∙ rw several

  next_turns : (words more : List Text) → list_all is_plain_word more ≡ true
      → walk_fault several_shape [] (standing words) more ≡ []
  unfolding walk_fault
  next_turns words [] plain = refl
  next_turns words (word ∷ more) plain =
      ap (λ kinds. or_else kinds (walk_fault several_shape [] (walked (rules most) [] (standing words) word) more))
      (next_turn words word (first_plain word more plain))
      ∙ ap (λ w. walk_fault several_shape [] w more) (next_word words word (first_plain word more plain))
      ∙ next_turns (words ++ word ∷ []) more (others_plain word more plain)

  all_turns : (word : Text) (more : List Text) → list_all is_plain_word (word ∷ more) ≡ true
      → walk_fault several_shape [] (walk_from nothing_held) (word ∷ more) ≡ []
  unfolding walk_fault
  all_turns word more plain =
      ap (λ kinds. or_else kinds (walk_fault several_shape []
      (walked (rules most) [] (walk_from nothing_held) word) more))
      (first_turn word (first_plain word more plain))
      ∙ ap (λ w. walk_fault several_shape [] w more) (first_word word (first_plain word more plain))
      ∙ next_turns (word ∷ []) more (others_plain word more plain)

  all_walked : (word : Text) (more : List Text) → list_all is_plain_word (word ∷ more) ≡ true
      → walk (rules most) [] nothing_held (word ∷ more) ≡ standing (word ∷ more)
  all_walked word more plain =
      ap (λ w. fold (walked (rules most) []) w more) (first_word word (first_plain word more plain))
      ∙ next_words (word ∷ []) more (others_plain word more plain)

  -- What is wrong with several words is their number.
  pub several_fault : (word : Text) (more : List Text) → list_all is_plain_word (word ∷ more) ≡ true
      → level_fault several_shape [] nothing_held (word ∷ more) false [] ≡ range_kinds 1 most (length (word ∷ more))
  unfolding defaults_fault
  several_fault word more plain =
      ap (λ kinds. or_else kinds (after_walk (walk (rules most) [] nothing_held (word ∷ more)).held))
      (all_turns word more plain)
      ∙ ap (λ (w : Walk). after_walk w.held) (all_walked word more plain)
      ∙ ap (λ kinds. or_else (or_else (range_kinds 1 most (length (word ∷ more))) kinds) []) (texts_pass (word ∷ more))
      ∙ or_nothing (or_else (range_kinds 1 most (length (word ∷ more))) [])
      ∙ or_nothing (range_kinds 1 most (length (word ∷ more)))
    where
      after_walk : Held → Kinds
      after_walk end = or_else [] (or_else (settle_fault (rules most) false end)
          (or_else (defaults_fault (settled (rules most) end).rows (rules most))
          (check_fault several_shape (finished (rules most) end) false)))

-- ---- a verb without words, and one that takes just one

-- Words are wanted.
pub none_fault : (name : Text) (most : ℕ)
    → level_fault (leaf_of name most) [] nothing_held [] false [] ≡ kind.MissingRequiredArgument ∷ []
unfolding walk_fault defaults_fault
none_fault name most = refl

-- Where the walk stands behind the word of a positional that takes just one.
abbrev behind_one : Text → Walk
behind_one word = record {
  held = record { rows = []; pending = Some (codes "words", word ∷ []); skip = 0 };
  waiting = idle;
  position = 2;
  is_trailing = false;
  stopped = None;
}

one_walked : (word : Text) → is_plain_word word ≡ true
    → walked (rules 1) [] (walk_from nothing_held) word ≡ behind_one word
unfolding walked
one_walked word plain =
    ap (λ met. after_step (rules 1) word (walk_from nothing_held) met.0 met.1) (met_idle (rules 1) 1 word nothing_held plain)

one_turn : (name word : Text) → is_plain_word word ≡ true
    → turn_fault (leaf_of name 1) [] (walk_from nothing_held) word ≡ []
one_turn name word plain =
    ap (λ kinds. or_else kinds (step_fault (leaf_of name 1) 1
    (word_met (rules 1) [] false idle 1 word nothing_held).0
    (word_met (rules 1) [] false idle 1 word nothing_held).1))
    (no_fault_idle (leaf_of name 1) word nothing_held plain)
    ∙ ap (λ met. step_fault (leaf_of name 1) 1 met.0 met.1) (met_idle (rules 1) 1 word nothing_held plain)

-- One word is as many as are wanted.
pub one_fault : (name word : Text) → is_plain_word word ≡ true
    → level_fault (leaf_of name 1) [] nothing_held (word ∷ []) false [] ≡ []
unfolding walk_fault defaults_fault
one_fault name word plain =
    ap (λ kinds. or_else (or_else kinds []) (behind (walked (rules 1) [] (walk_from nothing_held) word).held)) (one_turn name word plain)
    ∙ ap (λ (w : Walk). behind w.held) (one_walked word plain)
  where
    behind : Held → Kinds
    behind end = or_else [] (or_else (settle_fault (rules 1) false end)
        (or_else (defaults_fault (settled (rules 1) end).rows (rules 1))
        (check_fault (leaf_of name 1) (finished (rules 1) end) false)))

second_turn : (name first word : Text) → is_plain_word word ≡ true
    → turn_fault (leaf_of name 1) [] (behind_one first) word ≡ kind.UnknownArgument ∷ []
second_turn name first word plain =
    ap (λ kinds. or_else kinds (step_fault (leaf_of name 1) 2
    (word_met (rules 1) [] false idle 2 word (behind_one first).held).0
    (word_met (rules 1) [] false idle 2 word (behind_one first).held).1))
    (no_fault_idle (leaf_of name 1) word (behind_one first).held plain)
    ∙ ap (λ met. step_fault (leaf_of name 1) 2 met.0 met.1)
    (met_idle (rules 1) 2 word (behind_one first).held plain)

-- Of two words or more, the second is one too many.
pub more_fault : (name first second : Text) (more : List Text) → is_plain_word first ≡ true → is_plain_word second ≡ true
    → level_fault (leaf_of name 1) [] nothing_held (first ∷ (second ∷ more)) false [] ≡ kind.UnknownArgument ∷ []
unfolding walk_fault
more_fault name first second more plain also =
    ap (λ kinds. or_else (or_else kinds (walk_fault (leaf_of name 1) []
    (walked (rules 1) [] (walk_from nothing_held) first) (second ∷ more))) rest) (one_turn name first plain)
    ∙ ap (λ w. or_else (walk_fault (leaf_of name 1) [] w (second ∷ more)) rest) (one_walked first plain)
    ∙ ap (λ kinds. or_else (or_else kinds (walk_fault (leaf_of name 1) []
    (walked (rules 1) [] (behind_one first) second) more)) rest) (second_turn name first second also)
  where
    rest : Kinds
    rest =
        let end = (walk (rules 1) [] nothing_held (first ∷ (second ∷ more))).held in
        or_else [] (or_else (settle_fault (rules 1) false end)
        (or_else (defaults_fault (settled (rules 1) end).rows (rules 1))
        (check_fault (leaf_of name 1) (finished (rules 1) end) false)))
