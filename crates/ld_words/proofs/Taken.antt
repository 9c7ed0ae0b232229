-- `clap` takes just the words that have a verb and as many words behind it as the verb wants.
use Rattle.std.proofs.Common.{◌≡◌, ◌∙◌, ℕ, Bool, true, false, List, [], ◌∷◌, ◌++◌, Option, Some, None, is_some, refl, sym, ap, true≢false, codes, if◌then◌else◌, bytes_eq}
use Rattle.std.specs.List.{fold}
use Rattle.std.proofs.lemmas.Slice.Eq.{bytes_eq-Decides}
use Rattle.clap.proofs.WalkLemmas.{walk_stopped}
use Rattle.clap.specs.Walk.{Held, Names, Text, Walk, idle, walked, walk, walk_from, nothing_held, Step, settled, finished, subcommand_met, subcommand_or_other, trailing, long_or_other, short_or_plain}
use Rattle.clap.specs.Lexer.{long_of}
use Rattle.std.specs.Option.{option_map_or}
use Rattle.clap.specs.Simple.{App, Shape, built, entered, names_of}
use Rattle.clap.specs.Faults.{walk_fault, defaults_fault, fault_of, level_fault, entered_fault, turn_fault, settle_fault, check_fault, step_fault, other_fault, flag_word_fault, bundle_fault}
use Rattle.clap.specs.Kinds.{Kinds, or_else}
use Rattle.clap.specs.declared.error.kind.ErrorKind.TheVariants as kind
use Rattle.ld_words.proofs.Walks.{leaf_of, or_nothing, no_dashes, no_long, no_short}
use Rattle.ld_words.specs.App.{ld_app}
use Rattle.ld_words.specs.Words.{is_plain_word}

-- ---- the words behind a verb are left to it

abbrev whole_app : App
whole_app = built ld_app

-- Behind a verb no word is wrong for the program itself.
stopped_fault : (s : Shape) (names : Names) (w : Walk) (name : Text) (seen words : List Text)
    → walk_fault s names (record w { stopped = Some (name, seen) }) words ≡ []
unfolding walk_fault walked
stopped_fault s names w name seen [] = refl
stopped_fault s names w name seen (word ∷ words) = stopped_fault s names w name (seen ++ word ∷ []) words

-- What is wrong with words, from what is wrong up to the verb, and from where the walk ends.
abbrev whole_fault : Kinds → Walk → Kinds
whole_fault kinds w = or_else kinds (or_else (entered_fault whole_app w.stopped)
    (or_else (settle_fault [] false w.held)
    (or_else (defaults_fault (settled [] w.held).rows [])
    (check_fault whole_app.top (finished [] w.held) (is_some (entered whole_app w.stopped))))))

-- The walk stands at the verb.
abbrev at_verb : Text → List Text → Walk
at_verb name words = record (walk_from nothing_held) { stopped = Some (name, words) }

verb_walk : (name : Text) (rest : List Text)
    → walked [] (names_of whole_app) (walk_from nothing_held) name ≡ at_verb name []
    → walk [] (names_of whole_app) nothing_held (name ∷ rest) ≡ at_verb name rest
verb_walk name rest is =
    ap (λ w. fold (walked [] (names_of whole_app)) w rest) is
    ∙ sym (walk_stopped [] (names_of whole_app) (walk_from nothing_held) name [] rest)

verb_turns : (name : Text) (rest : List Text)
    → turn_fault whole_app.top (names_of whole_app) (walk_from nothing_held) name ≡ []
    → walked [] (names_of whole_app) (walk_from nothing_held) name ≡ at_verb name []
    → walk_fault whole_app.top (names_of whole_app) (walk_from nothing_held) (name ∷ rest) ≡ []
unfolding walk_fault
verb_turns name rest free is =
    ap (λ kinds. or_else kinds (walk_fault whole_app.top (names_of whole_app)
    (walked [] (names_of whole_app) (walk_from nothing_held) name) rest)) free
    ∙ ap (λ w. walk_fault whole_app.top (names_of whole_app) w rest) is
    ∙ stopped_fault whole_app.top (names_of whole_app) (walk_from nothing_held) name [] rest

-- What is wrong with a verb and its words is what is wrong with the words.
verb_fault : (name : Text) (leaf : Shape) (rest : List Text)
    → turn_fault whole_app.top (names_of whole_app) (walk_from nothing_held) name ≡ []
    → walked [] (names_of whole_app) (walk_from nothing_held) name ≡ at_verb name []
    → whole_fault [] (at_verb name rest) ≡ or_else (level_fault leaf [] nothing_held rest false []) []
    → fault_of ld_app (name ∷ rest) ≡ level_fault leaf [] nothing_held rest false []
verb_fault name leaf rest free is same =
    ap (λ kinds. whole_fault kinds (walk [] (names_of whole_app) nothing_held (name ∷ rest)))
    (verb_turns name rest free is)
    ∙ ap (whole_fault []) (verb_walk name rest is)
    ∙ same
    ∙ or_nothing (level_fault leaf [] nothing_held rest false [])

pub fault_of_replay : (rest : List Text) → fault_of ld_app (codes "replay" ∷ rest)
    ≡ level_fault (leaf_of (codes "replay") 64) [] nothing_held rest false []
unfolding walked defaults_fault
fault_of_replay rest = verb_fault (codes "replay") (leaf_of (codes "replay") 64) rest refl refl refl

pub fault_of_check : (rest : List Text) → fault_of ld_app (codes "check" ∷ rest)
    ≡ level_fault (leaf_of (codes "check") 1) [] nothing_held rest false []
unfolding walked defaults_fault
fault_of_check rest = verb_fault (codes "check") (leaf_of (codes "check") 1) rest refl refl refl

pub fault_of_canon : (rest : List Text) → fault_of ld_app (codes "canon" ∷ rest)
    ≡ level_fault (leaf_of (codes "canon") 1) [] nothing_held rest false []
unfolding walked defaults_fault
fault_of_canon rest = verb_fault (codes "canon") (leaf_of (codes "canon") 1) rest refl refl refl

pub fault_of_rank : (rest : List Text) → fault_of ld_app (codes "rank" ∷ rest)
    ≡ level_fault (leaf_of (codes "rank") 1) [] nothing_held rest false []
unfolding walked defaults_fault
fault_of_rank rest = verb_fault (codes "rank") (leaf_of (codes "rank") 1) rest refl refl refl

pub fault_of_keep : (rest : List Text) → fault_of ld_app (codes "keep" ∷ rest)
    ≡ level_fault (leaf_of (codes "keep") 64) [] nothing_held rest false []
unfolding walked defaults_fault
fault_of_keep rest = verb_fault (codes "keep") (leaf_of (codes "keep") 64) rest refl refl refl

pub fault_of_gen : (rest : List Text) → fault_of ld_app (codes "gen" ∷ rest)
    ≡ level_fault (leaf_of (codes "gen") 2) [] nothing_held rest false []
unfolding walked defaults_fault
fault_of_gen rest = verb_fault (codes "gen") (leaf_of (codes "gen") 2) rest refl refl refl

-- ---- other words in the place of a verb

unlike : (a b : List ℕ) (test : Bool) → bytes_eq a b ≡ test → (b ≡ a → ⊥) → test ≡ false
unlike a b true is other = absurd (other (sym ((bytes_eq-Decides a b).0 is)))
unlike a b false is other = refl

pub either_way : (a b : List ℕ) → bytes_eq a b ≡ false → bytes_eq b a ≡ false
either_way a b is = unlike b a (bytes_eq b a) refl (λ same. true≢false (sym ((bytes_eq-Decides a b).1 same) ∙ is))

-- The word is none of the verbs.
pub record IsNoVerb (word : Text) : Type 0 where
  pub replay : bytes_eq (codes "replay") word ≡ false
  pub check : bytes_eq (codes "check") word ≡ false
  pub canon : bytes_eq (codes "canon") word ≡ false
  pub rank : bytes_eq (codes "rank") word ≡ false
  pub keep : bytes_eq (codes "keep") word ≡ false
  pub gen : bytes_eq (codes "gen") word ≡ false

not_met : (word : Text) → IsNoVerb word → subcommand_met (names_of whole_app) idle word ≡ None
not_met word is = rw (is.replay, is.check, is.canon, is.rank, is.keep, is.gen) refl

stray_turn : (word : Text) → IsNoVerb word → is_plain_word word ≡ true
    → turn_fault whole_app.top (names_of whole_app) (walk_from nothing_held) word
    ≡ kind.UnknownArgument ∷ (kind.InvalidSubcommand ∷ [])
stray_turn word is plain =
    ap (λ met. turn_by met) (not_met word is)
    ∙ ap (λ t. or_else (if t then [] else flag_word_fault [] false (long_of word) word nothing_held)
    (step_by (if t then (nothing_held, trailing 1) else long_or_other [] idle word (long_of word) nothing_held))) (no_dashes word plain)
    ∙ ap (λ o. or_else (flag_word_fault [] false o word nothing_held) (step_by (long_or_other [] idle word o nothing_held))) (no_long word plain)
    ∙ ap (λ o. or_else (option_map_or (λ flags. bundle_fault [] false flags nothing_held) o [])
    (step_by (short_or_plain [] idle word o nothing_held))) (no_short word plain)
  where
    step_by : Held × Step → Kinds
    step_by met = step_fault whole_app.top 1 met.0 met.1

    turn_by : Option Text → Kinds
    turn_by met = or_else (other_fault whole_app.top met word nothing_held)
        (step_by (subcommand_or_other [] met idle 1 word nothing_held))

pub stray_fault : (word : Text) (rest : List Text) → IsNoVerb word → is_plain_word word ≡ true
    → fault_of ld_app (word ∷ rest) ≡ kind.UnknownArgument ∷ (kind.InvalidSubcommand ∷ [])
unfolding walk_fault
stray_fault word rest is plain =
    ap (λ kinds. whole_fault (or_else kinds (walk_fault whole_app.top (names_of whole_app)
    (walked [] (names_of whole_app) (walk_from nothing_held) word) rest))
    (walk [] (names_of whole_app) nothing_held (word ∷ rest))) (stray_turn word is plain)
