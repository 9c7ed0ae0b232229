-- `clap` refuses nothing exactly where there is a verb with as many words as it wants.
use Rattle.std.proofs.Common.{◌≡◌, ◌∙◌, ℕ, ◌==◌, Bool, true, false, not, ◌||◌, nat_lt, List, [], ◌∷◌, length, inl, inr, refl, sym, subst, codes, bytes_eq}
use Rattle.std.specs.List.{list_all}
use Rattle.std.proofs.lemmas.Slice.Eq.{bytes_eq-Decides}
use Rattle.clap.specs.Faults.{fault_of, level_fault, defaults_fault, walk_fault}
use Rattle.clap.specs.Kinds.{Kinds, HasKind, IsAmong}
use Rattle.clap.specs.Values.{kind_of}
use Rattle.clap.specs.declared.error.Error.{Error}
use Rattle.clap.specs.Walk.{Text, nothing_held, walked}
use Rattle.clap.specs.declared.error.kind.ErrorKind.{ErrorKind}
use Rattle.clap.specs.declared.error.kind.ErrorKind.TheVariants.{OutOfMemory}
use Rattle.ld_words.proofs.Counts.{many_free, free_many, more_than_one}
use Rattle.ld_words.proofs.Taken.{IsNoVerb, either_way, fault_of_replay, fault_of_check, fault_of_canon, fault_of_rank, fault_of_keep, fault_of_gen, stray_fault}
use Rattle.ld_words.proofs.Walks.{first_plain, leaf_of, others_plain, several_fault, none_fault, one_fault, more_fault}
use Rattle.ld_words.specs.App.{ld_app}
use Rattle.ld_words.specs.Forms.{is_up_to}
use Rattle.ld_words.specs.Verbs.{takes_words, are_taken}
use Rattle.ld_words.specs.Words.{is_plain_word}

-- The words are refused exactly where they are not taken.
pub record Decided (words : List Text) : Type 0 where
  pub free : are_taken words ≡ true → fault_of ld_app words ≡ []
  pub taken : fault_of ld_app words ≡ [] → are_taken words ≡ true

-- What `clap` finds wrong with a verb's words is what it finds wrong with the words alone.
abbrev LeavesWords : Text → ℕ → Type 0
LeavesWords verb most =
    (rest : List Text) → fault_of ld_app (verb ∷ rest) ≡ level_fault (leaf_of verb most) [] nothing_held rest false []

-- ---- each verb

-- One that takes several words.
several_decided : (most : ℕ) → (not (1 == most) || nat_lt 1 1) ≡ true → (1 == most) ≡ false
    → (verb : Text) → LeavesWords verb most → ((n : ℕ) → takes_words verb n ≡ is_up_to most n)
    → is_up_to most 0 ≡ false → (rest : List Text) → list_all is_plain_word rest ≡ true → Decided (verb ∷ rest)
unfolding are_taken
several_decided most many several verb leaves takes zero [] plain = record {
  free = λ is. let none = sym (takes 0 ∙ zero) ∙ is in cc;
  taken = λ is. let none = sym (leaves [] ∙ none_fault verb most) ∙ is in cc;
}
several_decided most many several verb leaves takes zero (word ∷ words) plain =
    let same = leaves (word ∷ words) ∙ several_fault most many verb word words plain in
    record {
      free = λ is. same ∙ many_free most (length words) several (sym (takes (length (word ∷ words))) ∙ is);
      taken = λ is. takes (length (word ∷ words)) ∙ free_many most (length words) several (sym same ∙ is);
    }

-- One that takes just one word.
one_decided : (verb : Text) → LeavesWords verb 1 → ((n : ℕ) → takes_words verb n ≡ is_up_to 1 n)
    → (rest : List Text) → list_all is_plain_word rest ≡ true → Decided (verb ∷ rest)
unfolding are_taken
one_decided verb leaves takes [] plain = record {
  free = λ is. let none = sym (takes 0) ∙ is in cc;
  taken = λ is. let none = sym (leaves [] ∙ none_fault verb 1) ∙ is in cc;
}
one_decided verb leaves takes (word ∷ []) plain = record {
  free = λ is. leaves (word ∷ []) ∙ one_fault verb word (first_plain word [] plain);
  taken = λ is. takes 1;
}
one_decided verb leaves takes (word ∷ (next ∷ words)) plain =
    let same = leaves (word ∷ (next ∷ words)) ∙ more_fault verb word next words
    (first_plain word (next ∷ words) plain) (first_plain next words (others_plain word (next ∷ words) plain)) in
    record {
      free = λ is. let wrong = sym (takes (length (word ∷ (next ∷ words))) ∙ more_than_one (length words)) ∙ is in cc;
      taken = λ is. let none = sym same ∙ is in cc;
    }

stray_decided : (word : Text) (rest : List Text) → IsNoVerb word → is_plain_word word ≡ true → Decided (word ∷ rest)
unfolding are_taken
stray_decided word rest is plain =
    let not_taken : takes_words word (length rest) ≡ false =
    rw (
      either_way (codes "replay") word is.replay,
      either_way (codes "check") word is.check,
      either_way (codes "canon") word is.canon,
      either_way (codes "rank") word is.rank,
      either_way (codes "keep") word is.keep,
      either_way (codes "gen") word is.gen,
    ) refl in
    record {
      free = λ taken. let wrong = sym not_taken ∙ taken in cc;
      taken = λ free. let none = sym (stray_fault word rest is plain) ∙ free in cc;
    }

-- ---- all words

by_verb : (verb : Text) (rest : List Text) → list_all is_plain_word (verb ∷ rest) ≡ true
    → (a b c d e f : Bool) → bytes_eq (codes "replay") verb ≡ a → bytes_eq (codes "check") verb ≡ b
    → bytes_eq (codes "canon") verb ≡ c → bytes_eq (codes "rank") verb ≡ d → bytes_eq (codes "keep") verb ≡ e
    → bytes_eq (codes "gen") verb ≡ f → Decided (verb ∷ rest)
by_verb verb rest plain true b c d e f is_a is_b is_c is_d is_e is_f =
    subst (λ v. Decided (v ∷ rest)) ((bytes_eq-Decides (codes "replay") verb).0 is_a)
    (several_decided 64 refl refl (codes "replay") fault_of_replay (λ n. refl) refl rest (others_plain verb rest plain))
by_verb verb rest plain false true c d e f is_a is_b is_c is_d is_e is_f =
    subst (λ v. Decided (v ∷ rest)) ((bytes_eq-Decides (codes "check") verb).0 is_b)
    (one_decided (codes "check") fault_of_check (λ n. refl) rest (others_plain verb rest plain))
by_verb verb rest plain false false true d e f is_a is_b is_c is_d is_e is_f =
    subst (λ v. Decided (v ∷ rest)) ((bytes_eq-Decides (codes "canon") verb).0 is_c)
    (one_decided (codes "canon") fault_of_canon (λ n. refl) rest (others_plain verb rest plain))
by_verb verb rest plain false false false true e f is_a is_b is_c is_d is_e is_f =
    subst (λ v. Decided (v ∷ rest)) ((bytes_eq-Decides (codes "rank") verb).0 is_d)
    (one_decided (codes "rank") fault_of_rank (λ n. refl) rest (others_plain verb rest plain))
by_verb verb rest plain false false false false true f is_a is_b is_c is_d is_e is_f =
    subst (λ v. Decided (v ∷ rest)) ((bytes_eq-Decides (codes "keep") verb).0 is_e)
    (several_decided 64 refl refl (codes "keep") fault_of_keep (λ n. refl) refl rest (others_plain verb rest plain))
by_verb verb rest plain false false false false false true is_a is_b is_c is_d is_e is_f =
    subst (λ v. Decided (v ∷ rest)) ((bytes_eq-Decides (codes "gen") verb).0 is_f)
    (several_decided 2 refl refl (codes "gen") fault_of_gen (λ n. refl) refl rest (others_plain verb rest plain))
by_verb verb rest plain false false false false false false is_a is_b is_c is_d is_e is_f =
    stray_decided verb rest
    (record { replay = is_a; check = is_b; canon = is_c; rank = is_d; keep = is_e; gen = is_f })
    (first_plain verb rest plain)

-- Of plain words `clap` refuses just those that are not taken.
pub decided : (words : List Text) → list_all is_plain_word words ≡ true → Decided words
unfolding are_taken walk_fault defaults_fault walked
decided [] plain = record { free = λ is. cc; taken = λ is. cc }
decided (verb ∷ rest) plain =
    by_verb verb rest plain (bytes_eq (codes "replay") verb) (bytes_eq (codes "check") verb)
    (bytes_eq (codes "canon") verb) (bytes_eq (codes "rank") verb) (bytes_eq (codes "keep") verb)
    (bytes_eq (codes "gen") verb) refl refl refl refl refl refl

-- ---- what the answers of a parse say

pub taken_words : (words : List Text) → list_all is_plain_word words ≡ true → fault_of ld_app words ≡ []
    → true ≡ are_taken words
taken_words words plain none = sym ((decided words plain).taken none)

among_none : (k : ErrorKind) (kinds : Kinds) → IsAmong k kinds → kinds ≡ [] → ⊥
among_none k [] among is = among
among_none k (x ∷ xs) among is = cc

untaken : (words : List Text) (test : Bool) → are_taken words ≡ test → (fault_of ld_app words ≡ [] → ⊥)
    → Decided words → false ≡ test
untaken words true is some by = absurd (some (by.free is))
untaken words false is some by = refl

refused_words : (words : List Text) (k : ErrorKind) → list_all is_plain_word words ≡ true
    → IsAmong k (fault_of ld_app words) → false ≡ are_taken words
refused_words words k plain among =
    untaken words (are_taken words) refl (among_none k (fault_of ld_app words) among) (decided words plain)

-- The same of an error that is another than want of memory.
pub refused_by : (words : List Text) (e : Error) (taken : Bool) → list_all is_plain_word words ≡ true
    → HasKind (fault_of ld_app words) e → (kind_of e ≡ OutOfMemory → ⊥) → taken ≡ false
    → taken ≡ are_taken words
refused_by words e taken plain (inl memory) other is = absurd (other memory)
refused_by words e taken plain (inr among) other is = is ∙ refused_words words (kind_of e) plain among
