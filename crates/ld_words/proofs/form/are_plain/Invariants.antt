use Rattle.std.proofs.Common.{◌≡◌, drop}
use Rattle.std.specs.List.{list_all}
use Rattle.ld_words.specs.Words.{is_plain_word, words_of}
use Rattle.ld_words.proofs.form.are_plain.Given as goal

abbrev pub invariant-loop-word : goal.invariant-loop-word
invariant-loop-word l =
    list_all is_plain_word (words_of (drop l.word-index l.words)) ≡ list_all is_plain_word (words_of l.words)
