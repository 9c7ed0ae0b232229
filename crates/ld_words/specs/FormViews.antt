-- The form for which the program's form stands.
use Rattle.ld_words.specs.Forms.{Form, replay_form, check_form, canon_form, rank_form, keep_form, gen_form}
use Rattle.ld_words.specs.Words.{words_of}
use Rattle.ld_words.specs.declared.form.Form.{Form as CodeForm}
use Rattle.ld_words.specs.declared.form.Form.TheVariants.{Replay, Check, Canon, Rank, Keep, Gen}

-- The same with the bytes of its folders.
abbrev pub form_view : CodeForm → Form
form_view (Replay folders) = replay_form (words_of folders.now)
form_view (Check folder) = check_form folder.now
form_view (Canon folder) = canon_form folder.now
form_view (Rank folder) = rank_form folder.now
form_view (Keep folders) = keep_form (words_of folders.now)
form_view (Gen number persons) = gen_form number persons
