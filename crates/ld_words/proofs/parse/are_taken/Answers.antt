use Rattle.std.proofs.Common.{◌∙◌, sym, ap, subst}
use Rattle.std.proofs.lemmas.Result.{IfOk-weaker}
use Rattle.clap.specs.Faults.{fault_of, is_simple_and_free}
use Rattle.clap.specs.Kinds.{HasKind}
use Rattle.ld_words.proofs.Deciding.{taken_words, refused_by}
use Rattle.ld_words.specs.Words.{words_of}
use Rattle.ld_words.proofs.parse.are_taken.Goals as goal

pub returns-in-Ok : goal.returns-in-Ok
returns-in-Ok c =
    let same = c.in_ok-command.ensures in
    let words = words_of c.args.words.now in
    taken_words words c.requires
    (ap (λ a. fault_of a words) (sym same) ∙ c.in-Ok.ensures.kinds (ap is_simple_and_free same))

pub returns : goal.returns
returns c =
    let same = c.in_ok-command.ensures in
    let words = words_of c.args.words.now in
    IfOk-weaker c.refused.result _ _ (λ taken h. refused_by words c.in-Err.error taken c.requires
    (subst (λ a. HasKind (fault_of a words) c.in-Err.error) same (c.in-Err.ensures.kinds (ap is_simple_and_free same))) h.1 h.0) c.refused.ensures
