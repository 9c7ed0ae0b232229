use Rattle.std.proofs.Common.{rules, ◌∙◌, sym}
use Rattle.ld_words.specs.Words.{words_of}
use Rattle.ld_top.specs.Tasks.{task_in}
use Rattle.ld_top.proofs.Completing.{none_taken}
use Rattle.ld_top.proofs.Generating.{done_of, line_done}
use Rattle.ld_top.proofs.top.ld_main.Goals as goal

pub returns-in_default-clause-at_limit : goal.returns-in_default-clause-at_limit
returns-in_default-clause-at_limit g c = λ sink. none_taken _ _

pub returns-in-Some-Check-clause-at_limit : goal.returns-in-Some-Check-clause-at_limit
returns-in-Some-Check-clause-at_limit g c = λ sink. none_taken _ _

pub returns-in-Some-Rank-clause-at_limit : goal.returns-in-Some-Rank-clause-at_limit
returns-in-Some-Rank-clause-at_limit g c = λ sink. none_taken _ _

pub returns-in-Some-Keep-clause-at_limit : goal.returns-in-Some-Keep-clause-at_limit
returns-in-Some-Keep-clause-at_limit g c = λ sink. none_taken _ _

pub returns-in-Some-Canon-clause-at_limit : goal.returns-in-Some-Canon-clause-at_limit
returns-in-Some-Canon-clause-at_limit g c = λ sink. none_taken _ _

pub returns-in-Some-Gen-clause-at_limit : goal.returns-in-Some-Gen-clause-at_limit
returns-in-Some-Gen-clause-at_limit g c = λ sink. none_taken _ _

pub returns-in-Some-Gen-clause-done : goal.returns-in-Some-Gen-clause-done
returns-in-Some-Gen-clause-done g c = λ zero.
    line_done (task_in (words_of c.args.words.now)) c.in-Some-Gen.number c.in-Some-Gen.persons _ _ _ _ _ (search rules)
    (c.generate-ending.ensures.done (done_of c.generate-ending.result (sym c.number-in-Some-Gen.ensures ∙ zero)))
