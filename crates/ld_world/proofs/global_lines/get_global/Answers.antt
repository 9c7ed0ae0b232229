use Rattle.std.proofs.Common.{◌≡◌, ◌++◌, ◌∷◌, [], IfSome, Ok, Err, ap, codes, option_copied, subst, sym, ◌∙◌}
use Rattle.ld_globals.specs.Answers.{key_given, meaning}
use Rattle.ld_globals.specs.Store.{get_answer, key_at}
use Rattle.ld_replies.specs.Replies.{printed_value}
use Rattle.ld_value.specs.Values.{HasText}
use Rattle.ld_world.proofs.Answering.{if_ok}
use Rattle.ld_world.proofs.AnsweringGlobals.{get_line, get_refused, meant, tellable}
use Rattle.ld_world.proofs.global_lines.get_global.Goals as goal

pub tell_value-requires : goal.tell_value-requires
tell_value-requires g c =
    let key = key_given c.in_ok-key.key c.args.person in
    subst (λ value. IfSome value HasText) (sym (meant c.in-Ok.value)) (tellable c.args.globals.now key (meaning c.in-Ok.value) c.in-Ok.ensures.writable)

pub returns-in-Ok-clause-ok : goal.returns-in-Ok-clause-ok
returns-in-Ok-clause-ok g c = λ units runs moment is_of.
    let store = c.args.globals.now in
    let person = option_copied c.args.person in
    let uri = c.in_ok-key.ensures.ok ∙ c.as_str.ensures.bytes in
    let answer = sym c.in-Ok.ensures.answer in
    get_line units store runs is_of moment c.args.uri.now person (meaning c.in-Ok.value) c.done_alone.result c.tell_value.new.out.bytes
    (subst (λ u. get_answer store (key_at u person) ≡ Ok (meaning c.in-Ok.value)) uri answer)
    c.done_alone.ensures
    (c.in_ok-tell_value-in-Ok.ensures.text ∙ ap (λ value. codes "ok global-get " ++ printed_value value ++ 10 ∷ []) (meant c.in-Ok.value))

pub returns-clause-ok : goal.returns-clause-ok
returns-clause-ok g c = λ units runs moment is_of.
    let store = c.args.globals.now in
    let person = option_copied c.args.person in
    let uri = c.in_ok-key.ensures.ok ∙ c.as_str.ensures.bytes in
    let answer = sym c.in-Err.ensures.answer in
    if_ok c.refuse_to_get.result c.refuse_to_get.ensures.refused (λ reply told.
    get_refused units store runs is_of moment c.args.uri.now person reply c.refuse_to_get.new.out.bytes c.in-Err.fault
    (subst (λ u. get_answer store (key_at u person) ≡ Err c.in-Err.fault) uri answer) told)
