use Rattle.std.proofs.Common.{◌∙◌, IfOk, Some, ap, option_copied, subst, sym}
use Rattle.ld_globals.specs.Store.{IsRefused, IsSet, key_at, set_answer}
use Rattle.ld_lines.specs.declared.line.Line.TheVariants as line
use Rattle.ld_world.specs.Answers.{RepliesTo}
use Rattle.ld_world.specs.WorldView.{world_with}
use Rattle.ld_world.proofs.Answering.{if_ok}
use Rattle.ld_world.proofs.AnsweringGlobals.{set_line, set_refused}
use Rattle.ld_world.proofs.Setting.{keeps_unchanged, put_declares}
use Rattle.ld_world.proofs.global_lines.set_global.Goals as goal

pub returns-in-Ok-clause-ok : goal.returns-in-Ok-clause-ok
returns-in-Ok-clause-ok c = λ units runs moment is_of.
    let store = c.args.globals.now in
    let person = option_copied c.args.person in
    let uri = c.in_ok-key.ensures.ok ∙ c.as_str.ensures.bytes in
    let set = subst (λ text. IsSet store c.set.new.self (key_at c.in_ok-key.key.bytes person) text) c.as_str-2.ensures.bytes c.in-Ok.ensures.ok in
    set_line units store runs is_of moment c.args.uri.now person c.set.new.self c.args.text.now c.done_alone.result c.say_set.new.out.bytes
    (subst (λ u. IsSet store c.set.new.self (key_at u person) c.args.text.now) uri set) c.done_alone.ensures c.say_set.ensures.text

pub returns-in-Ok-clause-declared : goal.returns-in-Ok-clause-declared
returns-in-Ok-clause-declared c =
    let set = c.in-Ok.ensures.ok in
    ap (λ store. store.declared) set.put ∙ put_declares c.args.globals.now (key_at c.in_ok-key.key.bytes (option_copied c.args.person)) (Some set.value)

pub returns-clause-ok : goal.returns-clause-ok
returns-clause-ok c = λ units runs moment is_of.
    let store = c.args.globals.now in
    let person = option_copied c.args.person in
    let uri = c.in_ok-key.ensures.ok ∙ c.as_str.ensures.bytes in
    let refused = subst (λ text. IsRefused (set_answer store (key_at c.in_ok-key.key.bytes person) text) c.in-Err.fault) c.as_str-2.ensures.bytes c.in-Err.ensures.refused in
    let same = sym c.in-Err.ensures.err in
    let asked = Some (line.GlobalSet moment c.args.uri.now person c.args.text.now) in
    let out = c.refuse_to_set.new.out.bytes in
    subst (λ new. IfOk c.refuse_to_set.result (λ reply. RepliesTo (world_with units store runs) asked reply out (world_with units new runs))) same
    (if_ok c.refuse_to_set.result c.refuse_to_set.ensures.refused (λ reply told.
    set_refused units store runs is_of moment c.args.uri.now person c.args.text.now reply out c.in-Err.fault
    (subst (λ u. IsRefused (set_answer store (key_at u person) c.args.text.now) c.in-Err.fault) uri refused) told.0 (told.1, told.2)))

pub returns-clause-kept : goal.returns-clause-kept
returns-clause-kept c = keeps_unchanged c.args.globals.now c.set.new.self c.in-Err.ensures.err
