use Rattle.std.proofs.Common.{sym, ap, ◌∙◌, is_some}
use Rattle.std.specs.Cmp.Lexicographic.{bytes_decides}
use Rattle.std.specs.Str.{bytes_eq}
use Rattle.ld_globals.proofs.Looked.{find-passes, none-passes}
use Rattle.ld_globals.proofs.key_number.search_person.Goals as goal

pub returns-in_err-number-clause-none : goal.returns-in_err-number-clause-none
returns-in_err-number-clause-none c =
    let found = c.get_full.ensures.found in
    λ _. none-passes (bytes_eq c.args.id.now) c.args.persons.now.keys (sym found ∙ ap is_some c.in_err-number.was)

pub returns-clause-some : goal.returns-clause-some
returns-clause-some c =
    let key = c.in_ok-number.ensures.key in
    let same = (bytes_decides c.args.id.now c.in_ok-number.field-0-1.now).0 (find-passes (bytes_eq c.args.id.now) c.args.persons.now.keys c.in_ok-number.field-0-1.now (sym key)) in
    rw same c.in_ok-number.ensures.stored
