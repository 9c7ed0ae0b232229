use Rattle.std.proofs.Common.{sym, ap, ◌∙◌, refl, option_map, option_copied}
use Rattle.ld_globals.specs.Kept.{IsNumberOf, write_of}
use Rattle.ld_globals.specs.Store.{key_at}
use Rattle.ld_globals.specs.declared.key_number.KeyNumber.{KeyNumber}
use Rattle.ld_globals.specs.contracts.key_number.KeyNumberPartialEq.TheImpl.{eq-value}
use Rattle.ld_globals.proofs.Looked.{copied}
use Rattle.ld_globals.proofs.Numbers.{written-found, written-unknown}
use Rattle.ld_globals.proofs.key_number.find_cell.Goals as goal

pub returns-in_err-person : goal.returns-in_err-person
returns-in_err-person c =
    let none = written-unknown c.args.declared.now.entries c.args.persons.now.keys c.requires.numbers (key_at c.args.uri.now.bytes (option_copied c.args.person)) c.args.cells.now.entries (c.person_number.ensures.none c.in_err-person.was) c.requires.cells in
    rw (c.from_residual.ensures, none) refl

pub returns : goal.returns
returns c =
    let declared = c.args.declared.now.entries in
    let k : KeyNumber = record { uri = c.args.number; person = c.in_ok-person.person } in
    let number : IsNumberOf declared c.args.persons.now.keys (key_at c.args.uri.now.bytes (option_copied c.args.person)) k = record { uri = c.requires.declared; person = c.in_ok-person.ensures.some } in
    copied write_of c.get.result ∙ ap (option_map write_of) c.get.ensures.value ∙ sym (written-found declared c.args.persons.now.keys c.requires.numbers eq-value.it (λ a b. refl) (key_at c.args.uri.now.bytes (option_copied c.args.person)) k c.args.cells.now.entries number c.requires.cells)
