use Rattle.std.proofs.Common.{◌≡◌, ◌≢◌, ◌∙◌, refl, sym, ap, subst, Ok, Err, IfOk, IfErr, option_copied}
use Rattle.ld_value.specs.Datum.{datum_of}
use Rattle.ld_globals.specs.Declarations.{declaration_of, suits}
use Rattle.ld_globals.specs.Store.{key_at, set_answer, set_value, value_in}
use Rattle.ld_globals.specs.declared.faults.SetFault.TheVariants.{NoMemory}
use Rattle.ld_globals.proofs.Getting.{set-unknown, set-known}
use Rattle.ld_globals.proofs.Looked.{some-copied}
use Rattle.ld_globals.proofs.globals.Globals.read.Goals as goal

pub returns-in_default-clause-refused : goal.returns-in_default-clause-refused
returns-in_default-clause-refused c = let s = c.self.inside in
    λ _. ap (λ store. set_answer store (key_at c.args.uri.now.bytes (option_copied c.args.person)) c.args.text.now) (sym c.self.view_is) ∙ set-unknown s.declared.entries s.persons.keys s.cells.entries s.stamp s.spare c.args.uri.now.bytes (option_copied c.args.person) c.args.text.now (c.in_default.ensures.none refl)

pub returns-clause-ok : goal.returns-clause-ok
returns-clause-ok c =
    let s = c.self.inside in
    let d = c.in-Some.declared.now in
    let answer = ap (λ b. set_value (suits d.kind b) (value_in (declaration_of d) c.args.text.now)) (sym (some-copied c.args.person)) ∙ sym (set-known s.declared.entries s.persons.keys s.cells.entries s.stamp s.spare c.args.uri.now.bytes (option_copied c.args.person) c.args.text.now d c.in-Some.ensures.some.value) ∙ ap (λ store. set_answer store (key_at c.args.uri.now.bytes (option_copied c.args.person)) c.args.text.now) c.self.view_is in
    subst (λ x. IfOk c.read_declared.result (λ v. x ≡ Ok (datum_of v))) answer c.read_declared.ensures.ok

pub returns-clause-refused : goal.returns-clause-refused
returns-clause-refused c =
    let s = c.self.inside in
    let d = c.in-Some.declared.now in
    let answer = ap (λ b. set_value (suits d.kind b) (value_in (declaration_of d) c.args.text.now)) (sym (some-copied c.args.person)) ∙ sym (set-known s.declared.entries s.persons.keys s.cells.entries s.stamp s.spare c.args.uri.now.bytes (option_copied c.args.person) c.args.text.now d c.in-Some.ensures.some.value) ∙ ap (λ store. set_answer store (key_at c.args.uri.now.bytes (option_copied c.args.person)) c.args.text.now) c.self.view_is in
    subst (λ x. IfErr c.read_declared.result (λ fault. fault ≢ NoMemory → x ≡ Err fault)) answer c.read_declared.ensures.refused
