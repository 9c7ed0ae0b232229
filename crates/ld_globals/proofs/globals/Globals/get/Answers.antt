use Rattle.std.proofs.Common.{◌≡◌, Ok, Err, option_map, option_copied, refl, sym, ap, subst, ◌∙◌, is_some, true}
use Rattle.ld_value.specs.Datum.{datum_of}
use Rattle.ld_globals.specs.Declarations.{declaration_of, suits}
use Rattle.ld_globals.specs.Kept.{store_of, write_of}
use Rattle.ld_globals.specs.Store.{IsWritable, get_answer, key_at}
use Rattle.ld_globals.specs.declared.faults.GlobalFault.TheVariants.{UnknownGlobal, NotAllowed}
use Rattle.ld_globals.proofs.Fitting.{initial-fits, written-fits}
use Rattle.ld_globals.proofs.Getting.{declared-at, get-unknown, get-refused, get-allowed, value-written, value-initial}
use Rattle.ld_globals.proofs.Looked.{copied, some-copied}
use Rattle.ld_globals.proofs.globals.Globals.get.Goals as goal

pub returns-in_default-clause-answer : goal.returns-in_default-clause-answer
returns-in_default-clause-answer g c = let s = c.self.inside in
    subst (λ store. Err UnknownGlobal ≡ get_answer store (key_at c.args.uri.now.bytes (option_copied c.args.person))) c.self.view_is (get-unknown s.declared.entries s.persons.keys s.cells.entries s.stamp s.spare c.args.uri.now.bytes (option_copied c.args.person) (c.in_default.ensures.none refl))

pub returns-then-not-suits-clause-answer : goal.returns-then-not-suits-clause-answer
returns-then-not-suits-clause-answer g c =
    let s = c.self.inside in
    let d = c.in-Some.declared.now in
    subst (λ store. Err NotAllowed ≡ get_answer store (key_at c.args.uri.now.bytes (option_copied c.args.person))) c.self.view_is (get-refused s.declared.entries s.persons.keys s.cells.entries s.stamp s.spare c.args.uri.now.bytes (option_copied c.args.person) d c.in-Some.ensures.some.value (ap (suits d.kind) (some-copied c.args.person) ∙ sym c.suits.ensures ∙ c.if-not-suits.true))

pub find_cell-requires-clause-declared : goal.find_cell-requires-clause-declared
find_cell-requires-clause-declared g c = let found = c.in-Some.ensures.some in record { entry = (found.key, c.in-Some.declared.now); there = found.there; same = found.same }

pub returns-in-Some-find_cell-clause-answer : goal.returns-in-Some-find_cell-clause-answer
returns-in-Some-find_cell-clause-answer g c =
    let s = c.self.inside in
    let d = c.in-Some.declared.now in
    let found = c.in-Some.ensures.some.value in
    let allowed = get-allowed s.declared.entries s.persons.keys s.cells.entries s.stamp s.spare c.args.uri.now.bytes (option_copied c.args.person) d found (ap (suits d.kind) (some-copied c.args.person) ∙ sym c.suits.ensures ∙ c.if-not-suits.false) in
    let value = value-written s.declared.entries s.persons.keys s.cells.entries s.stamp s.spare c.args.uri.now.bytes (option_copied c.args.person) d found (write_of c.in-Some-find_cell.cell.now) (sym c.in-Some-find_cell.ensures) in
    subst (λ store. Ok (option_map (λ v. datum_of v.now) c.as_ref.result) ≡ get_answer store (key_at c.args.uri.now.bytes (option_copied c.args.person))) c.self.view_is (ap Ok (copied datum_of c.as_ref.result ∙ ap (option_map datum_of) c.as_ref.ensures.value ∙ sym value) ∙ sym allowed)

pub returns-in-None-clause-answer : goal.returns-in-None-clause-answer
returns-in-None-clause-answer g c =
    let s = c.self.inside in
    let d = c.in-Some.declared.now in
    let found = c.in-Some.ensures.some.value in
    let allowed = get-allowed s.declared.entries s.persons.keys s.cells.entries s.stamp s.spare c.args.uri.now.bytes (option_copied c.args.person) d found (ap (suits d.kind) (some-copied c.args.person) ∙ sym c.suits.ensures ∙ c.if-not-suits.false) in
    let value = value-initial s.declared.entries s.persons.keys s.cells.entries s.stamp s.spare c.args.uri.now.bytes (option_copied c.args.person) d found (sym c.in-None.ensures) in
    subst (λ store. Ok (option_map (λ v. datum_of v.now) c.as_ref-in-None.result) ≡ get_answer store (key_at c.args.uri.now.bytes (option_copied c.args.person))) c.self.view_is (ap Ok (copied datum_of c.as_ref-in-None.result ∙ ap (option_map datum_of) c.as_ref-in-None.ensures.value ∙ sym value) ∙ sym allowed)

pub returns-in-Some-find_cell-clause-writable : goal.returns-in-Some-find_cell-clause-writable
returns-in-Some-find_cell-clause-writable g c =
    let s = c.self.inside in
    let d = c.in-Some.declared.now in
    let found = c.in-Some.ensures.some.value in
    let key = key_at c.args.uri.now.bytes (option_copied c.args.person) in
    let store = store_of s.declared.entries s.persons.keys s.cells.entries s.stamp s.spare in
    let right : suits d.kind (is_some (option_copied c.args.person)) ≡ true = ap (suits d.kind) (some-copied c.args.person) ∙ sym c.suits.ensures ∙ c.if-not-suits.false in
    let fitting = written-fits s.declared.entries s.persons.keys s.cells.entries key d (write_of c.in-Some-find_cell.cell.now) c.self.invariant.0.0 c.self.invariant.2 found (sym c.in-Some-find_cell.ensures) in
    let value = copied datum_of c.as_ref.result ∙ ap (option_map datum_of) c.as_ref.ensures.value in
    let writable : IsWritable store key (option_map datum_of c.in-Some-find_cell.cell.now.value) = record { declaration = declaration_of d; declared = declared-at s.declared.entries s.persons.keys s.cells.entries s.stamp s.spare c.args.uri.now.bytes (option_copied c.args.person) d found; suited = right; fitting = fitting } in
    subst (λ st. IsWritable st key (option_map (λ v. datum_of v.now) c.as_ref.result)) c.self.view_is (subst (IsWritable store key) (sym value) writable)

pub returns-in-None-clause-writable : goal.returns-in-None-clause-writable
returns-in-None-clause-writable g c =
    let s = c.self.inside in
    let d = c.in-Some.declared.now in
    let found = c.in-Some.ensures.some.value in
    let key = key_at c.args.uri.now.bytes (option_copied c.args.person) in
    let store = store_of s.declared.entries s.persons.keys s.cells.entries s.stamp s.spare in
    let right : suits d.kind (is_some (option_copied c.args.person)) ≡ true = ap (suits d.kind) (some-copied c.args.person) ∙ sym c.suits.ensures ∙ c.if-not-suits.false in
    let fitting = initial-fits s.declared.entries c.args.uri.now.bytes d c.self.invariant.1 found in
    let value = copied datum_of c.as_ref-in-None.result ∙ ap (option_map datum_of) c.as_ref-in-None.ensures.value in
    let writable : IsWritable store key (option_map datum_of d.initial) = record { declaration = declaration_of d; declared = declared-at s.declared.entries s.persons.keys s.cells.entries s.stamp s.spare c.args.uri.now.bytes (option_copied c.args.person) d found; suited = right; fitting = fitting } in
    subst (λ st. IsWritable st key (option_map (λ v. datum_of v.now) c.as_ref-in-None.result)) c.self.view_is (subst (IsWritable store key) (sym value) writable)
