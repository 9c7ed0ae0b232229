use Rattle.std.proofs.Common.{◌≡◌, None, ◌∙◌, ◌++◌, sym, ap, subst, map}
use Rattle.std.specs.List.{AllByRecursion, fold}
use Rattle.ld_globals.specs.Kept.{uri_and_declaration, store_of, written_of}
use Rattle.ld_globals.specs.Store.{Agrees, KeepsWrites, Key, Store, declare_in, declared_at, last_write, with_declared}
use Rattle.ld_globals.proofs.Fitting.{never-written}
use Rattle.ld_globals.proofs.Keeping.{keeps-declared}
use Rattle.ld_globals.proofs.Pairs.{written-declared}
use Rattle.ld_globals.proofs.globals.Globals.declare.Goals as goal

pub returns-clause-ok : goal.returns-clause-ok
returns-clause-ok c =
    let s = c.self.inside in
    let keeps = c.declare_pairs.ensures.keeps in
    let entries : c.reserve.new.self.entries ≡ s.declared.entries = c.reserve.ensures.entries in
    let declared : map uri_and_declaration c.declare_pairs.new.declared.entries ≡ fold with_declared (map uri_and_declaration s.declared.entries) (map uri_and_declaration c.args.list) = c.declare_pairs.ensures.pairs ∙ ap (λ es. fold with_declared (map uri_and_declaration es) (map uri_and_declaration c.into_vec-pairs.result.items)) entries ∙ ap (λ l. fold with_declared (map uri_and_declaration s.declared.entries) (map uri_and_declaration l)) c.into_vec-pairs.ensures in
    let more : c.declare_pairs.new.declared.entries ≡ s.declared.entries ++ keeps.0 = keeps.1 ∙ ap (λ es. es ++ keeps.0) entries in
    let written : map (written_of c.declare_pairs.new.declared.entries s.persons.keys) s.cells.entries ≡ map (written_of s.declared.entries s.persons.keys) s.cells.entries = ap (λ es. map (written_of es s.persons.keys) s.cells.entries) more ∙ written-declared s.declared.entries keeps.0 s.persons.keys s.cells.entries c.self.invariant.2 in
    let store : Store = store_of s.declared.entries s.persons.keys s.cells.entries s.stamp s.spare in
    let made : declare_in store (map uri_and_declaration c.args.list) ≡ declare_in c.args.self.now (map uri_and_declaration c.args.list) = ap (λ st. declare_in st (map uri_and_declaration c.args.list)) c.self.view_is in
    (λ i. record store { declared = declared i; written = written i }) ∙ made

pub returns-clause-agree : goal.returns-clause-agree
returns-clause-agree c =
    let s = c.self.inside in
    let agree = c.first_to_differ.ensures.none c.in_default.is in
    let pairs = c.deref.ensures.value ∙ c.into_vec-pairs.ensures in
    subst (λ st. AllByRecursion (Agrees st) (map uri_and_declaration c.args.list)) c.self.view_is (subst (λ l. AllByRecursion (Agrees (store_of s.declared.entries s.persons.keys s.cells.entries s.stamp s.spare)) (map uri_and_declaration l)) pairs agree)

pub returns-clause-kept : goal.returns-clause-kept
returns-clause-kept c = subst (KeepsWrites c.args.self.now) (sym (returns-clause-ok c)) (keeps-declared c.args.self.now (map uri_and_declaration c.args.list))

pub returns-clause-unwritten : goal.returns-clause-unwritten
returns-clause-unwritten c =
    let s = c.self.inside in
    subst (λ st. (key : Key) → declared_at st key.uri ≡ None → last_write st key ≡ None) c.self.view_is (λ key. never-written s.declared.entries s.persons.keys s.cells.entries key c.self.invariant.0.0 c.self.invariant.2)
