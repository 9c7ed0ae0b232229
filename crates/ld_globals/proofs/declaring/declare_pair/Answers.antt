use Rattle.std.proofs.Common.{◌∷◌, [], map, sym, ap, ◌∙◌}
use Rattle.std.specs.Str.{bytes_eq}
use Rattle.indexmap.proofs.CallerLemmas.{insert_entry-new}
use Rattle.ld_globals.specs.Kept.{uri_and_declaration}
use Rattle.ld_globals.proofs.Pairs.{none-found, with-absent, with-present}
use Rattle.ld_globals.proofs.declaring.declare_pair.Goals as goal

pub returns-then-contains_key-clause-pairs : goal.returns-then-contains_key-clause-pairs
returns-then-contains_key-clause-pairs c = with-present c.args.declared.now.entries c.args.uri c.args.contents (sym c.contains_key.ensures ∙ c.if-contains_key.true)

pub returns-clause-pairs : goal.returns-clause-pairs
returns-clause-pairs c =
    let none = sym c.contains_key.ensures ∙ c.if-contains_key.false in
    let new = c.in-Ok.ensures.entries ∙ insert_entry-new (λ a b. bytes_eq a.bytes b.bytes) c.args.declared.now c.args.uri c.args.contents (none-found c.args.declared.now.entries c.args.uri c.args.contents none) in
    ap (map uri_and_declaration) new ∙ with-absent c.args.declared.now.entries c.args.uri c.args.contents none

pub returns-clause-keeps : goal.returns-clause-keeps
returns-clause-keeps c =
    let none = sym c.contains_key.ensures ∙ c.if-contains_key.false in
    let new = c.in-Ok.ensures.entries ∙ insert_entry-new (λ a b. bytes_eq a.bytes b.bytes) c.args.declared.now c.args.uri c.args.contents (none-found c.args.declared.now.entries c.args.uri c.args.contents none) in
    ((c.args.uri, c.args.contents) ∷ [], new, (c.requires.whole, tt))
