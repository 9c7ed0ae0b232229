use Rattle.std.proofs.Common.{◌≡◌, ◌∷◌, true, false, sym, ◌∙◌, rules}
use Rattle.std.specs.List.{list_all}
use Rattle.std.specs.Str.{bytes_eq}
use Rattle.ld_json.proofs.Trees.{sole_of_all}
use Rattle.ld_json.proofs.read.only_name.Goals as goal

pub returns-then-are_named : goal.returns-then-are_named
returns-then-are_named c =
    let first = c.in_ok-first.first.now in
    let more = c.in_ok-first.more.now in
    let is : c.args.members.now ≡ first ∷ more = search rules in
    let all : list_all (λ m. bytes_eq m.0.now first.0.now) more ≡ true = search rules in
    rw is (sym (sole_of_all first more ∙ rw all))

pub returns-else-are_named : goal.returns-else-are_named
returns-else-are_named c =
    let first = c.in_ok-first.first.now in
    let more = c.in_ok-first.more.now in
    let is : c.args.members.now ≡ first ∷ more = search rules in
    let all : list_all (λ m. bytes_eq m.0.now first.0.now) more ≡ false = search rules in
    rw is (sym (sole_of_all first more ∙ rw all))
