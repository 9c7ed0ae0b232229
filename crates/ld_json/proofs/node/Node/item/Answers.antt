use Rattle.std.proofs.Common.{◌≡◌, None, is_some, true≢false, sym, ap, ◌∙◌, rules}
use Rattle.serde_json.specs.Find.{at}
use Rattle.ld_json.proofs.Elements.{at_within}
use Rattle.ld_json.proofs.node.Node.item.Goals as goal

pub unreachable-requires : goal.unreachable-requires
unreachable-requires c =
    let there = at_within c.args.self.now c.args.index c.requires.within in
    let lacking : at c.args.index c.args.self.now.tree ≡ None = search rules in
    true≢false (sym there ∙ ap is_some lacking)
