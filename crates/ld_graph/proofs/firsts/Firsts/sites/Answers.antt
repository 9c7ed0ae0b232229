use Rattle.std.proofs.Common.{sym}
use Rattle.ld_graph.proofs.Pages.{seen_length}
use Rattle.ld_graph.proofs.firsts.Firsts.sites.Goals as goal

pub returns : goal.returns
returns c = sym (seen_length c.self.inside.pages.items c.self.inside.entries.items c.self.inside.sites c.args.self.now c.self.view_is)
