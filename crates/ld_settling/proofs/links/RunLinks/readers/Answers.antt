use Rattle.std.proofs.Common.{sym, subst}
use Rattle.ld_settling.specs.RunLinking.{AreCleanLinks, RunWiring}
use Rattle.ld_settling.proofs.SitesFound.{reader_there}
use Rattle.ld_settling.proofs.links.RunLinks.readers.Goals as goal

pub returns-clause-sites : goal.returns-clause-sites
returns-clause-sites c unit s clean i =
    let linked = c.readers.ensures.sites i in
    let are = (subst (λ (w : RunWiring). AreCleanLinks unit s w) (sym c.self.view_is) clean).edges i in
    (λ there. are.named c.args.slot (linked.0 there), λ reads. linked.1 (are.linked c.args.slot reads))

pub returns-clause-there : goal.returns-clause-there
returns-clause-there c unit s clean i there =
    let are = (subst (λ (w : RunWiring). AreCleanLinks unit s w) (sym c.self.view_is) clean).edges i in
    reader_there unit s i c.args.slot (are.named c.args.slot ((c.readers.ensures.sites i).0 there))
