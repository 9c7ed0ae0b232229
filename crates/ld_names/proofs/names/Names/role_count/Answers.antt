use Rattle.std.proofs.Common.{◌∙◌, ap, length, sym}
use Rattle.ld_names.specs.Names.{NameTable}
use Rattle.ld_names.proofs.Split.{count_roles}
use Rattle.ld_names.proofs.names.Names.role_count.Goals as goal

pub returns : goal.returns
returns c =
    sym (count_roles c.self.inside c.self.invariant) ∙ ap (λ (table : NameTable). length table.roles) c.self.view_is
