use Rattle.std.proofs.Common.{ℕ, [], nat_eq, ap, sym, subst, ◌∙◌}
use Rattle.std.specs.List.{IsDistinct}
use Rattle.std.specs.Map.{keys_of}
use Rattle.ld_globals.specs.Recent.{slots_in}
use Rattle.ld_globals.proofs.recency.Recency.iter.Goals as goal

nothing : IsDistinct {K = ℕ} nat_eq []
unfolding IsDistinct
nothing = tt

pub returns-in_default-clause-distinct : goal.returns-in_default-clause-distinct
returns-in_default-clause-distinct c = subst (λ es. IsDistinct nat_eq (keys_of es)) (ap slots_in (sym c.in_default.is) ∙ c.self.view_is) nothing
