use Rattle.std.proofs.Common.{refl}
use Rattle.ld_graph.specs.Buckets.{bucket_of}
use Rattle.ld_graph.proofs.slots.bucket_of.Goals as goal

pub returns-clause-value : goal.returns-clause-value
unfolding bucket_of
returns-clause-value c = refl
