use Rattle.std.proofs.Common.{◌≡◌, map}
use Rattle.serde_json.specs.View.{members_view}
use Rattle.ld_json.specs.Access.{all_listed}
use Rattle.ld_json.proofs.built.are_listed.Given as goal

abbrev pub invariant-loop-name : goal.invariant-loop-name
invariant-loop-name l = all_listed (map (λ name. name.now) l.names) (members_view l.name-iterator) ≡ all_listed (map (λ name. name.now) l.names) (members_view l.members.entries)
