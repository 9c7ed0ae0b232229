use Rattle.std.proofs.Common.{◌≡◌, drop, map, nat_eq}
use Rattle.std.specs.List.{list_any}
use Rattle.ld_replies.proofs.outbox.reaches.Given as goal

abbrev pub invariant-loop-other : goal.invariant-loop-other
invariant-loop-other l =
    list_any (nat_eq l.person.0) (map (λ person. person.0) (drop l.other-index l.other-items))
    ≡ list_any (nat_eq l.fn.person.0) (map (λ person. person.0) l.fn.notice.to)
