use Rattle.std.proofs.Common.{arith, ◌≡◌, ℕ, ◌<◌, inl, inr, ◌++◌, ◌∷◌, [], true, length, Contains, List, sym, ◌∙◌, ap, append_assoc}
use Rattle.std.proofs.lemmas.List.{length-set}
use Rattle.std.proofs.lemmas.List.Elements.{Contains-push, Contains-push_cases, Contains-append_left, All-contains}
use Rattle.ld_graph.proofs.Tables.{has_set, set_has, set_now}
use Rattle.ld_graph.proofs.readers.set_all.Goals as goal

pub loop-site-preserved : goal.loop-site-preserved
loop-site-preserved c =
    let n = c.in-Some.site in
    let t = c.loop-site.dirty in
    let v = c.loop-site.invariant in
    let split : c.args.sites ≡ c.loop-site.yielded ++ n ∷ [] ++ c.next.new.self =
    v.1 ∙ (ap (λ (x : List ℕ). c.loop-site.yielded ++ x) c.in-Some.ensures.steps ∙ sym (append_assoc c.loop-site.yielded (n ∷ []) c.next.new.self)) in
    let member : Contains c.args.sites n = rw split (Contains-append_left (c.loop-site.yielded ++ n ∷ []) c.next.new.self n (Contains-push c.loop-site.yielded n)) in
    let below : n < length c.args.dirty.now = All-contains (λ (i : ℕ). i < length c.args.dirty.now) c.args.sites n c.requires member in
    let lt : n < length t = let e = v.0 in omega arith in
    rw c.set.ensures (
      length-set t n true ∙ v.0,
      split,
      λ i h. has_set t n i lt (v.2 i h),
      λ i h. elim (Contains-push_cases c.loop-site.yielded n i h) [
        | inl was ↦ has_set t n i lt (v.3 i was)
        | inr e ↦ rw (← e) (set_now t n lt)
      ],
      λ i h. elim (set_has t n i h) [
        | inl e ↦ inr (rw e (Contains-push c.loop-site.yielded n))
        | inr was ↦ elim (v.4 i was) [
          | inl a ↦ inl a
          | inr b ↦ inr (Contains-append_left c.loop-site.yielded (n ∷ []) i b)
        ]
      ],
    )
