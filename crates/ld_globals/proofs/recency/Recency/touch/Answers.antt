use Rattle.std.proofs.Common.{◌≡◌, ◌≤◌, ◌<◌, ◌∙◌, length, ap, sym, subst}
use Rattle.std.specs.List.{AllByRecursion}
use Rattle.ld_globals.specs.Recent.{IsRecency, IsEndless, slots_in}
use Rattle.ld_globals.proofs.Recent.{used-recency}
use Rattle.ld_globals.proofs.recency.Recency.touch.Goals as goal

pub invariant_of-self : goal.invariant_of-self
invariant_of-self c =
    let old : IsRecency c.in-Some.cache.entries = subst (λ o. IsRecency (slots_in o)) c.in-Some.is c.self.invariant.0 in
    let is : c.args.self.now ≡ c.in-Some.cache.entries = sym c.self.view_is ∙ ap slots_in c.in-Some.is in
    let new = used-recency c.args.slot c.args.number c.in-Some.cache.entries (subst (λ es. c.args.slot < length es) is c.requires.slot) (subst (AllByRecursion (λ e. e.1 ≤ c.args.number)) is c.requires.latest) old in
    (subst IsRecency (sym c.use_slot.ensures.slots) new, c.use_slot.ensures.cap ∙ subst IsEndless c.in-Some.is c.self.invariant.1)
