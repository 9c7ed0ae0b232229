use Rattle.std.proofs.Common.{length, sym, [], ◌∷◌, length-append}
use Rattle.ld_walk.specs.PlaceRows.{place_by}
use Rattle.ld_walk.proofs.WalkLaws.{kept_noted, kept_down, walked_down}
use Rattle.ld_walk.proofs.walk.Walk.go_to.Goals as goal

pub invariant_of-self-in_err-push-2 : goal.invariant_of-self-in_err-push-2
invariant_of-self-in_err-push-2 c =
    let old = c.self.inside in
    rw (c.in_err-push-2.ensures.err, c.in_ok-push.ensures.items) (kept_noted (length old.places) old.at old.back.items old.parts.items c.self.invariant)

pub invariant_of-self-2 : goal.invariant_of-self-2
invariant_of-self-2 c =
    let old = c.self.inside in
    let longer = length-append old.places (place_by old.places (record { above = old.at; step = c.args.step }) ∷ []) in
    rw (c.in_ok-push-2.ensures.ok, c.in_ok-below.ensures.number, c.len.ensures, c.in_ok-push.ensures.items, longer) (kept_down (length old.places) old.at old.back.items old.parts.items c.self.invariant)

pub returns : goal.returns
returns c =
    let old = c.self.inside in
    let further = walked_down old.places (place_by old.places (record { above = old.at; step = c.args.step })) old.at old.back.items old.parts.items c.self.invariant in
    rw (c.in_ok-push-2.ensures.ok, c.in_ok-below.ensures.number, c.len.ensures, c.in_ok-push.ensures.items, sym c.self.view_is) further
