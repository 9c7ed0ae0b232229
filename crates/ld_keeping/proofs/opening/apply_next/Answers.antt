use Rattle.std.proofs.Common.{◌≡◌, ℕ, List, ◌∷◌, Ok, Some, IfSome, refl, ◌∙◌, ap}
use Rattle.ld_keep.specs.Kept.{lines_from}
use Rattle.ld_keep.specs.Opening.{IsAtGate}
use Rattle.ld_keep.proofs.Told.{told_more}
use Rattle.ld_world.specs.WorldView.{world_of}
use Rattle.ld_keeping.proofs.Replied.{says}
use Rattle.ld_keeping.proofs.opening.apply_next.Goals as goal

pub returns-in-Refused-clause-applies : goal.returns-in-Refused-clause-applies
returns-in-Refused-clause-applies g c =
    let line = c.in-Ok-Some.line.now in
    let next = rw (c.in-Ok-Some.is ∙ ap Ok c.in-Ok-Some.field-0-is) at c.next.follows.holds-at-none in
    let refused = rw c.in-Refused.is at (says (world_of c.args.world.now) line c.answer.new.out.bytes (world_of c.answer.new.self) c.answer.result c.answer.ensures.answers) in
    let place = c.next.follows.lender-at-none.place in
    let left : IfSome (g.D.Disk.model.bytes c.args.disk.now) (λ file. (rest : List (List ℕ)) × (lines_from c.args.opening.now.place file ≡ line ∷ rest)) =
    told_more (g.D.Disk.model.bytes c.args.disk.now) (λ file. (lines_from c.args.opening.now.place file ≡ line ∷ lines_from place file) × IsAtGate c.next.follows.lender-at-none file)
    (λ file. (rest : List (List ℕ)) × (lines_from c.args.opening.now.place file ≡ line ∷ rest)) next.1 (λ file both. (lines_from place file, both.0)) in
    (refl, line, refused.0, refused.1, refused.2, left)
