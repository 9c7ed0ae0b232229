use Rattle.std.proofs.Common.{◌≡◌, ap, sym, ◌∙◌}
use Rattle.ld_keep.specs.Kept.{last_gate}
use Rattle.ld_keep.specs.Opening.{IsAtGate}
use Rattle.ld_keep.proofs.Told.{told_more}
use Rattle.ld_keep.proofs.Advancing.{ended_at}
use Rattle.ld_keep.proofs.opening.Opening.finish.Goals as goal

pub close_gate-requires-clause-gate : goal.close_gate-requires-clause-gate
close_gate-requires-clause-gate g c =
    told_more _ (IsAtGate c.args.self) (λ file. last_gate file ≡ c.place-place.result) c.requires.at_gate (λ file at.
    ended_at c.args.self file at c.requires.ended ∙ sym (c.place-place.ensures.place ∙ ap (λ s. s.place) c.self.view_is))

pub returns-clause-gate : goal.returns-clause-gate
returns-clause-gate g c =
    told_more _ (IsAtGate c.args.self) (λ file. last_gate file ≡ c.at.result) c.requires.at_gate (λ file at.
    ended_at c.args.self file at c.requires.ended ∙ sym (c.at.ensures ∙ c.place-place.ensures.place ∙ ap (λ s. s.place) c.self.view_is))
