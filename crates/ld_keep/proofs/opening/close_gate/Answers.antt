use Rattle.std.proofs.Common.{◌≡◌, ◌<◌, ◌^◌, [], ◌∷◌, Some, length, slice_get, arith, length-take}
use Rattle.ld_keep.specs.Disk.{overwritten}
use Rattle.ld_keep.specs.Kept.{reach, last_gate}
use Rattle.ld_keep.specs.Opening.{HasLastGate, with_closed_gate}
use Rattle.ld_keep.proofs.Told.{told_more, told_both, told_same, made_as, left_as, on_ok}
use Rattle.ld_keep.proofs.Closing.{closed_stays, closes_empty}
use Rattle.ld_keep.proofs.opening.close_gate.Goals as goal

pub gate_at-requires : goal.gate_at-requires
gate_at-requires g c =
    told_more _ (λ file. c.args.limit ≡ length (reach file)) (λ file. c.args.place < length file) c.requires.limit
    (λ file limit. omega (arith, limit, length-take (2 ^ 40) file))

pub close_other-requires-clause-gate : goal.close_other-requires-clause-gate
close_other-requires-clause-gate g c =
    told_same _ _ (HasLastGate c.args.place c.in_ok-gate.gate) c.gate_at.ensures.quiet.bytes
    (told_both _ (λ file. last_gate file ≡ c.args.place) (λ file. slice_get file c.args.place ≡ Some c.in_ok-gate.gate) (HasLastGate c.args.place c.in_ok-gate.gate) c.requires.gate c.in_ok-gate.ensures.gate
    (λ file at byte. record { at = at; byte = byte }))

pub returns-then-place-limit-clause-bytes : goal.returns-then-place-limit-clause-bytes
returns-then-place-limit-clause-bytes g c =
    let place = c.args.place in
    on_ok c.put_gate.result _ _ c.put_gate.ensures.bytes (λ is.
    made_as _ _ (overwritten place (0 ∷ [])) with_closed_gate (λ file. (last_gate file ≡ place) × (c.args.limit ≡ length (reach file))) is
    (told_both _ (λ file. last_gate file ≡ place) (λ file. c.args.limit ≡ length (reach file)) _ c.requires.gate c.requires.limit (λ file at limit. (at, limit)))
    (λ file both. closes_empty file place both.0 (omega (arith, both.1, c.if-place-limit.true))))

pub returns-then-gate-eq0-clause-bytes : goal.returns-then-gate-eq0-clause-bytes
returns-then-gate-eq0-clause-bytes g c =
    let place = c.args.place in
    let gate = c.in_ok-gate.gate in
    left_as _ _ with_closed_gate (HasLastGate place gate) c.gate_at.ensures.quiet.bytes
    (told_both _ (λ file. last_gate file ≡ place) (λ file. slice_get file place ≡ Some gate) (HasLastGate place gate) c.requires.gate c.in_ok-gate.ensures.gate
    (λ file at byte. record { at = at; byte = byte }))
    (λ file has. closed_stays file place gate has c.if-gate-eq0.true)
