use Rattle.std.proofs.Common.{◌≡◌, ◌+◌, [], ◌∷◌, length, Some, ◌∙◌, ap, arith}
use Rattle.ld_keep.specs.Disk.{overwritten}
use Rattle.ld_keep.specs.Kept.{reach}
use Rattle.ld_keep.specs.Opening.{HasLastGate, IsHarmless, with_closed_gate}
use Rattle.ld_keep.proofs.Told.{told_more, told_both, made_as, made_twice, on_ok}
use Rattle.ld_keep.proofs.Images.{harmless_open}
use Rattle.ld_keep.proofs.Closing.{closes_open, closes_short, closes_cleared}
use Rattle.ld_keep.proofs.opening.close_other.Goals as goal

pub put_gate-requires-clause-harmless : goal.put_gate-requires-clause-harmless
put_gate-requires-clause-harmless g c =
    told_more _ (HasLastGate c.args.place c.args.gate) (IsHarmless c.args.place) c.requires.gate
    (λ file has. harmless_open file c.args.place has.at (has.byte ∙ ap Some c.if-gate-eq1.true))

pub returns-then-gate-eq1-clause-bytes : goal.returns-then-gate-eq1-clause-bytes
returns-then-gate-eq1-clause-bytes g c =
    let place = c.args.place in
    let gate = c.args.gate in
    on_ok c.put_gate.result _ _ c.put_gate.ensures.bytes (λ is.
    made_as _ _ (overwritten place (0 ∷ [])) with_closed_gate (HasLastGate place gate) is c.requires.gate
    (λ file has. closes_open file place gate has c.if-gate-eq1.true))

pub returns-then-limit-place-lt5-clause-bytes : goal.returns-then-limit-place-lt5-clause-bytes
returns-then-limit-place-lt5-clause-bytes g c =
    let place = c.args.place in
    let gate = c.args.gate in
    on_ok c.put_gate-then-limit-place-lt5.result _ _ c.put_gate-then-limit-place-lt5.ensures.bytes (λ is.
    made_as _ _ (overwritten place (0 ∷ [])) with_closed_gate (λ file. HasLastGate place gate file × (c.args.limit ≡ length (reach file))) is
    (told_both _ (HasLastGate place gate) (λ file. c.args.limit ≡ length (reach file)) _ c.requires.gate c.requires.limit (λ file has limit. (has, limit)))
    (λ file both. closes_short file place gate both.0 c.requires.other c.if-gate-eq1.false (omega (arith, both.1, c.if-limit-place-lt5.true))))

pub returns-clause-bytes : goal.returns-clause-bytes
returns-clause-bytes g c =
    let place = c.args.place in
    let gate = c.args.gate in
    on_ok c.put_gate-2.result _ _ c.put_gate-2.ensures.bytes (λ is.
    made_twice _ _ _ (overwritten (place + 1) (0 ∷ 0 ∷ 0 ∷ 0 ∷ [])) (overwritten place (0 ∷ [])) with_closed_gate (λ file. HasLastGate place gate file × (c.args.limit ≡ length (reach file)))
    c.in_ok-clear_length.ensures.bytes is
    (told_both _ (HasLastGate place gate) (λ file. c.args.limit ≡ length (reach file)) _ c.requires.gate c.requires.limit (λ file has limit. (has, limit)))
    (λ file both. closes_cleared file place gate both.0 c.requires.other c.if-gate-eq1.false (omega (arith, both.1, c.if-limit-place-lt5.false))))
