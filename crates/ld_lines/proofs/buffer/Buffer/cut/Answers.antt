use Rattle.std.proofs.Common.{◌≡◌, ◌+◌, ◌-◌, ◌≤◌, ◌∙◌, ap, add_assoc, drop, length, slice_range, arith}
use Rattle.std.proofs.lemmas.List.Edits.{length-between}
use Rattle.ld_lines.proofs.Ranges.{slice_range_later}
use Rattle.ld_lines.proofs.buffer.Buffer.cut.Goals as goal

pub returns-clause-held : goal.returns-clause-held
returns-clause-held c =
    let b = c.self.inside in
    let held : slice_range b.bytes.items b.start b.end ≡ c.args.self.now.held = ap (λ w. w.held) c.self.view_is in
    let count : length (slice_range b.bytes.items b.start b.end) ≡ b.end - b.start =
    length-between b.bytes.items b.start b.end (omega (arith, b.bytes.ok.0)) in
    let fits : c.args.at + 1 ≤ b.end - b.start = omega (arith, ap length held) in
    rw add_assoc (slice_range_later b.bytes.items b.start (c.args.at + 1) b.end fits ∙ ap (drop (c.args.at + 1)) held)
