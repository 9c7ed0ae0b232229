use Rattle.std.proofs.Common.{◌≡◌, ◌+◌, ◌-◌, ◌∙◌, ap, ◌++◌, slice_range, arith}
use Rattle.std.proofs.lemmas.List.Edits.{length-between}
use Rattle.ld_lines.proofs.Ranges.{slice_range_join, slice_range_front}
use Rattle.ld_lines.proofs.buffer.Buffer.fill.Goals as goal

pub returns-clause-bytes : goal.returns-clause-bytes
returns-clause-bytes g c =
    let b = c.self.inside in
    let at = c.make_room-self-inside.result in
    let len = b.end - b.start in
    let n = c.in_ok-count.count in
    let moved = c.make_room-self-inside.new.bytes.items in
    let filled = c.take_into.new.bytes.items in
    let was : slice_range b.bytes.items b.start b.end ≡ c.args.self.now.held = ap (λ w. w.held) c.self.view_is in
    let kept : slice_range filled at (at + len) ≡ c.args.self.now.held =
    slice_range_front filled moved at (at + len) c.take_into.ensures.front ∙ c.make_room-self-inside.ensures.held ∙ was in
    record {
      piece = slice_range filled (at + len) (at + len + n);
      held = slice_range_join filled at len n ∙ ap (λ ys. ys ++ slice_range filled (at + len) (at + len + n)) kept;
      counted =
          length-between filled (at + len) (at + len + n) (omega (arith, c.take_into.new.bytes.ok.0, c.in_ok-count.ensures.ok.0))
          ∙ omega arith;
      left = c.in_ok-count.ensures.ok.1;
    }
