use Rattle.std.proofs.Common.{◌≡◌, take}
use Rattle.std.specs.List.{list_all}
use Rattle.ld_shape.specs.Forms.{is_visible_ascii}
use Rattle.ld_shape.proofs.texts.are_visible_ascii.Given as goal

abbrev pub invariant-loop-byte : goal.invariant-loop-byte
invariant-loop-byte l = l.visible ≡ list_all is_visible_ascii (take l.byte-index l.bytes)
