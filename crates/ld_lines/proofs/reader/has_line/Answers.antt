use Rattle.std.proofs.Common.{◌≡◌, ◌-◌, ◌+◌, take, drop, length, sym, ◌∙◌, arith, length-drop}
use Rattle.std.proofs.lemmas.List.{take_all}
use Rattle.ld_lines.proofs.Pieces.{ended_lines_of-none, first_line, first_passed}
use Rattle.ld_lines.proofs.reader.has_line.Goals as goal

pub returns-then-not-is_passed_over-clause-yes : goal.returns-then-not-is_passed_over-clause-yes
returns-then-not-is_passed_over-clause-yes c =
    λ _ none. first_line c.pieces.rest.now c.in-Some.at c.in-Some.ensures (sym c.if-not-is_passed_over.ensures) (sym c.pieces.invariant ∙ none)

pub pieces-preserved : goal.pieces-preserved
pieces-preserved c =
    let rest = c.pieces.rest.now in
    let at = c.in-Some.at in
    let all : take (length rest - (at + 1)) (drop (at + 1) rest) ≡ drop (at + 1) rest = take_all (length rest - (at + 1)) (drop (at + 1) rest) (omega (arith, length-drop (at + 1) rest)) in
    rw all (c.pieces.invariant ∙ first_passed rest at c.in-Some.ensures (sym c.if-not-is_passed_over.ensures))

pub returns-clause-no : goal.returns-clause-no
returns-clause-no c = λ _. c.pieces.invariant ∙ ended_lines_of-none c.pieces.rest.now c.in_default.ensures
