use Rattle.std.proofs.Common.{◌≡◌, ◌-◌, ◌≤◌, ◌^◌, List, length, drop, sym, ap, ◌∙◌, arith, length-take, length-drop}
use Rattle.ld_keep.specs.Kept.{reach, record_in}
use Rattle.ld_keep.specs.Window.{IsOfFile}
use Rattle.ld_keep.proofs.Told.{told_more, told_both}
use Rattle.ld_keep.proofs.Advancing.{none_by_fewer, head_of_file}
use Rattle.ld_keep.proofs.Windows.{held_of_file}
use Rattle.ld_keep.proofs.gates.record_at.Goals as goal

pub returns-then-limit-place-lt5-clause-found : goal.returns-then-limit-place-lt5-clause-found
returns-then-limit-place-lt5-clause-found g c =
    told_more _ _ _ c.requires.limit (λ file limit.
    sym (none_by_fewer (drop c.args.place (reach file)) (omega (arith, limit, length-drop c.args.place (reach file)))))

pub hold-requires-clause-there : goal.hold-requires-clause-there
hold-requires-clause-there g c = told_more _ (λ file. c.args.limit ≡ length (reach file)) (λ file. c.args.limit ≤ length file) c.requires.limit (λ file limit. omega (arith, limit, length-take (2 ^ 40) file))

pub returns-clause-found : goal.returns-clause-found
returns-clause-found g c =
    let window = c.hold.new.self in
    told_both _ (λ file. c.args.limit ≡ length (reach file)) (IsOfFile window) _ c.requires.limit c.hold.ensures.of_file (λ file limit of_file.
    c.record_length.ensures.value
    ∙ ap (λ (l : List _). record_in l (c.args.limit - c.args.place)) (c.part.ensures ∙ held_of_file window file c.args.place 5 of_file c.in_ok-hold.ensures.holds)
    ∙ head_of_file file c.args.place c.args.limit limit c.requires.within (omega arith))
