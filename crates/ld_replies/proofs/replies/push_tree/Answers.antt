use Rattle.std.proofs.Common.{◌≡◌, List, ℕ, ◌++◌, length, map, sym, ap, ap₂, ◌∙◌, codes, decimal, string_bytes, append_assoc}
use Rattle.std.proofs.lemmas.List.{length-map}
use Rattle.ld_state.specs.RunState.{seen_in}
use Rattle.ld_state.specs.StateView.{run_of, seen_of}
use Rattle.ld_tree.specs.Lines.{line_text, lines_text}
use Rattle.ld_tree.specs.Tree.{tree_lines}
use Rattle.ld_replies.proofs.Placed.{number_placed_at, place_ends_at}
use Rattle.ld_replies.proofs.SeenInRuns.{tree_costs}
use Rattle.ld_state.proofs.SeenSame.{seen_same}
use Rattle.ld_replies.proofs.replies.push_tree.Goals as goal

pub replace_range-requires-clause-end_boundary : goal.replace_range-requires-clause-end_boundary
replace_range-requires-clause-end_boundary g c =
    let unit = c.args.unit.now in
    let s = c.args.state.now in
    let p = c.args.person.0 in
    let lines : List (List ℕ) = map line_text (tree_lines unit (seen_in unit (run_of s)) p) in
    let front = string_bytes c.push_str.new.self in
    let at : length c.as_str-at.result.now ≡ length front = ap length c.as_str-at.ensures.value in
    let told : string_bytes c.in_ok-text-2.text ≡ string_bytes c.push_str-2.new.self ++ lines_text lines = c.in_ok-text-2.ensures.text
    ∙ ap₂ (λ u one. string_bytes c.push_str-2.new.self ++ lines_text (map line_text (tree_lines u one p))) c.scope.ensures.unit
    (ap seen_of c.scope.ensures.view ∙ seen_same unit s c.requires) in
    let placed : string_bytes c.in_ok-text-2.text ≡ front ++ (codes "0000" ++ lines_text lines) =
    told ∙ ap (λ (t : List ℕ). t ++ lines_text lines) c.in_ok-push_str-2.ensures.bytes ∙ append_assoc front (codes "0000") (lines_text lines) in
    place_ends_at (string_bytes c.in_ok-text-2.text) front lines (length c.as_str-at.result.now) placed at

pub returns-clause-text : goal.returns-clause-text
returns-clause-text g c =
    let unit = c.args.unit.now in
    let s = c.args.state.now in
    let p = c.args.person.0 in
    let seen = ap seen_of c.scope.ensures.view ∙ seen_same unit s c.requires in
    let lines : List (List ℕ) = map line_text (tree_lines unit (seen_in unit (run_of s)) p) in
    let out = c.args.out.now.bytes in
    let front = string_bytes c.push_str.new.self in
    let number = c.format.result.now in
    let at : length c.as_str-at.result.now ≡ length front = ap length c.as_str-at.ensures.value in
    let told : string_bytes c.in_ok-text-2.text ≡ string_bytes c.push_str-2.new.self ++ lines_text lines = c.in_ok-text-2.ensures.text
    ∙ ap₂ (λ u one. string_bytes c.push_str-2.new.self ++ lines_text (map line_text (tree_lines u one p))) c.scope.ensures.unit seen in
    let placed : string_bytes c.in_ok-text-2.text ≡ front ++ (codes "0000" ++ lines_text lines) =
    told ∙ ap (λ (t : List ℕ). t ++ lines_text lines) c.in_ok-push_str-2.ensures.bytes ∙ append_assoc front (codes "0000") (lines_text lines) in
    let replaced : string_bytes c.replace_range.new.self ≡ front ++ (number ++ lines_text lines) = c.in_ok-replace_range.ensures.bytes
    ∙ number_placed_at (string_bytes c.in_ok-text-2.text) front number lines (length c.as_str-at.result.now) placed at in
    let all : c.append.new.self.bytes ≡ string_bytes c.replace_range.new.self =
    c.in_ok-append.ensures.ok ∙ ap (λ (t : List ℕ). t ++ string_bytes c.replace_range.new.self) c.clear.ensures.empty in
    let begins : front ≡ out ++ codes " lines=" =
    c.in_ok-push_str.ensures.bytes ∙ ap (λ (t : List ℕ). t ++ codes " lines=") (c.in_ok-text.ensures.ok ∙ c.as_str.ensures.bytes) in
    let count : c.in_ok-text-2.count ≡ length lines = c.in_ok-text-2.ensures.count
    ∙ ap₂ (λ u one. length (tree_lines u one p)) c.scope.ensures.unit seen
    ∙ sym (length-map (tree_lines unit (seen_in unit (run_of s)) p) line_text) in
    let digits : number ≡ decimal (length lines) = c.format.ensures.text ∙ ap decimal count in
    all ∙ replaced ∙ ap₂ (λ (t n : List ℕ). t ++ (n ++ lines_text lines)) begins digits
    ∙ append_assoc out (codes " lines=") (decimal (length lines) ++ lines_text lines)

pub returns-in_err-text-2-clause-cost : goal.returns-in_err-text-2-clause-cost
returns-in_err-text-2-clause-cost g c =
    tree_costs c.args.unit.now c.args.state.now c.requires c.scope.result.unit.now c.scope.result.view.now c.scope.ensures.unit c.scope.ensures.view c.args.person.0 c.args.steps.now c.tree_text.new.steps c.tree_text.ensures.cost

pub returns-in_err-replace_range-clause-cost : goal.returns-in_err-replace_range-clause-cost
returns-in_err-replace_range-clause-cost g c =
    tree_costs c.args.unit.now c.args.state.now c.requires c.scope.result.unit.now c.scope.result.view.now c.scope.ensures.unit c.scope.ensures.view c.args.person.0 c.args.steps.now c.tree_text.new.steps c.tree_text.ensures.cost

pub returns-in_err-append-clause-cost : goal.returns-in_err-append-clause-cost
returns-in_err-append-clause-cost g c =
    tree_costs c.args.unit.now c.args.state.now c.requires c.scope.result.unit.now c.scope.result.view.now c.scope.ensures.unit c.scope.ensures.view c.args.person.0 c.args.steps.now c.tree_text.new.steps c.tree_text.ensures.cost

pub returns-clause-cost : goal.returns-clause-cost
returns-clause-cost g c =
    tree_costs c.args.unit.now c.args.state.now c.requires c.scope.result.unit.now c.scope.result.view.now c.scope.ensures.unit c.scope.ensures.view c.args.person.0 c.args.steps.now c.tree_text.new.steps c.tree_text.ensures.cost
