-- How many cells a tree looks at, by the nodes to which its method expands.
use Rattle.std.proofs.Common.{refl, ℕ, ◌+◌, ◌*◌, ◌≤◌, inl, inr, List, [], ◌∷◌, ◌++◌, length, flat_map, arith, length-append}
use Rattle.std.proofs.lemmas.List.Sums.{sum_by-cons}
use Rattle.std.specs.List.{sum_by}
use Rattle.ld_model.specs.declared.method.Act.{Act}
use Rattle.ld_model.specs.declared.method.Play.{Play}
use Rattle.ld_model.specs.declared.method.RolePart.{RolePart}
use Rattle.ld_model.specs.declared.unit.Unit.{Unit}
use Rattle.ld_names.specs.Names.{names_of, thing_number}
use Rattle.ld_refs.specs.Extents.{feedback_size, size_named, sizes_of}
use Rattle.ld_expr.specs.Looks.{member_looks}
use Rattle.ld_expr.specs.Owners.{of_person}
use Rattle.ld_expr.specs.Seen.{Seen, act_opened_cell}
use Rattle.ld_state.proofs.Elements.{IsIn}
use Rattle.ld_tree.specs.TreeLooks.{act_looks, current_act_looks, done_act_looks, feedback_looks, opened_looks, own_done_looks, part_looks, play_looks, target_looks, tree_looks, visible_looks}
use Rattle.ld_admission.proofs.OneLook.{one_look}
use Rattle.ld_step_laws.proofs.TargetLooks.{Leads, RefersWell, done_few, feedback_few, member_few, some_size, target_few, visible_few}

-- A role-part with what it refers to; an act and a play with their feedback; all plays, with the unit's.
abbrev pub part_nodes : Unit → RolePart → ℕ
part_nodes unit part = 1 + size_named (sizes_of unit (names_of unit)) (names_of unit) part.target

abbrev pub act_nodes : Unit → Act → ℕ
act_nodes unit act = feedback_size act.on_completion + sum_by (part_nodes unit) act.role_parts

abbrev pub play_nodes : Unit → Play → ℕ
play_nodes unit play = feedback_size play.on_completion + sum_by (act_nodes unit) play.acts

abbrev pub method_nodes : Unit → ℕ
method_nodes unit = feedback_size unit.method.on_completion + sum_by (play_nodes unit) unit.method.plays

-- The act has role-parts, and each of them refers to something that a tree shows.
pub record IsFullAct (unit : Unit) (act : Act) : Type 0 where
  pub some : 1 ≤ length act.role_parts
  pub leads : (part : RolePart) → IsIn act.role_parts part → Leads unit part.target

-- The play has acts, and each of them is such.
pub record IsFullPlay (unit : Unit) (play : Play) : Type 0 where
  pub some : 1 ≤ length play.acts
  pub acts : (act : Act) → IsIn play.acts act → IsFullAct unit act

module _ (unit : Unit) (well : RefersWell unit) where
  abbrev AllLead : List RolePart → Type 0
  AllLead parts = (part : RolePart) → IsIn parts part → Leads unit part.target

  abbrev AllFull : List Act → Type 0
  AllFull acts = (act : Act) → IsIn acts act → IsFullAct unit act

  abbrev ArePlays : List Play → Type 0
  ArePlays plays = (play : Play) → IsIn plays play → IsFullPlay unit play

  -- A role-part is one node, and what it refers to another.
  pub parts_count : (parts : List RolePart) → AllLead parts → 2 * length parts ≤ sum_by (part_nodes unit) parts
  parts_count [] lead = omega arith
  parts_count (part ∷ parts) lead =
      omega (arith, sum_by-cons (part_nodes unit) part parts, some_size unit well part.target (lead part (inl refl)), parts_count parts (λ other there. lead other (inr there)))

  pub acts_count : (acts : List Act) → AllFull acts → 2 * length acts ≤ sum_by (act_nodes unit) acts
  acts_count [] full = omega arith
  acts_count (act ∷ acts) full =
      let here = full act (inl refl) in
      omega (arith, sum_by-cons (act_nodes unit) act acts, here.some, parts_count act.role_parts here.leads, acts_count acts (λ other there. full other (inr there)))

  module _ (seen : Seen) (p : ℕ) where
    part_few : (part : RolePart) → Leads unit part.target → length (part_looks unit seen p part) + 5 ≤ 5 * part_nodes unit part
    unfolding part_looks
    part_few part leads =
        let member = member_looks unit seen (of_person p) part.role in
        let done = own_done_looks unit seen p part.identifier in
        let target = target_looks (length unit.structures + 1) unit seen p part.target in
        omega (arith, length-append member (done ++ target), length-append done target, member_few unit well seen p part.role, done_few unit well seen p part.identifier, target_few unit well seen p (length unit.structures + 1) part.target leads)

    parts_few : (parts : List RolePart) → AllLead parts
        → length (flat_map (part_looks unit seen p) parts) + 5 * length parts ≤ 5 * sum_by (part_nodes unit) parts
    parts_few [] lead = omega arith
    parts_few (part ∷ parts) lead =
        omega (arith, length-append (part_looks unit seen p part) (flat_map (part_looks unit seen p) parts), sum_by-cons (part_nodes unit) part parts, part_few part (lead part (inl refl)), parts_few parts (λ other there. lead other (inr there)))

    opened_few : (id : List ℕ) → length (opened_looks unit seen id) ≤ 1
    opened_few id = one_look (λ thing. act_opened_cell thing) (thing_number unit id)

    -- An act, where it is done and where it is not.
    act_few : (act : Act) → IsFullAct unit act
        → length (done_act_looks unit seen p act) + length (act_looks unit seen p act) + 2 ≤ 5 * act_nodes unit act
    act_few act full =
        let done = own_done_looks unit seen p act.identifier in
        let feedback = feedback_looks unit seen p act.on_completion in
        let opened = opened_looks unit seen act.identifier in
        let parts = flat_map (part_looks unit seen p) act.role_parts in
        omega (arith, length-append done feedback, length-append done (opened ++ parts), length-append opened parts, done_few unit well seen p act.identifier, feedback_few unit well seen p act.on_completion, opened_few act.identifier, parts_few act.role_parts full.leads, full.some)

    acts_few : (acts : List Act) → AllFull acts
        → length (flat_map (done_act_looks unit seen p) acts) + length (flat_map (act_looks unit seen p) acts) + 2 * length acts
        ≤ 5 * sum_by (act_nodes unit) acts
    acts_few [] full = omega arith
    acts_few (act ∷ acts) full =
        omega (arith, length-append (done_act_looks unit seen p act) (flat_map (done_act_looks unit seen p) acts), length-append (act_looks unit seen p act) (flat_map (act_looks unit seen p) acts), sum_by-cons (act_nodes unit) act acts, act_few act (full act (inl refl)), acts_few acts (λ other there. full other (inr there)))

    play_few : (play : Play) → IsFullPlay unit play → length (play_looks unit seen p play) ≤ 6 * play_nodes unit play
    unfolding play_looks
    play_few play full =
        let visible = visible_looks unit seen p play.identifier in
        let done = own_done_looks unit seen p play.identifier in
        let over = own_done_looks unit seen p unit.identifier in
        let feedback = feedback_looks unit seen p play.on_completion in
        let done_acts = flat_map (done_act_looks unit seen p) play.acts in
        let acts = flat_map (act_looks unit seen p) play.acts in
        let current = current_act_looks unit seen p play in
        omega (arith, length-append visible (done ++ (feedback ++ (done_acts ++ current))), length-append done (feedback ++ (done_acts ++ current)), length-append feedback (done_acts ++ current), length-append done_acts current, length-append done (over ++ acts), length-append over acts, visible_few unit well seen p play.identifier, done_few unit well seen p play.identifier, done_few unit well seen p unit.identifier, feedback_few unit well seen p play.on_completion, acts_few play.acts full.acts, acts_count play.acts full.acts, full.some)

    plays_few : (plays : List Play) → ArePlays plays
        → length (flat_map (play_looks unit seen p) plays) ≤ 6 * sum_by (play_nodes unit) plays
    plays_few [] full = omega arith
    plays_few (play ∷ plays) full =
        omega (arith, length-append (play_looks unit seen p play) (flat_map (play_looks unit seen p) plays), sum_by-cons (play_nodes unit) play plays, play_few play (full play (inl refl)), plays_few plays (λ other there. full other (inr there)))

    pub tree_few : ArePlays unit.method.plays → length (tree_looks unit seen p) ≤ 6 * method_nodes unit + 1
    unfolding tree_looks
    tree_few full =
        let done = own_done_looks unit seen p unit.identifier in
        let feedback = feedback_looks unit seen p unit.method.on_completion in
        let plays = flat_map (play_looks unit seen p) unit.method.plays in
        omega (arith, length-append done (feedback ++ plays), length-append feedback plays, done_few unit well seen p unit.identifier, feedback_few unit well seen p unit.method.on_completion, plays_few unit.method.plays full)
