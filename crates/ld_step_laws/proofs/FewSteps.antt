-- That what is shown of a run of a valid unit takes few steps for each node to which the unit expands.
use Rattle.std.proofs.Common.{refl, ℕ, ◌+◌, ◌*◌, ◌≤◌, inl, inr, List, [], ◌∷◌, length, arith}
use Rattle.std.proofs.lemmas.List.Sums.{sum_by-cons}
use Rattle.std.specs.List.{sum_by}
use Rattle.ld_model.specs.declared.method.Act.{Act}
use Rattle.ld_model.specs.declared.method.Play.{Play}
use Rattle.ld_model.specs.declared.unit.Unit.{Unit}
use Rattle.ld_refs.specs.Checks.{IsValid}
use Rattle.ld_expr.specs.Seen.{Seen}
use Rattle.ld_state.proofs.Elements.{IsIn, stands_in}
use Rattle.ld_firing.proofs.ChecksMet.{checks_met}
use Rattle.ld_tree.specs.TreeLooks.{tree_looks}
use Rattle.ld_replies.specs.ShownSteps.{act_steps, play_steps, report_steps}
use Rattle.ld_step_laws.specs.Nodes.{nodes_of}
use Rattle.ld_step_laws.proofs.ExpandedSizes.{method_counted}
use Rattle.ld_step_laws.proofs.FullActs.{has_acts}
use Rattle.ld_step_laws.proofs.MethodLooks.{IsFullAct, IsFullPlay, act_nodes, parts_count, play_nodes, tree_few}
use Rattle.ld_step_laws.proofs.References.{part_leads, refers_well}
use Rattle.ld_step_laws.proofs.TargetLooks.{RefersWell}

-- Each play of a valid unit has acts with role-parts that refer to something.
full_play : (unit : Unit) → IsValid unit → (play : Play) → IsIn unit.method.plays play → IsFullPlay unit play
full_play unit valid play inside =
    let has = has_acts unit play valid.formed inside in
    let at_play = stands_in unit.method.plays play inside in
    record {
      some = has.some;
      acts = λ act within.
          let at_act = stands_in play.acts act within in
          record {
            some = has.parts act within;
            leads = λ part there.
                let at_part = stands_in act.role_parts part there in
                part_leads unit (checks_met unit valid) at_play.number at_act.number at_part.number play act part at_play.at at_act.at at_part.at;
          };
    }

pub trees_few : (unit : Unit) (seen : Seen) (p : ℕ) → IsValid unit → length (tree_looks unit seen p) ≤ 6 * nodes_of unit + 1
trees_few unit seen p valid =
    omega (arith, tree_few unit (refers_well unit valid) seen p (full_play unit valid), method_counted unit)

module _ (unit : Unit) (well : RefersWell unit) where
  acts_reported : (acts : List Act) → ((act : Act) → IsIn acts act → IsFullAct unit act)
      → sum_by act_steps acts + length acts ≤ 2 * sum_by (act_nodes unit) acts
  acts_reported [] full = omega arith
  acts_reported (act ∷ acts) full =
      let here = full act (inl refl) in
      omega (arith, sum_by-cons act_steps act acts, sum_by-cons (act_nodes unit) act acts, here.some, parts_count unit well act.role_parts here.leads, acts_reported acts (λ other there. full other (inr there)))

  plays_reported : (plays : List Play) → ((play : Play) → IsIn plays play → IsFullPlay unit play)
      → sum_by play_steps plays ≤ 2 * sum_by (play_nodes unit) plays
  plays_reported [] full = omega arith
  plays_reported (play ∷ plays) full =
      let here = full play (inl refl) in
      omega (arith, sum_by-cons play_steps play plays, sum_by-cons (play_nodes unit) play plays, here.some, acts_reported play.acts here.acts, plays_reported plays (λ other there. full other (inr there)))

pub reports_few : (unit : Unit) → IsValid unit → report_steps unit ≤ 2 * nodes_of unit + 2
reports_few unit valid =
    omega (arith, plays_reported unit (refers_well unit valid) unit.method.plays (full_play unit valid), method_counted unit)
