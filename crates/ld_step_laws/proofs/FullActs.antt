-- That in a valid unit each play has acts, and each act has role-parts.
use Rattle.std.proofs.Common.{◌≡◌, sym, ap, ◌∙◌, ◌≤◌, inl, inr, List, [], ◌∷◌, length, Bool, true, ◌&&◌, nat_le, codes}
use Rattle.std.proofs.lemmas.Bool.{and_parts, leb-true}
use Rattle.std.specs.List.{list_all}
use Rattle.ld_formats.specs.Completions.{act_completion, ending, play_completion, unit_completion}
use Rattle.ld_formats.specs.Conditions.{conditions_document}
use Rattle.ld_formats.specs.Items.{item}
use Rattle.ld_formats.specs.Methods.{act, method, part_in_act, play}
use Rattle.ld_formats.specs.Units.{Content, content_members, declared_parts, format, head, head_and_conditions, is_well_formed, level_words, method_documents, parts, unit as unit_shape}
use Rattle.ld_shape.specs.Forms.{flag, identifier, number, text, title}
use Rattle.ld_shape.specs.Lists.{list}
use Rattle.ld_shape.specs.Objects.{given}
use Rattle.ld_shape.specs.Words.{one_of}
use Rattle.ld_model.specs.declared.method.Act.{Act}
use Rattle.ld_model.specs.declared.method.Method.{Method}
use Rattle.ld_model.specs.declared.method.Play.{Play}
use Rattle.ld_model.specs.declared.unit.Unit.{Unit}
use Rattle.ld_state.proofs.Elements.{IsIn}

-- The last of three, of four and of six.
last_of_three : (a b rest : Bool) → (a && (b && rest)) ≡ true → rest ≡ true
last_of_three a b rest all = (and_parts b rest (and_parts a (b && rest) all).1).1

last_of_six : (a b c d e rest : Bool) → (a && (b && (c && (d && (e && rest))))) ≡ true → rest ≡ true
last_of_six a b c d e rest all =
    last_of_three d e rest (last_of_three b c (d && (e && rest)) (and_parts a (b && (c && (d && (e && rest)))) all).1)

in_all : {A : Type 0} → (form : A → Bool) (xs : List A) (x : A) → list_all form xs ≡ true → IsIn xs x → form x ≡ true
in_all form [] x all inside = absurd inside
in_all form (y ∷ ys) x all (inl is) = ap form (sym is) ∙ (and_parts (form y) (list_all form ys) all).0
in_all form (y ∷ ys) x all (inr later) = in_all form ys x (and_parts (form y) (list_all form ys) all).1 later

act_parts_formed : (x : Act) → act.has_form x ≡ true → (nat_le 1 (length x.role_parts) && list_all part_in_act.has_form x.role_parts) ≡ true
unfolding act
act_parts_formed x formed =
    let behind = last_of_three (identifier.has_form x.identifier) ((given title).has_form x.title)
    ((nat_le 1 (length x.role_parts) && list_all part_in_act.has_form x.role_parts) && (ending act_completion).shape.has_form (x.complete, x.on_completion)) formed in
    (and_parts (nat_le 1 (length x.role_parts) && list_all part_in_act.has_form x.role_parts) ((ending act_completion).shape.has_form (x.complete, x.on_completion)) behind).0

play_acts_formed : (x : Play) → play.has_form x ≡ true → (nat_le 1 (length x.acts) && list_all act.has_form x.acts) ≡ true
unfolding play
play_acts_formed x formed =
    let behind = last_of_three (identifier.has_form x.identifier) ((given title).has_form x.title)
    (flag.has_form x.visible && ((nat_le 1 (length x.acts) && list_all act.has_form x.acts) && (ending play_completion).shape.has_form (x.complete, x.on_completion))) formed in
    let content = (and_parts (flag.has_form x.visible) ((nat_le 1 (length x.acts) && list_all act.has_form x.acts) && (ending play_completion).shape.has_form (x.complete, x.on_completion)) behind).1 in
    (and_parts (nat_le 1 (length x.acts) && list_all act.has_form x.acts) ((ending play_completion).shape.has_form (x.complete, x.on_completion)) content).0

plays_formed : (x : Method) → method.has_form x ≡ true → list_all play.has_form x.plays ≡ true
unfolding method
plays_formed x formed =
    let plays = (and_parts (nat_le 1 (length x.plays) && list_all play.has_form x.plays) ((ending unit_completion).shape.has_form (x.complete, x.on_completion)) formed).0 in
    (and_parts (nat_le 1 (length x.plays)) (list_all play.has_form x.plays) plays).1

method_formed : (x : Unit) → is_well_formed x ≡ true → method.has_form x.method ≡ true
unfolding is_well_formed unit_shape method_documents head content_members
method_formed x formed =
    let all = and_parts (parts.has_form (declared_parts x)) (method_documents.has_form (head_and_conditions x)) formed in
    let own = (and_parts (head.has_form (head_and_conditions x).0) (conditions_document.has_form x.conditions) all.1).0 in
    let content_of : Content = (x.title, (x.turns, (x.metadata, (x.learning_objectives, (x.prerequisites, x.method))))) in
    let content = (and_parts ((one_of level_words).has_form x.level) (content_members.shape.has_form content_of)
    (last_of_three (format.has_form x.format) (identifier.has_form x.identifier)
    ((one_of level_words).has_form x.level && content_members.shape.has_form content_of) own)).1 in
    last_of_six ((given title).has_form x.title) ((number 1 256).has_form x.turns) ((given (text 0 4096)).has_form x.metadata)
    ((list (codes "learning-objectives") item).shape.has_form x.learning_objectives)
    ((list (codes "prerequisites") item).shape.has_form x.prerequisites) (method.has_form x.method) content

-- Each play has acts, and each of these has role-parts.
pub record HasActs (x : Play) : Type 0 where
  pub some : 1 ≤ length x.acts
  pub parts : (one : Act) → IsIn x.acts one → 1 ≤ length one.role_parts

pub has_acts : (x : Unit) (one : Play) → is_well_formed x ≡ true → IsIn x.method.plays one → HasActs one
has_acts x one formed inside =
    let here = in_all play.has_form x.method.plays one (plays_formed x.method (method_formed x formed)) inside in
    let acts = and_parts (nat_le 1 (length one.acts)) (list_all act.has_form one.acts) (play_acts_formed one here) in
    record {
      some = leb-true 1 (length one.acts) acts.0;
      parts = λ other within.
          let parts = and_parts (nat_le 1 (length other.role_parts)) (list_all part_in_act.has_form other.role_parts) (act_parts_formed other (in_all act.has_form one.acts other acts.1 within)) in
          leb-true 1 (length other.role_parts) parts.0;
    }
