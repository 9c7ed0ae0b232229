-- What is true of the line of each activity that is shown, and of all lines that speak of no activity, is true of
-- each line of a person's tree.
use Rattle.std.proofs.Common.{◌≡◌, refl, sym, ap, subst, ℕ, zero, suc, ◌+◌, inl, inr, List, [], ◌∷◌, ◌++◌, map, flat_map, length, find, Option, Some, None, Bool, true, false, ◌&&◌, ◌||◌, not, codes, if◌then◌else◌, Contains}
use Rattle.std.specs.Prelude.{⊤}
use Rattle.ld_model.specs.declared.activity.Activity.{Activity}
use Rattle.ld_model.specs.declared.activity.Structure.{Structure}
use Rattle.ld_model.specs.declared.activity.StructureKind.{StructureKind}
use Rattle.ld_model.specs.declared.activity.StructureKind.TheVariants.{Sequence, Selection}
use Rattle.ld_model.specs.declared.environment.LearningObject.{LearningObject}
use Rattle.ld_model.specs.declared.environment.Service.{Service}
use Rattle.ld_model.specs.declared.item.Item.{Item}
use Rattle.ld_model.specs.declared.method.Act.{Act}
use Rattle.ld_model.specs.declared.method.Play.{Play}
use Rattle.ld_model.specs.declared.method.RolePart.{RolePart}
use Rattle.ld_model.specs.declared.unit.Unit.{Unit}
use Rattle.ld_expr.specs.Done.{is_done}
use Rattle.ld_expr.specs.Lookup.{list_from, activity_named, structure_named, environment_named}
use Rattle.ld_expr.specs.Membership.{is_member_of}
use Rattle.ld_expr.specs.Owners.{of_person}
use Rattle.ld_expr.specs.Seen.{Seen}
use Rattle.ld_rules.specs.Reach.{itself, child_of}
use Rattle.ld_state.proofs.Elements.{IsIn, contains_from_in}
use Rattle.ld_firing.proofs.Found.{chosen_by}
use Rattle.ld_tree.specs.Lines.{TreeLine}
use Rattle.ld_tree.specs.Tree.{Status, done, opened, closed, status_by, unless_closed, once_done, status_line, is_visible, item_lines, all_item_lines, object_lines, service_lines, environment_lines, all_environment_lines, activity_word, activity_lines, is_passed, in_turn, flagged, FlaggedLines, structure_lines, target_lines, done_status, part_lines, is_act_done, done_act_lines, is_act_opened, open_act_lines, current_act_lines, play_lines, tree_lines, feedback_of}
use Rattle.ld_laws.specs.LineWords.{is_activity_word, IsTheirs}

abbrev pub Each : {A : Type 0} → (A → Type 0) → List A → Type 0
Each P [] = ⊤
Each P (x ∷ xs) = P x × Each P xs

pub each_in : {A : Type 0} (P : A → Type 0) (xs : List A) (x : A) → Each P xs → IsIn xs x → P x
each_in P [] x each there = absurd there
each_in P (y ∷ ys) x each (inl is) = subst P is each.0
each_in P (y ∷ ys) x each (inr there) = each_in P ys x each.1 there

-- What is shown of activities: the line of each that is the person's.
abbrev pub TellsActivities : Unit → Seen → ℕ → (TreeLine → Type 0) → Type 0
TellsActivities unit seen p P =
    (depth : ℕ) (flag : Bool) (name : List ℕ) (activity : Activity) → activity_named unit name ≡ Some activity → IsTheirs unit seen p name
    → P (status_line depth (activity_word activity.kind) activity.identifier (status_by (is_done unit seen (of_person p) activity.identifier) flag) activity.title)

abbrev pub TellsOthers : (TreeLine → Type 0) → Type 0
TellsOthers P = (line : TreeLine) (word : List ℕ) (rest : List (List ℕ)) → is_activity_word word ≡ false → line.words ≡ word ∷ rest → P line

module _ (P : TreeLine → Type 0) where
  both : (xs ys : List TreeLine) → Each P xs → Each P ys → Each P (xs ++ ys)
  both [] ys first second = second
  both (x ∷ xs) ys first second = (first.0, both xs ys first.1 second)

  each_of : {A : Type 0} (f : A → List TreeLine) (xs : List A) → ((x : A) → IsIn xs x → Each P (f x)) → Each P (flat_map f xs)
  each_of f [] each = tt
  each_of f (x ∷ xs) each = both (f x) (flat_map f xs) (each x (inl refl)) (each_of f xs (λ y there. each y (inr there)))

  each_from : {A : Type 0} (f : A → List TreeLine) (o : Option A) → ((x : A) → o ≡ Some x → Each P (f x)) → Each P (list_from f o)
  each_from f None each = tt
  each_from f (Some x) each = each x refl

  each_when : (b : Bool) (lines : List TreeLine) → (b ≡ true → Each P lines) → Each P (if b then lines else [])
  each_when true lines each = each refl
  each_when false lines each = tt

  each_otherwise : (b : Bool) (lines : List TreeLine) → Each P lines → Each P (if b then [] else lines)
  each_otherwise true lines each = tt
  each_otherwise false lines each = each

  below : (status : Status) (lines : List TreeLine) → Each P lines → Each P (unless_closed status lines)
  below done lines each = each
  below opened lines each = each
  below closed lines each = tt

  behind : (status : Status) (lines : List TreeLine) → Each P lines → Each P (once_done status lines)
  behind done lines each = each
  behind opened lines each = tt
  behind closed lines each = tt

module _ (unit : Unit) (seen : Seen) (p : ℕ) (P : TreeLine → Type 0) (tells : TellsActivities unit seen p P) (others : TellsOthers P) where
  items : (depth : ℕ) (list : List Item) → Each P (all_item_lines unit seen p depth list)
  items depth list = each_of P (item_lines unit seen p depth) list λ item there.
      each_when P (is_visible unit seen p item.identifier) _ λ visible. (others _ (codes "item") _ refl refl, tt)

  object : (depth : ℕ) (one : LearningObject) → Each P (object_lines unit seen p depth one)
  object depth one = each_when P (is_visible unit seen p one.identifier) _ λ visible. (others _ (codes "object") _ refl refl, items (depth + 1) one.items)

  service : (depth : ℕ) (one : Service) → Each P (service_lines unit seen p depth one)
  service depth one = each_when P (is_visible unit seen p one.identifier) _ λ visible. (others _ (codes "service") _ refl refl, tt)

  environment : (n depth : ℕ) (id : List ℕ) → Each P (environment_lines n unit seen p depth id)
  environment zero depth id = tt
  environment (suc n) depth id = each_when P (is_visible unit seen p id) _ λ visible. each_from P _ (environment_named unit id) λ one is. (
    others _ (codes "environment") _ refl refl,
    both P (flat_map (object_lines unit seen p (depth + 1)) one.learning_objects) _ (each_of P (object_lines unit seen p (depth + 1)) one.learning_objects (λ x there. object (depth + 1) x))
        (both P (flat_map (service_lines unit seen p (depth + 1)) one.services) _ (each_of P (service_lines unit seen p (depth + 1)) one.services (λ x there. service (depth + 1) x))
        (each_of P (environment_lines n unit seen p (depth + 1)) one.environments (λ x there. environment n (depth + 1) x))),
  )

  environments : (depth : ℕ) (ids : List (List ℕ)) → Each P (all_environment_lines unit seen p depth ids)
  environments depth ids = each_of P (environment_lines (length unit.environments) unit seen p depth) ids (λ id there. environment (length unit.environments) depth id)

  activity : (depth : ℕ) (flag : Bool) (name : List ℕ) (one : Activity) → activity_named unit name ≡ Some one → IsTheirs unit seen p name → Each P (activity_lines unit seen p depth flag one)
  activity depth flag name one is theirs =
      let status = status_by (is_done unit seen (of_person p) one.identifier) flag in
      let feedback = all_item_lines unit seen p (depth + 1) (feedback_of one.on_completion) in (
        tells depth flag name one is theirs,
        below P status _ (both P (all_environment_lines unit seen p (depth + 1) one.environments) _ (environments (depth + 1) one.environments)
            (both P (all_item_lines unit seen p (depth + 1) one.items) _ (items (depth + 1) one.items) (behind P status feedback (items (depth + 1) (feedback_of one.on_completion))))),
      )

  turns : (lines : FlaggedLines) (flag : Bool) (children : List (List ℕ)) → ((turn : Bool) (child : List ℕ) → IsIn children child → Each P (lines (turn, child))) → Each P (flat_map lines (in_turn unit seen p flag children))
  turns lines flag [] each = tt
  turns lines flag (child ∷ children) each =
      both P (lines (flag, child)) _ (each flag child (inl refl)) (turns lines (flag && is_passed unit seen p child) children (λ turn x there. each turn x (inr there)))

  choices : (lines : FlaggedLines) (flag : Bool) (children : List (List ℕ)) → ((turn : Bool) (child : List ℕ) → IsIn children child → Each P (lines (turn, child))) → Each P (flat_map lines (map (λ child. (flag, child)) children))
  choices lines flag [] each = tt
  choices lines flag (child ∷ children) each =
      both P (lines (flag, child)) _ (each flag child (inl refl)) (choices lines flag children (λ turn x there. each turn x (inr there)))

  all_children : (lines : FlaggedLines) (kind : StructureKind) (flag : Bool) (children : List (List ℕ)) → ((turn : Bool) (child : List ℕ) → IsIn children child → Each P (lines (turn, child))) → Each P (flat_map lines (flagged unit seen p kind flag children))
  all_children lines Sequence flag children each = turns lines flag children each
  all_children lines Selection flag children each = choices lines flag children each

  structure : (depth : ℕ) (flag : Bool) (lines : FlaggedLines) (one : Structure) → ((turn : Bool) (child : List ℕ) → IsIn one.children child → Each P (lines (turn, child))) → Each P (structure_lines unit seen p depth flag lines one)
  structure depth flag lines one each = (
    others _ (codes "structure") _ refl refl,
    below P (status_by (is_done unit seen (of_person p) one.identifier) flag) _ (both P (all_environment_lines unit seen p (depth + 1) one.environments) _ (environments (depth + 1) one.environments)
        (all_children lines one.kind flag one.children each)),
  )

  -- A child of a structure that is the person's is the person's.
  child_theirs : (name child : List ℕ) (one : Structure) → structure_named unit name ≡ Some one → IsIn one.children child → IsTheirs unit seen p name → IsTheirs unit seen p child
  child_theirs name child one is there theirs = record {
    play = theirs.play;
    act = theirs.act;
    part = theirs.part;
    in_unit = theirs.in_unit;
    in_play = theirs.in_play;
    in_act = theirs.in_act;
    opened = theirs.opened;
    member = theirs.member;
    below = child_of name child theirs.below (subst (λ children. Contains children child) (sym (ap (list_from (λ (found : Structure). found.children)) is)) (contains_from_in one.children child there));
  }

  target : (n depth : ℕ) (flag : Bool) (name : List ℕ) → IsTheirs unit seen p name → Each P (target_lines n unit seen p depth (flag, name))
  target zero depth flag name theirs = tt
  target (suc n) depth flag name theirs = each_when P (is_visible unit seen p name) _ λ visible.
      both P (list_from (activity_lines unit seen p depth flag) (activity_named unit name)) _
      (each_from P (activity_lines unit seen p depth flag) (activity_named unit name) (λ one is. activity depth flag name one is theirs))
      (both P (list_from (structure_lines unit seen p depth flag (target_lines n unit seen p (depth + 1))) (structure_named unit name)) _
      (each_from P (structure_lines unit seen p depth flag (target_lines n unit seen p (depth + 1))) (structure_named unit name)
      (λ one is. structure depth flag (target_lines n unit seen p (depth + 1)) one (λ turn child there. target n (depth + 1) turn child (child_theirs name child one is there theirs))))
      (environment (length unit.environments) depth name))

  role_part : (play : Play) (act : Act) (part : RolePart) → IsIn unit.method.plays play → IsIn play.acts act → IsIn act.role_parts part → is_act_opened unit seen act.identifier ≡ true → Each P (part_lines unit seen p part)
  role_part play act part in_unit in_play in_act now = each_when P (is_member_of unit seen part.role p) _ λ member. (
    others _ (codes "part") _ refl refl,
    target (length unit.structures + 1) 4 true part.target (record {
      play = play;
      act = act;
      part = part;
      in_unit = contains_from_in unit.method.plays play in_unit;
      in_play = contains_from_in play.acts act in_play;
      in_act = contains_from_in act.role_parts part in_act;
      opened = now;
      member = member;
      below = itself;
    }),
  )

  done_act : (one : Act) → Each P (done_act_lines unit seen p one)
  done_act one = each_when P (is_act_done unit seen p one) _ λ is. (others _ (codes "act") _ refl refl, items 3 (feedback_of one.on_completion))

  open_act : (play : Play) (act : Act) → IsIn unit.method.plays play → IsIn play.acts act → Each P (open_act_lines unit seen p act)
  open_act play act in_unit in_play = each_when P (is_act_opened unit seen act.identifier) _ λ now.
      (others _ (codes "act") _ refl refl, each_of P (part_lines unit seen p) act.role_parts (λ part in_act. role_part play act part in_unit in_play in_act now))

  current : (play : Play) → IsIn unit.method.plays play → Each P (current_act_lines unit seen p play)
  current play in_unit =
      let test = λ (act : Act). not (is_act_done unit seen p act) in
      each_otherwise P (is_done unit seen (of_person p) play.identifier || is_done unit seen (of_person p) unit.identifier) _
      (each_from P (open_act_lines unit seen p) (find test play.acts) (λ act found. open_act play act in_unit (chosen_by test play.acts act found).inside))

  a_play : (play : Play) → IsIn unit.method.plays play → Each P (play_lines unit seen p play)
  a_play play in_unit = each_when P (is_visible unit seen p play.identifier) _ λ visible. (
    others _ (codes "play") _ refl refl,
    both P (once_done (done_status unit seen p play.identifier) (all_item_lines unit seen p 2 (feedback_of play.on_completion))) _
        (behind P (done_status unit seen p play.identifier) _ (items 2 (feedback_of play.on_completion)))
        (both P (flat_map (done_act_lines unit seen p) play.acts) _ (each_of P (done_act_lines unit seen p) play.acts (λ act there. done_act act))
        (current play in_unit)),
  )

  pub each_line : Each P (tree_lines unit seen p)
  unfolding tree_lines
  each_line = (
    others _ (codes "unit") _ refl refl,
    both P (once_done (done_status unit seen p unit.identifier) (all_item_lines unit seen p 1 (feedback_of unit.method.on_completion))) _
        (behind P (done_status unit seen p unit.identifier) _ (items 1 (feedback_of unit.method.on_completion)))
        (each_of P (play_lines unit seen p) unit.method.plays (λ play there. a_play play there)),
  )
