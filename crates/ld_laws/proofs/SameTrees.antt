-- Where two states of a run show a person the same things as visible, done and opened, and the same roles as the
-- person's, the person's trees are the same.
use mathlib.Core.Path.{fun_ext}
use Rattle.std.proofs.Common.{◌≡◌, refl, ap, ◌∙◌, ℕ, zero, suc, ◌+◌, List, [], ◌∷◌, ◌++◌, flat_map, find, length, Option, Bool, true, ◌&&◌, ◌||◌, not, codes, slice_get, if◌then◌else◌}
use Rattle.std.specs.List.{list_any}
use Rattle.ld_model.specs.declared.activity.Activity.{Activity}
use Rattle.ld_model.specs.declared.activity.Structure.{Structure}
use Rattle.ld_model.specs.declared.activity.StructureKind.{StructureKind}
use Rattle.ld_model.specs.declared.activity.StructureKind.TheVariants.{Sequence, Selection}
use Rattle.ld_model.specs.declared.environment.LearningObject.{LearningObject}
use Rattle.ld_model.specs.declared.environment.Service.{Service}
use Rattle.ld_model.specs.declared.item.Item.{Item}
use Rattle.ld_model.specs.declared.method.Act.{Act}
use Rattle.ld_model.specs.declared.method.Play.{Play}
use Rattle.ld_model.specs.declared.method.RolePart.{RolePart}
use Rattle.ld_model.specs.declared.unit.Unit.{Unit}
use Rattle.ld_names.specs.Names.{names_of}
use Rattle.ld_expr.specs.Lookup.{is_some_and, list_from, activity_named, structure_named, environment_named}
use Rattle.ld_expr.specs.Seen.{Seen}
use Rattle.ld_tree.specs.Lines.{TreeLine}
use Rattle.ld_tree.specs.Tree.{done, opened, status_by, unless_closed, once_done, thing_line, status_line, if_visible, all_item_lines, object_lines, service_lines, environment_lines, all_environment_lines, activity_word, activity_lines, is_passed, in_turn, flagged, FlaggedLines, structure_lines, target_lines, part_lines, done_act_lines, open_act_lines, current_act_lines, play_lines, tree_lines, tells_open, is_open, feedback_of}
use Rattle.ld_laws.specs.TreeLaws.{ShowsSame, TreeIsThePersons}

module _ (unit : Unit) (a b : Seen) (p : ℕ) (same : ShowsSame unit a b p) where
  -- ---- items and environments

  shown : (id : List ℕ) {xs ys : List TreeLine} → xs ≡ ys → if_visible unit a p id xs ≡ if_visible unit b p id ys
  shown id lines = λ i. if same.visible id i then lines i else []

  each_same : {A : Type 0} {f g : A → List TreeLine} (xs : List A) → ((x : A) → f x ≡ g x) → flat_map f xs ≡ flat_map g xs
  each_same xs each = λ i. flat_map (fun_ext each i) xs

  from_same : {A : Type 0} {f g : A → List TreeLine} (o : Option A) → ((x : A) → f x ≡ g x) → list_from f o ≡ list_from g o
  from_same o each = λ i. list_from (fun_ext each i) o

  items_same : (depth : ℕ) (items : List Item) → all_item_lines unit a p depth items ≡ all_item_lines unit b p depth items
  items_same depth items = each_same items λ item. shown item.identifier refl

  object_same : (depth : ℕ) (object : LearningObject) → object_lines unit a p depth object ≡ object_lines unit b p depth object
  object_same depth object =
      shown object.identifier (ap (λ lines. thing_line depth (codes "object") object.identifier [] object.title ∷ lines) (items_same (depth + 1) object.items))

  service_same : (depth : ℕ) (service : Service) → service_lines unit a p depth service ≡ service_lines unit b p depth service
  service_same depth service = shown service.identifier refl

  environment_same : (n depth : ℕ) (id : List ℕ) → environment_lines n unit a p depth id ≡ environment_lines n unit b p depth id
  environment_same zero depth id = refl
  environment_same (suc n) depth id = shown id (from_same (environment_named unit id) λ one. λ i.
      thing_line depth (codes "environment") id [] one.title
      ∷ (each_same one.learning_objects (object_same (depth + 1)) i
      ++ (each_same one.services (service_same (depth + 1)) i
      ++ each_same one.environments (environment_same n (depth + 1)) i)))

  environments_same : (depth : ℕ) (ids : List (List ℕ)) → all_environment_lines unit a p depth ids ≡ all_environment_lines unit b p depth ids
  environments_same depth ids = each_same ids (environment_same (length unit.environments) depth)

  -- ---- activities and structures

  activity_same : (depth : ℕ) (flag : Bool) (one : Activity) → activity_lines unit a p depth flag one ≡ activity_lines unit b p depth flag one
  activity_same depth flag one = λ i.
      status_line depth (activity_word one.kind) one.identifier (status_by (same.completed one.identifier i) flag) one.title
      ∷ unless_closed (status_by (same.completed one.identifier i) flag)
      (environments_same (depth + 1) one.environments i
      ++ (items_same (depth + 1) one.items i
      ++ once_done (status_by (same.completed one.identifier i) flag) (items_same (depth + 1) (feedback_of one.on_completion) i)))

  turns_same : (flag : Bool) (children : List (List ℕ)) → in_turn unit a p flag children ≡ in_turn unit b p flag children
  turns_same flag [] = refl
  turns_same flag (child ∷ children) =
      ap (λ rest. (flag, child) ∷ rest) (turns_same (flag && is_passed unit a p child) children)
      ∙ (λ i. (flag, child) ∷ in_turn unit b p (flag && (not (same.visible child i) || same.completed child i)) children)

  flags_same : (kind : StructureKind) (flag : Bool) (children : List (List ℕ)) → flagged unit a p kind flag children ≡ flagged unit b p kind flag children
  flags_same Sequence flag children = turns_same flag children
  flags_same Selection flag children = refl

  structure_same : (depth : ℕ) (flag : Bool) {f g : FlaggedLines} (one : Structure) → ((x : Bool × List ℕ) → f x ≡ g x)
      → structure_lines unit a p depth flag f one ≡ structure_lines unit b p depth flag g one
  structure_same depth flag one each = λ i.
      status_line depth (codes "structure") one.identifier (status_by (same.completed one.identifier i) flag) one.title
      ∷ unless_closed (status_by (same.completed one.identifier i) flag)
      (environments_same (depth + 1) one.environments i ++ flat_map (fun_ext each i) (flags_same one.kind flag one.children i))

  target_same : (n depth : ℕ) (target : Bool × List ℕ) → target_lines n unit a p depth target ≡ target_lines n unit b p depth target
  target_same zero depth target = refl
  target_same (suc n) depth (flag, id) = shown id λ i.
      from_same (activity_named unit id) (activity_same depth flag) i
      ++ (from_same (structure_named unit id) (λ one. structure_same depth flag one (target_same n (depth + 1))) i
      ++ environment_same (length unit.environments) depth id i)

  -- ---- the method

  part_same : (part : RolePart) → part_lines unit a p part ≡ part_lines unit b p part
  part_same part = λ i. if same.member part.role i
      then status_line 3 (codes "part") part.identifier (status_by (same.completed part.identifier i) true) part.title
      ∷ target_same (length unit.structures + 1) 4 (true, part.target) i
      else []

  done_act_same : (act : Act) → done_act_lines unit a p act ≡ done_act_lines unit b p act
  done_act_same act = λ i. if same.completed act.identifier i
      then status_line 2 (codes "act") act.identifier done act.title ∷ items_same 3 (feedback_of act.on_completion) i
      else []

  open_act_same : (act : Act) → open_act_lines unit a p act ≡ open_act_lines unit b p act
  open_act_same act = λ i. if same.entered act.identifier i
      then status_line 2 (codes "act") act.identifier opened act.title ∷ each_same act.role_parts part_same i
      else []

  current_same : (play : Play) → current_act_lines unit a p play ≡ current_act_lines unit b p play
  current_same play = λ i. if same.completed play.identifier i || same.completed unit.identifier i then []
      else list_from (fun_ext open_act_same i) (find (λ act. not (same.completed act.identifier i)) play.acts)

  play_same : (play : Play) → play_lines unit a p play ≡ play_lines unit b p play
  play_same play = shown play.identifier λ i.
      status_line 1 (codes "play") play.identifier (status_by (same.completed play.identifier i) true) play.title
      ∷ (once_done (status_by (same.completed play.identifier i) true) (items_same 2 (feedback_of play.on_completion) i)
      ++ (each_same play.acts done_act_same i ++ current_same play i))

  pub tree_same : tree_lines unit a p ≡ tree_lines unit b p
  unfolding tree_lines
  tree_same = λ i.
      status_line 0 (codes "unit") unit.identifier (status_by (same.completed unit.identifier i) true) unit.title
      ∷ (once_done (status_by (same.completed unit.identifier i) true) (items_same 1 (feedback_of unit.method.on_completion) i)
      ++ each_same unit.method.plays play_same i)

  pub open_same : (thing : ℕ) → is_open unit a p thing ≡ is_open unit b p thing
  unfolding is_open
  open_same thing = λ i. is_some_and (λ id. list_any (tells_open id) (tree_same i)) (slice_get (names_of unit).things thing)

pub tree_is_the_persons : TreeIsThePersons
tree_is_the_persons unit a b p same = (tree_same unit a b p same, open_same unit a b p same)
