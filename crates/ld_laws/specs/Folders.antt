-- The same folder twice, and the rules of a unit.
use Rattle.std.specs.Prelude.{◌≡◌, refl, ℕ, List, [], ◌∷◌, length, Result, Ok, Err, codes}
use Rattle.std.specs.Fmt.{digits}
use Rattle.ld_names.specs.Rules.{rules_of}
use Rattle.ld_parts.specs.Listing.{value_set_parts, condition_true_parts, completed_parts, completion_parts, follows_parts, on_completion_parts, role_part, property_parts_at, object_parts_at, service_parts, environment_parts_at, parts_before_items, ending_parts, activity_parts_at, structure_parts_at, role_part_parts_at, act_parts_at, play_parts_at, method_parts, unit_parts, action_parts, condition_parts_at, middle_parts, parts_of}
use Rattle.ld_walk.specs.CommonParts.{change_parts, notice_parts}
use Rattle.ld_model.specs.declared.unit.Unit.{Unit}
use Rattle.ld_world.specs.Published.{RefusedFolder, published, refused_line}
use Rattle.ld_laws.specs.Courses.{learner, choice, course, one_part}

-- A course of one activity.
abbrev the_course : Unit
the_course = course (codes "u") (learner ∷ []) (choice (codes "read") ∷ []) [] (one_part (codes "read"))

-- What is written of a refusal.
abbrev line_of_refusal : Result (List Unit) RefusedFolder → List ℕ
line_of_refusal (Ok units) = []
line_of_refusal (Err refused) = refused_line refused

-- The second folder is refused, since the first one's unit has the same identifier.
pub same_folder_twice :
    line_of_refusal (published (Ok the_course ∷ Ok the_course
    ∷ [])) ≡ codes "refused 2 unit.json /identifier repeated-unit\n"
unfolding published digits
same_folder_twice = refl

-- One folder alone is published.
pub one_folder : published (Ok the_course ∷ []) ≡ Ok (the_course ∷ [])
unfolding published
one_folder = refl

-- There are three: of the activity, of the act's opening, and of the role-part.
pub three_rules : length (rules_of the_course) ≡ 3
unfolding value_set_parts condition_true_parts completed_parts completion_parts follows_parts on_completion_parts role_part property_parts_at object_parts_at service_parts environment_parts_at parts_before_items ending_parts activity_parts_at structure_parts_at role_part_parts_at act_parts_at play_parts_at method_parts unit_parts action_parts condition_parts_at middle_parts parts_of change_parts notice_parts
three_rules = refl
