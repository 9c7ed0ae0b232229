-- The lines of an outbox and of a report, as words.
use Rattle.std.specs.Prelude.{ℕ, ◌+◌, List, [], ◌∷◌, ◌++◌, length, Option, Bool, true, false, nat_eq, slice_get, codes, decimal, flat_map, if◌then◌else◌}
use Rattle.std.specs.List.{list_any}
use Rattle.std.specs.Option.{option_map_or}
use Rattle.ld_base.specs.Maybe.{◌>>=◌}
use Rattle.ld_json.specs.Print.{json_text}
use Rattle.ld_model.specs.Counting.{each_numbered}
use Rattle.ld_model.specs.RoleRows.{RoleRow}
use Rattle.ld_model.specs.Roles.{roles_of}
use Rattle.ld_model.specs.declared.cell.CellName.TheVariants.{Started}
use Rattle.ld_model.specs.declared.cell.Owner.TheVariants.{Run}
use Rattle.ld_model.specs.declared.method.Act.{Act}
use Rattle.ld_model.specs.declared.method.Play.{Play}
use Rattle.ld_model.specs.declared.method.RolePart.{RolePart}
use Rattle.ld_model.specs.declared.unit.Unit.{Unit}
use Rattle.ld_names.specs.Things.{things_of}
use Rattle.ld_expr.specs.Done.{is_done}
use Rattle.ld_expr.specs.Lookup.{list_from}
use Rattle.ld_expr.specs.Membership.{members}
use Rattle.ld_expr.specs.Seen.{Seen, moment_of_value}
use Rattle.ld_state.specs.RunState.{RunState, NoticeState, seen_in}
use Rattle.ld_rules.specs.SiteTests.{opening_of, is_opened}
use Rattle.ld_value.specs.Calendar.{text_of_moment}
use Rattle.ld_value.specs.Datum.{Datum}

-- A line by its words.
abbrev pub WordLine : Type 0
WordLine = List (List ℕ)

-- ---- the outbox

-- The identifier of the notice's activity, or `-`.
abbrev pub activity_of_notice : Unit → NoticeState → List ℕ
activity_of_notice unit notice =
    option_map_or (λ thing. thing.identifier) (notice.activity >>= slice_get (things_of unit)) (codes "-")

-- `notice K MOMENT ACTIVITY SUBJECT`, where the notice reaches the person.
abbrev pub notice_lines : Unit → ℕ → ℕ → NoticeState → List WordLine
notice_lines unit p k notice = if list_any (nat_eq p) notice.to
    then (codes "notice" ∷ decimal (k + 1) ∷ text_of_moment notice.moment
    ∷ activity_of_notice unit notice ∷ json_text notice.subject ∷ []) ∷ []
    else []

-- The notices that reach the person, from the oldest on, by their numbers in the run's outbox.
abbrev pub outbox_lines : Unit → RunState → ℕ → List WordLine
outbox_lines unit s p = each_numbered (notice_lines unit p) s.outbox

-- ---- the report

-- The moment as one word of a line; no word where there is no moment.
abbrev pub moment_word : Option Datum → WordLine
moment_word value = list_from (λ moment. text_of_moment moment ∷ []) (moment_of_value value)

-- `role ID members=N`
abbrev pub report_of_role : Seen → ℕ → RoleRow → List WordLine
report_of_role seen number role =
    (codes "role" ∷ role.identifier ∷ (codes "members=" ++ decimal (length (members seen number))) ∷ []) ∷ []

-- The state of a play or of the unit: what is not done is open.
abbrev pub done_or_open : Bool → List ℕ
done_or_open true = codes "done"
done_or_open false = codes "open"

-- What is not done is open in an act that is opened, and else waits.
abbrev pub progress_word : Bool → Bool → List ℕ
progress_word true opened = codes "done"
progress_word false true = codes "open"
progress_word false false = codes "waiting"

-- The state of the act itself, or of a role-part of the act, by its identifier.
abbrev pub progress_in : Unit → Seen → Act → List ℕ → List ℕ
progress_in unit seen act id = progress_word (is_done unit seen Run id) (is_opened unit seen act)

-- `part ID STATE`
abbrev pub report_of_part : Unit → Seen → Act → RolePart → WordLine
report_of_part unit seen act part =
    codes "part" ∷ part.identifier ∷ progress_in unit seen act part.identifier ∷ []

-- An act, with the moment of its opening if there was one, and its role-parts.
abbrev pub report_of_act : Unit → Seen → Act → List WordLine
report_of_act unit seen act =
    (codes "act" ∷ act.identifier ∷ progress_in unit seen act act.identifier
    ∷ moment_word (opening_of unit seen act))
    ∷ flat_map (λ part. report_of_part unit seen act part ∷ []) act.role_parts

-- A play and its acts.
abbrev pub report_of_play : Unit → Seen → Play → List WordLine
report_of_play unit seen play =
    (codes "play" ∷ play.identifier ∷ done_or_open (is_done unit seen Run play.identifier) ∷ [])
    ∷ flat_map (report_of_act unit seen) play.acts

-- When the run was started, the members of each role, the method, the unit, and how many notices were sent.
abbrev pub report_lines : Unit → RunState → List WordLine
report_lines unit s =
    let seen = seen_in unit s in
    (codes "started" ∷ moment_word (s.cells Started))
    ∷ (each_numbered (report_of_role seen) (roles_of unit)
    ++ (flat_map (report_of_play unit seen) unit.method.plays
    ++ (codes "unit" ∷ unit.identifier ∷ done_or_open (is_done unit seen Run unit.identifier) ∷ [])
    ∷ (codes "notices" ∷ decimal (length s.outbox) ∷ []) ∷ []))
