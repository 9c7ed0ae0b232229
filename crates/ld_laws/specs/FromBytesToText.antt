-- A history from the bytes of its lines to the text that answers them: a blank line is passed over, one that
-- is no command is answered as such, and the last one has no line feed.
use Rattle.std.specs.Prelude.{◌≡◌, refl, ℕ, List, [], ◌∷◌, ◌++◌, map, flat_map, codes}
use Rattle.std.specs.Fmt.{digits}
use Rattle.std.specs.Str.{is_utf8, chars}
use lib.Utf8.{encode}
use Rattle.jiff_core.specs.Calendar.{days_from_civil, day_count, days_of_years, days_of_months}
use Rattle.json.specs.Json.{items, members, value}
use Rattle.json.specs.Lex.{lex, punctuate}
use Rattle.json.specs.Text.{code_unit, short_escape, content}
use Rattle.json.specs.Word.{after_number, word}
use Rattle.serde_json.specs.Read.{number_of}
use Rattle.ld_base.specs.Identifier.{begins_identifier, continues_identifier}
use Rattle.ld_value.specs.Calendar.{moment_of, has_moment_form, named_day, named_second, day_of, second_of}
use Rattle.ld_json.specs.Json.{json_of}
use Rattle.ld_model.specs.declared.unit.Unit.{Unit}
use Rattle.ld_lines.specs.Commands.{command_of, line_of_verb, command_of_verb, property_command, showing_command}
use Rattle.ld_lines.specs.Lines.{lines_of, pieces_of, without_blank}
use Rattle.ld_cascade.specs.Settling.{visited, fired_below, after_sweeps, all_firings}
use Rattle.ld_names.specs.Names.{named_by}
use Rattle.ld_parts.specs.Listing.{value_set_parts, condition_true_parts, completed_parts, completion_parts, follows_parts, on_completion_parts, role_part, property_parts_at, object_parts_at, service_parts, environment_parts_at, parts_before_items, ending_parts, activity_parts_at, structure_parts_at, role_part_parts_at, act_parts_at, play_parts_at, method_parts, unit_parts, action_parts, condition_parts_at, middle_parts, parts_of}
use Rattle.ld_walk.specs.CommonParts.{change_parts, notice_parts}
use Rattle.ld_firing.specs.Actions.{site_firing}
use Rattle.ld_state.specs.RunCells.{begins_as}
use Rattle.ld_firing.specs.RunSettling.{run_settling}
use Rattle.ld_state.specs.RunState.{cell_of}
use Rattle.ld_rules.specs.SiteTests.{site_test}
use Rattle.ld_admission.specs.Checks.{admitted}
use Rattle.ld_run.specs.RunStep.{run_step}
use Rattle.ld_tree.specs.Tree.{tree_lines, is_open}
use Rattle.ld_world.specs.Answers.{line_of, replies}
use Rattle.ld_world.specs.World.{seated_world, world_step, reply_block}
use Rattle.ld_laws.specs.Courses.{learner, choice, course, one_part}

-- A course of one activity.
abbrev the_course : Unit
the_course = course (codes "u") (learner ∷ []) (choice (codes "read") ∷ []) [] (one_part (codes "read"))

-- Eight lines: the third is blank, the sixth has no verb that there is, and the last has no line feed.
abbrev the_bytes : List ℕ
the_bytes =
    codes "[\"2024-01-01T08:00:00Z\",\"create\",\"r\",\"u\"]\n"
    ++ codes "[\"2024-01-01T08:00:00Z\",\"enrol\",\"r\",\"ann\"]\n"
    ++ codes "  \n"
    ++ codes "[\"2024-01-01T08:00:00Z\",\"assign\",\"r\",\"ann\",\"learner\"]\n"
    ++ codes "[\"2024-01-01T09:00:00Z\",\"start\",\"r\"]\n"
    ++ codes "[\"2024-01-01T09:10:00Z\",\"finish\",\"r\"]\n"
    ++ codes "[\"2024-01-01T09:10:00Z\",\"complete\",\"r\",\"ann\",\"read\"]\n"
    ++ codes "[\"2024-01-01T09:11:00Z\",\"tree\",\"r\",\"ann\"]"

-- The text that answers the bytes, where each run has one seat and memory never runs out.
abbrev the_text : List ℕ
the_text =
    flat_map (λ reply. reply) (replies (seated_world 1 (the_course ∷ [])) (map line_of (lines_of the_bytes)))

-- Seven replies, since the blank line has none.
pub from_bytes_to_text : the_text ≡
    codes "ok create\n"
    ++ codes "ok enrol turns=0 fired=0 rejected=0 sent=0\n"
    ++ codes "ok assign turns=0 fired=0 rejected=0 sent=0\n"
    ++ codes "ok start turns=1 fired=1 rejected=0 sent=0\n"
    ++ codes "no 1 bad-line\n"
    ++ codes "ok complete turns=1 fired=2 rejected=0 sent=0\n"
    ++ codes "ok tree turns=0 fired=0 rejected=0 sent=0 lines=5\n"
    ++ codes "unit u open\n" ++ codes "  play p open\n" ++ codes "    act a open\n"
    ++ codes "      part rp done\n" ++ codes "        activity read done\n"
unfolding is_utf8 chars encode begins_identifier continues_identifier command_of json_of line_of_verb command_of_verb property_command showing_command number_of items members value lex punctuate code_unit short_escape content after_number word moment_of has_moment_form named_day named_second day_of second_of days_from_civil day_count days_of_years days_of_months pieces_of without_blank world_step reply_block run_step admitted visited fired_below after_sweeps all_firings run_settling site_test site_firing value_set_parts condition_true_parts completed_parts completion_parts follows_parts on_completion_parts role_part property_parts_at object_parts_at service_parts environment_parts_at parts_before_items ending_parts activity_parts_at structure_parts_at role_part_parts_at act_parts_at play_parts_at method_parts unit_parts action_parts condition_parts_at middle_parts parts_of named_by change_parts notice_parts cell_of begins_as tree_lines is_open digits
from_bytes_to_text = refl
