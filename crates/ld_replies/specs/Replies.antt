-- The text of the reply to a command of a run.
use Rattle.std.specs.Prelude.{ℕ, ℤ, List, [], ◌++◌, map, length, Option, codes, decimal}
use Rattle.std.specs.Option.{option_map_or}
use Rattle.ld_alarm.specs.NextAlarm.{next_alarm}
use Rattle.ld_json.specs.Print.{json_text}
use Rattle.ld_cascade.specs.Settling.{Sums}
use Rattle.ld_model.specs.declared.unit.Unit.{Unit}
use Rattle.ld_state.specs.RunState.{RunState, seen_in}
use Rattle.ld_tree.specs.Lines.{spaced, line_text, lines_text}
use Rattle.ld_tree.specs.Tree.{tree_lines}
use Rattle.ld_value.specs.Calendar.{text_of_moment}
use Rattle.ld_value.specs.Datum.{Datum}
use Rattle.ld_value.specs.Values.{text_of}
use Rattle.ld_admission.specs.Commands.{Admitted, enrols, assigns, drops, starts, opens, completes, sets, clears, gets, shows_tree, shows_outbox, reports, ticks, shows_next}
use Rattle.ld_admission.specs.Refusals.{Refusal, refusal_words}
use Rattle.ld_replies.specs.Reports.{outbox_lines, report_lines}

-- The verb of the command, as in its line.
abbrev pub verb_of : Admitted → List ℕ
verb_of (enrols _) = codes "enrol"
verb_of (assigns _ _) = codes "assign"
verb_of (drops _ _) = codes "drop"
verb_of starts = codes "start"
verb_of (opens _ _) = codes "open"
verb_of (completes _ _) = codes "complete"
verb_of (sets _ _) = codes "set"
verb_of (clears _) = codes "clear"
verb_of (gets _) = codes "get"
verb_of (shows_tree _) = codes "tree"
verb_of (shows_outbox _) = codes "outbox"
verb_of reports = codes "report"
verb_of ticks = codes "tick"
verb_of shows_next = codes "next"

-- ` turns=T fired=F rejected=R sent=S`
abbrev pub sums_text : ℕ → Sums → List ℕ
sums_text turns sums =
    codes " turns=" ++ decimal turns ++ codes " fired=" ++ decimal sums.fired
    ++ codes " rejected=" ++ decimal sums.rejected ++ codes " sent=" ++ decimal sums.sent

-- A value as a JSON text, or `none`.
abbrev pub printed_value : Option Datum → List ℕ
printed_value value = option_map_or (λ known. json_text (text_of known)) value (codes "none")

-- ` lines=N`, and N lines.
abbrev pub counted_lines : List (List ℕ) → List ℕ
counted_lines lines = codes " lines=" ++ decimal (length lines) ++ lines_text lines

-- ` at=MOMENT`, or ` at=none`
abbrev pub alarm_told : Option ℤ → List ℕ
alarm_told next = codes " at=" ++ option_map_or text_of_moment next (codes "none")

-- What is told of the state after the command.
abbrev pub answer_told : Unit → RunState → Admitted → List ℕ
answer_told unit s (gets cell) = codes " value=" ++ printed_value (s.cells cell)
answer_told unit s (shows_tree p) = counted_lines (map line_text (tree_lines unit (seen_in unit s) p))
answer_told unit s (shows_outbox p) = counted_lines (map spaced (outbox_lines unit s p))
answer_told unit s reports = counted_lines (map spaced (report_lines unit s))
answer_told unit s shows_next = alarm_told (next_alarm unit s)
answer_told unit s _ = []

-- `ok VERB`, the turns and sums, and what is told; the end of the line is not in it.
abbrev pub told_line : Unit → RunState → Admitted → ℕ → Sums → List ℕ
told_line unit s command turns sums =
    codes "ok " ++ verb_of command ++ sums_text turns sums ++ answer_told unit s command

-- The same of `next`, by the alarm that it tells.
abbrev pub next_line : Option ℤ → ℕ → Sums → List ℕ
next_line next turns sums = codes "ok " ++ verb_of shows_next ++ sums_text turns sums ++ alarm_told next

-- The words of the refusal with spaces between them; the end of the line is not in it.
abbrev pub refusal_text : Refusal → List ℕ
refusal_text refusal = spaced (refusal_words refusal)
