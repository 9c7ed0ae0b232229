-- Lines as they are read from their bytes.
use Rattle.std.specs.Prelude.{◌≡◌, refl, codes, Some, None}
use Rattle.std.specs.Str.{is_utf8, chars}
use lib.Utf8.{encode}
use Rattle.ld_base.specs.Identifier.{begins_identifier, continues_identifier}
use Rattle.jiff_core.specs.Calendar.{days_from_civil, day_count, days_of_years, days_of_months}
use Rattle.json.specs.Json.{items, members, value}
use Rattle.json.specs.Lex.{lex, punctuate}
use Rattle.json.specs.Text.{code_unit, short_escape, content}
use Rattle.json.specs.Word.{after_number, word}
use Rattle.serde_json.specs.Read.{number_of}
use Rattle.ld_value.specs.Calendar.{moment_of, has_moment_form, named_day, named_second, day_of, second_of}
use Rattle.ld_json.specs.Json.{json_of}
use Rattle.ld_lines.specs.Commands.{command_of, line_of_verb, command_of_verb, property_command, showing_command}
use Rattle.ld_lines.specs.declared.line.Line.TheVariants.{Create}
use Rattle.ld_world.specs.Answers.{line_of}
use Rattle.ld_laws.specs.Courses.{a_moment}

-- An array of a moment, a verb and its two words is the command that makes a run.
pub create_is_read :
    line_of (codes "[\"2024-01-01T08:00:00Z\",\"create\",\"r\",\"u\"]")
    ≡ Some (Create (a_moment 8 0) (codes "r") (codes "u"))
unfolding is_utf8 chars encode begins_identifier continues_identifier command_of json_of line_of_verb command_of_verb property_command showing_command number_of items members value lex punctuate code_unit short_escape content after_number word moment_of has_moment_form named_day named_second day_of second_of days_from_civil day_count days_of_years days_of_months
create_is_read = refl

-- With a word too few it is no command.
pub no_line_is_read : line_of (codes "[\"2024-01-01T08:00:00Z\",\"create\",\"r\"]") ≡ None
unfolding is_utf8 chars encode begins_identifier continues_identifier command_of json_of line_of_verb command_of_verb property_command showing_command number_of items members value lex punctuate code_unit short_escape content after_number word moment_of has_moment_form named_day named_second day_of second_of days_from_civil day_count days_of_years days_of_months
no_line_is_read = refl
