-- Which command the bytes of a line are: a JSON array of texts, which are a moment, a verb and the verb's words.
use Rattle.std.specs.Prelude.{ℕ, List, Option, if◌then◌else◌}
use Rattle.std.specs.Option.{option_map, option_and_then}
use Rattle.serde_json.specs.Data.{Items}
use Rattle.serde_json.specs.Find.{as_array}
use Rattle.ld_json.specs.Json.{json_of}
use Rattle.ld_value.specs.declared.moment.Moment.{Moment}
use Rattle.ld_lines.specs.Words.{Form, ◌followed_by◌ as ◌>>=◌, give, ended_with, no_words, any_text, one_identifier, one_uri, person_or_none, one_moment, ◌is◌}
use Rattle.ld_lines.specs.declared.line.Line.{Line}
use Rattle.ld_lines.specs.declared.line.Line.TheVariants.{Create, OfRun, GlobalSet, GlobalGet}
use Rattle.ld_lines.specs.declared.command.RunCommand.{RunCommand}
use Rattle.ld_lines.specs.declared.command.RunCommand.TheVariants.{Enrol, Assign, Drop, Start, Open, Complete, Set, Clear, Get, Tree, Outbox, Report, Tick, Next}

-- The verbs that show something, with the words behind the run's name.
unfoldable pub showing_command : List ℕ → Form RunCommand
showing_command verb =
    if verb is "tree" then (do give (Tree (← one_identifier))) else
    if verb is "outbox" then (do give (Outbox (← one_identifier))) else
    if verb is "report" then give Report else
    if verb is "next" then give Next else
    no_words

-- The verbs of properties, and those.
unfoldable pub property_command : List ℕ → Form RunCommand
property_command verb =
    if verb is "set" then (do give (Set (← one_identifier) (← one_identifier) (← any_text))) else
    if verb is "clear" then (do give (Clear (← one_identifier) (← one_identifier))) else
    if verb is "get" then (do give (Get (← one_identifier) (← one_identifier))) else
    showing_command verb

-- The verbs by which a run goes on, and those: all verbs of one run.
unfoldable pub command_of_verb : List ℕ → Form RunCommand
command_of_verb verb =
    if verb is "enrol" then (do give (Enrol (← one_identifier))) else
    if verb is "assign" then (do give (Assign (← one_identifier) (← one_identifier))) else
    if verb is "drop" then (do give (Drop (← one_identifier) (← one_identifier))) else
    if verb is "start" then give Start else
    if verb is "open" then (do give (Open (← one_identifier) (← one_identifier))) else
    if verb is "complete" then (do give (Complete (← one_identifier) (← one_identifier))) else
    if verb is "tick" then give Tick else
    property_command verb

-- The verbs of the whole world, with their words, and those of one run, whose first word is its name.
unfoldable pub line_of_verb : Moment → List ℕ → Form Line
line_of_verb m verb =
    if verb is "create" then (do give (Create m (← one_identifier) (← one_identifier))) else
    if verb is "global-set" then (do give (GlobalSet m (← one_uri) (← person_or_none) (← any_text))) else
    if verb is "global-get" then (do give (GlobalGet m (← one_uri) (← person_or_none))) else
    (do give (OfRun m (← one_identifier) (← command_of_verb verb)))

-- A line: a moment, a verb, the verb's words, and no more.
abbrev pub line_of_words : Form Line
line_of_words = do
  m ← one_moment
  verb ← any_text
  line ← line_of_verb m verb
  ended_with line

-- The command that the elements are.
abbrev pub line_in : Items → Option Line
line_in elements = option_map (λ found. found.0) (line_of_words elements)

-- The elements of the JSON array that the bytes are.
abbrev pub array_of : List ℕ → Option Items
array_of bytes = option_and_then as_array (json_of bytes)

-- The command that the bytes are; none where they are no command line.
unfoldable pub command_of : List ℕ → Option Line
command_of bytes = option_and_then line_in (array_of bytes)
