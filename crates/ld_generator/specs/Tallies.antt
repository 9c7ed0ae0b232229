-- What the replies to lines come to. (docs/GENERATOR.md, "The report")
use Rattle.std.specs.Prelude.{◌≡◌, ◌≤◌, ◌+◌, ◌*◌, ◌^◌, ℕ, List, [], ◌∷◌, ◌++◌, length, Option, Some, None, Bool, true, false, not, codes, decimal, if◌then◌else◌}
use Rattle.std.specs.List.{count_by, sum_by}
use Rattle.std.specs.Option.{option_or}
use Rattle.ld_run.specs.declared.reply.Reply.{Reply}
use Rattle.ld_run.specs.declared.reply.Reply.TheVariants.{Done, Refused, NoMemory}
use Rattle.ld_world.specs.Answers.{line_of, reply_to_line}
use Rattle.ld_world.specs.World.{WorldState, first_world, world_after, world_step}
use Rattle.ld_generator.specs.GeneratedLines.{generated_asks, lines_from}
use Rattle.ld_generator.specs.GeneratedUnit.{activity_name, generated_unit}
use Rattle.ld_generator.specs.declared.ask.Ask.{Ask}
use Rattle.ld_generator.specs.declared.ask.Ask.TheVariants.{Create, Enrol, Assign, Start, Complete}
use Rattle.ld_generator.specs.declared.tally.Tally.{Tally}

-- The replies to the lines, one for each, where memory never runs out.
abbrev pub replied : WorldState → List (List ℕ) → List Reply
replied world [] = []
replied world (line ∷ lines) =
    let result = world_step world (line_of line) in
    reply_to_line result ∷ replied (world_after world result) lines

-- ---- one reply

-- The line was done.
abbrev pub is_done : Reply → Bool
is_done (Done _) = true
is_done (Refused _) = false
is_done NoMemory = false

-- How many sweeps of it fired.
abbrev pub turns_in : Reply → ℕ
turns_in (Done numbers) = numbers.turns
turns_in (Refused _) = 0
turns_in NoMemory = 0

-- How many firings it had.
abbrev pub fired_in : Reply → ℕ
fired_in (Done numbers) = numbers.fired
fired_in (Refused _) = 0
fired_in NoMemory = 0

-- How many changes they rejected.
abbrev pub rejected_in : Reply → ℕ
rejected_in (Done numbers) = numbers.rejected
rejected_in (Refused _) = 0
rejected_in NoMemory = 0

-- How many notices they sent.
abbrev pub sent_in : Reply → ℕ
sent_in (Done numbers) = numbers.sent
sent_in (Refused _) = 0
sent_in NoMemory = 0

-- ---- all of them

-- The number of the activity that is to be completed, if one is.
abbrev pub activity_in : Ask → Option ℕ
activity_in Create = None
activity_in (Enrol _) = None
activity_in (Assign _) = None
activity_in Start = None
activity_in (Complete _ activity) = Some activity

-- The same, where that was done.
abbrev pub completed_in : Ask → Reply → Option ℕ
completed_in ask reply = if is_done reply then activity_in ask else None

-- The number of the activity that was completed last, if one was.
abbrev pub last_completed : List Ask → List Reply → Option ℕ
last_completed [] replies = None
last_completed (ask ∷ asks) [] = None
last_completed (ask ∷ asks) (reply ∷ replies) = option_or (last_completed asks replies) (completed_in ask reply)

-- What the replies to all that was asked come to.
abbrev pub tally_of : List Ask → List Reply → Tally
tally_of asks replies = record {
  lines = length asks;
  done = count_by is_done replies;
  refused = count_by (λ reply. not (is_done reply)) replies;
  turns = sum_by turns_in replies;
  fired = sum_by fired_in replies;
  rejected = sum_by rejected_in replies;
  sent = sum_by sent_in replies;
  last = last_completed asks replies;
}

-- Both together, where the first is of later lines.
abbrev pub together : Tally → Tally → Tally
together later earlier = record {
  lines = later.lines + earlier.lines;
  done = later.done + earlier.done;
  refused = later.refused + earlier.refused;
  turns = later.turns + earlier.turns;
  fired = later.fired + earlier.fired;
  rejected = later.rejected + earlier.rejected;
  sent = later.sent + earlier.sent;
  last = option_or later.last earlier.last;
}

-- The numbers that so many replies can come to at most: a reply has its turns in 32 bits, and the others in 64.
abbrev pub IsOfSoMany : ℕ → Tally → Type 0
IsOfSoMany n tally =
    (tally.lines ≡ n) × (tally.done ≤ n) × (tally.refused ≤ n) × (tally.turns ≤ n * 2 ^ 32)
    × (tally.fired ≤ n * 2 ^ 64) × (tally.rejected ≤ n * 2 ^ 64) × (tally.sent ≤ n * 2 ^ 64)

-- `-` where no activity was completed.
abbrev pub last_text : Option ℕ → List ℕ
last_text None = codes "-"
last_text (Some activity) = activity_name activity

-- `gen number=N persons=P lines=L ok=A no=B turns=T fired=F rejected=R sent=S last=aK`
abbrev pub tally_line : ℕ → ℕ → Tally → List ℕ
tally_line number persons tally =
    codes "gen number=" ++ decimal number ++ codes " persons=" ++ decimal persons
    ++ codes " lines=" ++ decimal tally.lines ++ codes " ok=" ++ decimal tally.done
    ++ codes " no=" ++ decimal tally.refused ++ codes " turns=" ++ decimal tally.turns
    ++ codes " fired=" ++ decimal tally.fired ++ codes " rejected=" ++ decimal tally.rejected
    ++ codes " sent=" ++ decimal tally.sent ++ codes " last=" ++ last_text tally.last ++ 10 ∷ []

-- The line that the generator prints: what comes of its lines in a world that has its unit alone.
abbrev pub generated_line : ℕ → ℕ → List ℕ
generated_line number persons =
    let asks = generated_asks number persons in
    tally_line number persons
    (tally_of asks (replied (first_world (generated_unit ∷ [])) (lines_from 0 asks)))
