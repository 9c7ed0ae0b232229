-- What replies tell, and in what runs don't touch one another.
use Rattle.std.specs.Prelude.{◌≡◌, ◌≢◌, ◌<◌, ◌≤◌, ℕ, List, ◌++◌, Option, Err}
use Rattle.ld_model.specs.declared.unit.Unit.{Unit}
use Rattle.ld_lines.specs.declared.line.Line.{Line}
use Rattle.ld_admission.specs.Refusals.{NoMemory}
use Rattle.ld_world.specs.Answers.{Leads, replies}
use Rattle.ld_world.specs.SameWorlds.{NeverFull}
use Rattle.ld_world.specs.World.{WorldState, reply_block, seated_world, world_step}

-- No reply says that memory ran out: no text begins both with the reply to a line and with the line
-- `no 99 no-memory`.
abbrev pub NoReplyIsOutOfMemory : Type 0
NoReplyIsOutOfMemory =
    (w : WorldState) (line : Option Line) (rest more : List ℕ)
    → reply_block (world_step w line) ++ rest ≢ reply_block (Err NoMemory) ++ more

-- The lines and the text that was written for them determine the world that is left.
abbrev pub TextTellsTheWorld : Type 0
TextTellsTheWorld =
    (w one other : WorldState) (lines : List (List ℕ)) (text : List ℕ)
    → Leads w lines text one → Leads w lines text other → one ≡ other

-- The number of seats plays no part but in refusals since a run is full: as long as no run is full with fewer
-- seats, all replies are the same with more.
abbrev pub SeatsPlayNoPart : Type 0
SeatsPlayNoPart =
    (units : List Unit) (lines : List (Option Line)) (fewer more : ℕ)
    → 0 < fewer → fewer ≤ more → NeverFull (seated_world fewer units) lines
    → replies (seated_world more units) lines ≡ replies (seated_world fewer units) lines
