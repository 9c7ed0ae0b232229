-- A run with one seat takes one person.
use Rattle.std.specs.Prelude.{◌≡◌, refl, List, [], ◌∷◌, codes}
use Rattle.std.specs.Fmt.{digits}
use Rattle.ld_lines.specs.declared.command.RunCommand.TheVariants.{Enrol}
use Rattle.ld_lines.specs.declared.line.Line.{Line}
use Rattle.ld_lines.specs.declared.line.Line.TheVariants.{Create}
use Rattle.ld_state.specs.RunCells.{begins_as}
use Rattle.ld_admission.specs.Checks.{admitted}
use Rattle.ld_run.specs.RunStep.{run_step}
use Rattle.ld_world.specs.World.{world_step, reply_block}
use Rattle.ld_laws.specs.Courses.{learner, choice, course, one_part, a_moment, at, told}

-- `ann` is enrolled twice, and then `bob`.
abbrev the_lines : List Line
the_lines =
    Create (a_moment 8 0) (codes "r") (codes "u")
    ∷ at 8 0 (Enrol (codes "ann"))
    ∷ at 8 0 (Enrol (codes "ann"))
    ∷ at 8 0 (Enrol (codes "bob")) ∷ []

-- A person who is enrolled is refused as such, also where no seat is left; any other has no seat.
pub seats_taken : told 1 (course (codes "u") (learner ∷ []) (choice (codes "read")
    ∷ []) [] (one_part (codes "read"))) the_lines ≡
    codes "ok create\n"
    ∷ codes "ok enrol turns=0 fired=0 rejected=0 sent=0\n"
    ∷ codes "no 9 person-exists\n"
    ∷ codes "no 10 run-full\n" ∷ []
unfolding world_step reply_block run_step admitted begins_as digits
seats_taken = refl
