-- That the generator's line was written is what is said of its task.
use Rattle.std.proofs.Common.{◌≡◌, sym, subst, refl, ℕ, List, Option, Some}
use Rattle.ld_base.specs.Outside.{Files, then_piece}
use Rattle.ld_generator.specs.Tallies.{generated_line}
use Rattle.ld_top.specs.Endings.{number_of}
use Rattle.ld_top.specs.Tasks.{Task, generates, OfAsked, TaskDone}
use Rattle.ld_top.specs.declared.ending.Ending.{Ending}
use Rattle.ld_top.specs.declared.ending.Ending.TheVariants.{Done, BadWords, ShelfFault, UnitRefused, ReadFault, WriteFault, NoMemory, InputTooLong, DiskFault, JournalDiffers, JournalFull}

-- Only an ending where all was done has the number 0.
pub done_of : (ending : Ending) → number_of ending ≡ 0 → ending ≡ Done
done_of Done is = refl
done_of BadWords is = cc
done_of ShelfFault is = cc
done_of UnitRefused is = cc
done_of ReadFault is = cc
done_of WriteFault is = cc
done_of NoMemory is = cc
done_of InputTooLong is = cc
done_of DiskFault is = cc
done_of JournalDiffers is = cc
done_of JournalFull is = cc

-- The task of the generator is done where its line was written.
pub line_done : (asked : Option Task) (number persons : ℕ) (files : Option Files) (before left old new : Option (List ℕ))
    → asked ≡ Some (generates number persons) → new ≡ then_piece old (generated_line number persons)
    → OfAsked asked (TaskDone files before left old new)
line_done asked number persons files before left old new is done =
    subst (λ one. OfAsked one (TaskDone files before left old new)) (sym is) done
