-- How the answering of lines over a journal ends, from how its calls end.
use Rattle.std.proofs.Common.{◌≡◌, ℕ, List, [], ◌∷◌, Option, Some, Ok, inl, inr, refl, sym, ap, ◌∙◌, subst}
use Rattle.ld_base.specs.Outside.{Files}
use Rattle.ld_keeping.specs.Endings.{IsComplete}
use Rattle.ld_keeping.specs.declared.ending.KeepEnding.{KeepEnding}
use Rattle.ld_keeping.specs.declared.ending.KeepEnding.TheVariants.{Done as AllDone, ReadFault as Unread, WriteFault as Unwritten, NoMemory as Roomless, InputTooLong as TooLong, DiskFault as Unkept, JournalDiffers as Differs, JournalFull as Full}
use Rattle.ld_model.specs.declared.unit.Unit.{Unit}
use Rattle.ld_world.specs.World.{first_world}
use Rattle.ld_top.specs.Endings.{IsJournalEnding, IsOneOf, NotOpened, NothingTaken, NothingWritten, number_of}
use Rattle.ld_top.specs.InFolder.{WhereTold}
use Rattle.ld_top.specs.JournalEndings.{ending_behind, ending_of}
use Rattle.ld_top.specs.Journaled.{HasGoodJournal, IsGivenToKeep}
use Rattle.ld_top.specs.Replay.{Publishes}
use Rattle.ld_top.specs.declared.ending.Ending.{Ending}
use Rattle.ld_top.specs.declared.ending.Ending.TheVariants.{Done, BadWords, ShelfFault, UnitRefused, ReadFault, WriteFault, NoMemory, InputTooLong, DiskFault, JournalDiffers, JournalFull}
use Rattle.ld_top.proofs.Completing.{folders_publish_one_thing}

behind : (e : KeepEnding) → ending_behind (ending_of e) ≡ Some e
behind AllDone = refl
behind Unread = refl
behind Unwritten = refl
behind Roomless = refl
behind TooLong = refl
behind Unkept = refl
behind Differs = refl
behind Full = refl

-- Where a call ends as one ending says, and as another does, these are the same.
pub came_from : (e f : KeepEnding) (result : Ending) → result ≡ ending_of e → result ≡ ending_of f → e ≡ f
came_from e f result one other = let same : Some e ≡ Some f = sym (behind e) ∙ ap ending_behind (sym one ∙ other) ∙ behind f in cc

pub ends_over_journal : (e : KeepEnding) → IsJournalEnding (ending_of e)
ends_over_journal AllDone = refl
ends_over_journal Unread = refl
ends_over_journal Unwritten = refl
ends_over_journal Roomless = refl
ends_over_journal TooLong = refl
ends_over_journal Unkept = refl
ends_over_journal Differs = refl
ends_over_journal Full = refl

-- Where nothing was written.
pub without_memory : (e : KeepEnding) (A : Type 0) → (e ≡ Roomless → A) → NothingWritten (number_of (ending_of e)) → A
without_memory AllDone A roomless is = absurd (cc is)
without_memory Unread A roomless is = absurd (cc is)
without_memory Unwritten A roomless is = absurd (cc is)
without_memory Roomless A roomless is = roomless refl
without_memory TooLong A roomless is = absurd (cc is)
without_memory Unkept A roomless is = absurd (cc is)
without_memory Differs A roomless is = absurd (cc is)
without_memory Full A roomless is = absurd (cc is)

-- Where nothing was taken.
pub before_lines : (e : KeepEnding) (A : Type 0) → (e ≡ Roomless → A) → (e ≡ Differs → A) → NothingTaken (number_of (ending_of e)) → A
before_lines AllDone A roomless differs is = absurd (cc is)
before_lines Unread A roomless differs is = absurd (cc is)
before_lines Unwritten A roomless differs is = absurd (cc is)
before_lines Roomless A roomless differs is = roomless refl
before_lines TooLong A roomless differs is = absurd (cc is)
before_lines Unkept A roomless differs is = absurd (cc is)
before_lines Differs A roomless differs is = differs refl
before_lines Full A roomless differs is = absurd (cc is)

-- Once the journal is opened, no such number comes.
pub not_unopened : (ending : Ending) → IsJournalEnding ending → NotOpened (number_of ending) → ⊥
not_unopened Done can is = cc is
not_unopened BadWords can is = absurd (cc can)
not_unopened ShelfFault can is = absurd (cc can)
not_unopened UnitRefused can is = absurd (cc can)
not_unopened ReadFault can is = cc is
not_unopened WriteFault can is = cc is
not_unopened NoMemory can is = cc is
not_unopened InputTooLong can is = cc is
not_unopened DiskFault can is = cc is
not_unopened JournalDiffers can is = cc is
not_unopened JournalFull can is = cc is

-- Where nothing failed.
complete_as : (e : KeepEnding) → IsComplete e → IsOneOf (0 ∷ 7 ∷ []) (number_of (ending_of e))
complete_as e (inl done) = subst (λ f. IsOneOf (0 ∷ 7 ∷ []) (number_of (ending_of f))) (sym done) refl
complete_as e (inr roomless) = subst (λ f. IsOneOf (0 ∷ 7 ∷ []) (number_of (ending_of f))) (sym roomless) refl

pub ends_complete : (e : KeepEnding) (result : Ending) → result ≡ ending_of e → IsComplete e → IsOneOf (0 ∷ 7 ∷ []) (number_of result)
ends_complete e result is complete = subst (λ r. IsOneOf (0 ∷ 7 ∷ []) (number_of r)) (sym is) (complete_as e complete)

-- The units that are published are those that the files tell.
pub good_from : (folders : List (List ℕ)) (files : Option Files) (left file : Option (List ℕ)) (units : List Unit)
    → WhereTold files (λ told. Publishes told folders (Ok units)) → IsGivenToKeep folders files left file → HasGoodJournal (first_world units) left file
good_from folders files left file units published given =
    let same : Ok given.units ≡ Ok units = folders_publish_one_thing given.told folders (Ok given.units) (Ok units) given.published (published given.told given.are_told) in
    let units_are : given.units ≡ units = cc in
    subst (λ us. HasGoodJournal (first_world us) left file) units_are given.journal
