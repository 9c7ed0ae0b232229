-- With which status a call ends, from how its parts end.
use Rattle.std.proofs.Common.{arith, ℕ, List, [], ◌∷◌, ◌++◌, ◌≡◌, ◌<◌, ◌≤◌, ◌^◌, length, length-append, Option, None, Some, Result, Ok, Err, refl, sym, ap, ◌∙◌, subst}
use Rattle.ld_base.specs.Outside.{Files, Rose, piece_then}
use Rattle.ld_json.specs.Fault.{Told, first_of}
use Rattle.ld_model.specs.declared.unit.Unit.{Unit}
use Rattle.ld_world.specs.Published.{RefusedFolder, published}
use Rattle.ld_world.specs.World.{WorldState}
use Rattle.ld_top.specs.Answering.{AnsweredAll, AnsweredTaken}
use Rattle.ld_top.specs.Completeness.{DidNotFail, EndsAtLimit, EndsRefused, EndsWell, FoldersPublishOneThing, IsGiven}
use Rattle.ld_top.specs.Endings.{IsOneOf, IsRefusalEnding, IsReplayEnding, number_of}
use Rattle.ld_top.specs.InFolder.{IsReading, WhereTold}
use Rattle.ld_top.specs.Replay.{AreReadings, Publishes}
use Rattle.ld_top.specs.declared.ending.Ending.{Ending}
use Rattle.ld_top.specs.declared.ending.Ending.TheVariants.{Done, BadWords, ShelfFault, UnitRefused, ReadFault, WriteFault, NoMemory, InputTooLong, DiskFault, JournalDiffers, JournalFull}

-- ---- folders are read to one thing

same_value : {A : Type 0} {o : Option A} {x y : A} → o ≡ Some x → o ≡ Some y → x ≡ y
same_value {x = x} {y = y} one other = let same : Some x ≡ Some y = sym one ∙ other in cc

no_first : {fault : Told} {faults : List Told} → faults ≡ [] → first_of faults ≡ Some fault → ⊥
no_first {fault = fault} none first = let same : None ≡ Some fault = sym (ap first_of none) ∙ first in absurd (cc)

one_reading : (files : Files) (folder : List ℕ) (one other : Result Unit Told) → IsReading files folder one → IsReading files folder other → one ≡ other
one_reading files folder (Ok unit) (Ok also) this that = ap Ok (same_value this.0 that.0)
one_reading files folder (Ok unit) (Err fault) this that = absurd (no_first this.1 that)
one_reading files folder (Err fault) (Ok unit) this that = absurd (no_first that.1 this)
one_reading files folder (Err fault) (Err also) this that = ap Err (same_value this that)

same_readings : (files : Files) (folders : List (List ℕ)) (these those : List (Result Unit Told)) → AreReadings files folders these → AreReadings files folders those → these ≡ those
same_readings files [] [] [] here there = refl
same_readings files [] [] (other ∷ those) here there = absurd there
same_readings files [] (one ∷ these) those here there = absurd here
same_readings files (folder ∷ folders) [] those here there = absurd here
same_readings files (folder ∷ folders) (one ∷ these) [] here there = absurd there
same_readings files (folder ∷ folders) (one ∷ these) (other ∷ those) here there =
    let first = one_reading files folder one other here.0 there.0 in
    let rest = same_readings files folders these those here.1 there.1 in
    λ i. first i ∷ rest i

pub folders_publish_one_thing : FoldersPublishOneThing
folders_publish_one_thing files folders one other (these, here, gives) (those, there, gives_also) =
    sym gives ∙ ap published (same_readings files folders these those here there) ∙ gives_also

-- Folders do not both publish units and get refused.
pub not_both : (files : Files) (folders : List (List ℕ)) (units : List Unit) (refused : RefusedFolder) → Publishes files folders (Ok units) → Publishes files folders (Err refused) → ⊥
not_both files folders units refused well badly =
    let same : Ok units ≡ Err refused = folders_publish_one_thing files folders (Ok units) (Err refused) well badly in absurd (cc)

-- ---- want of memory

pub seven_well : (folders : List (List ℕ)) (files : Option Files) (left : Option (List ℕ)) → EndsWell folders files left 7
seven_well folders files left = record { fewer = λ bytes given few. refl; others = λ bytes given many. refl }

pub seven_refused : (folders : List (List ℕ)) (files : Option Files) → EndsRefused folders files 7
seven_refused folders files = record { ends = λ told refused here badly. refl }

-- From an input of which nothing was taken no 2^40 bytes were.
pub none_taken : (left : Option (List ℕ)) (status : ℕ) → EndsAtLimit left left status
none_taken left status taken rest before now many =
    let same : taken ++ rest ≡ rest = same_value before now in
    absurd (omega (arith, many, length-append taken rest, ap length same))

-- ---- a folder is refused

pub refused_not_well : (folders : List (List ℕ)) (files : Option Files) (left : Option (List ℕ)) (refused : RefusedFolder) (status : ℕ)
    → WhereTold files (λ told. Publishes told folders (Err refused)) → EndsWell folders files left status
refused_not_well folders files left refused status told = record {
  fewer = λ bytes given few. absurd (never bytes given);
  others = λ bytes given many. absurd (never bytes given);
}
  where
    never : (bytes : List ℕ) → IsGiven folders files left bytes → ⊥
    never bytes given = not_both given.told folders given.units refused given.published (told given.told given.are_told)

pub refusal_ends : (ending : Ending) (before now : ℕ) → IsRefusalEnding ending → (ending ≡ WriteFault → Rose before now) → DidNotFail before now → IsOneOf (4 ∷ 7 ∷ []) (number_of ending)
refusal_ends Done before now can cause well = absurd (cc can)
refusal_ends BadWords before now can cause well = absurd (cc can)
refusal_ends ShelfFault before now can cause well = absurd (cc can)
refusal_ends UnitRefused before now can cause well = refl
refusal_ends ReadFault before now can cause well = absurd (cc can)
refusal_ends WriteFault before now can cause well = absurd (well (cause refl))
refusal_ends NoMemory before now can cause well = refl
refusal_ends InputTooLong before now can cause well = absurd (cc can)
refusal_ends DiskFault before now can cause well = absurd (cc can)
refusal_ends JournalDiffers before now can cause well = absurd (cc can)
refusal_ends JournalFull before now can cause well = absurd (cc can)

-- ---- all units are published

pub published_not_refused : (folders : List (List ℕ)) (files : Option Files) (units : List Unit) (status : ℕ)
    → WhereTold files (λ told. Publishes told folders (Ok units)) → EndsRefused folders files status
published_not_refused folders files units status told = record {
  ends = λ others_told refused here badly. absurd (not_both others_told folders units refused (told others_told here) badly);
}

taken_within : (taken : List ℕ) (left : Option (List ℕ)) (bytes : List ℕ) → piece_then taken left ≡ Some bytes → length taken ≤ length bytes
taken_within taken None bytes is = absurd (cc)
taken_within taken (Some rest) bytes is =
    let same : taken ++ rest ≡ bytes = cc in
    omega (arith, length-append taken rest, ap length same)

-- How a replay has ended.
pub record HasEnded (w : WorldState) (before now old new : Option (List ℕ)) (reads reads_now writes writes_now : ℕ) (ending : Ending) : Type 0 where
  pub can : IsReplayEnding ending
  pub done : ending ≡ Done → AnsweredAll w before now old new
  pub read : ending ≡ ReadFault → AnsweredTaken (λ n. n < 2 ^ 40) w before now old new
  pub long : ending ≡ InputTooLong → AnsweredTaken (λ n. n ≡ 2 ^ 40) w before now old new
  pub none : ending ≡ NoMemory → now ≡ before
  pub read_cause : ending ≡ ReadFault → Rose reads reads_now
  pub write_cause : ending ≡ WriteFault → Rose writes writes_now

module _ (w : WorldState) (before now old new : Option (List ℕ)) (reads reads_now writes writes_now : ℕ) where
  abbrev Ended : Ending → Type 0
  Ended = HasEnded w before now old new reads reads_now writes writes_now

  replay_fewer : (ending : Ending) → Ended ending → DidNotFail reads reads_now → DidNotFail writes writes_now
      → (bytes : List ℕ) → before ≡ Some bytes → length bytes < 2 ^ 40 → IsOneOf (0 ∷ 7 ∷ []) (number_of ending)
  replay_fewer Done ended well written bytes is few = refl
  replay_fewer BadWords ended well written bytes is few = absurd (cc ended.can)
  replay_fewer ShelfFault ended well written bytes is few = absurd (cc ended.can)
  replay_fewer UnitRefused ended well written bytes is few = absurd (cc ended.can)
  replay_fewer ReadFault ended well written bytes is few = absurd (well (ended.read_cause refl))
  replay_fewer WriteFault ended well written bytes is few = absurd (written (ended.write_cause refl))
  replay_fewer NoMemory ended well written bytes is few = refl
  replay_fewer InputTooLong ended well written bytes is few =
      let long = ended.long refl in
      absurd (omega (arith, few, long.2, taken_within long.0 now bytes (sym long.1 ∙ is)))
  replay_fewer DiskFault ended well written bytes is few = absurd (cc ended.can)
  replay_fewer JournalDiffers ended well written bytes is few = absurd (cc ended.can)
  replay_fewer JournalFull ended well written bytes is few = absurd (cc ended.can)

  replay_others : (ending : Ending) → Ended ending → DidNotFail reads reads_now → DidNotFail writes writes_now
      → (bytes : List ℕ) → before ≡ Some bytes → 2 ^ 40 ≤ length bytes → IsOneOf (8 ∷ 7 ∷ []) (number_of ending)
  replay_others Done ended well written bytes is many =
      let all = subst (λ left. AnsweredAll w left now old new) is (ended.done refl) in
      absurd (omega (arith, many, all.1))
  replay_others BadWords ended well written bytes is many = absurd (cc ended.can)
  replay_others ShelfFault ended well written bytes is many = absurd (cc ended.can)
  replay_others UnitRefused ended well written bytes is many = absurd (cc ended.can)
  replay_others ReadFault ended well written bytes is many = absurd (well (ended.read_cause refl))
  replay_others WriteFault ended well written bytes is many = absurd (written (ended.write_cause refl))
  replay_others NoMemory ended well written bytes is many = refl
  replay_others InputTooLong ended well written bytes is many = refl
  replay_others DiskFault ended well written bytes is many = absurd (cc ended.can)
  replay_others JournalDiffers ended well written bytes is many = absurd (cc ended.can)
  replay_others JournalFull ended well written bytes is many = absurd (cc ended.can)

  pub replay_ends_well : (folders : List (List ℕ)) (files : Option Files) (ending : Ending) → Ended ending → DidNotFail reads reads_now → DidNotFail writes writes_now
      → EndsWell folders files before (number_of ending)
  replay_ends_well folders files ending ended well written = record {
    fewer = λ bytes given few. replay_fewer ending ended well written bytes given.input few;
    others = λ bytes given many. replay_others ending ended well written bytes given.input many;
  }

  -- Where 2^40 bytes were taken.
  pub replay_at_limit : (ending : Ending) → Ended ending → DidNotFail writes writes_now → EndsAtLimit before now (number_of ending)
  replay_at_limit Done ended written taken rest here there many =
      let all = subst (λ left. AnsweredAll w left now old new) here (ended.done refl) in
      absurd (omega (arith, many, all.1, length-append taken rest))
  replay_at_limit BadWords ended written taken rest here there many = absurd (cc ended.can)
  replay_at_limit ShelfFault ended written taken rest here there many = absurd (cc ended.can)
  replay_at_limit UnitRefused ended written taken rest here there many = absurd (cc ended.can)
  replay_at_limit ReadFault ended written taken rest here there many =
      let few = ended.read refl in
      let same : few.0 ++ rest ≡ taken ++ rest = same_value (few.1 ∙ ap (piece_then few.0) there) here in
      absurd (omega (arith, many, few.2, length-append few.0 rest, length-append taken rest, ap length same))
  replay_at_limit WriteFault ended written taken rest here there many = absurd (written (ended.write_cause refl))
  replay_at_limit NoMemory ended written taken rest here there many =
      none_taken before (number_of NoMemory) taken rest here (sym (ended.none refl) ∙ there) many
  replay_at_limit InputTooLong ended written taken rest here there many = refl
  replay_at_limit DiskFault ended written taken rest here there many = absurd (cc ended.can)
  replay_at_limit JournalDiffers ended written taken rest here there many = absurd (cc ended.can)
  replay_at_limit JournalFull ended written taken rest here there many = absurd (cc ended.can)
