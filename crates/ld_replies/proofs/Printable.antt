-- That each refusal of a check has a text.
use Rattle.std.proofs.Common.{◌≡◌, refl, subst, ℤ, pos, length, Option, Some, None, Result, Ok, Err, ok_or, Bool, true, false, unwrap_or}
use Rattle.ld_formats.specs.Units.{is_well_formed}
use Rattle.ld_value.specs.Calendar.{IsMoment}
use Rattle.ld_value.specs.Datum.{Datum, text_datum, truth_datum, number_datum, moment_datum, span_datum}
use Rattle.ld_value.proofs.Laws.{IsMoment-from}
use Rattle.ld_lines.specs.declared.command.RunCommand.{RunCommand}
use Rattle.ld_lines.specs.declared.command.RunCommand.TheVariants.{Enrol, Assign, Drop, Start, Open, Complete, Set, Clear, Get, Tree, Outbox, Report, Tick, Next}
use Rattle.ld_model.specs.declared.cell.CellName.TheVariants.{Now}
use Rattle.ld_model.specs.declared.unit.Unit.{Unit}
use Rattle.ld_expr.specs.Seen.{moment_of_value}
use Rattle.ld_roles.specs.Roster.{Shortage}
use Rattle.ld_state.specs.RunCells.{all_cells, suits_cell}
use Rattle.ld_state.specs.RunState.{RunState, cell_of}
use Rattle.ld_state.proofs.Elements.{contains_from_in}
use Rattle.ld_firing.specs.RunSystem.{IsSoundRun}
use Rattle.ld_firing.proofs.CellsThere.{now_there}
use Rattle.ld_admission.specs.Checks.{admitted, fitting_value, in_time, last_moment, none_short, the_activity, the_person, the_property, the_role}
use Rattle.ld_replies.specs.Printing.{IsPrintable}
use Rattle.ld_admission.specs.Refusals.{Refusal, MomentBack, NotStarted, StartedAlready, UnknownPerson, PersonExists, RunFull, UnknownRole, HoldsAlready, NotHeld, RoleFull, RoleExclusive, UnknownActivity, NotByChoice, UnknownProperty, BadValue, NotAllowed, ◌unless_refused◌ as ◌>>=◌, ◌>>◌, refuse_if}
use Rattle.ld_replies.proofs.SeenInRuns.{suits_printable}
use Rattle.ld_replies.proofs.ShortNames.{role_identifiers_short}

-- What is refused, if something is, has a text.
record Prints {A : Type 0} (answer : Result A Refusal) : Type 0 where
  each : (refusal : Refusal) → answer ≡ Err refusal → IsPrintable refusal

one_refusal : {A : Type 0} → {a b : Refusal} → ◌≡◌ {A = Result A Refusal} (Err a) (Err b) → a ≡ b
one_refusal p = cc

passes : {A : Type 0} → (x : A) → Prints (Ok x)
passes x = record { each = λ refusal is. absurd (cc) }

fails : {A : Type 0} → (refusal : Refusal) → IsPrintable refusal → Prints {A = A} (Err refusal)
fails refusal printable = record { each = λ other is. subst IsPrintable (one_refusal is) printable }

with_it : {A B : Type 0} → (x : Result A Refusal) (next : A → Result B Refusal) → Prints x
    → ((a : A) → Prints (next a)) → Prints (x >>= next)
with_it (Ok a) next first later = later a
with_it (Err refusal) next first later = fails refusal (first.each refusal refl)

and_then : {A B : Type 0} → (x : Result A Refusal) (next : Result B Refusal) → Prints x → Prints next
    → Prints (x >> next)
and_then (Ok a) next first later = later
and_then (Err refusal) next first later = fails refusal (first.each refusal refl)

refuses : (b : Bool) (refusal : Refusal) → IsPrintable refusal → Prints (refuse_if b refusal)
refuses true refusal printable = fails refusal printable
refuses false refusal printable = passes tt

finds : {A : Type 0} → (o : Option A) (refusal : Refusal) → IsPrintable refusal → Prints (ok_or o refusal)
finds (Some x) refusal printable = passes x
finds None refusal printable = fails refusal printable

shortage : (unit : Unit) (short : Option Shortage) → is_well_formed unit ≡ true → Prints (none_short unit short)
shortage unit None formed = passes tt
shortage unit (Some short) formed = fails _ (role_identifiers_short unit short.role formed)

-- The last moment of a sound run has a text.
moment_told : (unit : Unit) (value : Option Datum) → suits_cell unit Now value ≡ true
    → IsMoment (unwrap_or (moment_of_value value) (pos 0))
moment_told unit None suits = IsMoment-from (pos 0) refl
moment_told unit (Some (moment_datum z)) suits = suits_printable unit Now (moment_datum z) suits
moment_told unit (Some (text_datum _)) suits = IsMoment-from (pos 0) refl
moment_told unit (Some (truth_datum _)) suits = IsMoment-from (pos 0) refl
moment_told unit (Some (number_datum _)) suits = IsMoment-from (pos 0) refl
moment_told unit (Some (span_datum _)) suits = IsMoment-from (pos 0) refl

pub last_is_moment : (unit : Unit) (s : RunState) → IsSoundRun unit s → IsMoment (last_moment s)
unfolding cell_of
last_is_moment unit s sound =
    moment_told unit (s.cells Now)
    (sound.seen.values Now
    (contains_from_in (all_cells unit (length s.persons)) Now (now_there unit (length s.persons))))

module _ (unit : Unit) (s : RunState) (formed : is_well_formed unit ≡ true) (dated : IsMoment (last_moment s)) (moment : ℤ) where
  timely : Prints (in_time s moment)
  timely = refuses _ (MomentBack (last_moment s)) dated

  prints : (command : RunCommand) → Prints (admitted unit s moment command)
  unfolding admitted
  prints (Enrol person) =
      and_then _ _ timely (and_then _ _ (refuses _ PersonExists tt) (and_then _ _ (refuses _ RunFull tt) (passes _)))
  prints (Assign person role) =
      and_then _ _ timely (with_it (the_person s person) _ (finds _ UnknownPerson tt) (λ p. with_it (the_role unit role) _ (finds _ UnknownRole tt) (λ r.
      and_then _ _ (refuses _ HoldsAlready tt) (and_then _ _ (refuses _ RoleFull tt) (and_then _ _ (refuses _ RoleExclusive tt) (passes _))))))
  prints (Drop person role) =
      and_then _ _ timely (with_it (the_person s person) _ (finds _ UnknownPerson tt) (λ p. with_it (the_role unit role) _ (finds _ UnknownRole tt) (λ r.
      and_then _ _ (refuses _ NotHeld tt) (and_then _ _ (shortage unit _ formed) (passes _)))))
  prints Start =
      and_then _ _ timely (and_then _ _ (refuses _ StartedAlready tt) (and_then _ _ (shortage unit _ formed) (passes _)))
  prints (Open person activity) =
      and_then _ _ timely (and_then _ _ (refuses _ NotStarted tt) (with_it (the_person s person) _ (finds _ UnknownPerson tt) (λ p.
      with_it (the_activity unit activity) _ (finds _ UnknownActivity tt) (λ found. passes _))))
  prints (Complete person activity) =
      and_then _ _ timely (and_then _ _ (refuses _ NotStarted tt) (with_it (the_person s person) _ (finds _ UnknownPerson tt) (λ p.
      with_it (the_activity unit activity) _ (finds _ UnknownActivity tt) (λ found. and_then _ _ (refuses _ NotByChoice tt) (passes _)))))
  prints (Set person property text) =
      and_then _ _ timely (and_then _ _ (refuses _ NotStarted tt) (with_it (the_person s person) _ (finds _ UnknownPerson tt) (λ p.
      with_it (the_property unit property) _ (finds _ UnknownProperty tt) (λ found. with_it (fitting_value found.property text) _ (finds _ BadValue tt) (λ value.
      and_then _ _ (refuses _ NotAllowed tt) (passes _))))))
  prints (Clear person property) =
      and_then _ _ timely (and_then _ _ (refuses _ NotStarted tt) (with_it (the_person s person) _ (finds _ UnknownPerson tt) (λ p.
      with_it (the_property unit property) _ (finds _ UnknownProperty tt) (λ found. and_then _ _ (refuses _ NotAllowed tt) (passes _)))))
  prints (Get person property) =
      and_then _ _ timely (and_then _ _ (refuses _ NotStarted tt) (with_it (the_person s person) _ (finds _ UnknownPerson tt) (λ p.
      with_it (the_property unit property) _ (finds _ UnknownProperty tt) (λ found. passes _))))
  prints (Tree person) =
      and_then _ _ timely (and_then _ _ (refuses _ NotStarted tt) (with_it (the_person s person) _ (finds _ UnknownPerson tt) (λ p. passes _)))
  prints (Outbox person) =
      and_then _ _ timely (and_then _ _ (refuses _ NotStarted tt) (with_it (the_person s person) _ (finds _ UnknownPerson tt) (λ p. passes _)))
  prints Report = and_then _ _ timely (and_then _ _ (refuses _ NotStarted tt) (passes _))
  prints Tick = and_then _ _ timely (and_then _ _ (refuses _ NotStarted tt) (passes _))
  prints Next = and_then _ _ timely (and_then _ _ (refuses _ NotStarted tt) (passes _))

-- What a check refuses in a sound run has a text.
pub refused_printable : (unit : Unit) (s : RunState) (moment : ℤ) (command : RunCommand) (refusal : Refusal)
    → IsSoundRun unit s → admitted unit s moment command ≡ Err refusal → IsPrintable refusal
refused_printable unit s moment command refusal sound is =
    (prints unit s sound.valid.formed (last_is_moment unit s sound) moment command).each refusal is
