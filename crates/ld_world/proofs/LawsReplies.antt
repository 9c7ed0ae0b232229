-- A run never goes back in time, no reply is the block for out of memory, and so what is written tells which
-- world is left.
use Rattle.std.specs.Prelude.{⊤}
use Rattle.std.proofs.Common.{◌≡◌, ◌≢◌, refl, sym, ap, ◌∙◌, subst, ℕ, ℤ, List, [], ◌∷◌, ◌++◌, get_or, nat_eq, codes, Option, Some, None, Result, Ok, Err, ok_or, Bool, true, false, ◌&&◌, is_some, int_lt, inl, inr}
use Rattle.std.specs.Fmt.{digits}
use Rattle.std.proofs.lemmas.Cmp.{nat_eq_equiv}
use Rattle.std.proofs.lemmas.List.{append_cancel_left}
use Rattle.ld_value.specs.Datum.{moment_datum}
use Rattle.ld_model.specs.declared.cell.CellName.TheVariants.{Now}
use Rattle.ld_model.specs.declared.unit.Unit.{Unit}
use Rattle.ld_lines.specs.declared.command.RunCommand.{RunCommand}
use Rattle.ld_lines.specs.declared.command.RunCommand.TheVariants.{Enrol, Assign, Drop, Start, Open, Complete, Set, Clear, Get, Tree, Outbox, Report, Tick, Next}
use Rattle.ld_lines.specs.declared.line.Line.{Line}
use Rattle.ld_lines.specs.declared.line.Line.TheVariants.{Create, OfRun, GlobalSet, GlobalGet}
use Rattle.ld_roles.specs.Roster.{Shortage, short_at_start}
use Rattle.ld_state.specs.GlobalValues.{GlobalValues}
use Rattle.ld_state.specs.RunState.{RunState}
use Rattle.ld_rules.specs.LawWords.{is_property}
use Rattle.ld_firing.specs.RunSettling.{Settlement, run_settling}
use Rattle.ld_firing.proofs.LawsOpenings.{settling_leaves, told_apart}
use Rattle.ld_run.specs.Changes.{directly_changed, has_change}
use Rattle.ld_admission.specs.Checks.{admitted, in_time, running, last_moment, is_started, none_short, shortage_if_running, fitting_value, may_write, the_person, the_role, the_activity, the_property, does_not_hold, holds_it, has_room, keeps_apart, only_by_choice, not_enrolled, has_seat, not_running}
use Rattle.ld_admission.specs.Commands.{Admitted, enrols, assigns, drops, starts, opens, completes, sets, clears, gets, shows_tree, shows_outbox, reports, ticks, shows_next}
use Rattle.ld_admission.specs.Refusals.{Refusal, BadLine, UnknownUnit, RunExists, UnknownRun, MomentBack, NotStarted, StartedAlready, UnknownPerson, PersonExists, RunFull, UnknownRole, HoldsAlready, NotHeld, RoleFull, RoleExclusive, RoleShort, UnknownActivity, NotByChoice, UnknownProperty, UnknownGlobal, BadValue, NotAllowed, TurnBudget, NotOpen, NoMemory, ◌unless_refused◌ as ◌>>=◌, ◌>>◌, refuse_if}
use Rattle.ld_replies.specs.Replies.{refusal_text}
use Rattle.ld_run.specs.RunStep.{DoneCommand, run_step, settled, open_for_it}
use Rattle.ld_run.proofs.LawsKept.{Fits, fits, touches, change_leaves, begun}
use Rattle.ld_run.proofs.SeatsOfChecks.{Each, each_then}
use Rattle.ld_run.proofs.SeatsOfSteps.{bound_where}
use Rattle.ld_world.specs.Answers.{AnswersLine, Leads, line_of}
use Rattle.ld_world.specs.World.{WorldState, Deed, DoneLine, made, ran, stored, known, line_done, global_in, suits_person, run_named, unit_named, world_step, deed_text, reply_text, reply_block}

-- ---- moments

each_any : {A : Type 0} (P : A → Type 0) (r : Result A Refusal) → ((x : A) → P x) → Each P r
each_any P (Ok x) all = all x
each_any P (Err refusal) all = tt

-- What passes a check was not stopped by it.
passes : {A : Type 0} (b : Bool) (refusal : Refusal) (next : Result A Refusal) → Each (λ (_ : A). b ≡ false) (refuse_if b refusal >> next)
passes {A} true refusal next = tt
passes {A} false refusal next = each_any (λ (_ : A). false ≡ false) next (λ _. refl)

abbrev IsLater : RunState → ℤ → Type 0
IsLater s moment = int_lt moment (last_moment s) ≡ false

-- The first check of each command is that of its moment.
in_time_first : (s : RunState) (moment : ℤ) (next : Result Admitted Refusal) → Each (λ (_ : Admitted). IsLater s moment) (in_time s moment >> next)
in_time_first s moment next = passes (int_lt moment (last_moment s)) (MomentBack (last_moment s)) next

admitted_later : (unit : Unit) (s : RunState) (moment : ℤ) (asked : RunCommand) → Each (λ (_ : Admitted). IsLater s moment) (admitted unit s moment asked)
unfolding admitted
admitted_later unit s moment (Enrol person) = in_time_first s moment _
admitted_later unit s moment (Assign person role) = in_time_first s moment _
admitted_later unit s moment (Drop person role) = in_time_first s moment _
admitted_later unit s moment Start = in_time_first s moment _
admitted_later unit s moment (Open person activity) = in_time_first s moment _
admitted_later unit s moment (Complete person activity) = in_time_first s moment _
admitted_later unit s moment (Set person property text) = in_time_first s moment _
admitted_later unit s moment (Clear person property) = in_time_first s moment _
admitted_later unit s moment (Get person property) = in_time_first s moment _
admitted_later unit s moment (Tree person) = in_time_first s moment _
admitted_later unit s moment (Outbox person) = in_time_first s moment _
admitted_later unit s moment Report = in_time_first s moment _
admitted_later unit s moment Tick = in_time_first s moment _
admitted_later unit s moment Next = in_time_first s moment _

-- The last moment of the run is this one.
abbrev IsAt : ℤ → RunState → Type 0
IsAt moment s = s.cells Now ≡ Some (moment_datum moment)

now_untouched : (s t : RunState) (command : Admitted) → Fits s command → touches t command Now ≡ false
now_untouched s t (enrols name) fit = refl
now_untouched s t (assigns p role) fit = refl
now_untouched s t (drops p role) fit = refl
now_untouched s t starts fit = refl
now_untouched s t (opens p thing) fit = refl
now_untouched s t (completes p thing) fit = refl
now_untouched s t (sets cell value) fit = told_apart is_property Now cell refl fit
now_untouched s t (clears cell) fit = told_apart is_property Now cell refl fit
now_untouched s t (gets cell) fit = refl
now_untouched s t (shows_tree p) fit = refl
now_untouched s t (shows_outbox p) fit = refl
now_untouched s t reports fit = refl
now_untouched s t ticks fit = refl
now_untouched s t shows_next fit = refl

settled_at : (unit : Unit) (moment : ℤ) (b : Bool) (t : RunState) → IsAt moment t → Each (λ (x : Settlement). IsAt moment x.state) (settled b unit t)
settled_at unit moment false t at = at
settled_at unit moment true t at = by (run_settling unit t) refl
  where
    by : (found : Option Settlement) → run_settling unit t ≡ found → Each (λ (x : Settlement). IsAt moment x.state) (ok_or found TurnBudget)
    by None is = tt
    by (Some x) is = settling_leaves unit t x Now refl refl is ∙ at

abbrev IsDoneAt : RunState → ℤ → DoneCommand → Type 0
IsDoneAt s moment d = IsLater s moment × IsAt moment d.state

each_with : {A : Type 0} (P Q : A → Type 0) (r : Result A Refusal) → Each P r → Each Q r → Each (λ x. P x × Q x) r
each_with P Q (Ok x) this that = (this, that)
each_with P Q (Err refusal) this that = tt

step_at : (unit : Unit) (s : RunState) (store : GlobalValues) (moment : ℤ) (asked : RunCommand) → Each (IsDoneAt s moment) (run_step unit s store moment asked)
unfolding run_step
step_at unit s store moment asked =
    bound_where (λ (command : Admitted). Fits s command × IsLater s moment) (IsDoneAt s moment) (admitted unit s moment asked) _
    (each_with (Fits s) (λ (_ : Admitted). IsLater s moment) (admitted unit s moment asked) (fits unit s moment asked) (admitted_later unit s moment asked)) λ command fit.
    bound_where (λ (x : Settlement). IsAt moment x.state) (IsDoneAt s moment) (settled (is_started s) unit (begun unit store s moment)) _
    (settled_at unit moment (is_started s) (begun unit store s moment) refl) λ first at.
    each_then (IsDoneAt s moment) (open_for_it unit first.state command) _
    (bound_where (λ (x : Settlement). IsAt moment x.state) (IsDoneAt s moment)
    (settled (has_change command && is_started (directly_changed unit store first.state moment command)) unit (directly_changed unit store first.state moment command)) _
    (settled_at unit moment (has_change command && is_started (directly_changed unit store first.state moment command)) (directly_changed unit store first.state moment command)
    (change_leaves unit store first.state moment command Now (now_untouched s first.state command fit.0) ∙ at)) λ second last. (fit.1, last))

-- A run never goes back in time: a command that is done is not before the last moment of its run, and leaves its
-- own moment as the last one.
pub moments_never_go_back : (unit : Unit) (s : RunState) (store : GlobalValues) (moment : ℤ) (asked : RunCommand) (d : DoneCommand) → run_step unit s store moment asked ≡ Ok d
    → (int_lt moment (last_moment s) ≡ false) × (d.state.cells Now ≡ Some (moment_datum moment))
moments_never_go_back unit s store moment asked d is = subst (Each (IsDoneAt s moment)) is (step_at unit s store moment asked)

-- ---- refusals by a line

-- The refusal is not that memory runs out.
abbrev is_of_line : Refusal → Bool
is_of_line NoMemory = false
is_of_line _ = true

abbrev IsOfLine : {A : Type 0} → Result A Refusal → Type 0
IsOfLine (Ok x) = ⊤
IsOfLine (Err refusal) = is_of_line refusal ≡ true

stops_if : (b : Bool) (refusal : Refusal) → is_of_line refusal ≡ true → IsOfLine (refuse_if b refusal)
stops_if true refusal is = is
stops_if false refusal is = tt

stops_without : {A : Type 0} (o : Option A) (refusal : Refusal) → is_of_line refusal ≡ true → IsOfLine (ok_or o refusal)
stops_without None refusal is = is
stops_without (Some x) refusal is = tt

and_then : {A B : Type 0} (r : Result A Refusal) (next : Result B Refusal) → IsOfLine r → IsOfLine next → IsOfLine (r >> next)
and_then (Ok x) next this that = that
and_then (Err refusal) next this that = this

and_with : {A B : Type 0} (r : Result A Refusal) (next : A → Result B Refusal) → IsOfLine r → ((x : A) → IsOfLine (next x)) → IsOfLine (r >>= next)
and_with (Ok x) next this that = that x
and_with (Err refusal) next this that = this

stops_short : (unit : Unit) (short : Option Shortage) → IsOfLine (none_short unit short)
stops_short unit None = tt
stops_short unit (Some short) = refl

module _ (unit : Unit) (s : RunState) (moment : ℤ) where
  timely : (next : Result Admitted Refusal) → IsOfLine next → IsOfLine (in_time s moment >> next)
  timely next rest = and_then (in_time s moment) next (stops_if _ _ refl) rest

  started : (next : Result Admitted Refusal) → IsOfLine next → IsOfLine (in_time s moment >> (running s >> next))
  started next rest = timely _ (and_then (running s) next (stops_if _ _ refl) rest)

  admitted_by_line : (asked : RunCommand) → IsOfLine (admitted unit s moment asked)
  unfolding admitted
  admitted_by_line (Enrol person) =
      timely _ (and_then (not_enrolled s person) _ (stops_if _ _ refl) (and_then (has_seat s) _ (stops_if _ _ refl) tt))
  admitted_by_line (Assign person role) =
      timely _ (and_with (the_person s person) _ (stops_without _ _ refl) λ p. and_with (the_role unit role) _ (stops_without _ _ refl) λ r. and_then (does_not_hold s r p) _ (stops_if _ _ refl) (and_then (has_room unit s r p) _ (stops_if _ _ refl) (and_then (keeps_apart unit s r p) _ (stops_if _ _ refl) tt)))
  admitted_by_line (Drop person role) =
      timely _ (and_with (the_person s person) _ (stops_without _ _ refl) λ p. and_with (the_role unit role) _ (stops_without _ _ refl) λ r. and_then (holds_it s r p) _ (stops_if _ _ refl) (and_then (none_short unit (shortage_if_running unit s r p (is_started s))) _ (stops_short unit _) tt))
  admitted_by_line Start =
      timely _ (and_then (not_running s) _ (stops_if _ _ refl) (and_then (none_short unit (short_at_start unit s.persons)) _ (stops_short unit _) tt))
  admitted_by_line (Open person activity) =
      started _ (and_with (the_person s person) _ (stops_without _ _ refl) λ p. and_with (the_activity unit activity) _ (stops_without _ _ refl) λ found. tt)
  admitted_by_line (Complete person activity) =
      started _ (and_with (the_person s person) _ (stops_without _ _ refl) λ p. and_with (the_activity unit activity) _ (stops_without _ _ refl) λ found. and_then (only_by_choice found.activity) _ (stops_if _ _ refl) tt)
  admitted_by_line (Set person property text) =
      started _ (and_with (the_person s person) _ (stops_without _ _ refl) λ p. and_with (the_property unit property) _ (stops_without _ _ refl) λ found. and_with (fitting_value found.property text) _ (stops_without _ _ refl) λ value. and_then (may_write unit s p found.property) _ (stops_if _ _ refl) tt)
  admitted_by_line (Clear person property) =
      started _ (and_with (the_person s person) _ (stops_without _ _ refl) λ p. and_with (the_property unit property) _ (stops_without _ _ refl) λ found. and_then (may_write unit s p found.property) _ (stops_if _ _ refl) tt)
  admitted_by_line (Get person property) =
      started _ (and_with (the_person s person) _ (stops_without _ _ refl) λ p. and_with (the_property unit property) _ (stops_without _ _ refl) λ found. tt)
  admitted_by_line (Tree person) = started _ (and_with (the_person s person) _ (stops_without _ _ refl) λ p. tt)
  admitted_by_line (Outbox person) = started _ (and_with (the_person s person) _ (stops_without _ _ refl) λ p. tt)
  admitted_by_line Report = started _ tt
  admitted_by_line Tick = started _ tt
  admitted_by_line Next = started _ tt

settled_by_line : (b : Bool) (unit : Unit) (s : RunState) → IsOfLine (settled b unit s)
settled_by_line true unit s = stops_without (run_settling unit s) TurnBudget refl
settled_by_line false unit s = tt

open_by_line : (unit : Unit) (s : RunState) (command : Admitted) → IsOfLine (open_for_it unit s command)
open_by_line unit s (opens p thing) = stops_if _ _ refl
open_by_line unit s (completes p thing) = stops_if _ _ refl
open_by_line unit s (enrols name) = tt
open_by_line unit s (assigns p role) = tt
open_by_line unit s (drops p role) = tt
open_by_line unit s starts = tt
open_by_line unit s (sets cell value) = tt
open_by_line unit s (clears cell) = tt
open_by_line unit s (gets cell) = tt
open_by_line unit s (shows_tree p) = tt
open_by_line unit s (shows_outbox p) = tt
open_by_line unit s reports = tt
open_by_line unit s ticks = tt
open_by_line unit s shows_next = tt

step_by_line : (unit : Unit) (s : RunState) (store : GlobalValues) (moment : ℤ) (asked : RunCommand) → IsOfLine (run_step unit s store moment asked)
unfolding run_step
step_by_line unit s store moment asked =
    and_with (admitted unit s moment asked) _ (admitted_by_line unit s moment asked) λ command.
    and_with (settled (is_started s) unit (begun unit store s moment)) _ (settled_by_line (is_started s) unit (begun unit store s moment)) λ first.
    and_then (open_for_it unit first.state command) _ (open_by_line unit first.state command)
    (and_with (settled (has_change command && is_started (directly_changed unit store first.state moment command)) unit (directly_changed unit store first.state moment command)) _
    (settled_by_line (has_change command && is_started (directly_changed unit store first.state moment command)) unit (directly_changed unit store first.state moment command)) λ second. tt)

by_line : (w : WorldState) (line : Line) → IsOfLine (line_done w line)
by_line w (Create moment run unit) =
    and_with (ok_or (unit_named w.units unit) UnknownUnit) _ (stops_without _ _ refl) λ found. and_then (refuse_if (is_some (run_named w.runs run)) RunExists) _ (stops_if _ _ refl) tt
by_line w (OfRun moment run command) =
    and_with (ok_or (run_named w.runs run) UnknownRun) _ (stops_without _ _ refl) λ found. and_with (run_step found.unit found.state w.store moment.0 command) _ (step_by_line found.unit found.state w.store moment.0 command) λ d. tt
by_line w (GlobalSet moment uri person text) =
    and_with (global_in w uri) _ (stops_without _ _ refl) λ property. and_with (fitting_value property text) _ (stops_without _ _ refl) λ value. and_then (suits_person property person) _ (stops_if _ _ refl) tt
by_line w (GlobalGet moment uri person) =
    and_with (global_in w uri) _ (stops_without _ _ refl) λ property. and_then (suits_person property person) _ (stops_if _ _ refl) tt

world_by_line : (w : WorldState) (line : Option Line) → IsOfLine (world_step w line)
unfolding world_step
world_by_line w None = refl
world_by_line w (Some line) = by_line w line

-- ---- texts

-- No text begins both with the block and with the one out of memory.
abbrev IsTelling : List ℕ → Type 0
IsTelling block = (rest more : List ℕ) → block ++ rest ≡ reply_block (Err NoMemory) ++ more → ⊥

-- The same of a reply without its end.
record Tells (text : List ℕ) : Type 0 where
  block : IsTelling (text ++ 10 ∷ [])

-- Texts differ that differ at one place.
differ_at : (place : ℕ) (x y : List ℕ) → nat_eq (get_or x place 0) (get_or y place 0) ≡ false → x ≡ y → ⊥
differ_at place x y differs same =
    let equal : nat_eq (get_or x place 0) (get_or y place 0) ≡ true = ap (λ (bytes : List ℕ). nat_eq (get_or x place 0) (get_or bytes place 0)) (sym same) ∙ nat_eq_equiv.refl (get_or x place 0) in
    cc

refusal_tells : (refusal : Refusal) → is_of_line refusal ≡ true → Tells (refusal_text refusal)
unfolding digits reply_block
refusal_tells BadLine is = record { block = λ rest more same. differ_at 3 _ _ refl same }
refusal_tells UnknownUnit is = record { block = λ rest more same. differ_at 3 _ _ refl same }
refusal_tells RunExists is = record { block = λ rest more same. differ_at 3 _ _ refl same }
refusal_tells UnknownRun is = record { block = λ rest more same. differ_at 3 _ _ refl same }
refusal_tells (MomentBack last) is = record { block = λ rest more same. differ_at 3 _ _ refl same }
refusal_tells NotStarted is = record { block = λ rest more same. differ_at 3 _ _ refl same }
refusal_tells StartedAlready is = record { block = λ rest more same. differ_at 3 _ _ refl same }
refusal_tells UnknownPerson is = record { block = λ rest more same. differ_at 3 _ _ refl same }
refusal_tells PersonExists is = record { block = λ rest more same. differ_at 4 _ _ refl same }
refusal_tells RunFull is = record { block = λ rest more same. differ_at 3 _ _ refl same }
refusal_tells UnknownRole is = record { block = λ rest more same. differ_at 3 _ _ refl same }
refusal_tells HoldsAlready is = record { block = λ rest more same. differ_at 3 _ _ refl same }
refusal_tells NotHeld is = record { block = λ rest more same. differ_at 3 _ _ refl same }
refusal_tells RoleFull is = record { block = λ rest more same. differ_at 3 _ _ refl same }
refusal_tells RoleExclusive is = record { block = λ rest more same. differ_at 3 _ _ refl same }
refusal_tells (RoleShort role count least) is = record { block = λ rest more same. differ_at 3 _ _ refl same }
refusal_tells UnknownActivity is = record { block = λ rest more same. differ_at 3 _ _ refl same }
refusal_tells NotByChoice is = record { block = λ rest more same. differ_at 3 _ _ refl same }
refusal_tells UnknownProperty is = record { block = λ rest more same. differ_at 3 _ _ refl same }
refusal_tells UnknownGlobal is = record { block = λ rest more same. differ_at 3 _ _ refl same }
refusal_tells BadValue is = record { block = λ rest more same. differ_at 3 _ _ refl same }
refusal_tells NotAllowed is = record { block = λ rest more same. differ_at 3 _ _ refl same }
refusal_tells TurnBudget is = record { block = λ rest more same. differ_at 3 _ _ refl same }
refusal_tells NotOpen is = record { block = λ rest more same. differ_at 3 _ _ refl same }
refusal_tells NoMemory is = absurd (cc is)

deed_tells : (deed : Deed) → Tells (deed_text deed)
unfolding digits reply_block
deed_tells made = record { block = λ rest more same. differ_at 0 _ _ refl same }
deed_tells (ran unit d) = record { block = λ rest more same. differ_at 0 _ _ refl same }
deed_tells stored = record { block = λ rest more same. differ_at 0 _ _ refl same }
deed_tells (known value) = record { block = λ rest more same. differ_at 0 _ _ refl same }

reply_tells : (result : Result DoneLine Refusal) → IsOfLine result → Tells (reply_text result)
reply_tells (Ok done) is = deed_tells done.deed
reply_tells (Err refusal) is = refusal_tells refusal is

-- No text begins both with the reply to a line and with the block for out of memory.
pub no_reply_is_want_of_memory : (w : WorldState) (line : Option Line) (rest more : List ℕ) → reply_block (world_step w line) ++ rest ≢ reply_block (Err NoMemory) ++ more
unfolding reply_block
no_reply_is_want_of_memory w line rest more same = (reply_tells (world_step w line) (world_by_line w line)).block rest more same

-- No reply is `no 99 no-memory`.
pub no_text_is_want_of_memory : (w : WorldState) (line : Option Line) → reply_text (world_step w line) ≢ codes "no 99 no-memory"
unfolding digits reply_block
no_text_is_want_of_memory w line same =
    (reply_tells (world_step w line) (world_by_line w line)).block [] [] (ap (λ (text : List ℕ). (text ++ 10 ∷ []) ++ []) same)

-- ---- the world that a text leads to

leads_same : (lines : List (List ℕ)) (mid other : WorldState) (rest last : List ℕ) (new : WorldState) → mid ≡ other → rest ≡ last → Leads mid lines rest new → Leads other lines last new
leads_same lines mid other rest last new same text leads = subst (λ (w : WorldState). Leads w lines last new) same (subst (λ (t : List ℕ). Leads mid lines t new) text leads)

-- What one line's texts are, and the worlds that they leave.
one_line : (old : WorldState) (line : Option Line) (x y rest last : List ℕ) (mid other : WorldState) → AnswersLine old line x mid → AnswersLine old line y other → x ++ rest ≡ y ++ last → (mid ≡ other) × (rest ≡ last)
one_line old line x y rest last mid other (_, inl this) (_, inl that) same =
    let text : x ≡ y = this.1 ∙ sym that.1 in
    (this.2 ∙ sym that.2, append_cancel_left y rest last (ap (λ (t : List ℕ). t ++ rest) (sym text) ∙ same))
one_line old line x y rest last mid other (_, inr this) (_, inr that) same =
    let text : x ≡ y = this.1 ∙ sym that.1 in
    (this.2 ∙ sym that.2, append_cancel_left y rest last (ap (λ (t : List ℕ). t ++ rest) (sym text) ∙ same))
one_line old line x y rest last mid other (_, inl this) (_, inr that) same =
    absurd (no_reply_is_want_of_memory old line rest last (ap (λ (t : List ℕ). t ++ rest) (sym this.1) ∙ same ∙ ap (λ (t : List ℕ). t ++ last) that.1))
one_line old line x y rest last mid other (_, inr this) (_, inl that) same =
    absurd (no_reply_is_want_of_memory old line last rest (ap (λ (t : List ℕ). t ++ last) (sym that.1) ∙ sym same ∙ ap (λ (t : List ℕ). t ++ rest) this.1))

-- The lines and what is written for them determine the world that is left: no text answers the same lines in
-- two ways that leave two worlds.
pub written_text_tells_the_world : (old one other : WorldState) (lines : List (List ℕ)) (text : List ℕ) → Leads old lines text one → Leads old lines text other → one ≡ other
written_text_tells_the_world old one other [] text this that = this.1 ∙ sym that.1
written_text_tells_the_world old one other (line ∷ lines) text this that =
    let same = one_line old (line_of line) this.0 that.0 this.1 that.1 this.2 that.2 this.4 that.4 (sym this.3 ∙ that.3) in
    written_text_tells_the_world that.2 one other lines that.1 (leads_same lines this.2 that.2 this.1 that.1 one same.0 same.1 this.5) that.5
