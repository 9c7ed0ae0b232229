-- The lines of other runs and of none never change a run, and what its own lines do.
use Rattle.std.proofs.Common.{◌≡◌, ℕ, List, [], ◌∷◌, map, None, Some, is_some, Result, Ok, Err, ok_or, Bool, true, false, cond, if◌then◌else◌, refl, sym, ap, ◌∙◌, true≢false}
use Rattle.std.proofs.lemmas.List.Folds.{find-append}
use Rattle.std.proofs.lemmas.Slice.Eq.{bytes_eq-Decides}
use Rattle.std.specs.Option.{option_or}
use Rattle.std.specs.Str.{bytes_eq}
use Rattle.ld_model.specs.declared.unit.Unit.{Unit}
use Rattle.ld_lines.specs.declared.command.RunCommand.{RunCommand}
use Rattle.ld_lines.specs.declared.line.Line.{Line}
use Rattle.ld_lines.specs.declared.line.Line.TheVariants.{Create, OfRun, GlobalSet, GlobalGet}
use Rattle.ld_value.specs.declared.moment.Moment.{Moment}
use Rattle.ld_state.specs.RunState.{RunState, made_at}
use Rattle.ld_admission.specs.Checks.{fitting_value}
use Rattle.ld_admission.specs.Refusals.{Refusal, RunExists, UnknownRun, UnknownUnit, ◌unless_refused◌ as ◌>>=◌, refuse_if}
use Rattle.ld_run.specs.RunStep.{DoneCommand, run_step}
use Rattle.ld_run.specs.RunView.{block_of, state_after, store_after}
use Rattle.ld_run.proofs.SeatsOfChecks.{Each, each_bound, each_then}
use Rattle.ld_world.specs.Isolation.{OthersLeaveIt, OwnLineIsAlike, OwnLineSteps, asks_it, but_for_store}
use Rattle.ld_world.specs.World.{DoneLine, RunOf, WorldState, global_in, in_state, line_done, ran, reply_block, run_named, suits_person, unit_named, with_run, world_after, world_step}
use Rattle.ld_world.proofs.OwnValues.{own_values_tell}

-- ---- a line of another run

-- Another run comes to a state.
other_comes : (name other : List ℕ) (s : RunState) (runs : List RunOf) (run : RunOf) → bytes_eq other name ≡ false → run_named runs name ≡ Some run
    → run_named (map (in_state other s) runs) name ≡ Some run
other_comes name other s [] run apart found = found
other_comes name other s (first ∷ runs) run apart found = by (bytes_eq first.name other) refl (bytes_eq first.name name) refl found (other_comes name other s runs run apart)
  where
    by : (a : Bool) → bytes_eq first.name other ≡ a → (b : Bool) → bytes_eq first.name name ≡ b → cond b (Some first) (run_named runs name) ≡ Some run
        → (run_named runs name ≡ Some run → run_named (map (in_state other s) runs) name ≡ Some run)
        → run_named ((if a then record { name = first.name; unit = first.unit; state = s } else first) ∷ map (in_state other s) runs) name ≡ Some run
    by true is true here found rest =
        let one : first.name ≡ other = (bytes_eq-Decides first.name other).0 is in
        absurd (true≢false (sym here ∙ ap (λ n. bytes_eq n name) one ∙ apart))
    by true is false here found rest = rw here (rest found)
    by false is true here found rest = rw here found
    by false is false here found rest = rw here (rest found)

-- Where each line that is done leaves it, a line leaves it.
after_leaves : (w : WorldState) (name : List ℕ) (run : RunOf) (r : Result DoneLine Refusal) → run_named w.runs name ≡ Some run → Each (λ done. run_named done.world.runs name ≡ Some run) r
    → run_named (world_after w r).runs name ≡ Some run
after_leaves w name run (Ok done) found leaves = leaves
after_leaves w name run (Err refusal) found leaves = found

module _ (w : WorldState) (name : List ℕ) (run : RunOf) (found : run_named w.runs name ≡ Some run) where
  abbrev Left : DoneLine → Type 0
  Left done = run_named done.world.runs name ≡ Some run

  line_leaves : (line : Line) → asks_it name (Some line) ≡ false → Each Left (line_done w line)
  line_leaves (Create moment other id) apart =
      each_bound Left (ok_or (unit_named w.units id) UnknownUnit) _ λ unit. each_then Left (refuse_if (is_some (run_named w.runs other)) RunExists) _
      (find-append (λ one. bytes_eq one.name name) w.runs (record { name = other; unit = unit; state = made_at w.seats unit w.store moment.0 } ∷ [])
      ∙ ap (λ o. option_or o (run_named (record { name = other; unit = unit; state = made_at w.seats unit w.store moment.0 } ∷ []) name)) found)
  line_leaves (OfRun moment other command) apart =
      each_bound Left (ok_or (run_named w.runs other) UnknownRun) _ λ asked. each_bound Left (run_step asked.unit asked.state w.store moment.0 command) _ λ d.
      other_comes name other d.state w.runs run apart found
  line_leaves (GlobalSet moment uri person text) apart =
      each_bound Left (global_in w uri) _ λ property. each_bound Left (fitting_value property text) _ λ value. each_then Left (suits_person property person) _ found
  line_leaves (GlobalGet moment uri person) apart =
      each_bound Left (global_in w uri) _ λ property. each_then Left (suits_person property person) _ found

pub others_leave_it : OthersLeaveIt
unfolding world_step
others_leave_it w name run None found apart = found
others_leave_it w name run (Some line) found apart =
    after_leaves w name run (line_done w line) found (line_leaves w name run found line apart)

-- ---- a line of the run

itself_comes : (name : List ℕ) (s : RunState) (runs : List RunOf) (run : RunOf) → run_named runs name ≡ Some run
    → run_named (map (in_state name s) runs) name ≡ Some (record run { state = s })
itself_comes name s [] run found = cc
itself_comes name s (first ∷ runs) run found = by (bytes_eq first.name name) refl found (itself_comes name s runs run)
  where
    by : (b : Bool) → bytes_eq first.name name ≡ b → cond b (Some first) (run_named runs name) ≡ Some run
        → (run_named runs name ≡ Some run → run_named (map (in_state name s) runs) name ≡ Some (record run { state = s }))
        → run_named ((if b then record { name = first.name; unit = first.unit; state = s } else first) ∷ map (in_state name s) runs) name ≡ Some (record run { state = s })
    by true is found rest = let same : first ≡ run = cc in rw is (ap (λ (r : RunOf). Some (record r { state = s })) same)
    by false is found rest = rw is (rest found)

-- What a line of a run does, from what its command does.
abbrev line_by : WorldState → List ℕ → RunOf → Result DoneCommand Refusal → Result DoneLine Refusal
line_by w name run r = r >>= λ d. Ok (record { deed = ran run.unit d; world = with_run w name d })

line_is : (w : WorldState) (moment : Moment) (name : List ℕ) (command : RunCommand) (run : RunOf) → run_named w.runs name ≡ Some run
    → world_step w (Some (OfRun moment name command)) ≡ line_by w name run (run_step run.unit run.state w.store moment.0 command)
unfolding world_step
line_is w moment name command run found = rw found refl

left_in : (w : WorldState) (name : List ℕ) (run : RunOf) → run_named w.runs name ≡ Some run → (r : Result DoneCommand Refusal)
    → run_named (world_after w (line_by w name run r)).runs name ≡ Some (record run { state = state_after run.state r })
left_in w name run found (Ok d) = itself_comes name d.state w.runs run found
left_in w name run found (Err refusal) = found

store_left : (w : WorldState) (name : List ℕ) (run : RunOf) (r : Result DoneCommand Refusal)
    → (world_after w (line_by w name run r)).store ≡ store_after w.store r
store_left w name run (Ok d) = refl
store_left w name run (Err refusal) = refl

told_by : (w : WorldState) (name : List ℕ) (run : RunOf) (r : Result DoneCommand Refusal)
    → reply_block (line_by w name run r) ≡ block_of run.unit r
unfolding reply_block
told_by w name run (Ok d) = refl
told_by w name run (Err refusal) = refl

pub own_line_steps : OwnLineSteps
own_line_steps w moment name command run found =
    let result = run_step run.unit run.state w.store moment.0 command in
    let is = line_is w moment name command run found in (
      ap reply_block is ∙ told_by w name run result,
      ap (λ r. run_named (world_after w r).runs name) is ∙ left_in w name run found result,
      ap (λ r. (world_after w r).store) is ∙ store_left w name run result,
    )

-- ---- the line

-- The reply and the state do not tell which store is left.
block_alike : (unit : Unit) (r t : Result DoneCommand Refusal) → but_for_store r ≡ but_for_store t → block_of unit r ≡ block_of unit t
block_alike unit r t same = told r ∙ ap (block_of unit) same ∙ sym (told t)
  where
    told : (x : Result DoneCommand Refusal) → block_of unit x ≡ block_of unit (but_for_store x)
    told (Ok d) = refl
    told (Err refusal) = refl

state_alike : (s : RunState) (r t : Result DoneCommand Refusal) → but_for_store r ≡ but_for_store t → state_after s r ≡ state_after s t
state_alike s r t same = left r ∙ ap (state_after s) same ∙ sym (left t)
  where
    left : (x : Result DoneCommand Refusal) → state_after s x ≡ state_after s (but_for_store x)
    left (Ok d) = refl
    left (Err refusal) = refl

pub own_line_is_alike : OwnLineIsAlike
own_line_is_alike w v moment name command run here there hold =
    let same = own_values_tell run.unit run.state w.store v.store moment command hold in
    let mine = own_line_steps w moment name command run here in
    let other = own_line_steps v moment name command run there in (
      mine.0 ∙ block_alike run.unit _ _ same ∙ sym other.0,
      mine.1 ∙ ap (λ (s : RunState). Some (record run { state = s })) (state_alike run.state _ _ same) ∙ sym other.1,
    )
