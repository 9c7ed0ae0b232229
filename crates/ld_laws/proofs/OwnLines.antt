-- That lines which name a run, and by which it meets the same in two worlds, are done alike in them.
use Rattle.std.proofs.Common.{◌≡◌, ℕ, List, [], ◌∷◌, ◌++◌, map, Option, None, Some, is_some, Result, Ok, Err, ok_or, Bool, true, cond, refl, sym, ap, ◌∙◌, subst, true≢false}
use Rattle.std.proofs.lemmas.List.Folds.{find-append}
use Rattle.std.proofs.lemmas.Slice.Eq.{bytes_eq-Decides}
use Rattle.std.specs.Option.{option_map_or, option_or}
use Rattle.std.specs.Str.{bytes_eq}
use Rattle.ld_model.specs.declared.unit.Unit.{Unit}
use Rattle.ld_lines.specs.declared.command.RunCommand.{RunCommand}
use Rattle.ld_lines.specs.declared.line.Line.{Line}
use Rattle.ld_lines.specs.declared.line.Line.TheVariants.{Create, OfRun, GlobalSet, GlobalGet}
use Rattle.ld_value.specs.declared.moment.Moment.{Moment}
use Rattle.ld_expr.specs.Lookup.{list_from}
use Rattle.ld_roles.specs.Roster.{Persons}
use Rattle.ld_state.specs.GlobalValues.{GlobalValues}
use Rattle.ld_state.specs.RunState.{RunState, made_at}
use Rattle.ld_admission.specs.Refusals.{Refusal, RunExists, UnknownUnit, ◌unless_refused◌ as ◌>>=◌, ◌>>◌, refuse_if}
use Rattle.ld_run.specs.RunStep.{DoneCommand, run_step}
use Rattle.ld_run.specs.RunView.{block_of, state_after}
use Rattle.ld_world.specs.Isolation.{but_for_store, newcomer_of}
use Rattle.ld_world.specs.World.{DoneLine, RunOf, WorldState, made, reply_block, run_named, unit_named, world_after, world_step}
use Rattle.ld_world.proofs.Isolation.{own_line_steps}
use Rattle.ld_laws.specs.Histories.{Meeting, meeting_by, names_it, its_persons, nothing, the_values, unit_values}
use Rattle.ld_laws.proofs.SameRuns.{IsSameButGlobals, left_alike, made_same, step_alike}
use Rattle.ld_laws.proofs.Meetings.{hold_the_same}
use Rattle.ld_laws.proofs.OtherLines.{HaveItAlike, both, neither, seats_stay}

-- The replies are one, and the worlds have the run alike afterwards.
abbrev pub AreDoneAlike : List ℕ → (w v : WorldState) → Result DoneLine Refusal → Result DoneLine Refusal → Type 0
AreDoneAlike name w v r q = (reply_block r ≡ reply_block q) × HaveItAlike name (world_after w r) (world_after v q)

-- A run of the name is made.
module _ (moment : Moment) (name : List ℕ) (id : List ℕ) where
  -- What is done with the unit found, and whether there is such a run.
  abbrev made_with : WorldState → Option Unit → Bool → Result DoneLine Refusal
  made_with w found there = ok_or found UnknownUnit >>= λ unit. refuse_if there RunExists >>
      Ok (record { deed = made; world = record w { runs = w.runs ++ record { name = name; unit = unit; state = made_at w.seats unit w.store moment.0 } ∷ [] } })

  -- The run that is made last is the one of its name, where there was none.
  last_named : (w : WorldState) (run : RunOf) → run.name ≡ name → run_named w.runs name ≡ None → run_named (w.runs ++ run ∷ []) name ≡ Some run
  last_named w run is none =
      find-append (λ one. bytes_eq one.name name) w.runs (run ∷ [])
      ∙ ap (λ o. option_or o (run_named (run ∷ []) name)) none
      ∙ ap (λ b. cond b (Some run) None) ((bytes_eq-Decides run.name name).1 is)

  -- It is made in both worlds, or in neither.
  made_alike : (w v : WorldState) (found : Option Unit) → HaveItAlike name w v
      → AreDoneAlike name w v (made_with w found (is_some (run_named w.runs name))) (made_with v found (is_some (run_named v.runs name)))
  unfolding reply_block
  made_alike w v None alike = (refl, alike)
  made_alike w v (Some unit) (both seats run t here there same) = rw (here, there) (refl, both seats run t here there same)
  made_alike w v (Some unit) (neither seats here there) =
      let mine : RunOf = record { name = name; unit = unit; state = made_at w.seats unit w.store moment.0 } in
      let same : IsSameButGlobals unit mine.state (made_at w.seats unit v.store moment.0) = made_same w.seats unit w.store v.store moment.0 in
      rw (here, there) (
        refl,
        both seats mine (made_at v.seats unit v.store moment.0)
            (last_named w mine refl here)
            (last_named v (record mine { state = made_at v.seats unit v.store moment.0 }) refl there)
            (subst (λ n. IsSameButGlobals unit mine.state (made_at n unit v.store moment.0)) seats same),
      )

  created_alike : (w v : WorldState) → HaveItAlike name w v → meeting_by w (Some (Create moment name id)) ≡ meeting_by v (Some (Create moment name id))
      → AreDoneAlike name w v (world_step w (Some (Create moment name id))) (world_step v (Some (Create moment name id)))
  unfolding world_step
  created_alike w v alike meets =
      let found : unit_named w.units id ≡ unit_named v.units id = cc in
      subst (λ unit. AreDoneAlike name w v (made_with w (unit_named w.units id) (is_some (run_named w.runs name))) (made_with v unit (is_some (run_named v.runs name)))) found
      (made_alike w v (unit_named w.units id) alike)

-- The run is asked something.
module _ (name : List ℕ) (w v : WorldState) (moment : Moment) (command : RunCommand) where
  abbrev line : Option Line
  line = Some (OfRun moment name command)

  -- The reply does not tell which store is left.
  block_alike : (unit : Unit) (r q : Result DoneCommand Refusal) → but_for_store r ≡ but_for_store q → block_of unit r ≡ block_of unit q
  block_alike unit r q same = told r ∙ ap (block_of unit) same ∙ sym (told q)
    where
      told : (x : Result DoneCommand Refusal) → block_of unit x ≡ block_of unit (but_for_store x)
      told (Ok d) = refl
      told (Err refusal) = refl

  -- The run meets the same values, so what the stores hold for it is the same.
  values_met : (run : RunOf) (t : RunState) → run_named w.runs name ≡ Some run → run_named v.runs name ≡ Some (record run { state = t }) → run.state.persons ≡ t.persons
      → meeting_by w line ≡ meeting_by v line → unit_values run.unit w.store (its_persons run.state command) ≡ unit_values run.unit v.store (its_persons run.state command)
  values_met run t here there persons meets =
      let met : the_values (unit_values run.unit w.store (its_persons run.state command)) ≡ the_values (unit_values run.unit v.store (its_persons t command)) =
      sym (ap (λ found. in_run w.store found) here) ∙ meets ∙ ap (λ found. in_run v.store found) there in
      let values : unit_values run.unit w.store (its_persons run.state command) ≡ unit_values run.unit v.store (its_persons t command) = cc in
      values ∙ sym (ap (λ (present : Persons). unit_values run.unit v.store (map (λ person. person.name) present ++ list_from (λ one. one ∷ []) (newcomer_of command))) persons)
    where
      in_run : GlobalValues → Option RunOf → Meeting
      in_run store found = option_map_or (λ (one : RunOf). the_values (unit_values one.unit store (its_persons one.state command))) found nothing

  asked_alike : HaveItAlike name w v → meeting_by w line ≡ meeting_by v line → AreDoneAlike name w v (world_step w line) (world_step v line)
  unfolding world_step
  asked_alike (neither seats here there) meets = rw (here, there) (refl, neither seats here there)
  asked_alike (both seats run t here there same) meets =
      let hold = hold_the_same run.unit run.state command w.store v.store (values_met run t here there same.persons meets) in
      let steps = step_alike run.unit run.state t w.store v.store moment command same hold in
      let mine = own_line_steps w moment name command run here in
      let other = own_line_steps v moment name command (record run { state = t }) there in (
        mine.0 ∙ block_alike run.unit _ _ steps ∙ sym other.0,
        both (seats_stay w line ∙ seats ∙ sym (seats_stay v line))
            (record run { state = state_after run.state (run_step run.unit run.state w.store moment.0 command) })
            (state_after t (run_step run.unit t v.store moment.0 command))
            mine.1 other.1 (left_alike run.unit run.state t _ _ same steps),
      )

-- A line that names the run, by which it meets the same in both worlds, is done alike in them.
pub own_line_alike : (name : List ℕ) (w v : WorldState) (line : Option Line) → names_it name line ≡ true → HaveItAlike name w v → meeting_by w line ≡ meeting_by v line
    → AreDoneAlike name w v (world_step w line) (world_step v line)
own_line_alike name w v None names alike meets = absurd (true≢false (sym names))
own_line_alike name w v (Some (Create moment run id)) names alike meets =
    let line = Some (Create moment run id) in
    let is : run ≡ name = (bytes_eq-Decides run name).0 names in
    subst (λ n. HaveItAlike n w v → AreDoneAlike n w v (world_step w line) (world_step v line)) is (λ same. created_alike moment run id w v same meets) alike
own_line_alike name w v (Some (OfRun moment run command)) names alike meets =
    let line = Some (OfRun moment run command) in
    let is : run ≡ name = (bytes_eq-Decides run name).0 names in
    subst (λ n. HaveItAlike n w v → AreDoneAlike n w v (world_step w line) (world_step v line)) is (λ same. asked_alike run w v moment command same meets) alike
own_line_alike name w v (Some (GlobalSet moment uri person text)) names alike meets = absurd (true≢false (sym names))
own_line_alike name w v (Some (GlobalGet moment uri person)) names alike meets = absurd (true≢false (sym names))
