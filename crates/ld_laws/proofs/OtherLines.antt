-- Worlds in which a run is alike, and that lines which do not name the run leave them so.
use Rattle.std.proofs.Common.{◌≡◌, ℕ, List, [], ◌∷◌, map, Option, None, Some, is_some, Result, Ok, Err, ok_or, Bool, true, false, cond, if◌then◌else◌, refl, sym, ap, ◌∙◌}
use Rattle.std.proofs.lemmas.List.Folds.{find-append}
use Rattle.std.specs.Option.{option_or}
use Rattle.std.specs.Str.{bytes_eq}
use Rattle.ld_lines.specs.declared.line.Line.{Line}
use Rattle.ld_lines.specs.declared.line.Line.TheVariants.{Create, OfRun, GlobalSet, GlobalGet}
use Rattle.ld_state.specs.RunState.{RunState, made_at}
use Rattle.ld_admission.specs.Checks.{fitting_value}
use Rattle.ld_admission.specs.Refusals.{Refusal, RunExists, UnknownRun, UnknownUnit, refuse_if}
use Rattle.ld_run.specs.RunStep.{run_step}
use Rattle.ld_run.proofs.SeatsOfChecks.{Each, each_bound, each_then}
use Rattle.ld_world.specs.Isolation.{asks_it}
use Rattle.ld_world.specs.World.{DoneLine, RunOf, WorldState, global_in, in_state, line_done, run_named, suits_person, unit_named, world_after, world_step}
use Rattle.ld_world.proofs.Isolation.{others_leave_it}
use Rattle.ld_laws.specs.Histories.{names_it}
use Rattle.ld_laws.proofs.SameRuns.{IsSameButGlobals}

-- The two worlds have as many seats for a run, and both have the run of this name, or neither has. In the one
-- it may differ from the other in the cells of global properties.
pub data HaveItAlike (name : List ℕ) (w v : WorldState) : Type 0 where
  neither : w.seats ≡ v.seats → run_named w.runs name ≡ None → run_named v.runs name ≡ None → HaveItAlike name w v
  both :
      w.seats ≡ v.seats → (run : RunOf) (t : RunState) → run_named w.runs name ≡ Some run → run_named v.runs name ≡ Some (record run { state = t })
      → IsSameButGlobals run.unit run.state t → HaveItAlike name w v

-- ---- lines that do not name the run

-- Where no run has the name, none has it when one comes to a state.
none_comes : (name other : List ℕ) (s : RunState) (runs : List RunOf) → run_named runs name ≡ None → run_named (map (in_state other s) runs) name ≡ None
none_comes name other s [] none = refl
none_comes name other s (first ∷ runs) none = by (bytes_eq first.name other) (bytes_eq first.name name) refl none (none_comes name other s runs)
  where
    by : (a b : Bool) → bytes_eq first.name name ≡ b → cond b (Some first) (run_named runs name) ≡ None
        → (run_named runs name ≡ None → run_named (map (in_state other s) runs) name ≡ None)
        → run_named ((if a then record { name = first.name; unit = first.unit; state = s } else first) ∷ map (in_state other s) runs) name ≡ None
    by a true is none rest = cc
    by true false is none rest = rw is (rest none)
    by false false is none rest = rw is (rest none)

module _ (w : WorldState) (name : List ℕ) (none : run_named w.runs name ≡ None) where
  abbrev HasNone : DoneLine → Type 0
  HasNone done = run_named done.world.runs name ≡ None

  line_makes_none : (line : Line) → names_it name (Some line) ≡ false → Each HasNone (line_done w line)
  line_makes_none (Create moment other id) apart =
      each_bound HasNone (ok_or (unit_named w.units id) UnknownUnit) _ λ unit. each_then HasNone (refuse_if (is_some (run_named w.runs other)) RunExists) _
      (find-append (λ one. bytes_eq one.name name) w.runs (record { name = other; unit = unit; state = made_at w.seats unit w.store moment.0 } ∷ [])
      ∙ ap (λ o. option_or o (run_named (record { name = other; unit = unit; state = made_at w.seats unit w.store moment.0 } ∷ []) name)) none
      ∙ ap (λ b. cond b (Some (record { name = other; unit = unit; state = made_at w.seats unit w.store moment.0 })) None) apart)
  line_makes_none (OfRun moment other command) apart =
      each_bound HasNone (ok_or (run_named w.runs other) UnknownRun) _ λ asked. each_bound HasNone (run_step asked.unit asked.state w.store moment.0 command) _ λ d.
      none_comes name other d.state w.runs none
  line_makes_none (GlobalSet moment uri person text) apart =
      each_bound HasNone (global_in w uri) _ λ property. each_bound HasNone (fitting_value property text) _ λ value. each_then HasNone (suits_person property person) _ none
  line_makes_none (GlobalGet moment uri person) apart =
      each_bound HasNone (global_in w uri) _ λ property. each_then HasNone (suits_person property person) _ none

-- Where each line that is done leaves what holds of a world, a line leaves it.
after_keeps : (P : WorldState → Type 0) (w : WorldState) (r : Result DoneLine Refusal) → P w → Each (λ done. P done.world) r → P (world_after w r)
after_keeps P w (Ok done) holds keeps = keeps
after_keeps P w (Err refusal) holds keeps = holds

-- Where no run has the name, a line that does not name it makes none.
none_made : (w : WorldState) (name : List ℕ) (line : Option Line) → run_named w.runs name ≡ None → names_it name line ≡ false
    → run_named (world_after w (world_step w line)).runs name ≡ None
unfolding world_step
none_made w name None none apart = none
none_made w name (Some line) none apart =
    after_keeps (λ (v : WorldState). run_named v.runs name ≡ None) w (line_done w line) none (line_makes_none w name none line apart)

-- A line that does not name it asks nothing of it.
asks_nothing : (name : List ℕ) (line : Option Line) → names_it name line ≡ false → asks_it name line ≡ false
asks_nothing name None apart = refl
asks_nothing name (Some (Create moment run id)) apart = refl
asks_nothing name (Some (OfRun moment run command)) apart = apart
asks_nothing name (Some (GlobalSet moment uri person text)) apart = refl
asks_nothing name (Some (GlobalGet moment uri person)) apart = refl

-- A line leaves the number of seats.
pub seats_stay : (w : WorldState) (line : Option Line) → (world_after w (world_step w line)).seats ≡ w.seats
unfolding world_step
seats_stay w None = refl
seats_stay w (Some line) = after_keeps (λ (v : WorldState). v.seats ≡ w.seats) w (line_done w line) refl (by line)
  where
    Stay : DoneLine → Type 0
    Stay done = done.world.seats ≡ w.seats

    by : (line : Line) → Each Stay (line_done w line)
    by (Create moment other id) =
        each_bound Stay (ok_or (unit_named w.units id) UnknownUnit) _ λ unit. each_then Stay (refuse_if (is_some (run_named w.runs other)) RunExists) _ refl
    by (OfRun moment other command) =
        each_bound Stay (ok_or (run_named w.runs other) UnknownRun) _ λ asked. each_bound Stay (run_step asked.unit asked.state w.store moment.0 command) _ λ d. refl
    by (GlobalSet moment uri person text) =
        each_bound Stay (global_in w uri) _ λ property. each_bound Stay (fitting_value property text) _ λ value. each_then Stay (suits_person property person) _ refl
    by (GlobalGet moment uri person) =
        each_bound Stay (global_in w uri) _ λ property. each_then Stay (suits_person property person) _ refl

-- A line of the first world that does not name the run leaves the worlds so.
pub left_alone : (name : List ℕ) (w v : WorldState) (line : Option Line) → HaveItAlike name w v → names_it name line ≡ false → HaveItAlike name (world_after w (world_step w line)) v
left_alone name w v line (neither seats here there) apart = neither (seats_stay w line ∙ seats) (none_made w name line here apart) there
left_alone name w v line (both seats run t here there same) apart =
    both (seats_stay w line ∙ seats) run t (others_leave_it w name run line here (asks_nothing name line apart)) there same

-- So does such a line of the second.
pub other_left_alone : (name : List ℕ) (w v : WorldState) (line : Option Line) → HaveItAlike name w v → names_it name line ≡ false → HaveItAlike name w (world_after v (world_step v line))
other_left_alone name w v line (neither seats here there) apart = neither (seats ∙ sym (seats_stay v line)) here (none_made v name line there apart)
other_left_alone name w v line (both seats run t here there same) apart =
    both (seats ∙ sym (seats_stay v line)) run t here (others_leave_it v name (record run { state = t }) line there (asks_nothing name line apart)) same
