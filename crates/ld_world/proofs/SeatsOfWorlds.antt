-- Seats play no part in the answers to lines but in the refusals that a run is full.
use Rattle.std.specs.Prelude.{⊤}
use Rattle.std.proofs.Common.{◌≡◌, ◌≢◌, ℕ, ℤ, ◌<◌, ◌≤◌, List, [], ◌∷◌, ◌++◌, map, Bool, true, false, cond, is_some, not, if◌then◌else◌, bytes_eq, Option, Some, None, Result, Ok, Err, ok_or, option_map, refl, sym, ap, ◌∙◌, subst, arith}
use Rattle.std.proofs.lemmas.Bool.{and_parts, false≢true}
use Rattle.std.proofs.lemmas.List.{map-append}
use Rattle.std.proofs.lemmas.Slice.Eq.{bytes_eq-Decides}
use Rattle.ld_model.specs.declared.unit.Unit.{Unit}
use Rattle.ld_lines.specs.declared.command.RunCommand.{RunCommand}
use Rattle.ld_lines.specs.declared.line.Line.{Line}
use Rattle.ld_lines.specs.declared.line.Line.TheVariants.{Create, OfRun, GlobalSet, GlobalGet}
use Rattle.ld_state.specs.RunState.{RunState, made_at}
use Rattle.ld_firing.specs.Seating.{reseated}
use Rattle.ld_firing.specs.SiteWalk.{HasSeats}
use Rattle.ld_admission.specs.Checks.{Passed, fitting_value}
use Rattle.ld_admission.specs.Refusals.{Refusal, RunFull, RunExists, UnknownRun, UnknownUnit, ◌unless_refused◌ as ◌>>=◌, ◌>>◌, refuse_if}
use Rattle.ld_run.specs.RunStep.{DoneCommand, run_step}
use Rattle.ld_run.specs.SameSteps.{done_reseated, step_reseated}
use Rattle.ld_run.proofs.SeatsOfChecks.{Each, each_bound, each_then}
use Rattle.ld_run.proofs.SeatsOfReplies.{done_text_same}
use Rattle.ld_run.proofs.SeatsOfSteps.{KeepsSeats, bound_where, step_keeps, step_with_more}
use Rattle.ld_world.specs.Answers.{replies}
use Rattle.ld_world.specs.SameWorlds.{run_reseated, world_reseated, deed_reseated, line_reseated, NeverFull, tell_none_full}
use Rattle.ld_world.specs.World.{RunOf, WorldState, Deed, DoneLine, made, ran, stored, known, run_named, unit_named, in_state, with_run, make_run, step_run, global_in, suits_person, line_done, world_step, world_after, deed_text, reply_block, seated_world}

-- ---- runs by their names

named_same : (n : ℕ) (runs : List RunOf) (name : List ℕ) → run_named (map (run_reseated n) runs) name ≡ option_map (run_reseated n) (run_named runs name)
named_same n [] name = refl
named_same n (run ∷ runs) name = by (bytes_eq run.name name) (named_same n runs name)
  where
    by : (b : Bool) → run_named (map (run_reseated n) runs) name ≡ option_map (run_reseated n) (run_named runs name) → cond b (Some (run_reseated n run)) (run_named (map (run_reseated n) runs) name) ≡ option_map (run_reseated n) (cond b (Some run) (run_named runs name))
    by true rest = refl
    by false rest = rest

is_there_same : (n : ℕ) (run : Option RunOf) → is_some (option_map (run_reseated n) run) ≡ is_some run
is_there_same n None = refl
is_there_same n (Some run) = refl

in_state_same : (n : ℕ) (name : List ℕ) (s : RunState) (run : RunOf) → in_state name (reseated n s) (run_reseated n run) ≡ run_reseated n (in_state name s run)
in_state_same n name s run = by (bytes_eq run.name name)
  where
    by : (b : Bool) → (if b then record { name = run.name; unit = run.unit; state = reseated n s } else run_reseated n run) ≡ run_reseated n (if b then record { name = run.name; unit = run.unit; state = s } else run)
    by true = refl
    by false = refl

all_in_state_same : (n : ℕ) (name : List ℕ) (s : RunState) (runs : List RunOf) → map (in_state name (reseated n s)) (map (run_reseated n) runs) ≡ map (run_reseated n) (map (in_state name s) runs)
all_in_state_same n name s [] = refl
all_in_state_same n name s (run ∷ runs) = λ i. in_state_same n name s run i ∷ all_in_state_same n name s runs i

-- ---- seats

-- The run has seats, and not more than this many.
abbrev SeatedIn : ℕ → RunOf → Type 0
SeatedIn n run = HasSeats run.state × (run.state.seats ≤ n)

abbrev AllSeated : ℕ → List RunOf → Type 0
AllSeated n [] = ⊤
AllSeated n (run ∷ runs) = SeatedIn n run × AllSeated n runs

-- There is a seat in each run that is made, and not more than this many; and so in the runs that there are.
abbrev IsSeated : ℕ → WorldState → Type 0
IsSeated n w = (0 < w.seats) × (w.seats ≤ n) × AllSeated n w.runs

all_with : (n : ℕ) (runs : List RunOf) (run : RunOf) → AllSeated n runs → SeatedIn n run → AllSeated n (runs ++ run ∷ [])
all_with n [] run all one = (one, tt)
all_with n (first ∷ runs) run all one = (all.0, all_with n runs run all.1 one)

named_seated : (n : ℕ) (runs : List RunOf) (name : List ℕ) (run : RunOf) → AllSeated n runs → run_named runs name ≡ Some run → SeatedIn n run
named_seated n [] name run all found = absurd (cc)
named_seated n (first ∷ runs) name run all found = by (bytes_eq first.name name) (named_seated n runs name run all.1) found
  where
    by : (b : Bool) → (run_named runs name ≡ Some run → SeatedIn n run) → cond b (Some first) (run_named runs name) ≡ Some run → SeatedIn n run
    by true rest here = let same : first ≡ run = cc in subst (SeatedIn n) same all.0
    by false rest later = rest later

changed_seated : (n : ℕ) (name : List ℕ) (s : RunState) (runs : List RunOf) → HasSeats s → s.seats ≤ n → AllSeated n runs → AllSeated n (map (in_state name s) runs)
changed_seated n name s [] here few all = tt
changed_seated n name s (run ∷ runs) here few all = (by (bytes_eq run.name name), changed_seated n name s runs here few all.1)
  where
    by : (b : Bool) → SeatedIn n (if b then record { name = run.name; unit = run.unit; state = s } else run)
    by true = (here, few)
    by false = all.0

-- ---- lines

bound_through : {A : Type 0} (n : ℕ) (r : Result A Refusal) (next other : A → Result DoneLine Refusal) → ((x : A) → other x ≡ line_reseated n (next x)) → (r >>= other) ≡ line_reseated n (r >>= next)
bound_through n (Ok x) next other same = same x
bound_through n (Err refusal) next other same = refl

then_through : (n : ℕ) (r : Passed) (next other : Result DoneLine Refusal) → other ≡ line_reseated n next → (r >> other) ≡ line_reseated n (r >> next)
then_through n (Ok x) next other same = same
then_through n (Err refusal) next other same = refl

-- A run that is made.
abbrev new_run : WorldState → ℤ → List ℕ → Unit → RunOf
new_run w moment name unit = record { name = name; unit = unit; state = made_at w.seats unit w.store moment }

abbrev made_there : WorldState → List RunOf → DoneLine
made_there w runs = record { deed = made; world = record w { runs = runs } }

make_through : (n : ℕ) (w : WorldState) (moment : ℤ) (name id : List ℕ) → make_run (world_reseated n w) moment name id ≡ line_reseated n (make_run w moment name id)
make_through n w moment name id = bound_through n (ok_or (unit_named w.units id) UnknownUnit) (once w) (once (world_reseated n w)) same
  where
    once : WorldState → Unit → Result DoneLine Refusal
    once v unit = refuse_if (is_some (run_named v.runs name)) RunExists >> Ok (made_there v (v.runs ++ new_run v moment name unit ∷ []))

    same : (unit : Unit) → once (world_reseated n w) unit ≡ line_reseated n (once w unit)
    same unit =
        ap (λ b. refuse_if b RunExists >> Ok (made_there (world_reseated n w) (map (run_reseated n) w.runs ++ run_reseated n (new_run w moment name unit) ∷ []))) (ap is_some (named_same n w.runs name) ∙ is_there_same n (run_named w.runs name))
        ∙ then_through n (refuse_if (is_some (run_named w.runs name)) RunExists) (Ok (made_there w (w.runs ++ new_run w moment name unit ∷ []))) (Ok (made_there (world_reseated n w) (map (run_reseated n) w.runs ++ run_reseated n (new_run w moment name unit) ∷ [])))
        (ap (λ runs. Ok (made_there (world_reseated n w) runs)) (sym (map-append (run_reseated n) w.runs (new_run w moment name unit ∷ []))))

abbrev ran_there : WorldState → List ℕ → Unit → DoneCommand → DoneLine
ran_there w name unit d = record { deed = ran unit d; world = with_run w name d }

-- What a command does to a run that was found.
abbrev run_of : WorldState → ℤ → List ℕ → RunCommand → RunOf → Result DoneLine Refusal
run_of w moment name command run =
    run_step run.unit run.state w.store moment command >>= λ d. Ok (ran_there w name run.unit d)

ran_through : (n : ℕ) (w : WorldState) (name : List ℕ) (unit : Unit) (r : Result DoneCommand Refusal) → (step_reseated n r >>= λ d. Ok (ran_there (world_reseated n w) name unit d)) ≡ line_reseated n (r >>= λ d. Ok (ran_there w name unit d))
ran_through n w name unit (Ok d) = λ i. Ok (record {
  deed = ran unit (done_reseated n d);
  world = record (world_reseated n w) { store = d.store; runs = all_in_state_same n name d.state w.runs i };
})
ran_through n w name unit (Err refusal) = refl

run_of_through : (n : ℕ) (w : WorldState) (moment : ℤ) (name : List ℕ) (command : RunCommand) (run : RunOf) → SeatedIn n run → run_of w moment name command run ≢ Err RunFull → run_of (world_reseated n w) moment name command (run_reseated n run) ≡ line_reseated n (run_of w moment name command run)
run_of_through n w moment name command run seated room =
    ap (λ r. r >>= λ d. Ok (ran_there (world_reseated n w) name run.unit d)) (step_with_more run.unit n run.state w.store moment command seated.0 seated.1 (λ full. room (ap (λ r. r >>= λ d. Ok (ran_there w name run.unit d)) full)))
    ∙ ran_through n w name run.unit (run_step run.unit run.state w.store moment command)

step_through : (n : ℕ) (w : WorldState) (moment : ℤ) (name : List ℕ) (command : RunCommand) → AllSeated n w.runs → step_run w moment name command ≢ Err RunFull → step_run (world_reseated n w) moment name command ≡ line_reseated n (step_run w moment name command)
step_through n w moment name command all room =
    ap (λ found. ok_or found UnknownRun >>= run_of (world_reseated n w) moment name command) (named_same n w.runs name)
    ∙ by (run_named w.runs name) (λ run found. named_seated n w.runs name run all found) room
  where
    by : (found : Option RunOf) → ((run : RunOf) → found ≡ Some run → SeatedIn n run) → (ok_or found UnknownRun >>= run_of w moment name command) ≢ Err RunFull → (ok_or (option_map (run_reseated n) found) UnknownRun >>= run_of (world_reseated n w) moment name command) ≡ line_reseated n (ok_or found UnknownRun >>= run_of w moment name command)
    by None seated room = refl
    by (Some run) seated room = run_of_through n w moment name command run (seated run refl) room

line_through : (n : ℕ) (w : WorldState) (line : Line) → AllSeated n w.runs → line_done w line ≢ Err RunFull → line_done (world_reseated n w) line ≡ line_reseated n (line_done w line)
line_through n w (Create moment run unit) all room = make_through n w moment.0 run unit
line_through n w (OfRun moment run command) all room = step_through n w moment.0 run command all room
line_through n w (GlobalSet moment uri person text) all room =
    bound_through n (global_in w uri) _ _ (λ property. bound_through n (fitting_value property text) _ _ (λ value. then_through n (suits_person property person) _ _ refl))
line_through n w (GlobalGet moment uri person) all room =
    bound_through n (global_in w uri) _ _ (λ property. then_through n (suits_person property person) _ _ refl)

-- What a line does in a world whose runs have more seats, unless it is refused since a run is full.
pub world_through : (n : ℕ) (w : WorldState) (line : Option Line) → IsSeated n w → world_step w line ≢ Err RunFull → world_step (world_reseated n w) line ≡ line_reseated n (world_step w line)
unfolding world_step
world_through n w None seated room = refl
world_through n w (Some line) seated room = line_through n w line seated.2 room

-- ---- what a line leaves

-- The line leaves runs with seats.
abbrev LeavesSeated : ℕ → DoneLine → Type 0
LeavesSeated n line = IsSeated n line.world

new_seated : (n : ℕ) (w : WorldState) (moment : ℤ) (name : List ℕ) (unit : Unit) → IsSeated n w → SeatedIn n (new_run w moment name unit)
new_seated n w moment name unit seated = (record { seat = seated.0; seated = omega arith }, seated.1)

ran_seated : (n : ℕ) (w : WorldState) (moment : ℤ) (name : List ℕ) (command : RunCommand) (run : RunOf) → IsSeated n w → SeatedIn n run → Each (LeavesSeated n) (run_of w moment name command run)
ran_seated n w moment name command run seated one =
    bound_where (KeepsSeats run.state) (LeavesSeated n) (run_step run.unit run.state w.store moment command) (λ d. Ok (ran_there w name run.unit d)) (step_keeps run.unit run.state w.store moment command one.0) (λ d kept. (seated.0, seated.1, changed_seated n name d.state w.runs kept.0 (omega (arith, kept.1, one.1)) seated.2))

step_seated : (n : ℕ) (w : WorldState) (moment : ℤ) (name : List ℕ) (command : RunCommand) → IsSeated n w → Each (LeavesSeated n) (step_run w moment name command)
step_seated n w moment name command seated = by (run_named w.runs name) (λ run found. named_seated n w.runs name run seated.2 found)
  where
    by : (found : Option RunOf) → ((run : RunOf) → found ≡ Some run → SeatedIn n run) → Each (LeavesSeated n) (ok_or found UnknownRun >>= run_of w moment name command)
    by None one = tt
    by (Some run) one = ran_seated n w moment name command run seated (one run refl)

line_seated : (n : ℕ) (w : WorldState) (line : Line) → IsSeated n w → Each (LeavesSeated n) (line_done w line)
line_seated n w (Create moment run unit) seated =
    each_bound (LeavesSeated n) (ok_or (unit_named w.units unit) UnknownUnit) _ λ found. each_then (LeavesSeated n) (refuse_if (is_some (run_named w.runs run)) RunExists) _ (seated.0, seated.1, all_with n w.runs (new_run w moment.0 run found) seated.2 (new_seated n w moment.0 run found seated))
line_seated n w (OfRun moment run command) seated = step_seated n w moment.0 run command seated
line_seated n w (GlobalSet moment uri person text) seated =
    each_bound (LeavesSeated n) (global_in w uri) _ λ property. each_bound (LeavesSeated n) (fitting_value property text) _ λ value. each_then (LeavesSeated n) (suits_person property person) _ seated
line_seated n w (GlobalGet moment uri person) seated =
    each_bound (LeavesSeated n) (global_in w uri) _ λ property. each_then (LeavesSeated n) (suits_person property person) _ seated

world_seated : (n : ℕ) (w : WorldState) (line : Option Line) → IsSeated n w → Each (LeavesSeated n) (world_step w line)
unfolding world_step
world_seated n w None seated = tt
world_seated n w (Some line) seated = line_seated n w line seated

after_seated : (n : ℕ) (w : WorldState) (r : Result DoneLine Refusal) → IsSeated n w → Each (LeavesSeated n) r → IsSeated n (world_after w r)
after_seated n w (Ok line) seated left = left
after_seated n w (Err refusal) seated left = seated

after_through : (n : ℕ) (w : WorldState) (r : Result DoneLine Refusal) → world_after (world_reseated n w) (line_reseated n r) ≡ world_reseated n (world_after w r)
after_through n w (Ok line) = refl
after_through n w (Err refusal) = refl

-- ---- replies

deed_same : (n : ℕ) (deed : Deed) → deed_text (deed_reseated n deed) ≡ deed_text deed
deed_same n made = refl
deed_same n (ran unit d) = done_text_same unit n d
deed_same n stored = refl
deed_same n (known value) = refl

reply_same : (n : ℕ) (r : Result DoneLine Refusal) → reply_block (line_reseated n r) ≡ reply_block r
unfolding reply_block
reply_same n (Ok line) = ap (λ text. text ++ 10 ∷ []) (deed_same n line.deed)
reply_same n (Err refusal) = refl

replies_same : (n : ℕ) (w : WorldState) (lines : List (Option Line)) → IsSeated n w → NeverFull w lines → replies (world_reseated n w) lines ≡ replies w lines
replies_same n w [] seated never = refl
replies_same n w (line ∷ lines) seated never =
    ap (λ r. reply_block r ∷ replies (world_after (world_reseated n w) r) lines) (world_through n w line seated never.0)
    ∙ ap (λ text. text ∷ replies (world_after (world_reseated n w) (line_reseated n (world_step w line))) lines) (reply_same n (world_step w line))
    ∙ ap (λ rest. reply_block (world_step w line) ∷ rest) (ap (λ v. replies v lines) (after_through n w (world_step w line)) ∙ replies_same n (world_after w (world_step w line)) lines (after_seated n w (world_step w line) seated (world_seated n w line seated)) never.1)

-- As long as no run is full with fewer seats, all replies are the same with more.
pub replies_with_more : (units : List Unit) (lines : List (Option Line)) (fewer more : ℕ) → 0 < fewer → fewer ≤ more → NeverFull (seated_world fewer units) lines → replies (seated_world more units) lines ≡ replies (seated_world fewer units) lines
replies_with_more units lines fewer more seat few never =
    replies_same more (seated_world fewer units) lines (seat, few, tt) never

-- ---- as the replies tell

not_full : (r : Result DoneLine Refusal) → not (bytes_eq (reply_block r) (reply_block (Err RunFull))) ≡ true → r ≢ Err RunFull
not_full r other full = false≢true (sym (ap not ((bytes_eq-Decides (reply_block r) (reply_block (Err RunFull))).1 (ap reply_block full))) ∙ other)

never_full : (w : WorldState) (lines : List (Option Line)) → tell_none_full (replies w lines) ≡ true → NeverFull w lines
never_full w [] none = tt
never_full w (line ∷ lines) none =
    let parts = and_parts (not (bytes_eq (reply_block (world_step w line)) (reply_block (Err RunFull)))) (tell_none_full (replies (world_after w (world_step w line)) lines)) none in
    (not_full (world_step w line) parts.0, never_full (world_after w (world_step w line)) lines parts.1)

-- Replies none of which says that a run is full are the replies with more seats, too.
pub told_with_more : (units : List Unit) (lines : List (Option Line)) (texts : List (List ℕ)) (fewer more : ℕ) → 0 < fewer → fewer ≤ more → replies (seated_world fewer units) lines ≡ texts → tell_none_full texts ≡ true → replies (seated_world more units) lines ≡ texts
told_with_more units lines texts fewer more seat few told none =
    replies_with_more units lines fewer more seat few (never_full (seated_world fewer units) lines (ap tell_none_full told ∙ none)) ∙ told
