-- How a line is answered.
use Rattle.std.proofs.Common.{◌≡◌, ℕ, List, [], ◌∷◌, ◌++◌, map, Option, None, Some, is_some, option_map, Result, Ok, Err, IfOk, subst, true, false, inl, inr, refl, sym, ap, ◌∙◌, codes}
use Rattle.std.proofs.lemmas.List.{map-append}
use Rattle.std.specs.List.{IsDistinct}
use Rattle.std.specs.Map.{keys_of, lookup, set_value}
use Rattle.std.specs.Str.{bytes_eq}
use Rattle.ld_lines.specs.declared.command.RunCommand.{RunCommand}
use Rattle.ld_lines.specs.declared.line.Line.{Line}
use Rattle.ld_lines.specs.declared.line.Line.TheVariants.{Create, OfRun}
use Rattle.ld_model.specs.declared.unit.Unit.{Unit}
use Rattle.ld_value.specs.declared.moment.Moment.{Moment}
use Rattle.ld_roles.specs.declared.limit.TheConstants.{SEATS}
use Rattle.ld_globals.specs.Store.{Store}
use Rattle.ld_sharing.specs.StoreView.{values_of}
use Rattle.ld_state.specs.RunState.{RunState, made_at}
use Rattle.ld_state.specs.StateView.{run_of}
use Rattle.ld_admission.specs.Refusals.{Refusal, BadLine, UnknownUnit, RunExists, UnknownRun, NoMemory, ◌unless_refused◌ as ◌>>=◌}
use Rattle.ld_replies.specs.Replies.{refusal_text}
use Rattle.ld_run.specs.RunStep.{DoneCommand, run_step}
use Rattle.ld_run.specs.RunView.{AnswersCommand, RunView, block_of, state_after, store_after}
use Rattle.ld_run.specs.Reply.{done_alone, reply_of, reply_to_refusal}
use Rattle.ld_run.specs.declared.reply.Reply.{Reply}
use Rattle.ld_world.specs.Answers.{RepliesTo, reply_to_deed, reply_to_line}
use Rattle.ld_world.specs.World.{DoneLine, RunOf, WorldState, deed_text, in_state, made, ran, reply_block, run_named, unit_named, with_run, world_after, world_step}
use Rattle.ld_world.specs.WorldView.{run_named_so, world_with}
use Rattle.ld_world.proofs.Named.{found_run, is_there, set_in_state, set_same}

pub if_ok : {A B : Type 0} {P Q : A → Type 0} (r : Result A B) → IfOk r P → ((x : A) → P x → Q x) → IfOk r Q
if_ok (Ok x) p next = next x p
if_ok (Err e) p next = p

-- ---- any line

-- What is answered to a refusal.
abbrev pub IsRefusedBy : Refusal → Reply → List ℕ → Type 0
IsRefusedBy refusal reply text = (reply ≡ reply_to_refusal refusal) × (text ≡ refusal_text refusal ++ 10 ∷ [])

-- A line that is refused.
pub refused_line : (w : WorldState) (line : Option Line) (refusal : Refusal) (reply : Reply) (text : List ℕ)
    → world_step w line ≡ Err refusal → IsRefusedBy refusal reply text → RepliesTo w line reply text w
unfolding reply_block
refused_line w line refusal reply text step is = inl (
  is.0 ∙ ap reply_to_line (sym step),
  is.1 ∙ ap reply_block (sym step),
  ap (world_after w) (sym step),
)

-- A line that is done.
pub done_line : (w : WorldState) (line : Option Line) (done : DoneLine) (reply : Reply) (text : List ℕ)
    → world_step w line ≡ Ok done → reply ≡ reply_to_deed done.deed → text ≡ deed_text done.deed ++ 10 ∷ []
    → RepliesTo w line reply text done.world
unfolding reply_block
done_line w line done reply text step replied is = inl (
  replied ∙ ap reply_to_line (sym step),
  is ∙ ap reply_block (sym step),
  ap (world_after w) (sym step),
)

-- Where memory runs out, the line counts as not given.
pub wanting_line : (old new : WorldState) (line : Option Line) (text : List ℕ) → new ≡ old
    → text ≡ refusal_text NoMemory ++ 10 ∷ [] → RepliesTo old line (reply_to_refusal NoMemory) text new
unfolding reply_block
wanting_line old new line text same is = inr (refl, is, same)

pub bad_line : (w : WorldState) → world_step w None ≡ Err BadLine
unfolding world_step
bad_line w = refl

-- ---- a run is made

pub unknown_unit : (w : WorldState) (moment : Moment) (name id : List ℕ) → unit_named w.units id ≡ None → world_step w (Some (Create moment name id)) ≡ Err UnknownUnit
unfolding world_step
unknown_unit w moment name id none = rw none refl

pub run_exists : (w : WorldState) (moment : Moment) (name id : List ℕ) (unit : Unit) → unit_named w.units id ≡ Some unit
    → is_some (run_named w.runs name) ≡ true → world_step w (Some (Create moment name id)) ≡ Err RunExists
unfolding world_step
run_exists w moment name id unit found there = rw (found, there) refl

-- The world in which there is the run, too.
abbrev with_new : WorldState → RunOf → DoneLine
with_new w run = record { deed = made; world = record w { runs = w.runs ++ run ∷ [] } }

pub run_made : (w : WorldState) (moment : Moment) (name id : List ℕ) (unit : Unit) → unit_named w.units id ≡ Some unit
    → is_some (run_named w.runs name) ≡ false
    → world_step w (Some (Create moment name id)) ≡ Ok (with_new w (record { name = name; unit = unit; state = made_at w.seats unit w.store moment.0 }))
unfolding world_step
run_made w moment name id unit found new = rw (found, new) refl

-- A run that was put behind the others.
pub made_run : (units : List Unit) (store : Store) (runs more : List (List ℕ × RunView)) (moment : Moment) (name id : List ℕ) (unit : Unit) (run : RunView) (reply : Reply) (text : List ℕ)
    → unit_named units id ≡ Some unit → is_some (lookup (bytes_eq name) runs) ≡ false → run.unit ≡ unit
    → run_of run.state ≡ made_at SEATS unit (values_of store) moment.0 → more ≡ runs ++ (name, run) ∷ [] → reply ≡ done_alone → text ≡ codes "ok create\n"
    → RepliesTo (world_with units store runs) (Some (Create moment name id)) reply text (world_with units store more)
made_run units store runs more moment name id unit run reply text found fresh whose state behind replied told =
    let w = world_with units store runs in
    let one : RunOf = record { name = name; unit = unit; state = made_at SEATS unit (values_of store) moment.0 } in
    let same : run_named_so (name, run) ≡ one = λ i. record { name = name; unit = whose i; state = state i } in
    let named : map run_named_so more ≡ map run_named_so runs ++ one ∷ [] = ap (map run_named_so) behind ∙ map-append run_named_so runs ((name, run) ∷ []) ∙ ap (λ last. map run_named_so runs ++ last ∷ []) same in
    let world : (with_new w one).world ≡ world_with units store more = λ i. record { seats = SEATS; units = units; store = values_of store; runs = sym named i } in
    let step = run_made w moment name id unit found (is_there name runs ∙ fresh) in
    subst (RepliesTo w (Some (Create moment name id)) reply text) world
    (done_line w (Some (Create moment name id)) (with_new w one) reply text step replied told)

-- ---- a run is asked

pub unknown_run : (w : WorldState) (moment : Moment) (name : List ℕ) (command : RunCommand) → run_named w.runs name ≡ None
    → world_step w (Some (OfRun moment name command)) ≡ Err UnknownRun
unfolding world_step
unknown_run w moment name command none = rw none refl

-- What a line of a run does, from what its command does.
abbrev line_from : WorldState → List ℕ → Unit → Result DoneCommand Refusal → Result DoneLine Refusal
line_from w name unit r = r >>= λ d. Ok (record { deed = ran unit d; world = with_run w name d })

found_step : (w : WorldState) (moment : Moment) (name : List ℕ) (command : RunCommand) (run : RunOf) → run_named w.runs name ≡ Some run
    → world_step w (Some (OfRun moment name command)) ≡ line_from w name run.unit (run_step run.unit run.state w.store moment.0 command)
unfolding world_step
found_step w moment name command run found = rw found refl

module _ (units : List Unit) (store left : Store) (runs : List (List ℕ × RunView)) (name : List ℕ) (run new : RunView)
    (distinct : IsDistinct bytes_eq (keys_of runs)) (found : lookup (bytes_eq name) runs ≡ Some run) (whose : new.unit ≡ run.unit) where
  -- The world before the line.
  abbrev before : WorldState
  before = world_with units store runs

  -- The runs after this one comes to the state.
  left_runs : (s : RunState) → run_of new.state ≡ s → map run_named_so (set_value (bytes_eq name) runs new) ≡ map (in_state name s) (map run_named_so runs)
  left_runs s state =
      set_in_state name runs run new distinct found whose ∙ ap (λ one. map (in_state name one) (map run_named_so runs)) state

  -- The same state and the same store leave the world as it was.
  same_state : run_of new.state ≡ run_of run.state → values_of left ≡ values_of store → world_with units left (set_value (bytes_eq name) runs new) ≡ before
  same_state state values =
      let there : map run_named_so (set_value (bytes_eq name) runs new) ≡ map run_named_so runs = left_runs (run_of run.state) state ∙ sym (set_in_state name runs run run distinct found refl) ∙ ap (map run_named_so) (set_same name runs run found) in
      λ i. record { seats = SEATS; units = units; store = values i; runs = there i }

  -- The world after the line is that after its command.
  left_world : (r : Result DoneCommand Refusal) → run_of new.state ≡ state_after (run_of run.state) r → values_of left ≡ store_after (values_of store) r
      → world_with units left (set_value (bytes_eq name) runs new) ≡ world_after before (line_from before name run.unit r)
  left_world (Ok d) state values =
      let there : map run_named_so (set_value (bytes_eq name) runs new) ≡ map (in_state name d.state) (map run_named_so runs) = left_runs d.state state in
      λ i. record { seats = SEATS; units = units; store = values i; runs = there i }
  left_world (Err refusal) state values = same_state state values

  block_told : (r : Result DoneCommand Refusal) → block_of run.unit r ≡ reply_block (line_from before name run.unit r)
  unfolding reply_block
  block_told (Ok d) = refl
  block_told (Err refusal) = refl

  same_reply : (r : Result DoneCommand Refusal) → reply_of r ≡ reply_to_line (line_from before name run.unit r)
  same_reply (Ok d) = refl
  same_reply (Err refusal) = refl

  -- A line of the run, which its command answers.
  pub asked_run : (moment : Moment) (command : RunCommand) (reply : Reply) (text : List ℕ)
      → AnswersCommand run.unit (run_of run.state) (values_of store) moment.0 command reply text (run_of new.state) (values_of left)
      → RepliesTo before (Some (OfRun moment name command)) reply text (world_with units left (set_value (bytes_eq name) runs new))
  unfolding reply_block
  asked_run moment command reply text (inl answer) =
      let r = run_step run.unit (run_of run.state) (values_of store) moment.0 command in
      let here : run_named (map run_named_so runs) name ≡ Some (run_named_so (name, run)) = found_run name runs ∙ ap (option_map (λ one. run_named_so (name, one))) found in
      let step = found_step before moment name command (run_named_so (name, run)) here in
      inl (
        answer.0 ∙ same_reply r ∙ ap reply_to_line (sym step),
        answer.1 ∙ block_told r ∙ ap reply_block (sym step),
        left_world r answer.2 answer.3 ∙ ap (world_after before) (sym step),
      )
  asked_run moment command reply text (inr wanting) = inr (wanting.0, wanting.1, same_state wanting.2 wanting.3)
