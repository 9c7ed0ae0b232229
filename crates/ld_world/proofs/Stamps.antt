-- The stamps of runs after a line.
use Rattle.std.proofs.Common.{◌≡◌, ◌≤◌, ◌+◌, ℕ, List, [], ◌∷◌, ◌++◌, ◌&&◌, Bool, true, false, cond, if◌then◌else◌, Option, None, Some, IsSome, option_map, Result, Ok, Err, IfOk, refl, sym, ap, ◌∙◌, subst}
use Rattle.std.proofs.lemmas.Cmp.{nat_list_eq_equiv}
use Rattle.std.proofs.lemmas.Map.{lookup-set_value}
use Rattle.std.proofs.lemmas.Slice.Eq.{bytes_eq-Decides}
use Rattle.std.specs.Map.{lookup, set_value}
use Rattle.std.specs.Option.{option_map_or}
use Rattle.std.specs.Str.{bytes_eq}
use Rattle.ld_globals.specs.Store.{Store}
use Rattle.ld_lines.specs.declared.command.RunCommand.{RunCommand}
use Rattle.ld_lines.specs.declared.line.Line.{Line}
use Rattle.ld_lines.specs.declared.line.Line.TheVariants.{OfRun}
use Rattle.ld_model.specs.declared.unit.Unit.{Unit}
use Rattle.ld_value.specs.declared.moment.Moment.{Moment}
use Rattle.ld_sharing.specs.StoreView.{shared_count}
use Rattle.ld_run.specs.CommandWork.{command_steps}
use Rattle.ld_run.specs.Reply.{StampAfter}
use Rattle.ld_run.specs.RunView.{RunView}
use Rattle.ld_run.specs.declared.reply.Reply.{Reply}
use Rattle.ld_run.specs.declared.reply.Reply.TheVariants.{Done, Refused, NoMemory}
use Rattle.ld_world.specs.LineWork.{StampsAfter, asking_steps, is_for, making_steps, stamp_of, tells_done}
use Rattle.ld_world.specs.World.{unit_named}

pub if_any : {A B : Type 0} {Q : A → Type 0} (r : Result A B) → ((x : A) → Q x) → IfOk r Q
if_any (Ok x) all = all x
if_any (Err e) all = tt

-- ---- steps

pub makes : (units : List Unit) (id : List ℕ) (unit : Unit) → unit_named units id ≡ Some unit → making_steps units id ≡ shared_count unit false
unfolding making_steps
makes units id unit found = ap (λ it. option_map_or (λ one. shared_count one false) it 0) found

-- So many steps that making a run of this unit took.
pub making : (units : List Unit) (id : List ℕ) (unit own : Unit) (begun ended : ℕ) → unit_named units id ≡ Some unit → own ≡ unit
    → ended ≤ begun + shared_count own false → ended ≤ begun + making_steps units id
making units id unit own begun ended found same few =
    subst (λ n. ended ≤ begun + n) (ap (λ one. shared_count one false) same ∙ sym (makes units id unit found)) few

pub asks : (store : Store) (runs : List (List ℕ × RunView)) (moment : Moment) (name : List ℕ) (command : RunCommand) (run : RunView)
    → lookup (bytes_eq name) runs ≡ Some run → asking_steps store runs moment name command ≡ command_steps run store moment.0 command
unfolding asking_steps
asks store runs moment name command run found = ap (λ it. option_map_or (λ one. command_steps one store moment.0 command) it 0) found

-- ---- stamps

-- Where nothing was done the stamps stay.
pub stamps_stay : (runs : List (List ℕ × RunView)) (line : Option Line) (reply : Reply) (stamp : ℕ) → tells_done reply ≡ false
    → StampsAfter runs line reply stamp runs
stamps_stay runs line reply stamp undone name = rw undone refl

-- Where the line is of no run the stamps stay.
pub stamps_apart : (runs : List (List ℕ × RunView)) (line : Option Line) (reply : Reply) (stamp : ℕ) → ((name : List ℕ) → is_for name line ≡ false)
    → StampsAfter runs line reply stamp runs
stamps_apart runs line reply stamp apart name = rw (apart name) (by (tells_done reply))
  where
    by : (b : Bool) → stamp_of runs name ≡ (if b && false then Some stamp else stamp_of runs name)
    by true = refl
    by false = refl

-- A run behind the others has its stamp, and they have theirs.
pub stamps_with : (runs : List (List ℕ × RunView)) (name : List ℕ) (run : RunView) (stamp : ℕ) → lookup (bytes_eq name) runs ≡ None → run.stamp ≡ stamp
    → (q : List ℕ) → stamp_of (runs ++ (name, run) ∷ []) q ≡ (if bytes_eq name q then Some stamp else stamp_of runs q)
stamps_with [] name run stamp none has q = rw (nat_list_eq_equiv.symm q name) (by (bytes_eq name q))
  where
    by : (b : Bool) → option_map (λ one. one.stamp) (cond b (Some run) None) ≡ (if b then Some stamp else None)
    by true = ap Some has
    by false = refl
stamps_with (e ∷ runs) name run stamp none has q = by (bytes_eq q e.0) refl (bytes_eq name e.0) refl none (λ none_after. stamps_with runs name run stamp none_after has q)
  where
    by : (b : Bool) → bytes_eq q e.0 ≡ b → (c : Bool) → bytes_eq name e.0 ≡ c → cond c (Some e.1) (lookup (bytes_eq name) runs) ≡ None
        → (lookup (bytes_eq name) runs ≡ None → stamp_of (runs ++ (name, run) ∷ []) q ≡ (if bytes_eq name q then Some stamp else stamp_of runs q))
        → option_map (λ one. one.stamp) (cond b (Some e.1) (lookup (bytes_eq q) (runs ++ (name, run) ∷ [])))
        ≡ (if bytes_eq name q then Some stamp else option_map (λ one. one.stamp) (cond b (Some e.1) (lookup (bytes_eq q) runs)))
    by b is true c found rest = absurd (cc found)
    by true is false c found rest =
        let other : bytes_eq name q ≡ false = ap (bytes_eq name) ((bytes_eq-Decides q e.0).0 is) ∙ c in
        rw other refl
    by false is false c found rest = rest found

-- The run of the name is at another state, and has the stamp that it has after the reply.
pub stamps_set : (runs : List (List ℕ × RunView)) (moment : Moment) (name : List ℕ) (command : RunCommand) (old new : RunView) (reply : Reply) (stamp : ℕ)
    → lookup (bytes_eq name) runs ≡ Some old → StampAfter reply old.stamp stamp new.stamp
    → StampsAfter runs (Some (OfRun moment name command)) reply stamp (set_value (bytes_eq name) runs new)
stamps_set runs moment name command old new reply stamp found after q =
    ap (option_map (λ one. one.stamp)) (lookup-set_value nat_list_eq_equiv (bytes_eq name) (nat_list_eq_equiv.congr name) q new runs (subst IsSome (sym found) refl))
    ∙ by (bytes_eq name q) refl reply after
  where
    mine : bytes_eq name q ≡ true → Some old.stamp ≡ stamp_of runs q
    mine same = ap (option_map (λ one. one.stamp)) (sym found) ∙ ap (stamp_of runs) ((bytes_eq-Decides name q).0 same)

    by : (b : Bool) → bytes_eq name q ≡ b → (told : Reply) → StampAfter told old.stamp stamp new.stamp
        → option_map (λ one. one.stamp) (cond b (Some new) (lookup (bytes_eq q) runs)) ≡ (if tells_done told && b then Some stamp else stamp_of runs q)
    by true same (Done totals) moved = ap Some moved
    by true same (Refused number) moved = ap Some moved ∙ mine same
    by true same NoMemory moved = ap Some moved ∙ mine same
    by false other (Done totals) moved = refl
    by false other (Refused number) moved = refl
    by false other NoMemory moved = refl
