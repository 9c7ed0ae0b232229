-- Units and runs by their names.
use Rattle.std.proofs.Common.{◌≡◌, ℕ, List, [], ◌∷◌, ◌++◌, ◌||◌, map, find, Option, None, Some, is_some, option_map, Bool, true, false, cond, if◌then◌else◌, refl, sym, ap, ◌∙◌, subst, true≢false}
use Rattle.std.proofs.lemmas.Cmp.{nat_list_eq_equiv}
use Rattle.std.proofs.lemmas.Slice.Eq.{bytes_eq-Decides}
use Rattle.std.proofs.lemmas.List.{map-append}
use Rattle.std.specs.List.{AllByRecursion, IsDistinct, list_any}
use Rattle.std.specs.Map.{keys_of, lookup, set_value}
use Rattle.std.specs.Str.{bytes_eq}
use Rattle.ld_run.specs.RunView.{RunView}
use Rattle.ld_state.specs.RunState.{RunState}
use Rattle.ld_state.specs.StateView.{run_of}
use Rattle.ld_world.specs.World.{in_state, run_named}
use Rattle.ld_world.specs.WorldView.{run_named_so}

-- ---- lists

-- The first element whose image passes, and the first image that passes.
pub find_mapped : {A B : Type 0} (f : A → B) (test : B → Bool) (xs : List A) → option_map f (find (λ x. test (f x)) xs) ≡ find test (map f xs)
find_mapped f test [] = refl
find_mapped f test (x ∷ xs) = by (test (f x)) (find_mapped f test xs)
  where
    by : (b : Bool) → option_map f (find (λ y. test (f y)) xs) ≡ find test (map f xs)
        → option_map f (cond b (Some x) (find (λ y. test (f y)) xs)) ≡ cond b (Some (f x)) (find test (map f xs))
    by true rest = refl
    by false rest = rest

pub any_found : {A : Type 0} (test : A → Bool) (xs : List A) → list_any test xs ≡ is_some (find test xs)
any_found test [] = refl
any_found test (x ∷ xs) = by (test x) (any_found test xs)
  where
    by : (b : Bool) → list_any test xs ≡ is_some (find test xs) → (b || list_any test xs) ≡ is_some (cond b (Some x) (find test xs))
    by true rest = refl
    by false rest = rest

pub all_found : {A : Type 0} (P : A → Type 0) (test : A → Bool) (xs : List A) (x : A) → AllByRecursion P xs → find test xs ≡ Some x → P x
all_found P test [] x all found = absurd (cc)
all_found P test (y ∷ ys) x all found = by (test y) (all_found P test ys x all.1) found
  where
    by : (b : Bool) → (find test ys ≡ Some x → P x) → cond b (Some y) (find test ys) ≡ Some x → P x
    by true rest here = let same : y ≡ x = cc in subst P same all.0
    by false rest later = rest later

pub all_with : {A : Type 0} (P : A → Type 0) (xs : List A) (x : A) → AllByRecursion P xs → P x → AllByRecursion P (xs ++ x ∷ [])
all_with P [] x all one = (one, tt)
all_with P (y ∷ ys) x all one = (all.0, all_with P ys x all.1 one)

pub all_mapped : {A B : Type 0} (P : B → Type 0) (f : A → B) (xs more : List A) (x : A) → more ≡ xs ++ x ∷ [] → AllByRecursion P (map f xs) → P (f x)
    → AllByRecursion P (map f more)
all_mapped P f xs more x behind all one =
    subst (λ ys. AllByRecursion P (map f ys)) (sym behind) (rw (map-append f xs (x ∷ [])) (all_with P (map f xs) (f x) all one))

pub none_there : {A : Type 0} (o : Option A) → is_some o ≡ false → o ≡ None
none_there None none = refl
none_there (Some x) none = absurd (true≢false none)

-- ---- runs

turned : (x y : List ℕ) → bytes_eq x y ≡ bytes_eq y x
turned x y = nat_list_eq_equiv.symm x y

-- The run that the program finds under a name.
pub found_run : (name : List ℕ) (runs : List (List ℕ × RunView))
    → run_named (map run_named_so runs) name ≡ option_map (λ run. run_named_so (name, run)) (lookup (bytes_eq name) runs)
found_run name [] = refl
found_run name (entry ∷ runs) = rw (turned entry.0 name) (by (bytes_eq name entry.0) refl (found_run name runs))
  where
    by : (b : Bool) → bytes_eq name entry.0 ≡ b → run_named (map run_named_so runs) name ≡ option_map (λ run. run_named_so (name, run)) (lookup (bytes_eq name) runs)
        → cond b (Some (run_named_so entry)) (run_named (map run_named_so runs) name) ≡ option_map (λ run. run_named_so (name, run)) (cond b (Some entry.1) (lookup (bytes_eq name) runs))
    by true same rest =
        let is : name ≡ entry.0 = (bytes_eq-Decides name entry.0).0 same in
        ap (λ n. Some (run_named_so (n, entry.1))) (sym is)
    by false other rest = rest

pub no_run : (name : List ℕ) (runs : List (List ℕ × RunView)) → None ≡ lookup (bytes_eq name) runs → run_named (map run_named_so runs) name ≡ None
no_run name runs none = found_run name runs ∙ ap (option_map (λ run. run_named_so (name, run))) (sym none)

pub is_there : (name : List ℕ) (runs : List (List ℕ × RunView)) → is_some (run_named (map run_named_so runs) name) ≡ is_some (lookup (bytes_eq name) runs)
is_there name runs = ap is_some (found_run name runs) ∙ by (lookup (bytes_eq name) runs)
  where
    by : (found : Option RunView) → is_some (option_map (λ run. run_named_so (name, run)) found) ≡ is_some found
    by None = refl
    by (Some run) = refl

-- What is true of each run.
module _ (P : RunView → Type 0) (name : List ℕ) where
  -- It is true of the run of this name.
  pub found_one : (runs : List (List ℕ × RunView)) (run : RunView) → AllByRecursion (λ entry. P entry.1) runs
      → lookup (bytes_eq name) runs ≡ Some run → P run
  found_one [] run all found = absurd (cc)
  found_one (entry ∷ runs) run all found = by (bytes_eq name entry.0) (found_one runs run all.1) found
    where
      by : (b : Bool) → (lookup (bytes_eq name) runs ≡ Some run → P run)
          → cond b (Some entry.1) (lookup (bytes_eq name) runs) ≡ Some run → P run
      by true rest here = let same : entry.1 ≡ run = cc in subst P same all.0
      by false rest later = rest later

  -- So it is after that run is at another state of which it is true.
  pub set_one : (runs : List (List ℕ × RunView)) (run : RunView) → AllByRecursion (λ entry. P entry.1) runs → P run
      → AllByRecursion (λ entry. P entry.1) (set_value (bytes_eq name) runs run)
  set_one [] run all one = tt
  set_one (entry ∷ runs) run all one = by (bytes_eq name entry.0) (set_one runs run all.1 one)
    where
      by : (b : Bool) → AllByRecursion (λ other. P other.1) (set_value (bytes_eq name) runs run)
          → AllByRecursion (λ other. P other.1) (cond b ((entry.0, run) ∷ runs) (entry ∷ set_value (bytes_eq name) runs run))
      by true rest = (one, all.1)
      by false rest = (all.0, rest)

-- What is found, set once more, changes nothing.
pub set_same : (name : List ℕ) (runs : List (List ℕ × RunView)) (run : RunView) → lookup (bytes_eq name) runs ≡ Some run → set_value (bytes_eq name) runs run ≡ runs
set_same name [] run found = refl
set_same name (entry ∷ runs) run found = by (bytes_eq name entry.0) (set_same name runs run) found
  where
    by : (b : Bool) → (lookup (bytes_eq name) runs ≡ Some run → set_value (bytes_eq name) runs run ≡ runs)
        → cond b (Some entry.1) (lookup (bytes_eq name) runs) ≡ Some run
        → cond b ((entry.0, run) ∷ runs) (entry ∷ set_value (bytes_eq name) runs run) ≡ entry ∷ runs
    by true rest here = let same : run ≡ entry.1 = cc in ap (λ r. (entry.0, r) ∷ runs) same
    by false rest later = ap (λ others. entry ∷ others) (rest later)

-- Where none of the runs has the name, none changes.
others_stay : (name : List ℕ) (s : RunState) (runs : List (List ℕ × RunView)) → AllByRecursion (λ key. bytes_eq name key ≡ false) (keys_of runs)
    → map (in_state name s) (map run_named_so runs) ≡ map run_named_so runs
others_stay name s [] others = refl
others_stay name s (entry ∷ runs) others = rw (turned entry.0 name, others.0) (ap (λ rest. run_named_so entry ∷ rest) (others_stay name s runs others.1))

-- The one run of the name comes to the state.
pub set_in_state : (name : List ℕ) (runs : List (List ℕ × RunView)) (old new : RunView) → IsDistinct bytes_eq (keys_of runs)
    → lookup (bytes_eq name) runs ≡ Some old → new.unit ≡ old.unit
    → map run_named_so (set_value (bytes_eq name) runs new) ≡ map (in_state name (run_of new.state)) (map run_named_so runs)
unfolding IsDistinct
set_in_state name [] old new distinct found unit = refl
set_in_state name (entry ∷ runs) old new distinct found unit = rw (turned entry.0 name) (by (bytes_eq name entry.0) refl (λ later. set_in_state name runs old new distinct.1 later unit) found)
  where
    by : (b : Bool) → bytes_eq name entry.0 ≡ b
        → (lookup (bytes_eq name) runs ≡ Some old → map run_named_so (set_value (bytes_eq name) runs new) ≡ map (in_state name (run_of new.state)) (map run_named_so runs))
        → cond b (Some entry.1) (lookup (bytes_eq name) runs) ≡ Some old
        → map run_named_so (cond b ((entry.0, new) ∷ runs) (entry ∷ set_value (bytes_eq name) runs new))
        ≡ (if b then record { name = entry.0; unit = entry.1.unit; state = run_of new.state } else run_named_so entry) ∷ map (in_state name (run_of new.state)) (map run_named_so runs)
    by true same rest here =
        let is : name ≡ entry.0 = (bytes_eq-Decides name entry.0).0 same in
        let one : entry.1 ≡ old = cc in
        let whose : new.unit ≡ entry.1.unit = unit ∙ ap (λ run. run.unit) (sym one) in
        λ i. record { name = entry.0; unit = whose i; state = run_of new.state } ∷ sym (others_stay name (run_of new.state) runs (rw is distinct.0)) i
    by false other rest later = ap (λ others. run_named_so entry ∷ others) (rest later)
