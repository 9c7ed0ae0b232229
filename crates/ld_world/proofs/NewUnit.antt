-- The world once a unit is published beside others.
use Rattle.std.proofs.Common.{◌≡◌, ℕ, List, [], ◌∷◌, ◌++◌, map, None, sym, ap, ◌∙◌, subst}
use Rattle.std.proofs.lemmas.List.{map-append}
use Rattle.ld_globals.specs.Store.{Key, Store, declare_in, declared_at, key_at, last_write}
use Rattle.ld_model.specs.declared.unit.Unit.{Unit}
use Rattle.ld_roles.specs.declared.limit.TheConstants.{SEATS}
use Rattle.ld_run.specs.RunView.{RunView}
use Rattle.ld_sharing.specs.StoreView.{Serves, values_of}
use Rattle.ld_state.specs.GlobalValues.{first_values}
use Rattle.ld_world.specs.Declaring.{pairs_by}
use Rattle.ld_world.specs.World.{first_world}
use Rattle.ld_world.specs.WorldView.{IsStoreOf, ServesAll, ServesRuns, world_with}
use Rattle.ld_world.proofs.Declared.{declares_more, values_more}
use Rattle.ld_world.proofs.Named.{all_with}
use Rattle.ld_world.proofs.Serving.{still_serves_all, still_serves_runs}

-- The units, behind which there is one more.
pub units_behind : {A : Type 0} (f : A → Unit) (xs more : List A) (x : A) (unit : Unit) → more ≡ xs ++ x ∷ [] → f x ≡ unit → map f more ≡ map f xs ++ unit ∷ []
units_behind f xs more x unit behind same =
    ap (map f) behind ∙ map-append f xs (x ∷ []) ∙ ap (λ last. map f xs ++ last ∷ []) same

module _ (units more : List Unit) (store new : Store) (unit : Unit) (behind : more ≡ units ++ unit ∷ [])
    (declares : new ≡ declare_in store (pairs_by unit.properties)) where
  pub still_store_of : IsStoreOf units store → IsStoreOf more new
  still_store_of is_of =
      subst (λ all. IsStoreOf all new) (sym behind) (subst (IsStoreOf (units ++ unit ∷ [])) (sym declares) (declares_more units store unit is_of))

  pub still_all : ServesAll store units → Serves new unit → ServesAll new more
  still_all serves own =
      subst (ServesAll new) (sym behind) (all_with (Serves new) units unit (subst (λ s. ServesAll s units) (sym declares) (still_serves_all store (pairs_by unit.properties) units serves)) own)

  pub still_runs : (runs : List (List ℕ × RunView)) → ServesRuns store runs → ServesRuns new runs
  still_runs runs serves = subst (λ s. ServesRuns s runs) (sym declares) (still_serves_runs store (pairs_by unit.properties) runs serves)

  -- Where the world was the first of the units, it is the first of them all.
  pub new_world : (runs : List (List ℕ × RunView)) → IsStoreOf units store → ((key : Key) → declared_at store key.uri ≡ None → last_write store key ≡ None)
      → world_with units store runs ≡ first_world units → world_with more new runs ≡ first_world (units ++ unit ∷ [])
  new_world runs is_of unwritten first =
      let values : values_of new ≡ first_values (units ++ unit ∷ []) = ap values_of declares ∙ values_more units store unit is_of (λ uri person. unwritten (key_at uri person)) (ap (λ w. w.store) first) in
      λ i. record { seats = SEATS; units = behind i; store = values i; runs = (ap (λ w. w.runs) first) i }
