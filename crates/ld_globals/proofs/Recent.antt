-- Slots by their last use.
use Rattle.std.proofs.Common.{◌≡◌, ℕ, suc, ◌+◌, ◌<◌, ◌≤◌, List, [], ◌∷◌, ◌++◌, take, length, Bool, true, false, cond, nat_eq, IsSome, Some, None, refl, sym, ap, subst, ◌∙◌, inl, inr, arith, length-append}
use Rattle.std.proofs.lemmas.Bool.{cases_eq, eqb-true, eq-eqb}
use Rattle.std.proofs.lemmas.List.{take_all}
use Rattle.std.specs.List.{AllByRecursion, IsDistinct}
use Rattle.std.specs.Map.{keys_of, lookup, lookup_entry, remove_entry}
use Rattle.std.specs.Option.{option_map_or}
use Rattle.std.proofs.lemmas.Option.{slice_get_past}
use Rattle.lru.proofs.Splits.{all_both, all_unmap}
use Rattle.lru.specs.LruCache.{demoted}
use Rattle.ld_globals.specs.Kept.{IsTied, write_number_in}
use Rattle.ld_globals.specs.declared.cell.Cell.{Cell}
use Rattle.ld_globals.specs.declared.key_number.KeyNumber.{KeyNumber}
use Rattle.ld_globals.specs.Recent.{Falls, IsRecency, Grows}

module _ {X : Type 0} where
  pub all-weaker : {P Q : X → Type 0} (xs : List X) → ((x : X) → P x → Q x) → AllByRecursion P xs → AllByRecursion Q xs
  all-weaker [] weaker all = tt
  all-weaker (x ∷ xs) weaker all = (weaker x all.0, all-weaker xs weaker all.1)

module _ {K X : Type 0} (test : K → Bool) where
  pub length-remove : (es : List (K × X)) → IsSome (lookup test es) → suc (length (remove_entry test es)) ≡ length es
  length-remove [] some = cc
  length-remove (e ∷ es) some = by (length-remove es) (test e.0) some
    where
      by : (IsSome (lookup test es) → suc (length (remove_entry test es)) ≡ length es) → (b : Bool) → IsSome (cond b (Some e.1) (lookup test es)) → suc (length (cond b es (e ∷ remove_entry test es))) ≡ suc (length es)
      by on true some = refl
      by on false some = ap suc (on some)

  pub all-remove : (P : K × X → Type 0) (es : List (K × X)) → AllByRecursion P es → AllByRecursion P (remove_entry test es)
  all-remove P [] all = tt
  all-remove P (e ∷ es) all = by (all-remove P es all.1) (test e.0)
    where
      by : AllByRecursion P (remove_entry test es) → (b : Bool) → AllByRecursion P (cond b es (e ∷ remove_entry test es))
      by on true = all.1
      by on false = (all.0, on)

  pub found-before : (es fs : List (K × X)) → IsSome (lookup test es) → IsSome (lookup test (es ++ fs))
  found-before [] fs some = cc
  found-before (e ∷ es) fs some = by (found-before es fs) (test e.0) some
    where
      by : (IsSome (lookup test es) → IsSome (lookup test (es ++ fs))) → (b : Bool) → IsSome (cond b (Some e.1) (lookup test es)) → IsSome (cond b (Some e.1) (lookup test (es ++ fs)))
      by on true some = some
      by on false some = on some

  pub found-behind : (es fs : List (K × X)) → IsSome (lookup test fs) → IsSome (lookup test (es ++ fs))
  found-behind [] fs some = some
  found-behind (e ∷ es) fs some = by (found-behind es fs some) (test e.0)
    where
      by : IsSome (lookup test (es ++ fs)) → (b : Bool) → IsSome (cond b (Some e.1) (lookup test (es ++ fs)))
      by on true = cc
      by on false = on

-- What a cache puts where the slot is there.
pub put-there : (slot number : ℕ) (es more rest : List (ℕ × ℕ)) → IsSome (lookup (nat_eq slot) es) → option_map_or (λ e. (e.0, number) ∷ rest) (lookup_entry (nat_eq slot) es) more ≡ (slot, number) ∷ rest
put-there slot number [] more rest some = cc
put-there slot number (e ∷ es) more rest some = by (put-there slot number es more rest) (nat_eq slot e.0) refl some
  where
    by : (IsSome (lookup (nat_eq slot) es) → option_map_or (λ e. (e.0, number) ∷ rest) (lookup_entry (nat_eq slot) es) more ≡ (slot, number) ∷ rest) → (b : Bool) → nat_eq slot e.0 ≡ b → IsSome (cond b (Some e.1) (lookup (nat_eq slot) es)) → option_map_or (λ e. (e.0, number) ∷ rest) (cond b (Some e) (lookup_entry (nat_eq slot) es)) more ≡ (slot, number) ∷ rest
    by on true same some = ap (λ s. (s, number) ∷ rest) (sym (eqb-true slot e.0 same))
    by on false other some = on some

-- What it puts where the slot is not there.
pub put-absent : (n : ℕ) (es : List (ℕ × ℕ)) → AllByRecursion (λ e. e.0 < n) es → lookup_entry (nat_eq n) es ≡ None
put-absent n [] below = refl
put-absent n (e ∷ es) below = by (put-absent n es below.1) (nat_eq n e.0) refl
  where
    by : lookup_entry (nat_eq n) es ≡ None → (b : Bool) → nat_eq n e.0 ≡ b → cond b (Some e) (lookup_entry (nat_eq n) es) ≡ None
    by on true same = let is = eqb-true n e.0 same in let less = below.0 in absurd (omega (arith, is, less))
    by on false other = on

pub lookup-other : (slot i : ℕ) (es : List (ℕ × ℕ)) → nat_eq i slot ≡ false → lookup (nat_eq i) (remove_entry (nat_eq slot) es) ≡ lookup (nat_eq i) es
lookup-other slot i [] other = refl
lookup-other slot i (e ∷ es) other = by (lookup-other slot i es other) (nat_eq slot e.0) refl
  where
    by : lookup (nat_eq i) (remove_entry (nat_eq slot) es) ≡ lookup (nat_eq i) es → (b : Bool) → nat_eq slot e.0 ≡ b → lookup (nat_eq i) (cond b es (e ∷ remove_entry (nat_eq slot) es)) ≡ cond (nat_eq i e.0) (Some e.1) (lookup (nat_eq i) es)
    by on true same = sym (ap (λ b. cond b (Some e.1) (lookup (nat_eq i) es)) (ap (nat_eq i) (sym (eqb-true slot e.0 same)) ∙ other))
    by on false _ = ap (λ found. cond (nat_eq i e.0) (Some e.1) found) on

falls-remove : (test : ℕ → Bool) (es : List (ℕ × ℕ)) → Falls es → Falls (remove_entry test es)
falls-remove test [] falls = tt
falls-remove test (e ∷ es) falls = by (falls-remove test es falls.1) (test e.0)
  where
    by : Falls (remove_entry test es) → (b : Bool) → Falls (cond b es (e ∷ remove_entry test es))
    by on true = falls.1
    by on false = (all-remove test (λ f. f.1 ≤ e.1) es falls.0, on)

-- Slots stay such a list when one of them is used.
pub used-recency : (slot number : ℕ) (es : List (ℕ × ℕ)) → slot < length es → AllByRecursion (λ e. e.1 ≤ number) es → IsRecency es → IsRecency ((slot, number) ∷ remove_entry (nat_eq slot) es)
used-recency slot number es within latest is =
    let some = is.1 slot within in
    let same = length-remove (nat_eq slot) es some in
    let rest = remove_entry (nat_eq slot) es in
    ((omega (arith, within, same), all-remove (nat_eq slot) (λ e. e.0 < suc (length rest)) es (subst (λ n. AllByRecursion (λ e. e.0 < n) es) (sym same) is.0)), (λ i below. by i (nat_eq i slot) refl (is.1 i (omega (arith, below, same)))), (all-remove (nat_eq slot) (λ e. e.1 ≤ number) es latest, falls-remove (nat_eq slot) es is.2))
  where
    by : (i : ℕ) (b : Bool) → nat_eq i slot ≡ b → IsSome (lookup (nat_eq i) es) → IsSome (cond b (Some number) (lookup (nat_eq i) (remove_entry (nat_eq slot) es)))
    by i true same found = cc
    by i false other found = subst IsSome (sym (lookup-other slot i es other)) found

falls-grown : (n : ℕ) (es : List (ℕ × ℕ)) → Falls es → Falls (es ++ (n, 0) ∷ [])
falls-grown n [] falls = (tt, tt)
falls-grown n (e ∷ es) falls = (all_both (λ f. f.1 ≤ e.1) es ((n, 0) ∷ []) falls.0 (omega arith, tt), falls-grown n es falls.1)

-- And when one more comes behind.
pub grown-recency : (es : List (ℕ × ℕ)) → IsRecency es → IsRecency (es ++ (length es, 0) ∷ [])
grown-recency es is =
    let longer = length-append es ((length es, 0) ∷ []) in (
      subst (λ n. AllByRecursion (λ e. e.0 < n) (es ++ (length es, 0) ∷ [])) (sym longer) (all_both (λ e. e.0 < length es + 1) es ((length es, 0) ∷ []) (all-weaker es (λ e less. omega (arith, less)) is.0) (omega arith, tt)),
      (λ i below. elim (cases_eq i (length es)) [
        | inl same ↦ found-behind (nat_eq i) es ((length es, 0) ∷ []) (subst (λ b. IsSome {T = ℕ} (cond b (Some 0) None)) (sym (eq-eqb i (length es) same)) cc)
        | inr other ↦ found-before (nat_eq i) es ((length es, 0) ∷ []) (is.1 i (omega (arith, other, below, longer)))
      ]),
      falls-grown (length es) es is.2,
    )

-- What a cache is after a slot is put and made the last.
pub slot-put : (n cap : ℕ) (es : List (ℕ × ℕ)) → AllByRecursion (λ e. e.0 < n) es → length es ≤ cap → option_map_or (λ e. (e.0, 0) ∷ remove_entry (nat_eq n) es) (lookup_entry (nat_eq n) es) ((n, 0) ∷ take cap es) ≡ (n, 0) ∷ es
slot-put n cap es below room = rw (put-absent n es below) (ap (λ l. (n, 0) ∷ l) (take_all cap es room))

pub slot-last : (n : ℕ) (es : List (ℕ × ℕ)) → demoted (nat_eq n) ((n, 0) ∷ es) ≡ es ++ (n, 0) ∷ []
slot-last n es = rw (eq-eqb n n refl) refl

-- Without the slot no entry has it, where no slot stands twice.
pub others-left : (slot : ℕ) (es : List (ℕ × ℕ)) → IsDistinct nat_eq (keys_of es) → AllByRecursion (λ e. nat_eq slot e.0 ≡ false) (remove_entry (nat_eq slot) es)
unfolding IsDistinct
others-left slot [] distinct = tt
others-left slot (e ∷ es) distinct = by (others-left slot es distinct.1) (nat_eq slot e.0) refl
  where
    by : AllByRecursion (λ f. nat_eq slot f.0 ≡ false) (remove_entry (nat_eq slot) es) → (b : Bool) → nat_eq slot e.0 ≡ b → AllByRecursion (λ f. nat_eq slot f.0 ≡ false) (cond b es (e ∷ remove_entry (nat_eq slot) es))
    by on true same = subst (λ s. AllByRecursion (λ f. nat_eq s f.0 ≡ false) es) (sym (eqb-true slot e.0 same)) (all_unmap (λ f. f.0) (λ s. nat_eq e.0 s ≡ false) es distinct.0)
    by on false other = (other, on)

-- Slots that were never used have no cell.
pub tied-grown : (cells : List (KeyNumber × Cell)) (old new : List (ℕ × ℕ)) → length cells ≤ length old → AllByRecursion (IsTied cells) old → Grows old new → AllByRecursion (IsTied cells) new
tied-grown cells old new fewer tied grows = subst (AllByRecursion (IsTied cells)) (sym grows.all) (all_both (IsTied cells) old grows.added tied (all-weaker grows.added (λ e unused. let far = unused.1 in unused.0 ∙ sym (ap write_number_in (slice_get_past cells e.0 (omega (arith, far, fewer))))) grows.unused))
