-- Look-ups in a list whose entries are mapped, and in a list with distinct keys.
use Rattle.std.proofs.Common.{◌≡◌, ℕ, zero, suc, List, [], ◌∷◌, map, slice_get, Bool, true, false, cond, nat_eq, ◌||◌, Option, Some, None, option_map, option_copied, is_some, Bor, subst, refl, sym, ap, ◌∙◌}
use Rattle.std.proofs.lemmas.Bool.{eqb-true, eq-eqb, true≢false}
use Rattle.std.specs.Cmp.Lexicographic.{bytes_decides}
use Rattle.std.specs.List.{AllByRecursion, IsDistinct, find, list_any}
use Rattle.std.specs.Map.{lookup}
use Rattle.std.specs.Str.{bytes_eq}
use Rattle.ld_base.specs.Roomy.{Roomy}
use Rattle.ld_globals.specs.Declarations.{declaration_of}
use Rattle.ld_globals.specs.Kept.{uri_and_declaration}
use Rattle.ld_globals.specs.Store.{declared_in}
use Rattle.ld_globals.specs.declared.declared.Declared.{Declared}

-- A look-up over mapped entries, whose test of the mapped keys answers as another does of the keys.
module _ {K L X Y : Type 0} (f : K × X → L) (g : X → Y) (test : L → Bool) (own : K → Bool) where
  abbrev pub mapped : K × X → L × Y
  mapped e = (f e, g e.1)

  pub lookup-mapped : (es : List (K × X)) → AllByRecursion (λ e. own e.0 ≡ test (f e)) es → lookup test (map mapped es) ≡ option_map g (lookup own es)
  lookup-mapped [] alike = refl
  lookup-mapped (e ∷ es) alike = ap (λ b. cond b (Some (g e.1)) (lookup test (map mapped es))) (sym alike.0) ∙ by (own e.0) (lookup-mapped es alike.1)
    where
      by : (b : Bool) → lookup test (map mapped es) ≡ option_map g (lookup own es) → cond b (Some (g e.1)) (lookup test (map mapped es)) ≡ option_map g (cond b (Some e.1) (lookup own es))
      by true on = refl
      by false on = on

module _ {X : Type 0} where
  pub all-there : (P : X → Type 0) (xs : List X) (i : ℕ) (x : X) → AllByRecursion P xs → slice_get xs i ≡ Some x → P x
  all-there P [] i x all there = cc
  all-there P (y ∷ ys) zero x all there = let same : y ≡ x = cc in subst P same all.0
  all-there P (y ∷ ys) (suc i) x all there = all-there P ys i x all.1 there

  pub none-passes : (test : X → Bool) (xs : List X) → list_any test xs ≡ false → AllByRecursion (λ x. test x ≡ false) xs
  none-passes test [] none = tt
  none-passes test (x ∷ xs) none = by (none-passes test xs) (test x) refl none
    where
      by : (list_any test xs ≡ false → AllByRecursion (λ x. test x ≡ false) xs) → (b : Bool) → test x ≡ b → b || list_any test xs ≡ false → (test x ≡ false) × AllByRecursion (λ x. test x ≡ false) xs
      by on true is none = absurd (true≢false none)
      by on false is none = (is, on none)

  pub find-passes : (test : X → Bool) (xs : List X) (x : X) → find test xs ≡ Some x → test x ≡ true
  find-passes test [] x found = cc
  find-passes test (y ∷ ys) x found = by (find-passes test ys x) (test y) refl found
    where
      by : (find test ys ≡ Some x → test x ≡ true) → (b : Bool) → test y ≡ b → cond b (Some y) (find test ys) ≡ Some x → test x ≡ true
      by on true is found = let same : y ≡ x = cc in ap test (sym same) ∙ is
      by on false is found = on found

-- Of keys that are distinct by their bytes, two with the same bytes stand at one place.
module _ {K : Type 0} (f : K → List ℕ) where
  abbrev pub by_bytes : K → K → Bool
  by_bytes a b = bytes_eq (f a) (f b)

  apart : (ks : List K) (j : ℕ) (a b : K) → AllByRecursion (λ y. by_bytes a y ≡ false) ks → slice_get ks j ≡ Some b → f a ≡ f b → ⊥
  apart ks j a b all there same = true≢false (sym ((bytes_decides (f a) (f b)).1 same) ∙ all-there (λ y. by_bytes a y ≡ false) ks j b all there)

  pub one-place : (ks : List K) (i j : ℕ) (a b : K) → IsDistinct by_bytes ks → slice_get ks i ≡ Some a → slice_get ks j ≡ Some b → f a ≡ f b → i ≡ j
  unfolding IsDistinct
  one-place [] i j a b distinct at there same = cc
  one-place (k ∷ ks) zero zero a b distinct at there same = refl
  one-place (k ∷ ks) zero (suc j) a b distinct at there same = let is : k ≡ a = cc in absurd (apart ks j k b distinct.0 there (ap f is ∙ same))
  one-place (k ∷ ks) (suc i) zero a b distinct at there same = let is : k ≡ b = cc in absurd (apart ks i k a distinct.0 at (ap f is ∙ sym same))
  one-place (k ∷ ks) (suc i) (suc j) a b distinct at there same = ap suc (one-place ks i j a b distinct.1 at there same)

  -- Whether two places are one is whether the bytes are the same.
  pub place-tells : (ks : List K) (i j : ℕ) (a b : K) → IsDistinct by_bytes ks → slice_get ks i ≡ Some a → slice_get ks j ≡ Some b → nat_eq i j ≡ bytes_eq (f a) (f b)
  place-tells ks i j a b distinct at there = by (nat_eq i j) refl (bytes_eq (f a) (f b)) refl
    where
      by : (c : Bool) → nat_eq i j ≡ c → (d : Bool) → bytes_eq (f a) (f b) ≡ d → c ≡ d
      by true is true same = refl
      by false is false same = refl
      by true is false same =
          let other : slice_get ks j ≡ Some a = ap (slice_get ks) (sym (eqb-true i j is)) ∙ at in
          let both : a ≡ b = cc in
          absurd (true≢false (sym ((bytes_decides (f a) (f b)).1 (ap f both)) ∙ same))
      by false is true same = absurd (true≢false (sym (eq-eqb i j (one-place ks i j a b distinct at there ((bytes_decides (f a) (f b)).0 same))) ∙ is))

-- How a uri is declared among mapped entries.
pub declared-found : (es : List (Roomy × Declared)) (uri : List ℕ) → declared_in (map uri_and_declaration es) uri ≡ option_map declaration_of (lookup (λ k. bytes_eq uri k.bytes) es)
declared-found es uri = lookup-mapped (λ e. e.0.bytes) declaration_of (bytes_eq uri) (λ k. bytes_eq uri k.bytes) es (alike es)
  where
    alike : (fs : List (Roomy × Declared)) → AllByRecursion (λ e. bytes_eq uri e.0.bytes ≡ bytes_eq uri e.0.bytes) fs
    alike [] = tt
    alike (e ∷ fs) = (refl, alike fs)

-- A value behind a reference, as it is mapped.
pub copied : {X Y : Type 0} (g : X → Y) (r : Option (Bor X)) → option_map (λ b. g b.now) r ≡ option_map g (option_copied r)
copied g None = refl
copied g (Some b) = refl

pub some-copied : {X : Type 0} (r : Option (Bor X)) → is_some (option_copied r) ≡ is_some r
some-copied None = refl
some-copied (Some b) = refl
