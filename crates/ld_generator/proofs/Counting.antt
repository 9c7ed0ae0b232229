-- Lists that grow with a count.
use Rattle.std.proofs.Common.{◌≡◌, ◌∙◌, ℕ, zero, suc, ◌+◌, List, [], ◌∷◌, ◌++◌, map, sym, ap, ap₂, arith, append-nil, append_assoc}
use Rattle.std.specs.List.{flat_map, range_with_len}
use Rattle.std.proofs.lemmas.List.FromFn.{map-range_with_len_more}
use Rattle.ld_base.specs.Numbers.{numbers_below}

-- A list that has f of each number so far, and behind it f of the next one.
pub one_more : {A : Type 0} (f : ℕ → A) (n : ℕ) (x : A) (items more : List A)
    → items ≡ map f (numbers_below n) → x ≡ f n → more ≡ items ++ x ∷ [] → more ≡ map f (numbers_below (n + 1))
one_more f n x items more so_far is pushed =
    pushed ∙ ap₂ (λ xs y. xs ++ y ∷ []) so_far is ∙ sym (map-range_with_len_more f 0 n n (omega arith))

-- The same behind a beginning.
pub one_more_behind : {A : Type 0} (f : ℕ → A) (n : ℕ) (x : A) (start items more : List A)
    → items ≡ start ++ map f (numbers_below n) → x ≡ f n → more ≡ items ++ x ∷ []
    → more ≡ start ++ map f (numbers_below (n + 1))
one_more_behind f n x start items more so_far is pushed =
    pushed ∙ ap₂ (λ xs y. xs ++ y ∷ []) so_far is ∙ append_assoc start (map f (numbers_below n)) (f n ∷ [])
    ∙ ap (λ xs. start ++ xs) (sym (map-range_with_len_more f 0 n n (omega arith)))

flat_map-more : {A : Type 0} (f : ℕ → List A) (a n j : ℕ) → a + n ≡ j
    → flat_map f (range_with_len a (suc n)) ≡ flat_map f (range_with_len a n) ++ f j
flat_map-more f a zero j is = append-nil (f a) ∙ ap f (omega (arith, is))
flat_map-more f a (suc n) j is =
    ap (λ xs. f a ++ xs) (flat_map-more f (a + 1) n j (omega (arith, is)))
    ∙ sym (append_assoc (f a) (flat_map f (range_with_len (a + 1) n)) (f j))

next_is : (n : ℕ) → suc n ≡ n + 1
next_is n = omega arith

-- The same of lists, each behind those before it.
pub one_list_more : {A : Type 0} (f : ℕ → List A) (n : ℕ) (start items more : List A)
    → items ≡ start ++ flat_map f (numbers_below n) → more ≡ items ++ f n
    → more ≡ start ++ flat_map f (numbers_below (n + 1))
one_list_more f n start items more so_far pushed =
    pushed ∙ ap (λ xs. xs ++ f n) so_far ∙ append_assoc start (flat_map f (numbers_below n)) (f n)
    ∙ ap (λ xs. start ++ xs) (sym (flat_map-more f 0 n n (omega arith)))
    ∙ ap (λ m. start ++ flat_map f (numbers_below m)) (next_is n)
