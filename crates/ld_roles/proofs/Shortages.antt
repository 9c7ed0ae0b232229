-- The first role that is short, in a walk over the roles.
use Rattle.std.proofs.Common.{◌≡◌, ℕ, zero, suc, ◌+◌, ◌-◌, ◌<◌, ◌≤◌, List, [], ◌∷◌, ◌++◌, filter, reverse, Bool, true, false, cond, Option, Some, None, option_map, slice_get, refl, sym, ap, ◌∙◌, arith}
use Rattle.std.proofs.lemmas.List.{reverse-append}
use Rattle.std.proofs.lemmas.List.Elements.{filter-append}
use Rattle.std.specs.List.{range_with_len, filter_map}
use Rattle.std.specs.Option.{option_or}
use Rattle.ld_roles.proofs.Numbers.{rest_more, rest_none}

first_of : {A : Type 0} (f : ℕ → Option A) (found : Option A) (i : ℕ) (rest : List ℕ) → f i ≡ found → slice_get (filter_map f (i ∷ rest)) 0 ≡ option_or found (slice_get (filter_map f rest) 0)
first_of f None i rest is = rw is refl
first_of f (Some x) i rest is = rw is refl

-- What the first number gives that gives something: the next one, or one behind it.
pub first_more : {A : Type 0} (f : ℕ → Option A) (i n : ℕ) → i < n → slice_get (filter_map f (range_with_len i (n - i))) 0 ≡ option_or (f i) (slice_get (filter_map f (range_with_len (i + 1) (n - (i + 1)))) 0)
first_more f i n within = rw (rest_more i n within) (first_of f (f i) i _ refl)

pub first_none : {A : Type 0} (f : ℕ → Option A) (i n : ℕ) → n ≤ i → slice_get (filter_map f (range_with_len i (n - i))) 0 ≡ None
first_none f i n past = rw (rest_none i n past) refl

range_more : (a n : ℕ) → range_with_len a (n + 1) ≡ range_with_len a n ++ (a + n) ∷ []
range_more a zero = let same : a ≡ a + 0 = omega arith in ap (λ last. last ∷ []) same
range_more a (suc n) =
    let same : (a + 1) + n ≡ a + suc n = omega arith in
    let more : suc n + 1 ≡ suc (n + 1) = omega arith in
    rw more (ap (λ rest. a ∷ rest) (range_more (a + 1) n ∙ ap (λ last. range_with_len (a + 1) n ++ last ∷ []) same))

last_filtered : (which : ℕ → Bool) (b : Bool) (n : ℕ) → which n ≡ b → reverse (filter which (n ∷ [])) ≡ cond b (n ∷ []) []
last_filtered which true n is = rw is refl
last_filtered which false n is = rw is refl

first_chosen : {A : Type 0} (f : ℕ → Option A) (b : Bool) (n : ℕ) (rest : List ℕ) → slice_get (filter_map f (cond b (n ∷ []) [] ++ rest)) 0 ≡ cond b (option_or (f n) (slice_get (filter_map f rest) 0)) (slice_get (filter_map f rest) 0)
first_chosen f true n rest = first_of f (f n) n rest refl
first_chosen f false n rest = refl

-- The same of the chosen numbers below a count, from the last one down.
pub down_more : {A : Type 0} (f : ℕ → Option A) (which : ℕ → Bool) (n : ℕ) → slice_get (filter_map f (reverse (filter which (range_with_len 0 (n + 1))))) 0 ≡ cond (which n) (option_or (f n) (slice_get (filter_map f (reverse (filter which (range_with_len 0 n)))) 0)) (slice_get (filter_map f (reverse (filter which (range_with_len 0 n)))) 0)
down_more f which n =
    let numbers = range_with_len 0 n in
    let same : 0 + n ≡ n = omega arith in
    let split : reverse (filter which (range_with_len 0 (n + 1))) ≡ cond (which n) (n ∷ []) [] ++ reverse (filter which numbers) =
    ap (λ all. reverse (filter which all)) (range_more 0 n ∙ ap (λ last. numbers ++ last ∷ []) same)
    ∙ ap reverse (filter-append which numbers (n ∷ []))
    ∙ reverse-append (filter which numbers) (filter which (n ∷ []))
    ∙ ap (λ front. front ++ reverse (filter which numbers)) (last_filtered which (which n) n refl) in
    ap (λ all. slice_get (filter_map f all) 0) split ∙ first_chosen f (which n) n (reverse (filter which numbers))

either_some : {A B : Type 0} (seen : A → B) (one rest : Option A) (b : B) → option_map seen one ≡ Some b → option_map seen (option_or one rest) ≡ Some b
either_some seen None rest b is = cc
either_some seen (Some x) rest b is = is

either_none : {A B : Type 0} (seen : A → B) (one rest : Option A) → option_map seen one ≡ None → option_map seen rest ≡ option_map seen (option_or one rest)
either_none seen None rest is = refl
either_none seen (Some x) rest is = cc

-- The next number gives something.
pub found_next : {A B : Type 0} (seen : A → B) (f : ℕ → Option A) (i n : ℕ) (b : B) → i < n → option_map seen (f i) ≡ Some b → option_map seen (slice_get (filter_map f (range_with_len i (n - i))) 0) ≡ Some b
found_next seen f i n b within is = rw (first_more f i n within) (either_some seen (f i) _ b is)

-- The next number gives nothing.
pub found_later : {A B : Type 0} (seen : A → B) (f : ℕ → Option A) (i n : ℕ) → i < n → option_map seen (f i) ≡ None → option_map seen (slice_get (filter_map f (range_with_len (i + 1) (n - (i + 1)))) 0) ≡ option_map seen (slice_get (filter_map f (range_with_len i (n - i))) 0)
found_later seen f i n within is = rw (first_more f i n within) (either_none seen (f i) _ is)

-- The last number is chosen, and gives something.
pub found_last : {A B : Type 0} (seen : A → B) (f : ℕ → Option A) (which : ℕ → Bool) (m n : ℕ) (b : B) → n + 1 ≡ m → which n ≡ true → option_map seen (f n) ≡ Some b → option_map seen (slice_get (filter_map f (reverse (filter which (range_with_len 0 m)))) 0) ≡ Some b
found_last seen f which m n b next chosen is = rw (sym next, down_more f which n, chosen) (either_some seen (f n) _ b is)

-- The last number is chosen, and gives nothing.
pub found_before : {A B : Type 0} (seen : A → B) (f : ℕ → Option A) (which : ℕ → Bool) (m n : ℕ) → n + 1 ≡ m → which n ≡ true → option_map seen (f n) ≡ None → option_map seen (slice_get (filter_map f (reverse (filter which (range_with_len 0 n)))) 0) ≡ option_map seen (slice_get (filter_map f (reverse (filter which (range_with_len 0 m)))) 0)
found_before seen f which m n next chosen is = rw (sym next, down_more f which n, chosen) (either_none seen (f n) _ is)

-- The last number is not chosen.
pub found_beside : {A B : Type 0} (seen : A → B) (f : ℕ → Option A) (which : ℕ → Bool) (m n : ℕ) → n + 1 ≡ m → which n ≡ false → option_map seen (slice_get (filter_map f (reverse (filter which (range_with_len 0 n)))) 0) ≡ option_map seen (slice_get (filter_map f (reverse (filter which (range_with_len 0 m)))) 0)
found_beside seen f which m n next chosen = rw (sym next, down_more f which n, chosen) refl
