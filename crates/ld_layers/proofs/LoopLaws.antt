-- The first loop of a graph.
use Rattle.std.proofs.Common.{◌≡◌, ℕ, zero, suc, ◌+◌, ◌<◌, ◌≤◌, inl, inr, List, [], ◌∷◌, length, get_or, Option, Some, Bool, true, false, cond, ◌&&◌, nat_eq, refl, sym, ap, subst, ◌∙◌, arith}
use Rattle.std.proofs.lemmas.Bool.{cases_lt, cases_eq, or_left, or_right, or_cases, and_parts, and_from, false≢true, eqb-true, eq-eqb}
use Rattle.std.proofs.lemmas.Iterator.Adapters.{position_from-zero}
use Rattle.std.proofs.lemmas.List.Elements.{All-cons, All-nil}
use Rattle.std.proofs.lemmas.List.FromFn.{get_or-range_with_len, length-range_with_len}
use Rattle.std.proofs.lemmas.List.Quantifiers.{position-Some}
use Rattle.std.specs.List.{All, list_any, position, position_from, range_with_len}
use Rattle.std.specs.Option.{unwrap_or}
use Rattle.ld_base.specs.Numbers.{numbers_below}
use Rattle.ld_cycles.specs.Graphs.{Graph, IsNext, HasWay, next_of, is_on_cycle, first_on_cycle}
use Rattle.ld_cycles.proofs.Bounded.{way_found}
use Rattle.ld_cycles.proofs.CycleLaws.{any_weaker}
use Rattle.ld_layers.specs.Layers.{leads_on}
use Rattle.ld_layers.specs.Loops.{GoesOn, IsLoop, IsNotAfter, BeginsWith, IsFirstLoop, way_in, next_towards, first_way}
use Rattle.ld_layers.proofs.LayerLaws.{leading_is_node}

-- ---- the first number that passes a test

-- What the search from a on for a number that passes gives where d passes.
record Search (test : ℕ → Bool) (found : Option ℕ) (d : ℕ) : Type 0 where
  number : ℕ
  is : found ≡ Some number
  passes : test number ≡ true
  first : number ≤ d

search_from : (test : ℕ → Bool) (n a d : ℕ) → a ≤ d → d < a + n → test d ≡ true
    → Search test (position_from test a (range_with_len a n)) d
search_from test zero a d from below passes = absurd (omega (arith, from, below))
search_from test (suc n) a d from below passes =
    by (λ other. search_from test n (a + 1) d (omega (arith, from, other)) (omega (arith, below)) passes) (test a) refl
  where
    by : ((a ≡ d → ⊥) → Search test (position_from test (a + 1) (range_with_len (a + 1) n)) d) → (b : Bool) → test a ≡ b → Search test (cond b (Some a) (position_from test (a + 1) (range_with_len (a + 1) n))) d
    by rest true is = record { number = a; is = refl; passes = is; first = from }
    by rest false is = rest (λ same. false≢true (sym is ∙ ap test same ∙ passes))

search_below : (test : ℕ → Bool) (n d : ℕ) → d < n → test d ≡ true → Search test (position test (numbers_below n)) d
search_below test n d below passes =
    subst (λ found. Search test found d) (sym (position_from-zero test (numbers_below n)))
    (search_from test n 0 d (omega arith) (omega (arith, below)) passes)

one_number : {m n : ℕ} → ◌≡◌ {A = Option ℕ} (Some m) (Some n) → m ≡ n
one_number same = cc

-- ---- ways

pub any_with : (p : ℕ → Bool) (xs : List ℕ) → list_any p xs ≡ true → (x : ℕ) × (list_any (λ c. nat_eq c x) xs ≡ true) × (p x ≡ true)
any_with p [] any = absurd (false≢true any)
any_with p (x ∷ xs) any = elim (or_cases (p x) (list_any p xs) any) [
  | inl here ↦ (x, or_left (nat_eq x x) (list_any (λ c. nat_eq c x) xs) (eq-eqb x x refl), here)
  | inr there ↦ (let found = any_with p xs there in (found.0, or_right (nat_eq x found.0) (list_any (λ c. nat_eq c found.0) xs) found.1, found.2))
]

pub any_at : (p : ℕ → Bool) (xs : List ℕ) (x : ℕ) → list_any (λ c. nat_eq c x) xs ≡ true → p x ≡ true → list_any p xs ≡ true
any_at p xs x there passes = any_weaker (λ c. nat_eq c x) p xs (λ c is. ap p (eqb-true c x is) ∙ passes) there

has_way : (g : Graph) (n a b : ℕ) → way_in g n a b ≡ true → HasWay g n a b
has_way g zero a b way = eqb-true a b way
has_way g (suc n) a b way =
    let found = any_with (λ c. way_in g n c b) (next_of g a) way in
    (found.0, found.1, has_way g n found.0 b found.2)

-- What a way leads from to a node is a node.
way_is_node : (g : Graph) (n a end : ℕ) → end < length g → way_in g n a end ≡ true → a < length g
way_is_node g zero a end within way = omega (arith, within, eqb-true a end way)
way_is_node g (suc n) a end within way =
    let found = any_with (λ c. way_in g n c end) (next_of g a) way in
    leading_is_node g a found.0 found.1

-- ---- the way that is taken

record Towards (g : Graph) (n a end : ℕ) : Type 0 where
  next : IsNext g a (next_towards g n a end)
  way : way_in g n (next_towards g n a end) end ≡ true
  first : (d : ℕ) → IsNext g a d → way_in g n d end ≡ true → next_towards g n a end ≤ d

towards : (g : Graph) (n a end : ℕ) → end < length g → way_in g (suc n) a end ≡ true → Towards g n a end
towards g n a end within way =
    let test = λ (c : ℕ). leads_on g a c && way_in g n c end in
    let some = any_with (λ c. way_in g n c end) (next_of g a) way in
    let search = λ (d : ℕ) (next : IsNext g a d) (leads : way_in g n d end ≡ true).
    search_below test (length g) d (way_is_node g n d end within leads) (and_from (leads_on g a d) (way_in g n d end) next leads) in
    let found = search some.0 some.1 some.2 in
    let is : next_towards g n a end ≡ found.number = ap (λ o. unwrap_or o 0) found.is in
    let parts = and_parts (leads_on g a found.number) (way_in g n found.number end) found.passes in
    record {
      next = subst (λ c. IsNext g a c) (sym is) parts.0;
      way = subst (λ c. way_in g n c end ≡ true) (sym is) parts.1;
      first = λ d next leads.
          let other = search d next leads in
          let same : found.number ≡ other.number = one_number (sym found.is ∙ other.is) in
          omega (arith, is, same, other.first);
    }

-- The way from a node on, after that node.
abbrev rest_of : Graph → ℕ → ℕ → ℕ → List ℕ
rest_of g n a end = first_way g n (next_towards g n a end) end

goes_on : (g : Graph) (n a end : ℕ) → end < length g → way_in g (suc n) a end ≡ true → GoesOn g a (rest_of g n a end) end
goes_on g zero a end within way =
    let on = towards g zero a end within way in
    subst (λ c. IsNext g a c) (eqb-true (next_towards g zero a end) end on.way) on.next
goes_on g (suc n) a end within way =
    let on = towards g (suc n) a end within way in
    (on.next, goes_on g n (next_towards g (suc n) a end) end within on.way)

long_as : (g : Graph) (n a end : ℕ) → length (first_way g n a end) ≡ n
long_as g zero a end = refl
long_as g (suc n) a end = let rest = long_as g n (next_towards g n a end) end in omega (arith, rest)

-- A list of nodes that goes on to the end is a way.
is_way : (g : Graph) (a end : ℕ) (more : List ℕ) → GoesOn g a more end → way_in g (suc (length more)) a end ≡ true
is_way g a end [] next = any_at (λ c. nat_eq c end) (next_of g a) end next (eq-eqb end end refl)
is_way g a end (b ∷ more) on =
    any_at (λ c. way_in g (suc (length more)) c end) (next_of g a) b on.0 (is_way g b end more on.1)

not_after : (g : Graph) (n a end : ℕ) (others : List ℕ) → end < length g → way_in g (suc n) a end ≡ true
    → length others ≡ n → GoesOn g a others end → IsNotAfter (rest_of g n a end) others
not_after g zero a end others within way counted goes = tt
not_after g (suc n) a end [] within way counted goes = absurd (omega (arith, counted))
not_after g (suc n) a end (d ∷ others) within way counted goes =
    let on = towards g (suc n) a end within way in
    let c = next_towards g (suc n) a end in
    let many : length others ≡ n = omega (arith, counted) in
    let other_way : way_in g (suc n) d end ≡ true = subst (λ m. way_in g (suc m) d end ≡ true) many (is_way g d end others goes.1) in
    elim (cases_eq c d) [
      | inl same ↦ inr (same, not_after g n c end others within on.way many (subst (λ x. GoesOn g x others end) (sym same) goes.1))
      | inr apart ↦ inl (omega (arith, apart, on.first d goes.0 other_way))
    ]

-- ---- the first loop

-- A node of a loop leads to itself.
on_cycle : (g : Graph) (a : ℕ) (more : List ℕ) → GoesOn g a more a → is_on_cycle g a ≡ true
on_cycle g a more goes =
    way_found g a a (length more, has_way g (suc (length more)) a a (is_way g a a more goes))

pub start_within : (g : Graph) (start : ℕ) → first_on_cycle g ≡ Some start → (start < length g) × (is_on_cycle g start ≡ true)
start_within g start is =
    let found = position-Some (is_on_cycle g) (numbers_below (length g)) start 0 is in
    let within : start < length g = omega (arith, found.0, length-range_with_len 0 (length g)) in
    let at : get_or (numbers_below (length g)) start 0 ≡ start = omega (arith, get_or-range_with_len 0 (length g) start 0 within) in
    (within, ap (is_on_cycle g) (sym at) ∙ found.1)

start_least : (g : Graph) (start a : ℕ) → first_on_cycle g ≡ Some start → is_on_cycle g a ≡ true → a < length g → start ≤ a
start_least g start a is on within =
    let found = search_below (is_on_cycle g) (length g) a within on in
    let same : found.number ≡ start = one_number (sym found.is ∙ is) in
    omega (arith, same, found.first)

loop_is_node : (g : Graph) (a : ℕ) (more : List ℕ) → GoesOn g a more a → a < length g
loop_is_node g a [] goes = leading_is_node g a a goes
loop_is_node g a (b ∷ more) goes = leading_is_node g a b goes.0

pub is_first_loop : (g : Graph) (start n : ℕ) → first_on_cycle g ≡ Some start → way_in g (suc n) start start ≡ true
    → ((steps : ℕ) → 0 < steps → steps < suc n → way_in g steps start start ≡ false)
    → IsFirstLoop g (first_way g (suc n) start start)
is_first_loop g start n is way none =
    let within = (start_within g start is).0 in
    record {
      start = start;
      begins = refl;
      closes = goes_on g n start start within way;
      least = least_of;
      shortest = short_of;
      first = first_of within;
    }
  where
    least_of : (other : List ℕ) (a : ℕ) → IsLoop g other → BeginsWith other a → start ≤ a
    least_of [] a loop begins = absurd begins
    least_of (x ∷ more) a loop begins =
        let less = start_least g start x is (on_cycle g x more loop) (loop_is_node g x more loop) in
        omega (arith, less, begins)

    long : (more : List ℕ) → GoesOn g start more start → suc n ≤ suc (length more)
    long more goes = elim (cases_lt (suc (length more)) (suc n)) [
      | inl fewer ↦ absurd (false≢true (sym (none (suc (length more)) (omega arith) fewer) ∙ is_way g start start more goes))
      | inr enough ↦ enough
    ]

    short_of : (other : List ℕ) → IsLoop g other → BeginsWith other start → length (first_way g (suc n) start start) ≤ length other
    short_of [] loop begins = absurd begins
    short_of (x ∷ more) loop begins =
        let goes : GoesOn g start more start = subst (λ y. GoesOn g y more y) begins loop in
        omega (arith, long more goes, long_as g (suc n) start start)

    first_of : start < length g → (other : List ℕ) → IsLoop g other → BeginsWith other start
        → length other ≡ length (first_way g (suc n) start start) → IsNotAfter (first_way g (suc n) start start) other
    first_of within [] loop begins counted = absurd begins
    first_of within (x ∷ more) loop begins counted =
        let goes : GoesOn g start more start = subst (λ y. GoesOn g y more y) begins loop in
        inr (sym begins, not_after g n start start more within way (omega (arith, counted, long_as g (suc n) start start)) goes)

-- ---- the nodes of a loop

going_within : (g : Graph) (a : ℕ) (more : List ℕ) (end : ℕ) → GoesOn g a more end
    → All (λ node. node < length g) (a ∷ more)
going_within g a [] end goes =
    All-cons (λ node. node < length g) a [] (leading_is_node g a end goes) (All-nil (λ node. node < length g))
going_within g a (b ∷ more) end goes =
    All-cons (λ node. node < length g) a (b ∷ more) (leading_is_node g a b goes.0) (going_within g b more end goes.1)

-- They are nodes of the graph.
pub loop_within : (g : Graph) (loop : List ℕ) → IsLoop g loop → All (λ node. node < length g) loop
loop_within g [] closes = absurd closes
loop_within g (a ∷ more) closes = going_within g a more a closes
