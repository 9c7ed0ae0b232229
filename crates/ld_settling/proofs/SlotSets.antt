-- Slots that are put into a list one after another, each once.
use Rattle.std.proofs.Common.{◌≡◌, ℕ, suc, ◌+◌, ◌<◌, ◌≤◌, List, [], ◌∷◌, ◌++◌, fold, length, length-append, take, get_or, Contains, Bool, true, false, ◌||◌, if◌then◌else◌, nat_eq, refl, sym, ap, subst, ◌∙◌, arith}
use Rattle.std.proofs.Math.Seq.{take-suc}
use Rattle.std.proofs.lemmas.Bool.Decides.{Decides-eqb}
use Rattle.std.proofs.lemmas.Cmp.{nat_eq_equiv}
use Rattle.std.proofs.lemmas.List.{get_or-take, get_or_default, length-take-le}
use Rattle.std.proofs.lemmas.List.Folds.{list_any-append}
use Rattle.std.proofs.lemmas.Map.Keys.{IsDistinct-push}
use Rattle.std.proofs.lemmas.Map.Made.{is_member-Decides, length-from_keys}
use Rattle.std.specs.List.{IsDistinct, list_any}
use Rattle.std.specs.Set.{distinct_count}
use Rattle.ld_graph.specs.Slots.{AreDistinct}
use Rattle.ld_settling.specs.Gathering.{with_slot}

abbrev has : List ℕ → ℕ → Bool
has slots slot = list_any (nat_eq slot) slots

pub found : (slots : List ℕ) (slot : ℕ) → Contains slots slot → has slots slot ≡ true
found slots slot there = (is_member-Decides Decides-eqb slots slot).1 there

pub finds : (slots : List ℕ) (slot : ℕ) → has slots slot ≡ true → Contains slots slot
finds slots slot is = (is_member-Decides Decides-eqb slots slot).0 is

no_both : {A : Type 0} → true ≡ false → A
no_both p = absurd (cc)

missing : (slots : List ℕ) (slot : ℕ) → has slots slot ≡ false → Contains slots slot → ⊥
missing slots slot is there = no_both (sym (found slots slot there) ∙ is)

-- What `put` ensures, in one word.
pub put_is : (slots new : List ℕ) (slot : ℕ) → (Contains slots slot → new ≡ slots)
    → ((Contains slots slot → ⊥) → new ≡ slots ++ slot ∷ []) → new ≡ with_slot slots slot
put_is slots new slot kept added = by (has slots slot) refl
  where
    by : (b : Bool) → has slots slot ≡ b → new ≡ (if b then slots else slots ++ slot ∷ [])
    by true is = kept (finds slots slot is)
    by false is = added (missing slots slot is)

-- A list without the slot has no equal of it.
not_found : (slots : List ℕ) (slot : ℕ) → (Contains slots slot → ⊥) → has slots slot ≡ false
not_found slots slot none = by (has slots slot) refl
  where
    by : (b : Bool) → has slots slot ≡ b → b ≡ false
    by true is = absurd (none (finds slots slot is))
    by false is = refl

-- So it gets longer by the slot.
pub added_length : (slots : List ℕ) (slot : ℕ) → (Contains slots slot → ⊥) → length (with_slot slots slot) ≡ length slots + 1
added_length slots slot none =
    ap (λ b. length (if b then slots else slots ++ slot ∷ [])) (not_found slots slot none)
    ∙ length-append slots (slot ∷ [])

-- A slot of a list without repeats is not among those before it.
pub not_before : (slots : List ℕ) (i : ℕ) → AreDistinct slots → i < length slots
    → Contains (take i slots) (get_or slots i 0) → ⊥
not_before slots i distinct within there =
    let k = there.0 in
    let long = length-take-le i slots (omega (arith, within)) in
    let below : k < i = omega (arith, there.1, long) in
    let inside : k < length slots = omega (arith, below, within) in
    let read = sym (get_or-take i slots k (get_or slots i 0) below) ∙ there.2 in
    let same = distinct k i inside within (get_or_default slots k 0 (get_or slots i 0) inside ∙ read) in
    omega (arith, same, below)

-- ---- lists with more slots

grows_once : (slots : List ℕ) (slot : ℕ) → length slots ≤ length (with_slot slots slot)
grows_once slots slot = by (has slots slot)
  where
    by : (b : Bool) → length slots ≤ length (if b then slots else slots ++ slot ∷ [])
    by true = omega arith
    by false = omega (arith, length-append slots (slot ∷ []))

pub grows : (slots more : List ℕ) → length slots ≤ length (fold with_slot slots more)
grows slots [] = omega arith
grows slots (slot ∷ more) = omega (arith, grows_once slots slot, grows (with_slot slots slot) more)

distinct_once : (slots : List ℕ) (slot : ℕ) → IsDistinct nat_eq slots
    → IsDistinct nat_eq (with_slot slots slot)
distinct_once slots slot distinct = by (has slots slot) refl
  where
    by : (b : Bool) → has slots slot ≡ b → IsDistinct nat_eq (if b then slots else slots ++ slot ∷ [])
    by true is = distinct
    by false is = IsDistinct-push nat_eq_equiv slots slot distinct is

stays_distinct : (slots more : List ℕ) → IsDistinct nat_eq slots → IsDistinct nat_eq (fold with_slot slots more)
stays_distinct slots [] distinct = distinct
stays_distinct slots (slot ∷ more) distinct =
    stays_distinct (with_slot slots slot) more (distinct_once slots slot distinct)

has_once : (slots : List ℕ) (slot k : ℕ) → has (with_slot slots slot) k ≡ (has slots k || nat_eq k slot)
has_once slots slot k = by (has slots slot) refl
  where
    or_same : (a b : Bool) → (b ≡ true → a ≡ true) → a ≡ (a || b)
    or_same true b to = refl
    or_same false true to = to refl
    or_same false false to = refl

    or_false : (b : Bool) → (b || false) ≡ b
    or_false true = refl
    or_false false = refl

    same : nat_eq k slot ≡ true → k ≡ slot
    same is = (Decides-eqb k slot).0 is

    by : (b : Bool) → has slots slot ≡ b
        → has (if b then slots else slots ++ slot ∷ []) k ≡ (has slots k || nat_eq k slot)
    by true is = or_same (has slots k) (nat_eq k slot) (λ e. ap (has slots) (same e) ∙ is)
    by false is =
        list_any-append (nat_eq k) slots (slot ∷ [])
        ∙ ap (λ b. has slots k || b) (or_false (nat_eq k slot))

-- The list has a slot exactly if it had it or got it.
pub has_either : (slots more : List ℕ) (k : ℕ) → has (fold with_slot slots more) k ≡ (has slots k || has more k)
has_either slots [] k = by (has slots k)
  where
    by : (b : Bool) → b ≡ (b || false)
    by true = refl
    by false = refl
has_either slots (slot ∷ more) k =
    has_either (with_slot slots slot) more k
    ∙ ap (λ b. b || has more k) (has_once slots slot k)
    ∙ assoc (has slots k) (nat_eq k slot) (has more k)
  where
    assoc : (a b c : Bool) → ((a || b) || c) ≡ (a || (b || c))
    assoc true b c = refl
    assoc false b c = refl

-- ---- from an empty list on

pub slots_only : (slots : List ℕ) (k : ℕ) → Contains (fold with_slot [] slots) k → Contains slots k
slots_only slots k there =
    finds slots k (sym (has_either [] slots k) ∙ found (fold with_slot [] slots) k there)

pub slots_all : (slots : List ℕ) (k : ℕ) → Contains slots k → Contains (fold with_slot [] slots) k
slots_all slots k there = finds (fold with_slot [] slots) k (has_either [] slots k ∙ found slots k there)

pub slots_count : (slots : List ℕ) → length (fold with_slot [] slots) ≡ distinct_count nat_eq slots
unfolding IsDistinct
slots_count slots =
    length-from_keys nat_eq_equiv (fold with_slot [] slots) slots (stays_distinct [] slots tt) (has_either [] slots)

-- One more slot of a list without repeats is put at the end of those before it.
pub one_more : (slots wide new : List ℕ) (i : ℕ) → AreDistinct slots → i < length slots
    → wide ≡ take i slots
    → ((Contains wide (get_or slots i 0) → ⊥) → new ≡ wide ++ get_or slots i 0 ∷ [])
    → new ≡ take (i + 1) slots
one_more slots wide new i distinct within is added =
    added (λ there. not_before slots i distinct within (subst (λ xs. Contains xs (get_or slots i 0)) is there))
    ∙ ap (λ xs. xs ++ get_or slots i 0 ∷ []) is
    ∙ sym (take-suc slots i 0 within)
    ∙ ap (λ n. take n slots) {x = suc i} (omega arith)
