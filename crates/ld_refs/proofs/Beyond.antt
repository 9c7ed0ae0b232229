-- Counting what stands among parts.
use Rattle.std.proofs.Common.{◌≡◌, ◌≢◌, ℕ, zero, suc, ◌+◌, ◌-◌, ◌<◌, List, [], ◌∷◌, drop, length, Bool, true, false, Some, slice_get, refl, sym, arith}
use Rattle.ld_json.specs.declared.code.Code.TheVariants.{TooMany}
use Rattle.ld_json.specs.declared.fault.ReadFault.{ReadFault}
use Rattle.ld_json.specs.Fault.{Says, SaysFirst}
use Rattle.ld_json.proofs.First.{says_more}
use Rattle.ld_walk.specs.declared.kind.Kind.{Kind}
use Rattle.ld_walk.specs.Parts.{Part}
use Rattle.ld_walk.specs.Places.{fault_at}
use Rattle.ld_refs.specs.Bounds.{beyond, declares, is_leaf, leaves_in}
use Rattle.ld_types.proofs.Stops.{parts_from, says_one}

uncounted : (n : ℕ) (test : Kind → Bool) (part : Part) (parts : List Part) → declares test part.what ≡ false → beyond n test (part ∷ parts) ≡ beyond n test parts
uncounted n test part parts is = rw is refl

counted : (n : ℕ) (test : Kind → Bool) (part : Part) (parts : List Part) → n ≢ 0 → declares test part.what ≡ true → beyond n test (part ∷ parts) ≡ beyond (n - 1) test parts
counted zero test part parts some is = absurd (some refl)
counted (suc n) test part parts some is = let less : suc n - 1 ≡ n = omega arith in rw (is, less) refl

pub beyond_skips : (n : ℕ) (test : Kind → Bool) (parts : List Part) (i : ℕ) (part : Part) → i < length parts → slice_get parts i ≡ Some part → declares test part.what ≡ false → beyond n test (drop (i + 1) parts) ≡ beyond n test (drop i parts)
beyond_skips n test parts i part within here is = rw (parts_from parts i part within here) (sym (uncounted n test part (drop (i + 1) parts) is))

pub beyond_counts : (n : ℕ) (test : Kind → Bool) (parts : List Part) (i : ℕ) (part : Part) → i < length parts → slice_get parts i ≡ Some part → n ≢ 0 → declares test part.what ≡ true → beyond (n - 1) test (drop (i + 1) parts) ≡ beyond n test (drop i parts)
beyond_counts n test parts i part within here some is = rw (parts_from parts i part within here) (sym (counted n test part (drop (i + 1) parts) some is))

-- The first part beyond the limit.
pub beyond_stops : (test : Kind → Bool) (parts : List Part) (i : ℕ) (part : Part) (fault : ReadFault) → i < length parts → slice_get parts i ≡ Some part → declares test part.what ≡ true → Says (fault_at TooMany part.at) fault → SaysFirst (beyond 0 test (drop i parts)) fault
beyond_stops test parts i part fault within here is says =
    rw (parts_from parts i part within here, is) (says_more (fault_at TooMany part.at ∷ []) (beyond 0 test (drop (i + 1) parts)) fault (says_one (fault_at TooMany part.at) fault says))

-- ---- leaves

pub leaf_more : (only : Bool) (parts : List Part) (i : ℕ) (part : Part) → i < length parts → slice_get parts i ≡ Some part → is_leaf only part.what ≡ true → leaves_in only (drop i parts) ≡ leaves_in only (drop (i + 1) parts) + 1
leaf_more only parts i part within here is = rw (parts_from parts i part within here, is) (omega arith)

pub no_leaf_more : (only : Bool) (parts : List Part) (i : ℕ) (part : Part) → i < length parts → slice_get parts i ≡ Some part → is_leaf only part.what ≡ false → leaves_in only (drop i parts) ≡ leaves_in only (drop (i + 1) parts)
no_leaf_more only parts i part within here is = rw (parts_from parts i part within here, is) refl
