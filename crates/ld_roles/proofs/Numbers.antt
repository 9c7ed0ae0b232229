-- A walk over the numbers below a count.
use Rattle.std.proofs.Common.{◌≡◌, ℕ, suc, ◌+◌, ◌-◌, ◌<◌, ◌≤◌, List, [], ◌∷◌, filter, Bool, true, false, ◌&&◌, ◌||◌, refl, ap, ◌∙◌, arith, length, map, slice_get, Some, reverse}
use Rattle.std.proofs.lemmas.List.{reverse-append}
use Rattle.std.proofs.lemmas.List.Folds.{list_any-append}
use Rattle.std.proofs.lemmas.List.FromFn.{length-map-range_with_len, get_or-map-range_with_len}
use Rattle.std.proofs.lemmas.Option.{slice_get-get_or}
use Rattle.ld_roles.specs.RoleBounds.{RoleBounds}
use Rattle.ld_roles.specs.Seats.{IsSeated, is_member_with}
use Rattle.ld_roles.specs.declared.seat.Seat.{Seat}
use Rattle.std.specs.List.{range_with_len, list_any}

-- The next number, and those behind it.
pub rest_more : (i n : ℕ) → i < n → range_with_len i (n - i) ≡ i ∷ range_with_len (i + 1) (n - (i + 1))
rest_more i n within =
    let left : n - i ≡ suc (n - (i + 1)) = omega arith in
    rw left refl

pub rest_none : (i n : ℕ) → n ≤ i → range_with_len i (n - i) ≡ []
rest_none i n past =
    let left : n - i ≡ 0 = omega arith in
    rw left refl

one_filtered : (test : ℕ → Bool) (which : ℕ → Bool) (b : Bool) (i : ℕ) (rest : List ℕ) → which i ≡ b → list_any test (filter which (i ∷ rest)) ≡ ((b && test i) || list_any test (filter which rest))
one_filtered test which true i rest is = rw is refl
one_filtered test which false i rest is = rw is refl

-- Whether one of the chosen numbers passes the test: the next one, or one behind it.
pub any_more : (test : ℕ → Bool) (which : ℕ → Bool) (i n : ℕ) → i < n → list_any test (filter which (range_with_len i (n - i))) ≡ ((which i && test i) || list_any test (filter which (range_with_len (i + 1) (n - (i + 1)))))
any_more test which i n within = rw (rest_more i n within) (one_filtered test which (which i) i _ refl)

pub any_none : (test : ℕ → Bool) (which : ℕ → Bool) (i n : ℕ) → n ≤ i → list_any test (filter which (range_with_len i (n - i))) ≡ false
any_none test which i n past = rw (rest_none i n past) refl

-- Of each role it is noted whether the person is a member.
pub count_noted : {roles : List RoleBounds} {seat : Seat} → IsSeated roles seat → length seat.member.items ≡ length roles
count_noted {roles} {seat} seated =
    ap length seated.member ∙ length-map-range_with_len (is_member_with roles seat.holds.items) 0 (length roles)

-- Which is noted of the role of this number.
pub noted_of : {roles : List RoleBounds} {seat : Seat} → IsSeated roles seat → (role : ℕ) → role < length roles → slice_get seat.member.items role ≡ Some (is_member_with roles seat.holds.items role)
noted_of {roles} {seat} seated role within =
    rw seated.member (slice_get-get_or (map (is_member_with roles seat.holds.items) (range_with_len 0 (length roles))) role false (omega (arith, within, length-map-range_with_len (is_member_with roles seat.holds.items) 0 (length roles))) ∙ ap Some (get_or-map-range_with_len (is_member_with roles seat.holds.items) 0 (length roles) role role false within (omega arith)))

-- Whether a number passes the test: the next one, or one behind it.
pub each_more : (test : ℕ → Bool) (i n : ℕ) → i < n → list_any test (range_with_len i (n - i)) ≡ (test i || list_any test (range_with_len (i + 1) (n - (i + 1))))
each_more test i n within = rw (rest_more i n within) refl

pub each_none : (test : ℕ → Bool) (i n : ℕ) → n ≤ i → list_any test (range_with_len i (n - i)) ≡ false
each_none test i n past = rw (rest_none i n past) refl

-- The order does not matter.
pub any_reverse : (test : ℕ → Bool) (numbers : List ℕ) → list_any test (reverse numbers) ≡ list_any test numbers
any_reverse test [] = refl
any_reverse test (n ∷ numbers) =
    rw (reverse-append (n ∷ []) numbers, list_any-append test (reverse numbers) (n ∷ []), any_reverse test numbers) (either (list_any test numbers) (test n))
  where
    either : (a b : Bool) → (a || (b || false)) ≡ (b || a)
    either true true = refl
    either true false = refl
    either false true = refl
    either false false = refl
