-- A day of a year from 1 on is in the calendar of this crate where it is in jiff's.
use Rattle.std.proofs.Common.{◌≡◌, ℕ, Bool, true, false, ◌&&◌, cond, refl, arith, ℤ, pos, ◌<◌, ◌≤◌, Some, None, w8, w16, w32, w64, to_z, of_z, FitsSigned, to_z-of_z, ◌∙◌}
use Rattle.std.proofs.lemmas.Bool.Decides.{nat_tests}
use Rattle.std.proofs.lemmas.Int.{ints, to_z_pos}
use Rattle.std.specs.Int.{is_in_range}
use Rattle.jiff_core.specs.declared.civil.date.Date.{Date}
use Rattle.jiff_core.specs.Date.{epoch_day, IsYmd}
use Rattle.jiff_core.proofs.SignedLemmas.{signed_arith}
use Rattle.jiff_core.specs.Calendar.{IsDate, IsEpochDay, IsBetween, IsYear, days_in_month, days_from_civil}
use Rattle.ld_value.specs.Calendar.{day_of}

if_none : {X : Type 0} (b : Bool) (x : X) → ¬ (b ≡ true) → None ≡ cond b (Some x) None
if_none true x h = absurd (h refl)
if_none false x h = refl

if_some : {X : Type 0} (b : Bool) (x : X) → b ≡ true → Some x ≡ cond b (Some x) None
if_some true x h = refl
if_some false x h = cc

test_facts : (y m d long : ℕ) → is_in_range 1 9999 y && (is_in_range 1 12 m && is_in_range 1 long d) ≡ true → IsYear (pos y) × IsBetween (pos 1) (pos 12) (pos m) × IsBetween (pos 1) (pos long) (pos d)
test_facts y m d long h =
    let low : 1 ≤ y = grind (arith, nat_tests) in
    let high : y ≤ 9999 = grind (arith, nat_tests) in
    let m₁ : 1 ≤ m = grind (arith, nat_tests) in
    let m₂ : m ≤ 12 = grind (arith, nat_tests) in
    let d₁ : 1 ≤ d = grind (arith, nat_tests) in
    let d₂ : d ≤ long = grind (arith, nat_tests) in
    ((omega (arith, ints), omega (arith, ints)), (omega (arith, ints), omega (arith, ints)), (omega (arith, ints), omega (arith, ints)))

facts_test : (y m d long : ℕ) → 1 ≤ y → IsYear (pos y) × IsBetween (pos 1) (pos 12) (pos m) × IsBetween (pos 1) (pos long) (pos d) → is_in_range 1 9999 y && (is_in_range 1 12 m && is_in_range 1 long d) ≡ true
facts_test y m d long first h =
    let high : y ≤ 9999 = omega (arith, ints) in
    let m₁ : 1 ≤ m = omega (arith, ints) in
    let m₂ : m ≤ 12 = omega (arith, ints) in
    let d₁ : 1 ≤ d = omega (arith, ints) in
    let d₂ : d ≤ long = omega (arith, ints) in
    grind (arith, nat_tests)

pub no_day : (y m d : ℕ) → ¬ (IsDate (pos y) (pos m) (pos d)) → None ≡ day_of y m d
unfolding day_of
no_day y m d h = if_none _ _ (λ yes. h (test_facts y m d (days_in_month (pos y) m) yes))

pub the_day : (y m d : ℕ) → 1 ≤ y → IsDate (pos y) (pos m) (pos d) → Some (days_from_civil (pos y) m d) ≡ day_of y m d
unfolding day_of
the_day y m d first h = if_some _ _ (facts_test y m d (days_in_month (pos y) m) first h)

pub no_year_zero : (y m d : ℕ) → y ≡ 0 → None ≡ day_of y m d
unfolding day_of
no_year_zero y m d h = rw h refl

-- the same of the numbers as jiff takes them
pub no_day_cast : (y m d : ℕ) → y < 10000 → m < 100 → d < 100 → ¬ (IsDate (to_z w16 y) (to_z w8 m) (to_z w8 d)) → None ≡ day_of y m d
no_day_cast y m d small_y small_m small_d h =
    let ey : to_z w16 y ≡ pos y = to_z_pos w16 y (omega arith) in
    let em : to_z w8 m ≡ pos m = to_z_pos w8 m (omega arith) in
    let ed : to_z w8 d ≡ pos d = to_z_pos w8 d (omega arith) in
    no_day y m d (λ is. h (rw (ey, em, ed) is))

is_date_of : (date : Date) → IsDate date.year (pos date.month) (pos date.day)
is_date_of date =
    let m = date.month_in in
    let d = date.day_in in
    (date.year_in, (omega (arith, signed_arith), omega (arith, signed_arith)), (omega (arith, signed_arith), omega (arith, signed_arith)))

pub the_day_cast : (y m d : ℕ) (date : Date) → 1 ≤ y → y < 10000 → m < 100 → d < 100 → IsYmd (to_z w16 y) (to_z w8 m) (to_z w8 d) date → Some (epoch_day date) ≡ day_of y m d
the_day_cast y m d date first small_y small_m small_d h =
    let ey : to_z w16 y ≡ pos y = to_z_pos w16 y (omega arith) in
    let em : to_z w8 m ≡ pos m = to_z_pos w8 m (omega arith) in
    let ed : to_z w8 d ≡ pos d = to_z_pos w8 d (omega arith) in
    let year : date.year ≡ pos y = h.0 ∙ ey in
    let month : date.month ≡ m = cc (h.1 ∙ em) in
    let day : date.day ≡ d = cc (h.2 ∙ ed) in
    let civil = rw (year, month, day) at (is_date_of date) in
    rw (year, month, day) (the_day y m d first civil)

-- a day number passes through the smaller types
pub day_number_casts : (z : ℤ) → IsEpochDay z → to_z w64 (of_z w64 (to_z w32 (of_z w32 z))) ≡ z
day_number_casts z h =
    let f : FitsSigned w32 z = omega (arith, signed_arith) in
    let g : FitsSigned w64 z = omega (arith, signed_arith) in
    simp to_z-of_z
