-- The year, month and day that a day number falls on.
use Rattle.std.proofs.Common.{◌≡◌, ℕ, suc, ◌+◌, ◌-◌, ◌<◌, ◌≤◌, Bool, true, false, refl, sym, ◌∙◌, arith, inl, inr, ℤ, pos, neg_ℤ, ◌+ℤ◌, ◌-ℤ◌, ◌≤ℤ◌, unsigned_abs, add-one, ap, w16, w64, to_z, of_z, to_z-of_z, FitsSigned}
use Rattle.std.proofs.lemmas.Bool.{cases_order}
use Rattle.std.specs.Prelude.{int_le}
use Rattle.jiff_core.specs.declared.civil.date.Date.{Date}
use Rattle.jiff_core.specs.Calendar.{days_from_civil, days_in_month, day_count}
use Rattle.jiff_core.specs.Date.{epoch_day}
use Rattle.jiff_core.proofs.SignedLemmas.{signed_arith, one_part}
use Rattle.jiff_core.proofs.MarchLemmas.{day_count-early}
use Rattle.jiff_core.proofs.CalendarLemmas.{days_from_civil-day_count, days_in_month_bounds, day_count-day_of_year, day_count-later_year}
use Rattle.jiff_core.proofs.DateLemmas.{days_from_civil-day, days_from_civil-next_month, days_from_civil-next_year, days_from_civil-max, epoch_day_injective, epoch_day_range}
use Rattle.ld_value.specs.Calendar.{IsDay, year_of, month_of, day_of_month}
use Rattle.ld_value.proofs.Choices.{bool_cases}
use Rattle.ld_value.proofs.LastPassing.{IsLastPassing, last_passing_is}

begin : days_from_civil (pos 1) 1 1 ≡ neg_ℤ (pos 719162)
begin = omega (arith, signed_arith, days_from_civil-day_count (pos 1) 1 1, day_count-early (pos 1) 10000 1 1 refl (omega arith) (omega arith) (omega arith))

abbrev year_begun : ℤ → ℕ → Bool
year_begun day year = int_le (days_from_civil (pos year) 1 1) day

abbrev month_begun : ℤ → ℕ → ℕ → Bool
month_begun day year month = int_le (days_from_civil (pos year) month 1) day

le_passes : (a b : ℤ) → a ≤ℤ b → int_le a b ≡ true
le_passes a b h =
    elim (bool_cases (int_le a b)) [
      | inl goes ↦ goes
      | inr stops ↦ absurd (omega (arith, signed_arith, stops))
    ]

year_is : (day : ℤ) → IsDay day → IsLastPassing 9999 (year_begun day) (year_of day)
unfolding year_of
year_is day h = last_passing_is 9999 (year_begun day) (omega arith) (le_passes _ day (rw begin h.0))

-- 31 December, and the next year's first day
year_end : (y : ℕ) → days_from_civil (pos (suc y)) 1 1 ≡ days_from_civil (pos y) 12 31 +ℤ pos 1
year_end y = days_from_civil-next_year (pos y) (pos (suc y)) (omega (arith, signed_arith)) (omega (arith, signed_arith))

-- a day that comes before the next year's first comes at this one's last or before it
year_closed : (day : ℤ) (y : ℕ) → day ≤ℤ pos 2932896 → y ≤ 9999 → (y < 9999 → int_le (days_from_civil (pos (suc y)) 1 1) day ≡ false) → day ≤ℤ days_from_civil (pos y) 12 31
year_closed day y high within later =
    elim (cases_order y 9999) [
      | inl same ↦ rw (same, days_from_civil-max) high
      | inr (inl less) ↦ let after = later less in omega (arith, signed_arith, year_end y)
      | inr (inr more) ↦ absurd (omega arith)
    ]

-- the year begins by the day, and the day comes before its end
year_around : (day : ℤ) → IsDay day → (days_from_civil (pos (year_of day)) 1 1 ≤ℤ day) × (day ≤ℤ days_from_civil (pos (year_of day)) 12 31)
year_around day h =
    let is = year_is day h in
    (omega (arith, signed_arith, is.here), year_closed day (year_of day) h.1 is.within (λ less. is.after (suc (year_of day)) (omega arith) less))

month_is : (day : ℤ) → IsDay day → IsLastPassing 12 (month_begun day (year_of day)) (month_of day)
unfolding month_of
month_is day h = last_passing_is 12 (month_begun day (year_of day)) (omega arith) (le_passes _ day (year_around day h).0)

-- the last day of a month, and the first of the next
month_end : (y m : ℕ) → 1 ≤ m → days_from_civil (pos y) (suc m) 1 ≡ days_from_civil (pos y) m (days_in_month (pos y) m) +ℤ pos 1
month_end y m first = rw (add-one m) at (days_from_civil-next_month (pos y) m (days_in_month (pos y) m) first refl)

month_closed : (day : ℤ) (y m : ℕ) → day ≤ℤ days_from_civil (pos y) 12 31 → 1 ≤ m → m ≤ 12 → (m < 12 → int_le (days_from_civil (pos y) (suc m) 1) day ≡ false) → day ≤ℤ days_from_civil (pos y) m (days_in_month (pos y) m)
month_closed day y m high first within later =
    elim (cases_order m 12) [
      | inl same ↦ rw same high
      | inr (inl less) ↦ let after = later less in omega (arith, signed_arith, month_end y m first)
      | inr (inr more) ↦ absurd (omega arith)
    ]

-- what the parts of a day are
pub record IsCut (day : ℤ) (y m d : ℕ) : Type 0 where
  pub year_first : 1 ≤ y
  pub year_last : y ≤ 9999
  pub month_first : 1 ≤ m
  pub month_last : m ≤ 12
  pub day_first : 1 ≤ d
  pub day_last : d ≤ days_in_month (pos y) m
  pub number : days_from_civil (pos y) m d ≡ day

-- the distance back to an earlier number
distance : (a b : ℤ) → b ≤ℤ a → b +ℤ pos (unsigned_abs (a -ℤ b)) ≡ a
distance a b h = omega (arith, signed_arith, one_part (a -ℤ b))

day_in_month : (day start here close : ℤ) (long d : ℕ) → day ≤ℤ close → 1 ≤ d → start +ℤ pos (d - 1) ≡ day → here +ℤ pos 1 ≡ start +ℤ pos d → close +ℤ pos 1 ≡ start +ℤ pos long → (d ≤ long) × (here ≡ day)
day_in_month day start here close long d before first apart e k = (omega (arith, signed_arith), omega (arith, signed_arith))

pub cut_is : (day : ℤ) → IsDay day → IsCut day (year_of day) (month_of day) (day_of_month day)
unfolding day_of_month
cut_is day h =
    let y = year_is day h in
    let m = month_is day h in
    let around = year_around day h in
    let start : days_from_civil (pos (year_of day)) (month_of day) 1 ≤ℤ day = omega (arith, signed_arith, m.here) in
    let close = month_closed day (year_of day) (month_of day) around.1 m.first m.within (λ less. m.after (suc (month_of day)) (omega arith) less) in
    let long = days_in_month (pos (year_of day)) (month_of day) in
    let some = days_in_month_bounds (pos (year_of day)) (month_of day) in
    let begun = days_from_civil (pos (year_of day)) (month_of day) 1 in
    let d = unsigned_abs (day -ℤ begun) + 1 in
    let back : d - 1 ≡ unsigned_abs (day -ℤ begun) = omega arith in
    let fits = day_in_month day begun (days_from_civil (pos (year_of day)) (month_of day) d) (days_from_civil (pos (year_of day)) (month_of day) long) long d close (omega arith)
    (rw back (distance day begun start))
    (days_from_civil-day (pos (year_of day)) (month_of day) d 1 (omega arith) (omega arith))
    (days_from_civil-day (pos (year_of day)) (month_of day) long 1 (omega arith) (omega arith)) in
    record {
      year_first = y.first;
      year_last = y.within;
      month_first = m.first;
      month_last = m.within;
      day_first = omega arith;
      day_last = fits.0;
      number = fits.1;
    }

-- such parts make a date
date_from : (day : ℤ) (y m d : ℕ) → IsCut day y m d → Date
date_from day y m d h = record {
  year = pos y;
  month = m;
  day = d;
  year_in = (omega (arith, signed_arith, h.year_first), omega (arith, signed_arith, h.year_last));
  month_in = (h.month_first, h.month_last);
  day_in = (h.day_first, h.day_last);
}

-- a day is cut in one way only
pub cut_once : (day : ℤ) (y m d y₂ m₂ d₂ : ℕ) → IsCut day y m d → IsCut day y₂ m₂ d₂ → (y ≡ y₂) × (m ≡ m₂) × (d ≡ d₂)
unfolding date_from
cut_once day y m d y₂ m₂ d₂ h k =
    let same = epoch_day_injective (date_from day y m d h) (date_from day y₂ m₂ d₂ k) (h.number ∙ sym k.number) in
    (cc (same.0), same.1, same.2)

first_year : (y : ℕ) → 1 ≤ y → day_count (pos 1) 1 1 ≤ day_count (pos y) 1 1
first_year y h =
    elim (cases_order y 1) [
      | inl same ↦ rw same (omega arith)
      | inr (inl less) ↦ absurd (omega arith)
      | inr (inr more) ↦ omega (arith, day_count-later_year (pos 1) (pos y) (omega (arith, signed_arith)) (omega (arith, signed_arith)))
    ]

-- a date of the years 1 to 9999 has its day number
pub cut_day : (day : ℤ) (y m d : ℕ) → IsCut day y m d → IsDay day
unfolding date_from
cut_day day y m d h =
    let range = epoch_day_range (date_from day y m d h) in
    let high = range.1 in
    let begun = days_from_civil-day_count (pos 1) 1 1 in
    (omega (arith, signed_arith, begin, begun, h.number, days_from_civil-day_count (pos y) m d, day_count-day_of_year (pos y) m d h.day_first, first_year y h.year_first), rw h.number at high)

-- the parts of a date of those years are what its day number is cut into
pub date_cut : (date : Date) (day : ℤ) → FitsSigned w64 day → IsDay day → epoch_day date ≡ to_z w64 (of_z w64 day)
    → (unsigned_abs (to_z w16 (of_z w16 date.year)) ≡ year_of day) × (date.month ≡ month_of day) × (date.day ≡ day_of_month day)
unfolding date_from
date_cut date day fits h e =
    let cut = cut_is day h in
    let same = epoch_day_injective date (date_from day _ _ _ cut) (e ∙ to_z-of_z fits ∙ sym cut.number) in
    let short : FitsSigned w16 (pos (year_of day)) = omega (arith, signed_arith, cut.year_last) in
    let year : to_z w16 (of_z w16 date.year) ≡ pos (year_of day) = rw same.0 (to_z-of_z short) in
    (ap unsigned_abs year, same.1, same.2)
