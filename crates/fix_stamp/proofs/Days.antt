-- The calendar's day of a day number.
use Rattle.std.proofs.Common.{◌≡◌, ℕ, zero, suc, ◌+◌, ◌-◌, ◌<◌, ◌≤◌, refl, sym, ap, arith, ℤ, pos, ◌≤ℤ◌, negsuc}
use Rattle.std.proofs.Common.{unsigned_abs, subst, inl, inr}
use Rattle.std.specs.Prelude.{if◌then◌else◌, nat_lt}
use Rattle.std.proofs.lemmas.Int.{by_lt_z}
use Rattle.std.proofs.lemmas.Bool.{cases_lt, lt-ltb, le-ltb}
use Rattle.jiff_core.specs.Calendar.{day_count, days_of_months, IsCivilDate, IsYear}
use Rattle.jiff_core.specs.Date.{epoch_day}
use Rattle.jiff_core.specs.declared.civil.date.Date.{Date}
use Rattle.jiff_core.proofs.SignedLemmas.{signed_arith}
use Rattle.jiff_core.proofs.CalendarLemmas.{day_count-lt_year, days_from_civil-day_count, day_count-epoch}
use Rattle.jiff_core.proofs.CalendarLemmas.{day_count-day_of_year, day_of_year_bound, day_count-next_year}
use Rattle.jiff_core.proofs.CalendarLemmas.{day_count-later_year, days_of_months-zero, days_of_months_more}
use Rattle.jiff_core.proofs.CalendarLemmas.{days_of_months_mono}
use Rattle.jiff_core.proofs.DateLemmas.{civil}
use Rattle.fix_stamp.specs.Stamp.{CalendarDay, days_in_year, days_in_month, day_of_months, day_of_years, calendar_day}

-- a date from 1970 on has such a year
pub year_from_1970 : (d : Date) (n : ℕ) → epoch_day d ≡ pos n → pos 1970 ≤ℤ d.year
year_from_1970 d n e =
    by_lt_z d.year (pos 1970)
    (λ lt.
    let less = day_count-lt_year d.year d.month d.day (pos 1970) 1 1 (civil d) (omega arith) lt in
    let there = days_from_civil-day_count d.year d.month d.day in
    absurd (omega (arith, signed_arith, less, there, day_count-epoch, e)))
    (λ ge. ge)

abbrev pub calendar : ℕ → ℕ → ℕ → CalendarDay
calendar year month day = record { year = year; month = month; day = day }

choose : (a b : ℕ) (x y z : CalendarDay) → (a < b → x ≡ z) → (b ≤ a → y ≡ z) → (if nat_lt a b then x else y) ≡ z
choose a b x y z below above = elim (cases_lt a b) [
  | inl lt ↦ rw (lt-ltb a b lt) (below lt)
  | inr ge ↦ rw (le-ltb a b ge) (above ge)
]

-- the month of a day of a year: as many months may pass as lie between
months_pass : (months y m d month days : ℕ) → IsCivilDate (pos y) m d → 1 ≤ month → month ≤ m → m ≤ month + months
    → days + days_of_months (pos y) (month - 1) + 1 ≡ days_of_months (pos y) (m - 1) + d
    → day_of_months months y month days ≡ calendar y m d
unfolding day_of_months
months_pass zero y m d month days date low before after e =
    let same : month ≡ m = omega arith in
    let at : days + 1 ≡ d = omega (arith, rw same at e) in
    rw (same, at) refl
months_pass (suc months) y m d month days date low before after e =
    let more = days_of_months_more (pos y) month low in
    choose days (days_in_month y month) _ _ _
    (λ lt.
    let same : month ≡ m = elim (cases_lt month m) [
      | inl sooner ↦ absurd (omega (arith, more, days_of_months_mono (pos y) month (m - 1) (omega arith), date.2.0))
      | inr late ↦ omega arith
    ] in
    let at : days + 1 ≡ d = omega (arith, rw same at e) in
    rw (same, at) refl)
    (λ ge.
    elim (cases_lt month m) [
      | inl sooner ↦
          let back : month + 1 - 1 ≡ month = omega arith in
          months_pass months y m d (month + 1) (days - days_in_month y month) date (omega arith) (omega arith)
          (omega arith) (rw back (omega (arith, more)))
      | inr late ↦
          let same : month ≡ m = omega arith in
          absurd (omega (arith, rw same at e, rw same at ge, date.2.1))
    ])

-- a day lies in a year with as many days before it in the year
in_year : (y m d days : ℕ) → IsCivilDate (pos y) m d → days + day_count (pos y) 1 1 ≡ day_count (pos y) m d
    → day_of_months 11 y 1 days ≡ calendar y m d
in_year y m d days date e =
    let placed = day_count-day_of_year (pos y) m d date.2.0 in
    let none : days_of_months (pos y) (1 - 1) ≡ 0 = days_of_months-zero (pos y) in
    months_pass 11 y m d 1 days date (omega arith) date.1.0 (omega (arith, date.1.1)) (omega (arith, e, placed, none))

-- the year of a day: as many years may pass as lie between
years_pass : (years y m d year days : ℕ) → IsCivilDate (pos y) m d → year ≤ y → y ≤ year + years
    → days + day_count (pos year) 1 1 ≡ day_count (pos y) m d
    → day_of_years years year days ≡ calendar y m d
unfolding day_of_years
years_pass zero y m d year days date before after e =
    let same : year ≡ y = omega arith in
    rw same (in_year y m d days date (rw same at e))
years_pass (suc years) y m d year days date before after e =
    let next = day_count-next_year (pos year) (pos (year + 1)) (omega (arith, signed_arith))
    (omega (arith, signed_arith)) in
    choose days (days_in_year year) _ _ _
    (λ lt.
    let same : year ≡ y = elim (cases_lt year y) [
      | inl sooner ↦ absurd (omega (arith, next, e, lt, first_day (year + 1) y m d date (omega arith)))
      | inr late ↦ omega arith
    ] in
    rw same (in_year y m d days date (rw same at e)))
    (λ ge.
    elim (cases_lt year y) [
      | inl sooner ↦ years_pass years y m d (year + 1) (days - days_in_year year) date (omega arith) (omega arith)
          (omega (arith, next, e))
      | inr late ↦
          let same : year ≡ y = omega arith in
          absurd (omega (
            arith,
            rw same at e,
            rw same at ge,
            day_count-day_of_year
                (pos y) m d date.2.0,
            day_of_year_bound (pos y) m d date,
          ))
    ])
  where
    -- no day of a year comes before its first
    first_day : (early y m d : ℕ) → IsCivilDate (pos y) m d → early ≤ y
        → day_count (pos early) 1 1 ≤ day_count (pos y) m d
    first_day early y m d date h = elim (cases_lt early y) [
      | inl sooner ↦ omega (
        arith,
        day_count-later_year (pos early) (pos y) (omega (arith, signed_arith))
            (omega (arith, signed_arith)),
        day_count-day_of_year (pos y) m d date.2.0,
        date.2.0,
      )
      | inr late ↦ let same : early ≡ y = omega arith in
          rw same (omega (arith, day_count-day_of_year (pos y) m d date.2.0, date.2.0))
    ]

-- what jiff's date of a day number has
pub record IsDateOf (d : Date) (days : ℕ) : Type 0 where
  pub year : unsigned_abs d.year ≡ (calendar_day days).year
  pub month : d.month ≡ (calendar_day days).month
  pub day : d.day ≡ (calendar_day days).day

not_negative : (z : ℤ) → pos 1970 ≤ℤ z → z ≡ pos (unsigned_abs z)
not_negative (pos n) h = refl
not_negative (negsuc n) h = absurd (omega (arith, signed_arith, h))

up_to_9999 : (d : Date) → pos 1970 ≤ℤ d.year → (1_970 ≤ unsigned_abs d.year) × (unsigned_abs d.year ≤ 1_970 + 8_029)
up_to_9999 d h = bounds d.year h d.year_in
  where
    bounds : (z : ℤ) → pos 1970 ≤ℤ z → IsYear z → (1_970 ≤ unsigned_abs z) × (unsigned_abs z ≤ 1_970 + 8_029)
    bounds (pos n) h y = (omega (arith, signed_arith, h), omega (arith, signed_arith, y))
    bounds (negsuc n) h y = absurd (omega (arith, signed_arith, h))

pub date_of : (d : Date) (days : ℕ) → epoch_day d ≡ pos days → IsDateOf d days
unfolding calendar_day
date_of d days e =
    let from : pos 1970 ≤ℤ d.year = year_from_1970 d days e in
    let year : d.year ≡ pos (unsigned_abs d.year) = not_negative d.year from in
    let there = days_from_civil-day_count d.year d.month d.day in
    let count : days + day_count (pos 1970) 1 1 ≡ day_count d.year d.month d.day =
    omega (arith, signed_arith, there, e, day_count-epoch) in
    let P : ℤ → Type 0 = λ y. IsCivilDate y d.month d.day in
    let Q : ℤ → Type 0 = λ y. days + day_count (pos 1970) 1 1 ≡ day_count y d.month d.day in
    let range = up_to_9999 d from in
    let found : day_of_years 8_029 1_970 days ≡ calendar (unsigned_abs d.year) d.month d.day =
    years_pass 8_029 (unsigned_abs d.year) d.month d.day 1_970 days (subst P year (civil d)) range.0 range.1
    (subst Q year count) in
    record {
      year = ap (λ (c : CalendarDay). c.year) (sym found);
      month =
          ap (λ (c : CalendarDay). c.month) (sym found);
      day = ap (λ (c : CalendarDay). c.day) (sym found);
    }
