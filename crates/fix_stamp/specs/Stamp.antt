-- The text of a moment: YYYYMMDD-HH:MM:SS.sss in UTC. (FIX 4.4 Volume 1, "FIX Data Types", UTCTimestamp; the calendar
-- is the Gregorian one, and no second is a leap second.)
use Rattle.std.specs.Prelude.{ℕ, zero, suc, ◌+◌, ◌-◌, ◌/◌, ◌%◌, ◌==◌, Bool, not, ◌&&◌, ◌||◌, nat_lt, List, [], ◌∷◌}
use Rattle.std.specs.Prelude.{◌++◌, min, if◌then◌else◌}

-- every fourth year, but of the centuries only every fourth
abbrev pub is_leap_year : ℕ → Bool
is_leap_year year = (year % 4 == 0) && (not (year % 100 == 0) || (year % 400 == 0))

-- the days of a year
abbrev pub days_in_year : ℕ → ℕ
days_in_year year = if is_leap_year year then 366 else 365

-- thirty days have September, April, June and November
abbrev pub days_in_month : ℕ → ℕ → ℕ
days_in_month year month =
    if month == 2 then (if is_leap_year year then 29 else 28)
    else if (month == 4) || (month == 6) || (month == 9) || (month == 11) then 30 else 31

-- a day of the calendar
pub record CalendarDay : Type 0 where
  pub year : ℕ
  pub month : ℕ
  pub day : ℕ

-- the day so many days after the first of this month: whole months pass first, so many at most
unfoldable pub day_of_months : ℕ → ℕ → ℕ → ℕ → CalendarDay
day_of_months zero year month days = record { year = year; month = month; day = days + 1 }
day_of_months (suc months) year month days =
    if nat_lt days (days_in_month year month) then record { year = year; month = month; day = days + 1 }
    else day_of_months months year (month + 1) (days - days_in_month year month)

-- the day so many days after the first of this year: whole years pass first, so many at most
unfoldable pub day_of_years : ℕ → ℕ → ℕ → CalendarDay
day_of_years zero year days = day_of_months 11 year 1 days
day_of_years (suc years) year days =
    if nat_lt days (days_in_year year) then day_of_months 11 year 1 days
    else day_of_years years (year + 1) (days - days_in_year year)

-- the day so many days after 1 January 1970, up to the year 9999
unfoldable pub calendar_day : ℕ → CalendarDay
calendar_day days = day_of_years 8_029 1_970 days

-- the last digit of a number
abbrev pub last_digit : ℕ → ℕ
last_digit number = 48 + number % 10

abbrev pub two_digits : ℕ → List ℕ
two_digits number = last_digit (number / 10) ∷ last_digit number ∷ []

abbrev pub millisecond_digits : ℕ → List ℕ
millisecond_digits number = last_digit (number / 100) ∷ two_digits number

abbrev pub year_digits : ℕ → List ℕ
year_digits number = last_digit (number / 1_000) ∷ millisecond_digits number

-- YYYYMMDD
abbrev pub day_text : CalendarDay → List ℕ
day_text d = year_digits d.year ++ two_digits d.month ++ two_digits d.day

-- HH:MM:SS.sss, of the milliseconds since midnight
abbrev pub time_text : ℕ → List ℕ
time_text ms =
    two_digits (ms / 3_600_000) ++ 58 ∷ two_digits (ms / 60_000 % 60) ++ 58 ∷ two_digits (ms / 1_000 % 60)
    ++ 46 ∷ millisecond_digits (ms % 1_000)

-- the greatest moment that is stamped as itself, in the year 9892
abbrev pub greatest_moment : ℕ
greatest_moment = 250_000_000_000_000

-- the text of a moment up to the greatest, in milliseconds since 1970
abbrev pub moment_text : ℕ → List ℕ
moment_text ms = day_text (calendar_day (ms / 86_400_000)) ++ 45 ∷ time_text (ms % 86_400_000)

-- the text of any moment: one above the greatest is stamped as the greatest
unfoldable pub stamp_text : ℕ → List ℕ
stamp_text ms = moment_text (min ms greatest_moment)

-- a byte that a field's value may have: any but SOH
abbrev pub is_value_byte : ℕ → Bool
is_value_byte byte = not (byte == 1)
