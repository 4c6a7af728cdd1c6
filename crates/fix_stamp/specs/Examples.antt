-- Moments and their texts, computed from the definitions.
use Rattle.std.specs.Prelude.{◌≡◌, refl, codes}
use Rattle.fix_stamp.specs.Stamp.{stamp_text, calendar_day, day_of_years, day_of_months}

moments :
    (stamp_text 0 ≡ codes "19700101-00:00:00.000")  -- the first
    × (stamp_text 1 ≡ codes "19700101-00:00:00.001")  -- a millisecond later
    × (stamp_text 86_399_999 ≡ codes "19700101-23:59:59.999")  -- the last of a day
    × (stamp_text 86_400_000 ≡ codes "19700102-00:00:00.000")  -- the next day
    × (stamp_text 31_535_999_999 ≡ codes "19701231-23:59:59.999")  -- the last of a year
    × (stamp_text 31_536_000_000 ≡ codes "19710101-00:00:00.000")  -- the next year
    × (stamp_text 951_782_399_999 ≡ codes "20000228-23:59:59.999")  -- a century that is a leap year
    × (stamp_text 951_782_400_000 ≡ codes "20000229-00:00:00.000")  -- its leap day
    × (stamp_text 951_868_800_000 ≡ codes "20000301-00:00:00.000")  -- and the day after it
unfolding stamp_text calendar_day day_of_years day_of_months
moments = (refl, refl, refl, refl, refl, refl, refl, refl, refl)
