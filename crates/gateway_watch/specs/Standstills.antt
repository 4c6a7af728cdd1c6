-- When ticks go through behind a standstill of the process: this gateway's own. Moments are in milliseconds.
use Rattle.std.specs.Prelude.{◌≡◌, refl, ℕ, ◌+◌, ◌-◌, ◌^◌, ◌==◌, ◌&&◌, nat_lt, nat_le, min, not, Bool, true, false}
use Rattle.std.specs.Prelude.{List, [], ◌∷◌, if◌then◌else◌}
use Rattle.gateway_watch.specs.declared.standstill.Standstill.{Standstill}

abbrev pub begun : Standstill
begun = record { last = 0; until = 0 }

-- as far as 64 bits hold it
abbrev pub later : ℕ → ℕ → ℕ
later at by = min (at + by) (2 ^ 64 - 1)

-- a tick comes more than a second behind the one before, which went through
abbrev pub stood_still : Standstill → ℕ → Bool
stood_still s at = not (s.last == 0) && nat_le s.until s.last && nat_lt (later s.last 1000) at

-- then for a second none goes through
abbrev pub after : Standstill → ℕ → Standstill
after s at = if stood_still s at
    then record { last = at; until = later at 1000 }
    else record { last = at; until = s.until }

abbrev pub lets_through : Standstill → Bool
lets_through s = nat_le s.until s.last

-- ---- computed

-- which of ticks at these moments go through
abbrev through : Standstill → List ℕ → List Bool
through s [] = []
through s (at ∷ more) = lets_through (after s at) ∷ through (after s at) more

the_first_goes_through : through begun (1_700_000_000_000 ∷ []) ≡ true ∷ []
the_first_goes_through = refl

each_tenth_of_a_second : through begun (5000 ∷ 5100 ∷ 5200 ∷ 6200 ∷ []) ≡ true ∷ true ∷ true ∷ true ∷ []
each_tenth_of_a_second = refl

none_for_a_second_behind_a_standstill :
    through begun (5000 ∷ 6001 ∷ 6101 ∷ 7000 ∷ 7001 ∷ 7101 ∷ [])
    ≡ true ∷ false ∷ false ∷ false ∷ true ∷ true ∷ []
none_for_a_second_behind_a_standstill = refl

a_slow_machine_has_every_other_tick :
    through begun (5000 ∷ 6500 ∷ 8000 ∷ 9500 ∷ 11000 ∷ []) ≡ true ∷ false ∷ true ∷ false ∷ true ∷ []
a_slow_machine_has_every_other_tick = refl

one_that_is_slower_too :
    through begun (5000 ∷ 9000 ∷ 13000 ∷ 17000 ∷ 21000 ∷ []) ≡ true ∷ false ∷ true ∷ false ∷ true ∷ []
one_that_is_slower_too = refl
