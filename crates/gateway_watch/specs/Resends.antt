-- How much a client may ask to be sent again: this gateway's own bound. Moments are in milliseconds.
--
-- FIX 4.4 Volume 2, "Resend Request": BeginSeqNo (7), and EndSeqNo (16), where 0 is no end.
use Rattle.std.specs.Prelude.{◌≡◌, refl, ℕ, ◌+◌, ◌-◌, ◌*◌, ◌^◌, ◌==◌, nat_lt, nat_le, min, max, Bool, true, false}
use Rattle.std.specs.Prelude.{if◌then◌else◌}
use Rattle.gateway_watch.specs.declared.resends.Resends.{Resends}

-- as far as 64 bits hold it
abbrev pub sum : ℕ → ℕ → ℕ
sum a b = min (a + b) (2 ^ 64 - 1)

-- ---- what is asked for

-- the last of the numbers up to the highest that was sent
abbrev pub last_of : ℕ → ℕ → ℕ
last_of end highest = if end == 0 then highest else min end highest

abbrev pub asked_for : ℕ → ℕ → ℕ → ℕ
asked_for begin end highest = if nat_le begin (last_of end highest) then sum (last_of end highest - begin) 1 else 0

-- ---- within an hour

abbrev pub none_asked : Resends
none_asked = record { since = 0; messages = 0 }

-- an hour begins with the first request behind the one before
abbrev pub with : Resends → ℕ → ℕ → Resends
with r messages at = if nat_lt (at - r.since) 3600000
    then record { since = r.since; messages = sum r.messages messages }
    else record { since = at; messages = messages }

-- ten times all that was sent, and 50,000 whatever was sent
abbrev pub most : ℕ → ℕ
most highest = max (highest * 10) 50000

abbrev pub is_too_much : Resends → ℕ → Bool
is_too_much r highest = nat_lt (most highest) r.messages

-- ---- computed

all_of_them : asked_for 1 0 8000 ≡ 8000
all_of_them = refl

one : asked_for 8000 8000 8000 ≡ 1
one = refl

none_behind_the_last : asked_for 8001 0 8000 ≡ 0
none_behind_the_last = refl

an_end_behind_the_last_is_none : asked_for 7001 999999 8000 ≡ 1000
an_end_behind_the_last_is_none = refl

ten_times_is_not_too_much : is_too_much (record { since = 0; messages = 80000 }) 8000 ≡ false
ten_times_is_not_too_much = refl

one_more_is : is_too_much (record { since = 0; messages = 80001 }) 8000 ≡ true
one_more_is = refl

few_messages_may_be_asked_for_often : is_too_much (record { since = 0; messages = 50000 }) 3 ≡ false
few_messages_may_be_asked_for_often = refl

an_hour_later_it_begins_anew :
    with (record { since = 5000; messages = 80000 }) 100 3605000 ≡ record { since = 3605000; messages = 100 }
an_hour_later_it_begins_anew = refl

just_before_it_is_added :
    with (record { since = 5000; messages = 80000 }) 100 3604999 ≡ record { since = 5000; messages = 80100 }
just_before_it_is_added = refl
