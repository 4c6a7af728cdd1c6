-- Current links, what is outstanding, and bytes, computed on some of the histories.
use Rattle.std.specs.Prelude.{◌≡◌, ℕ, List, [], ◌∷◌, map, Option, Some, None, refl, codes, if◌then◌else◌, ◌==◌}
use Rattle.std.specs.Fmt.{digits}
use Rattle.order_examples.specs.fixed_point.Decimal.{price, quantity, amount, amount_of, within, scaled, fraction}
use Rattle.order_examples.specs.fixed_point.Decimal.{worth, worth_of}
use Rattle.gate_law.specs.fix_stamp.Stamp.{stamp_text, calendar_day, day_of_years, day_of_months}
use Rattle.session_law.specs.fix_framing.Frame.{frame_text, counted_text}
use Rattle.order_examples.specs.tokens.TokenText.{token_text, last_digits}
use Rattle.gate_law.specs.soup_session.declared.port_state.PortState.{PortState}
use Rattle.gate_law.specs.soup_session.declared.port_fault.PortFault.TheVariants.{UnknownToken, SequenceGap}
use Rattle.gate_law.specs.soup_session.declared.port_state.PortState.TheVariants.{Down, LoggingIn, Up, Ended, Faulted}
use Rattle.gate_law.specs.order_law.History.{Asked, Said, SaysNew, SaysReplace, SaysCancel, outstanding}
use Rattle.gate_law.specs.Settings.{terms}
use Rattle.gate_law.specs.Events.{ClientMessage, LinkOut, Write, Close, empty, History}
use Rattle.gate_law.specs.Sessions.{client_answer, port_answer, port_state, report_issued}
use Rattle.gate_law.specs.After.{lists, order_turns}
use Rattle.gate_law.specs.Due.{due_to_client}
use Rattle.gate_examples.specs.Transcript.{settings, from}
use Rattle.gate_examples.specs.Histories.{first, day_entered_and_accepted, day_four_unanswered, four_asked_again}
use Rattle.gate_examples.specs.Histories.{day_cancelled_while_down, cancel_asked_again, repeat_is_dropped}
use Rattle.gate_examples.specs.Histories.{numbers_are_left_out, day_ordered_on_a_faulted_port}
use Rattle.gate_examples.specs.Histories.{day_ordered_after_the_end, second_links, second_client_is_up, client_is_away}

-- ---- links

abbrev client_link : ℕ → History → Option ℕ
client_link client h = (lists settings h).client_link client

abbrev port_link : ℕ → History → Option ℕ
port_link p h = (lists settings h).port_link p

links :
    (port_link 1 day_entered_and_accepted ≡ Some 1)
    × (client_link 1 day_entered_and_accepted ≡ Some 1)
    × (port_link 2 day_entered_and_accepted ≡ None)
    × (port_link 1 day_cancelled_while_down ≡ None)
    × (port_link 1 cancel_asked_again ≡ Some 2)
    × (port_link 1 numbers_are_left_out ≡ None)  -- the fault closed it
    × (port_link 1 day_ordered_on_a_faulted_port ≡ None)  -- and so was the next one
    × (port_link 2 day_ordered_on_a_faulted_port ≡ Some 1)  -- the other port's stays
    × (client_link 1 day_ordered_on_a_faulted_port ≡ Some 1)
    × (port_link 1 day_ordered_after_the_end ≡ None)
    × (port_link 1 second_links ≡ Some 1)
    × (client_link 1 second_links ≡ Some 1)
    × (client_link 1 client_is_away ≡ None)
    × (port_link 1 client_is_away ≡ Some 2)
unfolding client_answer port_answer port_state report_issued digits stamp_text calendar_day day_of_years day_of_months
    fraction
links = (refl, refl, refl, refl, refl, refl, refl, refl, refl, refl, refl, refl, refl, refl)

-- ---- how ports stand

abbrev state_of : ℕ → History → PortState
state_of p h = port_state settings p ((lists settings h).port_calls p)

states :
    (state_of 1 first ≡ Up)
    × (state_of 2 first ≡ Down)
    × (state_of 1 day_cancelled_while_down ≡ Down)
    × (state_of 1 numbers_are_left_out ≡ Faulted SequenceGap)
    × (state_of 1 day_ordered_on_a_faulted_port ≡ Faulted UnknownToken)
    × (state_of 2 day_ordered_on_a_faulted_port ≡ Up)
    × (state_of 1 day_ordered_after_the_end ≡ Ended)
    × (state_of 1 client_is_away ≡ LoggingIn)
unfolding client_answer port_answer port_state report_issued digits stamp_text calendar_day day_of_years day_of_months
    fraction
states = (refl, refl, refl, refl, refl, refl, refl, refl)

-- ---- what is outstanding

abbrev unanswered_on : ℕ → History → List Said
unanswered_on port h = map (λ (a : Asked). a.said) (outstanding (terms settings) port (order_turns settings h))

abbrev four_of_them : List Said
four_of_them = SaysNew (token_text 2) ∷ SaysReplace (token_text 1) (token_text 3) ∷ SaysCancel (token_text 1)
    ∷ SaysCancel (token_text 3) ∷ []

unanswered :
    (unanswered_on 1 day_entered_and_accepted ≡ [])
    × (unanswered_on 1 day_four_unanswered ≡ four_of_them)
    × (unanswered_on 1 four_asked_again ≡ four_of_them)  -- to be sent isn't to be answered
    × (unanswered_on 1 day_cancelled_while_down ≡ SaysCancel (token_text 1) ∷ [])
    × (unanswered_on 2 day_ordered_on_a_faulted_port ≡ SaysNew (token_text 1) ∷ [])
    × (unanswered_on 1 repeat_is_dropped ≡ [])
unfolding client_answer port_answer port_state report_issued digits stamp_text calendar_day day_of_years day_of_months
    price quantity amount amount_of within scaled fraction worth worth_of last_digits
unanswered = (refl, refl, refl, refl, refl, refl)

-- ---- bytes, typed in

-- as one writes it: `|` for SOH
abbrev bar : ℕ → ℕ
bar byte = if byte == 1 then 124 else byte

abbrev text_of : LinkOut → List ℕ
text_of (Close link) = codes "close"
text_of (Write link bytes) = map bar bytes

-- a Logon, answered
logon_in_bytes :
    map text_of (due_to_client settings (ClientMessage 2 1 0 (from 2 1 (codes "35=A|98=0|108=30"))) empty
    (lists settings second_client_is_up))
    ≡ codes "8=FIX.4.4|9=61|35=A|49=GATE|56=C2|34=1|52=19700101-00:00:00.000|98=0|108=30|10=118|" ∷ []
unfolding client_answer port_answer port_state report_issued digits frame_text counted_text stamp_text calendar_day
    day_of_years day_of_months
logon_in_bytes = refl
