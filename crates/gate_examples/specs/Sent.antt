-- What a port was asked and sent since it came up, computed; and histories in which something is left unsent.
use Rattle.std.specs.Prelude.{◌≡◌, ℕ, List, [], ◌∷◌, map, refl, codes}
use Rattle.std.specs.Fmt.{digits}
use Rattle.order_examples.specs.fixed_point.Decimal.{price, quantity, amount, amount_of, within, scaled, fraction}
use Rattle.order_examples.specs.fixed_point.Decimal.{worth, worth_of}
use Rattle.order_examples.specs.tokens.TokenText.{last_digits, token_text}
use Rattle.order_examples.specs.Transcript.{enter_message, enter_sale_message, replace_message, cancel_message}
use Rattle.gate_law.specs.fix_stamp.Stamp.{stamp_text, calendar_day, day_of_years, day_of_months}
use Rattle.gate_law.specs.Sessions.{client_answer, port_answer, port_state, report_issued}
use Rattle.gate_law.specs.Events.{ClientMessage, PortPacket, History}
use Rattle.order_examples.specs.Transcript.{cancel_reject_message}
use Rattle.gate_law.specs.order_law.History.{Said, SaysNew, SaysReplace, SaysCancel}
use Rattle.gate_law.specs.Sent.{AllSent, asked_since_up, sent_since_up}
use Rattle.gate_examples.specs.Transcript.{settings, from, report_out, told_batch, told_and_asked, asked_out, sequenced}
use Rattle.gate_examples.specs.Transcript.{turn, after_turns}
use Rattle.gate_examples.specs.Histories as histories

abbrev sent : History → List (List ℕ)
sent h = sent_since_up settings 1 h

-- in order, while the port stays up
five_messages : sent histories.day_four_unanswered
    ≡ enter_message 1 300 ∷ enter_sale_message 2 ∷ replace_message 1 3 500 ∷ cancel_message 1 ∷ cancel_message 3 ∷ []
unfolding client_answer port_answer port_state report_issued digits stamp_text calendar_day day_of_years day_of_months
    price quantity amount amount_of within scaled fraction worth worth_of last_digits
five_messages = refl

-- from the port's coming up again on, what it was then sent
four_again : sent histories.four_asked_again
    ≡ enter_sale_message 2 ∷ replace_message 1 3 500 ∷ cancel_message 1 ∷ cancel_message 3 ∷ []
unfolding client_answer port_answer port_state report_issued digits stamp_text calendar_day day_of_years day_of_months
    price quantity amount amount_of within scaled fraction worth worth_of last_digits
four_again = refl

cancel_waits : sent histories.day_cancelled_while_down ≡ enter_message 1 300 ∷ []
unfolding client_answer port_answer port_state report_issued digits stamp_text calendar_day day_of_years day_of_months
    price quantity amount amount_of within scaled fraction worth worth_of last_digits
cancel_waits = refl

cancel_is_sent : sent histories.cancel_asked_again ≡ cancel_message 1 ∷ []
unfolding client_answer port_answer port_state report_issued digits stamp_text calendar_day day_of_years day_of_months
    price quantity amount amount_of within scaled fraction worth worth_of last_digits
cancel_is_sent = refl

-- by the port that a batch names: what goes to one port was sent to no other
other_port : (sent histories.day_ordered_on_a_faulted_port ≡ [])
    × (sent_since_up settings 2 histories.day_ordered_on_a_faulted_port ≡ enter_message 1 300 ∷ [])
unfolding client_answer port_answer port_state report_issued digits stamp_text calendar_day day_of_years day_of_months
    price quantity amount amount_of within scaled fraction worth worth_of last_digits
other_port = (refl, refl)

-- an order that is entered, and not sent
abbrev order_unsent : History
order_unsent =
    turn (ClientMessage 1 1 0 (from 1 2 histories.order_text))
    (told_batch 1 1
    (report_out 1 2 (codes "35=8|37=1|11=A1|17=1|150=A|39=A|55=INTC|54=1|38=300|44=23.45|151=300|14=0|6=0") ∷ []))
    ∷ histories.first

unsent_is_refused : AllSent settings 1 order_unsent → ⊥
unfolding client_answer port_answer port_state report_issued digits stamp_text calendar_day day_of_years day_of_months
    price quantity amount amount_of within scaled fraction worth worth_of last_digits
unsent_is_refused all = (all refl).one_for_one

-- what was asked since then, with what was answered
abbrev asked : History → List Said
asked h = map (λ a. a.said) (asked_since_up settings 1 h)

asked_in_order : asked histories.day_four_unanswered
    ≡ SaysNew (token_text 1) ∷ SaysNew (token_text 2) ∷ SaysReplace (token_text 1) (token_text 3)
    ∷ SaysCancel (token_text 1) ∷ SaysCancel (token_text 3) ∷ []
unfolding client_answer port_answer port_state report_issued digits stamp_text calendar_day day_of_years day_of_months
    price quantity amount amount_of within scaled fraction worth worth_of last_digits
asked_in_order = refl

-- from the port's coming up again on, what was unanswered then
asked_again : asked histories.four_asked_again
    ≡ SaysNew (token_text 2) ∷ SaysReplace (token_text 1) (token_text 3) ∷ SaysCancel (token_text 1)
    ∷ SaysCancel (token_text 3) ∷ []
unfolding client_answer port_answer port_state report_issued digits stamp_text calendar_day day_of_years day_of_months
    price quantity amount amount_of within scaled fraction worth worth_of last_digits
asked_again = refl

-- a cancel is sent and rejected by the market; the next one, of the same token, isn't sent
abbrev second_cancel_unsent : History
second_cancel_unsent =
    after_turns (turn (ClientMessage 1 1 0 (from 1 3 (codes "35=F|41=A1|11=A2")))
    (told_and_asked 1 1
    (report_out 1 4 (codes "35=8|37=1|11=A2|41=A1|17=3|150=6|39=6|55=INTC|54=1|38=300|44=23.45|151=300|14=0|6=0") ∷ [])
    1 (asked_out 1 (cancel_message 1) ∷ []))
    ∷ turn (PortPacket 1 1 0 (sequenced (cancel_reject_message 1)))
    (told_batch 1 1
    (report_out 1 5 (codes "35=9|37=1|11=A2|41=A1|39=0|434=1|102=2|58=cancel rejected by market") ∷ []))
    ∷ turn (ClientMessage 1 1 0 (from 1 4 (codes "35=F|41=A1|11=A3")))
    (told_batch 1 1
    (report_out 1 6 (codes "35=8|37=1|11=A3|41=A1|17=4|150=6|39=6|55=INTC|54=1|38=300|44=23.45|151=300|14=0|6=0") ∷ []))
    ∷ []) histories.day_entered_and_accepted

asked_twice : asked second_cancel_unsent
    ≡ SaysNew (token_text 1) ∷ SaysCancel (token_text 1) ∷ SaysCancel (token_text 1) ∷ []
unfolding client_answer port_answer port_state report_issued digits stamp_text calendar_day day_of_years day_of_months
    price quantity amount amount_of within scaled fraction worth worth_of last_digits
asked_twice = refl

-- the cancel that was answered doesn't stand for the one that is outstanding
answered_stands_for_none : AllSent settings 1 second_cancel_unsent → ⊥
unfolding client_answer port_answer port_state report_issued digits stamp_text calendar_day day_of_years day_of_months
    price quantity amount amount_of within scaled fraction worth worth_of last_digits
answered_stands_for_none all = (all refl).one_for_one.1.1
