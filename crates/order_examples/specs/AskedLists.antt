-- What is asked and not answered as the list beside the table of orders has it, computed on exchanges that are
-- written down.
use Rattle.std.specs.Prelude.{◌≡◌, ℕ, List, [], ◌∷◌, map, codes, refl}
use Rattle.std.specs.Fmt.{digits}
use Rattle.fixed_point.specs.Decimal.{price, quantity, amount, amount_of, within, scaled, fraction, worth, worth_of}
use Rattle.tokens.specs.TokenText.{token_text, last_digits}
use Rattle.order_law.specs.Verdicts.{Up}
use Rattle.order_law.specs.History.{OrderHistory, Said, SaysNew, SaysReplace, SaysCancel}
use Rattle.order_machine.specs.Table.{TableState, table_without_orders}
use Rattle.order_machine.specs.Machine.{table_step}
use Rattle.order_machine.specs.Outstanding.{OnPort, asked_after}
use Rattle.order_examples.specs.Transcript.{fixed_terms, asked_by, heard_by_client, heard_by_client_on, faulted}
use Rattle.order_examples.specs.Transcript.{faulted_on, accepted_message, replaced_message, rejected_message}
use Rattle.order_examples.specs.Transcript.{canceled_message, cancel_reject_message}
use Rattle.order_examples.specs.Exchanges.{only_entered, entered_and_accepted, replace_pending}
use Rattle.order_examples.specs.Exchanges.{cancelled_across_a_replace, cancelled_after_it_is_replaced}
use Rattle.order_examples.specs.Exchanges.{filled_across_replace_and_cancel, cancel_at_the_market, order_is_cancelled}
use Rattle.order_examples.specs.Exchanges.{accepted_with_a_replace_pending, dead_as_it_is_accepted, asked_twice}
use Rattle.order_examples.specs.Exchanges.{four_unanswered, cancelled_while_down, ordered_on_a_faulted_port}
use Rattle.order_examples.specs.SeveralReplaces.{all_fall_under_a_cancel, fall_answers_the_cancel}
use Rattle.order_examples.specs.SeveralReplaces.{fall_beside_another_order}
use Rattle.order_examples.specs.SeveralReplaces.{two_replaces_and_a_cancel}

-- the table and the list that the events of an exchange leave
abbrev table_after : OrderHistory → TableState
table_after [] = table_without_orders fixed_terms
table_after (t ∷ before) = (table_step (table_after before) t.event).state

abbrev list_after : OrderHistory → List OnPort
list_after [] = []
list_after (t ∷ before) = asked_after (table_after before) t.event (list_after before)

-- by port, type and tokens
abbrev on_ports : OrderHistory → List (ℕ × Said)
on_ports h = map (λ (q : OnPort). (q.port, q.asked.said)) (list_after h)

-- the order of client 1 on port 1, and then one of client 3 on port 2
abbrev entered_on_both : OrderHistory
entered_on_both = asked_by 3 Up (codes "35=D|11=A1|54=1|55=INTC|38=300|40=2|44=23.45|59=0|528=P") (codes "35=8") []
    ∷ only_entered

lists :
    (on_ports only_entered ≡ (1, SaysNew (token_text 1)) ∷ [])
    × (on_ports entered_and_accepted ≡ [])
    × (on_ports dead_as_it_is_accepted ≡ [])
    × (on_ports cancel_at_the_market ≡ (1, SaysCancel (token_text 1))
    ∷ [])  -- that the market has the cancel is no answer
    × (on_ports order_is_cancelled ≡ [])  -- the order is closed
    × (on_ports replace_pending ≡ (1, SaysReplace (token_text 1) (token_text 2)) ∷ [])
    × (on_ports accepted_with_a_replace_pending ≡ (1, SaysReplace (token_text 1) (token_text 2)) ∷ [])
    × (on_ports cancelled_across_a_replace ≡ (1, SaysReplace (token_text 1) (token_text 2))
    ∷ (1, SaysCancel (token_text 1)) ∷ (1, SaysCancel (token_text 2)) ∷ [])
    × (on_ports (heard_by_client (replaced_message 2 1 500 (codes "L")) [] ∷ cancelled_across_a_replace)
    ≡ (1, SaysCancel (token_text 2))
    ∷ [])  -- its Replaced answers the replace, and the cancel of the token that it replaces
    × (on_ports cancelled_after_it_is_replaced ≡ [])
    × (on_ports (heard_by_client (rejected_message 2 (codes "X")) [] ∷ cancelled_across_a_replace)
    ≡ (1, SaysCancel (token_text 1)) ∷ [])  -- its Rejected answers the replace, and the cancel of its token
    × (on_ports (heard_by_client (cancel_reject_message 1) [] ∷ cancelled_across_a_replace)
    ≡ (1, SaysReplace (token_text 1) (token_text 2)) ∷ (1, SaysCancel (token_text 2))
    ∷ [])  -- the cancel of one token
    × (on_ports (heard_by_client (replaced_message 2 1 500 (codes "L")) [] ∷ two_replaces_and_a_cancel)
    ≡ (1, SaysReplace (token_text 2) (token_text 3)) ∷ (1, SaysCancel (token_text 2)) ∷ (1, SaysCancel (token_text 3))
    ∷ [])  -- the oldest is done: the other stays asked
    × (on_ports (heard_by_client (rejected_message 2 (codes "X")) [] ∷ two_replaces_and_a_cancel)
    ≡ (1, SaysCancel (token_text 1)) ∷ [])  -- the oldest falls, and with it all that is asked behind it
    × (on_ports all_fall_under_a_cancel ≡ [])
    × (on_ports fall_answers_the_cancel ≡ [])
    × (on_ports fall_beside_another_order
    ≡ (1, SaysNew (token_text 2)) ∷ (1, SaysCancel (token_text 1)) ∷ (1, SaysReplace (token_text 2) (token_text 4))
    ∷ [])  -- what is asked of the other order stays
    × (on_ports filled_across_replace_and_cancel ≡ [])
    × (on_ports (heard_by_client (canceled_message 1 300 (codes "U")) [] ∷ four_unanswered)
    ≡ (1, SaysNew (token_text 2)) ∷ [])  -- the first order is closed
    × (on_ports (faulted (canceled_message 1 301 (codes "U")) 3 ∷ four_unanswered)
    ≡ on_ports four_unanswered)  -- a fault answers nothing
    × (on_ports (heard_by_client (codes "T") [] ∷ only_entered)
    ≡ (1, SaysNew (token_text 1)) ∷ [])  -- nor does what has no token
    × (on_ports cancelled_while_down ≡ (1, SaysCancel (token_text 1)) ∷ [])  -- it isn't sent yet
    × (on_ports asked_twice ≡ [])  -- the second was refused
    × (on_ports ordered_on_a_faulted_port ≡ (2, SaysNew (token_text 1)) ∷ [])
    × (on_ports entered_on_both ≡ (1, SaysNew (token_text 1)) ∷ (2, SaysNew (token_text 2)) ∷ [])
    × (on_ports (heard_by_client_on 2 3 (accepted_message 2 300 (codes "INTC    ") (codes "L")) [] ∷ entered_on_both)
    ≡ (1, SaysNew (token_text 1)) ∷ [])  -- the other port's
    × (on_ports (faulted_on 2 (accepted_message 1 300 (codes "INTC    ") (codes "L")) 2 ∷ entered_on_both)
    ≡ on_ports entered_on_both)  -- a token of the other port is a fault
unfolding digits price quantity amount amount_of within scaled fraction worth worth_of last_digits
lists = (refl, refl, refl, refl, refl, refl, refl, refl, refl, refl, refl, refl, refl, refl, refl, refl, refl, refl, refl, refl, refl, refl, refl, refl, refl, refl, refl)
