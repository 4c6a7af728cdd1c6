-- Each row of the table of market messages, where it alone fails, computed.
use Rattle.std.specs.Prelude.{◌≡◌, ℕ, List, [], ◌++◌, codes, refl, Option, Some, None, take}
use Rattle.std.specs.Fmt.{digits}
use Rattle.fixed_point.specs.Decimal.{price, quantity, amount, amount_of, within, scaled, fraction, worth, worth_of}
use Rattle.tokens.specs.TokenText.{last_digits}
use Rattle.order_law.specs.ouch_codec.Values.{decoded}
use Rattle.order_law.specs.Lawful.{judgement, bytes_fault, token_fault, row_fault, type_fault}
use Rattle.order_law.specs.History.{OrderHistory}
use Rattle.order_examples.specs.Transcript.{fixed_terms, accepted_message, replaced_message, replaced_bytes}
use Rattle.order_examples.specs.Transcript.{executed_message, canceled_message, broken_message, rejected_message}
use Rattle.order_examples.specs.Transcript.{cancel_reject_message, cancel_pending_message, sold_message}
use Rattle.order_examples.specs.Exchanges.{entered_and_accepted, order_is_filled, closed_by_the_market}
use Rattle.order_examples.specs.Exchanges.{broken_after_it_is_filled, replace_rejected, replace_pending}
use Rattle.order_examples.specs.Exchanges.{replace_asked_while_waiting, replaced_after_a_trade}
use Rattle.order_examples.specs.Exchanges.{broken_after_it_is_replaced, only_entered}
use Rattle.order_examples.specs.SeveralReplaces.{second_of_four_rejected, two_replaces_pending}

-- the fault of a payload of port 1 after a history
abbrev fault : OrderHistory → List ℕ → Option ℕ
fault h payload = judgement fixed_terms 1 (decoded payload) h

-- payloads of port 1
faults :
    (fault [] ([]) ≡ Some bytes_fault)  -- no byte
    × (fault [] (codes "Z") ≡ Some type_fault)  -- a type outside the profile
    × (fault [] (codes "T") ≡ None)  -- passed over, whatever its length
    × (fault [] (codes "S12345678O") ≡ None)  -- a System Event
    × (fault [] (codes "S1234567O") ≡ Some bytes_fault)  -- one byte short
    × (fault [] (codes "S12345678OO") ≡ Some bytes_fault)  -- one byte long
    × (fault only_entered (accepted_message 1 300 (codes "INTC    ") (codes "L")) ≡ None)  -- lawful
    × (fault only_entered (accepted_message 1 300 (codes "INTC    ") (codes "L") ++ codes " ")
    ≡ Some bytes_fault)  -- 67 bytes
    × (fault only_entered (take 65 (accepted_message 1 300 (codes "INTC    ") (codes "L")))
    ≡ Some bytes_fault)  -- 65 bytes
    × (fault only_entered (accepted_message 1 0 (codes "INTC    ") (codes "L")) ≡ Some bytes_fault)  -- no shares
    × (fault only_entered (accepted_message 1 300 (codes "INTC    ") (codes "X"))
    ≡ Some bytes_fault)  -- a state outside its set
    × (fault only_entered (accepted_message 2 300 (codes "INTC    ") (codes "L"))
    ≡ Some token_fault)  -- a token that isn't given
    × (judgement fixed_terms 2 (decoded (accepted_message 1 300 (codes "INTC    ") (codes "L"))) only_entered
    ≡ Some token_fault)  -- a token of another port
    × (fault entered_and_accepted (accepted_message 1 300 (codes "INTC    ") (codes "L"))
    ≡ Some row_fault)  -- the order doesn't wait
    × (fault replace_asked_while_waiting (accepted_message 2 300 (codes "INTC    ") (codes "L"))
    ≡ Some row_fault)  -- the token of a replace
    × (fault only_entered (accepted_message 1 300 (codes "MSFT    ") (codes "L")) ≡ Some row_fault)  -- another stock
    × (fault only_entered (sold_message 1 300) ≡ Some row_fault)  -- another side
    × (fault only_entered (accepted_message 1 200 (codes "INTC    ") (codes "L"))
    ≡ None)  -- other shares than asked are the market's to say
    × (fault replace_pending (replaced_message 2 1 500 (codes "L")) ≡ None)  -- lawful
    × (fault replace_pending (replaced_bytes (codes "S") (codes "INTC    ") 2 1 500 (codes "L"))
    ≡ Some row_fault)  -- another side
    × (fault replace_pending (replaced_bytes (codes "B") (codes "MSFT    ") 2 1 500 (codes "L"))
    ≡ Some row_fault)  -- another stock
    × (fault replace_pending (replaced_message 3 1 500 (codes "L")) ≡ Some token_fault)  -- the new token isn't given
    × (fault replace_pending (replaced_message 2 3 500 (codes "L"))
    ≡ Some token_fault)  -- the previous token isn't given
    × (fault replaced_after_a_trade (replaced_message 3 2 1 (codes "L")) ≡ None)  -- lawful, with any shares from 1 on
    × (fault replaced_after_a_trade (replaced_message 3 1 1 (codes "L"))
    ≡ Some row_fault)  -- the previous token isn't live any more
    × (fault replace_asked_while_waiting (replaced_message 2 1 500 (codes "L")) ≡ Some row_fault)  -- the order waits
    × (fault replace_rejected (replaced_message 2 1 500 (codes "L")) ≡ Some row_fault)  -- the replace isn't pending
    × (fault closed_by_the_market (replaced_message 2 1 500 (codes "L")) ≡ Some row_fault)  -- the order is closed
    × (fault two_replaces_pending (replaced_message 2 1 500 (codes "L")) ≡ None)  -- of the oldest of two
    × (fault two_replaces_pending (replaced_message 3 1 400 (codes "L")) ≡ Some row_fault)  -- of the second
    × (fault two_replaces_pending (replaced_message 3 2 400 (codes "L"))
    ≡ Some row_fault)  -- the previous token isn't live yet either
    × (fault second_of_four_rejected (replaced_message 4 2 450 (codes "L")) ≡ Some row_fault)  -- it fell
    × (fault entered_and_accepted (canceled_message 1 300 (codes "U")) ≡ None)  -- lawful
    × (fault entered_and_accepted (canceled_message 1 301 (codes "U")) ≡ Some row_fault)  -- more than is open
    × (fault entered_and_accepted (canceled_message 1 0 (codes "U")) ≡ Some row_fault)  -- nothing
    × (fault only_entered (canceled_message 1 300 (codes "U")) ≡ Some row_fault)  -- the order waits
    × (fault replace_pending (canceled_message 2 300 (codes "U")) ≡ Some row_fault)  -- the token isn't live
    × (fault entered_and_accepted (executed_message 1 300 234500 7) ≡ None)  -- lawful
    × (fault entered_and_accepted (executed_message 1 0 234500 7) ≡ Some row_fault)  -- no shares
    × (fault entered_and_accepted (executed_message 1 301 234500 7) ≡ Some row_fault)  -- more than is open
    × (fault only_entered (executed_message 1 300 234500 7) ≡ Some row_fault)  -- the order waits
    × (fault order_is_filled (executed_message 1 100 234500 9) ≡ Some row_fault)  -- the order is closed
    × (fault replaced_after_a_trade (executed_message 2 100 234500 8)
    ≡ None)  -- lawful, under the token that replaced the first
    × (fault replaced_after_a_trade (executed_message 1 100 234500 8)
    ≡ Some row_fault)  -- the token isn't live any more
    × (fault replaced_after_a_trade (executed_message 2 100 234500 7)
    ≡ Some row_fault)  -- a trade under the first token has this number
    × (fault broken_after_it_is_replaced (executed_message 2 100 234500 7)
    ≡ Some row_fault)  -- a broken trade keeps its number
    × (fault order_is_filled (broken_message 1 7 (codes "E")) ≡ None)  -- lawful, though the order is closed
    × (fault order_is_filled (broken_message 1 9 (codes "E")) ≡ Some row_fault)  -- no trade has this number
    × (fault replaced_after_a_trade (broken_message 1 7 (codes "E")) ≡ None)  -- under a token that was live
    × (fault replaced_after_a_trade (broken_message 3 7 (codes "E")) ≡ Some row_fault)  -- under one that hasn't been
    × (fault broken_after_it_is_filled (broken_message 1 7 (codes "E")) ≡ Some row_fault)  -- it is broken already
    × (fault only_entered (rejected_message 1 (codes "T")) ≡ None)  -- of an order that waits
    × (fault entered_and_accepted (rejected_message 1 (codes "T")) ≡ Some row_fault)  -- the order doesn't wait
    × (fault replace_pending (rejected_message 2 (codes "T")) ≡ None)  -- of a pending replace
    × (fault two_replaces_pending (rejected_message 2 (codes "T")) ≡ None)  -- of the oldest of two
    × (fault two_replaces_pending (rejected_message 3 (codes "T")) ≡ Some row_fault)  -- of the second
    × (fault second_of_four_rejected (rejected_message 5 (codes "T")) ≡ Some row_fault)  -- it fell
    × (fault closed_by_the_market (rejected_message 2 (codes "T")) ≡ Some row_fault)  -- the replace isn't pending
    × (fault entered_and_accepted (cancel_reject_message 1) ≡ None)  -- lawful
    × (fault only_entered (cancel_reject_message 1) ≡ Some row_fault)  -- the order waits
    × (fault order_is_filled (cancel_reject_message 1) ≡ Some row_fault)  -- the order is closed
    × (fault replace_pending (cancel_reject_message 2) ≡ Some row_fault)  -- the token isn't live
    × (fault only_entered (cancel_pending_message 1) ≡ None)  -- any token of the port
    × (fault only_entered (cancel_pending_message 2) ≡ Some token_fault)  -- a token that isn't given
unfolding digits price quantity amount amount_of within scaled fraction worth worth_of last_digits
faults = (refl, refl, refl, refl, refl, refl, refl, refl, refl, refl, refl, refl, refl, refl, refl, refl, refl, refl, refl, refl, refl, refl, refl, refl, refl, refl, refl, refl, refl, refl, refl, refl, refl, refl, refl, refl, refl, refl, refl, refl, refl, refl, refl, refl, refl, refl, refl, refl, refl, refl, refl, refl, refl, refl, refl, refl, refl, refl, refl, refl, refl, refl, refl, refl)
