-- What a port was asked and hasn't answered, as a list, computed on exchanges that are written down.
use Rattle.std.specs.Prelude.{◌≡◌, ℕ, List, [], ◌∷◌, map, codes, refl}
use Rattle.std.specs.Fmt.{digits}
use Rattle.fixed_point.specs.Decimal.{price, quantity, amount, amount_of, within, scaled, fraction, worth, worth_of}
use Rattle.tokens.specs.TokenText.{token_text, last_digits}
use Rattle.order_law.specs.History.{OrderHistory, Asked, Said, SaysNew, SaysReplace, SaysCancel, outstanding}
use Rattle.order_examples.specs.Transcript.{fixed_terms, heard_by_client, faulted, accepted_message, replaced_message}
use Rattle.order_examples.specs.Transcript.{rejected_message, canceled_message, cancel_reject_message}
use Rattle.order_examples.specs.Exchanges.{only_entered, entered_and_accepted, four_unanswered, cancelled_while_down}
use Rattle.order_examples.specs.Exchanges.{filled_while_cancel_pending, ordered_on_a_faulted_port, two_clients}
use Rattle.order_examples.specs.SeveralReplaces.{fall_answers_the_cancel, fall_beside_another_order}
use Rattle.order_examples.specs.SeveralReplaces.{four_replaces_and_a_cancel}
use Rattle.order_examples.specs.SeveralReplaces.{four_replaces_done_in_order}

-- by types and tokens, in the order in which it was asked
abbrev unanswered_on : ℕ → OrderHistory → List Said
unanswered_on port h = map (λ (a : Asked). a.said) (outstanding fixed_terms port h)

lists :
    (unanswered_on 1 only_entered ≡ SaysNew (token_text 1) ∷ [])
    × (unanswered_on 1 entered_and_accepted ≡ [])
    × (unanswered_on 1 four_unanswered ≡ SaysNew (token_text 2) ∷ SaysReplace (token_text 1) (token_text 3)
    ∷ SaysCancel (token_text 1) ∷ SaysCancel (token_text 3) ∷ [])
    × (unanswered_on 2 four_unanswered ≡ [])  -- the other port was asked nothing
    × (unanswered_on 1 (heard_by_client (replaced_message 3 1 500 (codes "L")) [] ∷ four_unanswered)
    ≡ SaysNew (token_text 2) ∷ SaysCancel (token_text 3)
    ∷ [])  -- its Replaced answers the replace, and the cancel of the token that it replaces
    × (unanswered_on 1 (heard_by_client (cancel_reject_message 1) [] ∷ four_unanswered)
    ≡ SaysNew (token_text 2) ∷ SaysReplace (token_text 1) (token_text 3) ∷ SaysCancel (token_text 3)
    ∷ [])  -- the cancel of one token
    × (unanswered_on 1 (heard_by_client (rejected_message 3 (codes "X")) [] ∷ four_unanswered)
    ≡ SaysNew (token_text 2) ∷ SaysCancel (token_text 1)
    ∷ [])  -- its Rejected answers the replace, and the cancel of its token
    × (unanswered_on 1 (heard_by_client (rejected_message 2 (codes "X")) [] ∷ four_unanswered)
    ≡ SaysReplace (token_text 1) (token_text 3) ∷ SaysCancel (token_text 1) ∷ SaysCancel (token_text 3)
    ∷ [])  -- the new order
    × (unanswered_on 1 (heard_by_client (canceled_message 1 300 (codes "U")) [] ∷ four_unanswered)
    ≡ SaysNew (token_text 2) ∷ [])  -- the first order is closed
    × (unanswered_on 1 (faulted (canceled_message 1 301 (codes "U")) 3 ∷ four_unanswered)
    ≡ unanswered_on 1 four_unanswered)  -- a fault answers nothing
    × (unanswered_on 1 (faulted (accepted_message 1 300 (codes "MSFT    ") (codes "L")) 3 ∷ only_entered)
    ≡ SaysNew (token_text 1) ∷ [])  -- and so is this one
    × (unanswered_on 1 cancelled_while_down ≡ SaysCancel (token_text 1) ∷ [])  -- it isn't sent yet
    × (unanswered_on 1 filled_while_cancel_pending ≡ [])
    × (unanswered_on 1 ordered_on_a_faulted_port ≡ [])  -- it was refused
    × (unanswered_on 2 ordered_on_a_faulted_port ≡ SaysNew (token_text 1) ∷ [])
    × (unanswered_on 1 four_replaces_and_a_cancel
    ≡ SaysReplace (token_text 1) (token_text 2) ∷ SaysReplace (token_text 2) (token_text 3)
    ∷ SaysReplace (token_text 3) (token_text 4) ∷ SaysReplace (token_text 4) (token_text 5)
    ∷ SaysCancel (token_text 1) ∷ SaysCancel (token_text 2) ∷ SaysCancel (token_text 3)
    ∷ SaysCancel (token_text 4) ∷ SaysCancel (token_text 5) ∷ [])  -- each replace from the one before it
    × (unanswered_on 1 four_replaces_done_in_order ≡ [])
    × (unanswered_on 1 (heard_by_client (replaced_message 2 1 500 (codes "L")) [] ∷ four_replaces_and_a_cancel)
    ≡ SaysReplace (token_text 2) (token_text 3) ∷ SaysReplace (token_text 3) (token_text 4)
    ∷ SaysReplace (token_text 4) (token_text 5) ∷ SaysCancel (token_text 2) ∷ SaysCancel (token_text 3)
    ∷ SaysCancel (token_text 4) ∷ SaysCancel (token_text 5)
    ∷ [])  -- the oldest is done: the others stay asked
    × (unanswered_on 1 (heard_by_client (rejected_message 2 (codes "X")) [] ∷ four_replaces_and_a_cancel)
    ≡ SaysCancel (token_text 1) ∷ [])  -- the oldest falls, and with it all that is asked behind it
    × (unanswered_on 1 (heard_by_client (rejected_message 3 (codes "X")) []
    ∷ heard_by_client (replaced_message 2 1 500 (codes "L")) [] ∷ four_replaces_and_a_cancel)
    ≡ SaysCancel (token_text 2) ∷ [])  -- the cancel of the live token stays
    × (unanswered_on 1 fall_answers_the_cancel ≡ [])
    × (unanswered_on 1 fall_beside_another_order
    ≡ SaysNew (token_text 2) ∷ SaysCancel (token_text 1) ∷ SaysReplace (token_text 2) (token_text 4)
    ∷ [])  -- what is asked of the other order stays
    × (unanswered_on 1 two_clients ≡ SaysNew (token_text 1) ∷ SaysNew (token_text 2) ∷ [])
unfolding digits price quantity amount amount_of within scaled fraction worth worth_of last_digits
lists = (refl, refl, refl, refl, refl, refl, refl, refl, refl, refl, refl, refl, refl, refl, refl, refl, refl, refl, refl, refl, refl, refl, refl)
