-- Reports that say what isn't due, computed: what the headline asks of reports, apart from what is told, refuses each.
use Rattle.std.specs.Prelude.{◌≡◌, ℕ, true, false, List, [], ◌∷◌, map, codes, refl}
use Rattle.std.specs.Fmt.{digits, decimal}
use Rattle.fixed_point.specs.Decimal.{price, quantity, amount, amount_of, within, scaled, fraction, worth, worth_of}
use Rattle.fixed_point.specs.Price.{price_text}
use Rattle.tokens.specs.TokenText.{last_digits}
use Rattle.order_law.specs.History.{OrderHistory, OrderTurn}
use Rattle.order_law.specs.Headline.{ReportState}
use Rattle.order_machine.specs.fix_fields.Transcript.{message}
use Rattle.order_examples.specs.Transcript.{fixed_terms, asked_turn, heard_by_client, replace_message, cancel_message}
use Rattle.order_examples.specs.Transcript.{replaced_message, executed_message, canceled_message, broken_message}
use Rattle.order_examples.specs.Exchanges.{entered_and_accepted, replace_pending, order_is_filled}
use Rattle.order_examples.specs.Exchanges.{cancelled_across_a_replace}
use Rattle.order_examples.specs.Stated.{states, due_states, ids_are_due}

-- client 1 is told this by a replace, a cancel, a trade of 100, a Replaced, or a Canceled of all
abbrev told_by_replace : List ℕ → OrderTurn
told_by_replace body = asked_turn (codes "35=G|41=A1|11=A2|38=500|40=2|44=23.45") body (replace_message 1 2 500 ∷ [])

abbrev told_by_cancel : List ℕ → OrderTurn
told_by_cancel body = asked_turn (codes "35=F|41=A1|11=A2") body (cancel_message 1 ∷ [])

abbrev told_by_trade : List ℕ → OrderTurn
told_by_trade body = heard_by_client (executed_message 1 100 234500 7) (message body ∷ [])

abbrev told_by_replaced : List ℕ → OrderTurn
told_by_replaced body = heard_by_client (replaced_message 2 1 500 (codes "L")) (message body ∷ [])

abbrev told_by_canceled : List ℕ → OrderTurn
told_by_canceled body = heard_by_client (canceled_message 1 300 (codes "U")) (message body ∷ [])

-- ClOrdID (11) and OrigClOrdID (41): those that are due in the first row on each, and others behind it
misnamed :
    (ids_are_due (told_by_replace (codes "35=8|37=1|11=A2|41=A1|150=E|39=E|55=INTC|54=1|38=300|151=300|14=0|6=0")
    ∷ entered_and_accepted) ≡ true)
    × (ids_are_due (told_by_replace (codes "35=8|37=1|11=A2|150=E|39=E|55=INTC|54=1|38=300|151=300|14=0|6=0")
    ∷ entered_and_accepted) ≡ false)
    × (ids_are_due (told_by_replace (codes "35=8|37=1|11=A2|41=A2|150=E|39=E|55=INTC|54=1|38=300|151=300|14=0|6=0")
    ∷ entered_and_accepted) ≡ false)
    × (ids_are_due (told_by_cancel (codes "35=8|37=1|11=A2|41=A1|150=6|39=6|55=INTC|54=1|38=300|151=300|14=0|6=0")
    ∷ entered_and_accepted) ≡ true)
    × (ids_are_due (told_by_cancel (codes "35=8|37=1|11=A2|41=A3|150=6|39=6|55=INTC|54=1|38=300|151=300|14=0|6=0")
    ∷ entered_and_accepted) ≡ false)
    × (ids_are_due
    (told_by_trade
    (codes "35=8|37=1|11=A1|17=4|150=F|39=E|55=INTC|54=1|38=300|32=100|31=23.45|151=200|14=100|6=23.45")
    ∷ replace_pending) ≡ true)
    × (ids_are_due
    (told_by_trade
    (codes "35=8|37=1|11=A2|17=4|150=F|39=E|55=INTC|54=1|38=300|32=100|31=23.45|151=200|14=100|6=23.45")
    ∷ replace_pending) ≡ false)
    × (ids_are_due
    (told_by_trade
    (codes "35=8|37=1|11=A1|41=A1|17=4|150=F|39=E|55=INTC|54=1|38=300|32=100|31=23.45|151=200|14=100|6=23.45")
    ∷ replace_pending) ≡ false)
    × (ids_are_due (told_by_replaced (codes "35=8|37=1|11=A2|41=A1|150=5|39=6|55=INTC|54=1|38=500|151=500|14=0|6=0")
    ∷ cancelled_across_a_replace) ≡ true)
    × (ids_are_due (told_by_replaced (codes "35=8|37=1|11=A3|41=A2|150=5|39=6|55=INTC|54=1|38=500|151=500|14=0|6=0")
    ∷ cancelled_across_a_replace) ≡ false)
    × (ids_are_due
    (told_by_canceled (codes "35=8|37=1|11=A3|41=A2|150=4|39=4|55=INTC|54=1|38=300|151=0|14=0|6=0|58=U")
    ∷ cancelled_across_a_replace) ≡ true)
    × (ids_are_due
    (told_by_canceled (codes "35=8|37=1|11=A2|41=A1|150=4|39=4|55=INTC|54=1|38=300|151=0|14=0|6=0|58=U")
    ∷ cancelled_across_a_replace) ≡ false)
    × (ids_are_due (told_by_canceled (codes "35=8|37=1|11=A1|150=4|39=4|55=INTC|54=1|38=300|151=0|14=0|6=0|58=U")
    ∷ entered_and_accepted) ≡ true)
    × (ids_are_due
    (told_by_canceled (codes "35=8|37=1|11=A1|41=A1|150=4|39=4|55=INTC|54=1|38=300|151=0|14=0|6=0|58=U")
    ∷ entered_and_accepted) ≡ false)
unfolding digits price quantity amount amount_of within scaled fraction worth worth_of last_digits price_text
misnamed = (refl, refl, refl, refl, refl, refl, refl, refl, refl, refl, refl, refl, refl, refl)

-- OrderQty (38) of a closed order stays, though a report says another
abbrev broken_with_another_total : OrderHistory
broken_with_another_total =
    heard_by_client (broken_message 1 7 (codes "E"))
    (message (codes "35=8|37=1|11=A1|17=5|19=3|150=H|39=4|55=INTC|54=1|38=200|44=23.45|151=0|14=200|6=23.44|58=E")
    ∷ [])
    ∷ order_is_filled

totals :
    (map (λ (s : ReportState). s.total) (states fixed_terms broken_with_another_total)
    ≡ decimal 200 ∷ decimal 300 ∷ decimal 300 ∷ decimal 300 ∷ decimal 300 ∷ [])
    × (map (λ (s : ReportState). s.total) (due_states fixed_terms broken_with_another_total)
    ≡ decimal 300 ∷ decimal 300 ∷ decimal 300 ∷ decimal 300 ∷ decimal 300 ∷ [])
unfolding digits price quantity amount amount_of within scaled fraction worth worth_of last_digits price_text
totals = (refl, refl)
