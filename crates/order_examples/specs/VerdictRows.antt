-- Each row of the tables of verdicts, where it alone holds, computed.
use Rattle.std.specs.Prelude.{◌≡◌, ℕ, false, List, [], ◌∷◌, codes, refl, Option, Some, None, option_map}
use Rattle.std.specs.Fmt.{digits}
use Rattle.fixed_point.specs.Decimal.{price, quantity, amount, amount_of, within, scaled, fraction, worth, worth_of}
use Rattle.tokens.specs.TokenText.{last_digits}
use Rattle.order_law.specs.Verdicts.{Port, Up, Down, Ended, Faulted, Verdict, Accepted, Refused, first_row, rows_of_new}
use Rattle.order_law.specs.Verdicts.{verdict_of_new, verdict_of_request, open_orders}
use Rattle.order_law.specs.Reading.{unread}
use Rattle.order_law.specs.Chain.{unchained}
use Rattle.order_law.specs.History.{OrderHistory, issued, accepted, verdict, standing_of}
use Rattle.order_machine.specs.fix_fields.Transcript.{message}
use Rattle.order_examples.specs.Transcript.{fixed_terms}
use Rattle.order_examples.specs.Exchanges.{entered_and_accepted, order_is_filled}
use Rattle.order_examples.specs.Exchanges.{cancelled_across_a_replace, replaced_after_a_trade, four_unanswered}
use Rattle.order_examples.specs.SeveralReplaces.{four_replaces_pending, three_replaces_pending}

-- the verdict of a new order with its port up
abbrev of_new : List ℕ → Verdict
of_new text = verdict_of_new [] Up 0 (message text)

abbrev usual : List ℕ
usual = codes "35=D|11=B1|54=1|55=INTC|38=300|40=2|44=23.45"

-- new orders
of_new_orders :
    (of_new usual ≡ Accepted)
    × (verdict_of_new [] Down 0 (message usual) ≡ Accepted)  -- it is sent once the port is up
    × (verdict_of_new (message (codes "35=8|11=B1") ∷ []) Up 0 (message usual)
    ≡ Refused 6 (codes "duplicate ClOrdID"))  -- of a report
    × (verdict_of_new (message (codes "35=9|11=B1") ∷ []) Up 0 (message usual)
    ≡ Refused 6 (codes "duplicate ClOrdID"))  -- of a reject
    × (verdict_of_new [] Ended 0 (message usual) ≡ Refused 2 (codes "market session ended"))
    × (verdict_of_new [] (Faulted 3) 0 (message usual) ≡ Refused 2 (codes "port fault 3"))
    × (of_new (codes "35=D|11=B1|54=3|55=INTC|38=300|40=2|44=23.45") ≡ Refused 11 (codes "side"))
    × (of_new (codes "35=D|11=B1|54=1|55=NINEBYTES|38=300|40=2|44=23.45") ≡ Refused 1 (codes "symbol"))  -- nine bytes
    × (of_new (codes "35=D|11=B1|54=1|55=|38=300|40=2|44=23.45") ≡ Refused 1 (codes "symbol"))  -- none
    × (of_new (codes "35=D|11=B1|54=1|55=IN TC|38=300|40=2|44=23.45") ≡ Refused 1 (codes "symbol"))  -- a space
    × (of_new (codes "35=D|11=B1|54=1|55=INTC|38=300|40=1|44=23.45") ≡ Refused 11 (codes "order type"))
    × (of_new (codes "35=D|11=B1|54=1|55=INTC|38=300|40=2|44=23.45|59=1") ≡ Refused 11 (codes "time in force"))
    × (of_new (codes "35=D|11=B1|54=1|55=INTC|38=300|40=2|44=23.45|59=3") ≡ Accepted)  -- immediate or cancel
    × (of_new (codes "35=D|11=B1|54=1|55=INTC|38=300|40=2|44=23.45|59=4") ≡ Accepted)  -- fill or kill
    × (of_new (codes "35=D|11=B1|54=1|55=INTC|38=300|40=2|44=23.45|59=4|110=300") ≡ Accepted)
    × (of_new (codes "35=D|11=B1|54=1|55=INTC|38=300|40=2|44=23.45|59=4|110=301")
    ≡ Refused 13 (codes "minimum quantity"))  -- its minimum is judged all the same
    × (of_new (codes "35=D|11=B1|54=1|55=INTC|38=300|40=2|44=23.45|59=2") ≡ Refused 11 (codes "time in force"))
    × (of_new (codes "35=D|11=B1|54=1|55=INTC|38=300|40=2|44=23.45|59=5") ≡ Refused 11 (codes "time in force"))
    × (of_new (codes "35=D|11=B1|54=1|55=INTC|38=300|40=2|44=23.45|59=44") ≡ Refused 11 (codes "time in force"))
    × (of_new (codes "35=D|11=B1|54=1|55=INTC|38=300|40=2|44=23.45|59=") ≡ Refused 11 (codes "time in force"))
    × (of_new (codes "35=D|11=B1|54=1|55=INTC|38=300|40=2|44=23.45|18=5") ≡ Refused 11 (codes "execution instruction"))
    × (of_new (codes "35=D|11=B1|54=1|55=INTC|38=300|40=2|44=23.45|528=B") ≡ Refused 11 (codes "capacity"))
    × (of_new (codes "35=D|11=B1|54=1|55=INTC|38=300.5|40=2|44=23.45") ≡ Refused 13 (codes "quantity"))  -- not exact
    × (of_new (codes "35=D|11=B1|54=1|55=INTC|38=1000000|40=2|44=23.45")
    ≡ Refused 13 (codes "quantity"))  -- out of range
    × (of_new (codes "35=D|11=B1|54=1|55=INTC|38=300|40=2|44=23.45|110=301")
    ≡ Refused 13 (codes "minimum quantity"))  -- above the total
    × (of_new (codes "35=D|11=B1|54=1|55=INTC|38=300|40=2|44=23.45|110=0.5")
    ≡ Refused 13 (codes "minimum quantity"))  -- not exact
    × (of_new (codes "35=D|11=B1|54=1|55=INTC|38=300|40=2|44=23.45|110=300") ≡ Accepted)  -- all of it
    × (of_new (codes "35=D|11=B1|54=1|55=INTC|38=300|40=2") ≡ Refused 99 (codes "price missing"))
    × (of_new (codes "35=D|11=B1|54=1|55=INTC|38=300|40=2|44=23.45001") ≡ Refused 99 (codes "price not in 1/10000"))
    × (of_new (codes "35=D|11=B1|54=1|55=INTC|38=300|40=2|44=0") ≡ Refused 99 (codes "price out of range"))
    × (verdict_of_new [] Up 9999999999999 (message usual) ≡ Refused 99 (codes "no token left"))
unfolding digits price quantity amount amount_of within scaled fraction worth worth_of last_digits
of_new_orders = (refl, refl, refl, refl, refl, refl, refl, refl, refl, refl, refl, refl, refl, refl, refl, refl, refl, refl, refl, refl, refl, refl, refl, refl, refl, refl, refl, refl, refl, refl, refl)

-- new orders on which one row holds and the next one too: the earlier refuses
first_of_two_on_new_orders :
    (verdict_of_new (message (codes "35=8|11=B1") ∷ []) Ended 0 (message usual) ≡ Refused 6 (codes "duplicate ClOrdID"))
    × (verdict_of_new (message (codes "35=8|11=B1") ∷ []) (Faulted 3) 0 (message usual)
    ≡ Refused 6 (codes "duplicate ClOrdID"))
    × (verdict_of_new [] Ended 0 (message (codes "35=D|11=B1|54=3|55=INTC|38=300|40=2|44=23.45"))
    ≡ Refused 2 (codes "market session ended"))
    × (verdict_of_new [] (Faulted 3) 0 (message (codes "35=D|11=B1|54=3|55=INTC|38=300|40=2|44=23.45"))
    ≡ Refused 2 (codes "port fault 3"))
    × (of_new (codes "35=D|11=B1|54=3|55=IN TC|38=300|40=2|44=23.45") ≡ Refused 11 (codes "side"))
    × (of_new (codes "35=D|11=B1|54=1|55=IN TC|38=300|40=1|44=23.45") ≡ Refused 1 (codes "symbol"))
    × (of_new (codes "35=D|11=B1|54=1|55=INTC|38=300|40=1|44=23.45|59=1") ≡ Refused 11 (codes "order type"))
    × (of_new (codes "35=D|11=B1|54=1|55=INTC|38=300|40=2|44=23.45|59=1|18=5") ≡ Refused 11 (codes "time in force"))
    × (of_new (codes "35=D|11=B1|54=1|55=INTC|38=300|40=2|44=23.45|18=5|528=B")
    ≡ Refused 11 (codes "execution instruction"))
    × (of_new (codes "35=D|11=B1|54=1|55=INTC|38=0|40=2|44=23.45|528=B") ≡ Refused 11 (codes "capacity"))
    × (of_new (codes "35=D|11=B1|54=1|55=INTC|38=0|40=2|44=23.45|110=0.5") ≡ Refused 13 (codes "quantity"))
    × (of_new (codes "35=D|11=B1|54=1|55=INTC|38=300|40=2|110=0.5") ≡ Refused 13 (codes "minimum quantity"))
    × (of_new (codes "35=D|11=B1|54=1|55=INTC|38=300|40=2|44=-0.00001") ≡ Refused 99 (codes "price not in 1/10000"))
    × (first_row (rows_of_new false Up 10000 0 (message (codes "35=D|11=B1|54=1|55=INTC|38=300|40=2")))
    ≡ Refused 99 (codes "price missing"))
    × (first_row (rows_of_new false Up 10000 0 (message (codes "35=D|11=B1|54=1|55=INTC|38=300|40=2|44=0")))
    ≡ Refused 99 (codes "price out of range"))
    × (first_row (rows_of_new false Up 10000 9999999999999 (message usual)) ≡ Refused 3 (codes "too many open orders"))
unfolding digits price quantity amount amount_of within scaled fraction worth worth_of last_digits
first_of_two_on_new_orders =
    (refl, refl, refl, refl, refl, refl, refl, refl, refl, refl, refl, refl, refl, refl, refl, refl)

-- the limit of open orders, and which orders count for it
of_open_orders :
    (first_row (rows_of_new false Up 9999 0 (message usual)) ≡ Accepted)  -- one may be opened yet
    × (first_row (rows_of_new false Up 10000 0 (message usual)) ≡ Refused 3 (codes "too many open orders"))
    × (open_orders (issued 1 entered_and_accepted) ≡ 1)  -- it is open
    × (open_orders (issued 1 order_is_filled) ≡ 0)  -- it is closed
unfolding digits price quantity amount amount_of within scaled fraction worth worth_of last_digits
of_open_orders = (refl, refl, refl, refl)

-- the verdict of a cancel or replace of client 1 after a history, with its port standing so
abbrev verdict_after : OrderHistory → Port → List ℕ → Verdict
verdict_after h port text = verdict fixed_terms (issued 1 h) (accepted fixed_terms h) port (message text)

-- with its port up
abbrev of_request : OrderHistory → List ℕ → Verdict
of_request h text = verdict_after h Up text

-- of an order of which so many shares are executed, with so many replaces behind it, and so many tokens given
abbrev of_named : ℕ → ℕ → ℕ → List ℕ → Verdict
of_named executed replaces given text =
    verdict_of_request []
    (Some (record {
      side = codes "1";
      symbol = codes "INTC";
      capacity = 65;
      reading = record unread { executed = executed };
      chain = unchained;
      replaces = replaces;
    }))
    Up given (message text)

-- how many replaces of an order of client 1 were accepted
abbrev replaces_of : List ℕ → OrderHistory → Option ℕ
replaces_of order h = option_map (λ n. n.replaces) (standing_of fixed_terms (issued 1 h) (accepted fixed_terms h) order)

-- those of another order, and cancels, don't count
of_replaces :
    (replaces_of (codes "1") entered_and_accepted ≡ Some 0)
    × (replaces_of (codes "1") replaced_after_a_trade ≡ Some 2)
    × (replaces_of (codes "1") four_unanswered ≡ Some 1)
    × (replaces_of (codes "2") four_unanswered ≡ Some 0)
    × (replaces_of (codes "3") four_unanswered ≡ None)
unfolding digits price quantity amount amount_of within scaled fraction worth worth_of last_digits
of_replaces = (refl, refl, refl, refl, refl)

-- cancels and replaces. That a total has to be above what is executed stands in `Exchanges.antt`.
of_requests :
    (of_request entered_and_accepted (codes "35=F|41=A1|11=B2") ≡ Accepted)
    × (of_request entered_and_accepted (codes "35=G|41=A1|11=B2|38=400|40=2|44=23.45") ≡ Accepted)
    × (of_request entered_and_accepted (codes "35=F|41=A1|11=A1") ≡ Refused 6 (codes "duplicate ClOrdID"))
    × (of_request entered_and_accepted (codes "35=F|41=Q|11=B2") ≡ Refused 1 (codes "unknown order"))
    × (of_request order_is_filled (codes "35=F|41=A1|11=B2") ≡ Refused 0 (codes "too late"))
    × (verdict_after entered_and_accepted Ended (codes "35=G|41=A1|11=B2|38=400|40=2|44=23.45")
    ≡ Refused 2 (codes "market session ended"))
    × (verdict_after entered_and_accepted (Faulted 1) (codes "35=G|41=A1|11=B2|38=400|40=2|44=23.45")
    ≡ Refused 2 (codes "port fault 1"))
    × (of_request cancelled_across_a_replace (codes "35=F|41=A1|11=B2")
    ≡ Refused 3 (codes "already pending"))  -- a cancel for a cancel
    × (of_request cancelled_across_a_replace (codes "35=G|41=A3|11=B2|38=400|40=2|44=23.45")
    ≡ Refused 3 (codes "already pending"))  -- a replace for a cancel; named by the cancel's id
    × (of_request three_replaces_pending (codes "35=G|41=A1|11=B2|38=400|40=2|44=23.45")
    ≡ Accepted)  -- a fourth replace
    × (of_request four_replaces_pending (codes "35=G|41=A1|11=B2|38=400|40=2|44=23.45")
    ≡ Refused 3 (codes "already pending"))  -- a fifth
    × (of_request four_replaces_pending (codes "35=F|41=A1|11=B2") ≡ Accepted)  -- a cancel waits for a cancel alone
    × (of_request four_replaces_pending (codes "35=F|41=A3|11=B2") ≡ Accepted)  -- under the id of any of them
    × (of_request entered_and_accepted (codes "35=G|41=A1|11=B2|38=400|40=2|44=23.45|54=2")
    ≡ Refused 99 (codes "side, symbol or capacity"))
    × (of_request entered_and_accepted (codes "35=G|41=A1|11=B2|38=400|40=2|44=23.45|55=MSFT")
    ≡ Refused 99 (codes "side, symbol or capacity"))
    × (of_request entered_and_accepted (codes "35=G|41=A1|11=B2|38=400|40=2|44=23.45|528=A")
    ≡ Refused 99 (codes "side, symbol or capacity"))  -- the order has P
    × (of_request entered_and_accepted (codes "35=G|41=A1|11=B2|38=400|40=2|44=23.45|54=1|55=INTC|528=P")
    ≡ Accepted)  -- as the order has them
    × (of_request entered_and_accepted (codes "35=G|41=A1|11=B2|38=400|40=1|44=23.45")
    ≡ Refused 99 (codes "order type"))
    × (of_request entered_and_accepted (codes "35=G|41=A1|11=B2|38=400|40=2|44=23.45|59=1")
    ≡ Refused 99 (codes "time in force"))
    × (of_request entered_and_accepted (codes "35=G|41=A1|11=B2|38=400|40=2|44=23.45|59=3") ≡ Accepted)
    × (of_request entered_and_accepted (codes "35=G|41=A1|11=B2|38=400|40=2|44=23.45|59=4")
    ≡ Refused 99 (codes "time in force"))  -- a replace can't be fill or kill
    × (of_request entered_and_accepted (codes "35=G|41=A1|11=B2|38=400|40=2|44=23.45|18=5")
    ≡ Refused 99 (codes "execution instruction"))
    × (of_request entered_and_accepted (codes "35=G|41=A1|11=B2|38=0|40=2|44=23.45") ≡ Refused 99 (codes "quantity"))
    × (of_request entered_and_accepted (codes "35=G|41=A1|11=B2|38=400|40=2|44=23.45|110=401")
    ≡ Refused 99 (codes "minimum quantity"))
    × (of_request entered_and_accepted (codes "35=G|41=A1|11=B2|38=400|40=2") ≡ Refused 99 (codes "price missing"))
    × (of_request entered_and_accepted (codes "35=G|41=A1|11=B2|38=400|40=2|44=0.00001")
    ≡ Refused 99 (codes "price not in 1/10000"))
    × (of_request entered_and_accepted (codes "35=G|41=A1|11=B2|38=400|40=2|44=200000")
    ≡ Refused 99 (codes "price out of range"))
    × (of_request replaced_after_a_trade (codes "35=F|41=A1|11=B2")
    ≡ Refused 1 (codes "unknown order"))  -- an id that was replaced names none
    × (of_named 0 65534 0 (codes "35=G|41=A1|11=B2|38=400|40=2|44=23.45") ≡ Accepted)  -- one is left
    × (of_named 0 65535 0 (codes "35=G|41=A1|11=B2|38=400|40=2|44=23.45") ≡ Refused 2 (codes "replace limit"))
    × (of_named 0 0 9999999999999 (codes "35=G|41=A1|11=B2|38=400|40=2|44=23.45") ≡ Refused 2 (codes "no token left"))
    × (of_named 0 0 9999999999999 (codes "35=F|41=A1|11=B2") ≡ Accepted)  -- a cancel needs none
unfolding digits price quantity amount amount_of within scaled fraction worth worth_of last_digits
of_requests = (refl, refl, refl, refl, refl, refl, refl, refl, refl, refl, refl, refl, refl, refl, refl, refl, refl, refl, refl, refl, refl, refl, refl, refl, refl, refl, refl, refl, refl, refl, refl, refl)

-- requests on which one row holds and the next one too: the earlier refuses
first_of_two_on_requests :
    (of_request entered_and_accepted (codes "35=F|41=Q|11=A1") ≡ Refused 6 (codes "duplicate ClOrdID"))
    × (verdict_after order_is_filled Ended (codes "35=F|41=A1|11=B2") ≡ Refused 0 (codes "too late"))
    × (verdict_after four_replaces_pending (Faulted 3) (codes "35=G|41=A1|11=B2|38=400|40=2|44=23.45")
    ≡ Refused 2 (codes "port fault 3"))
    × (of_request four_replaces_pending (codes "35=G|41=A1|11=B2|38=400|40=2|44=23.45|54=2")
    ≡ Refused 3 (codes "already pending"))
    × (of_request entered_and_accepted (codes "35=G|41=A1|11=B2|38=400|40=1|44=23.45|54=2")
    ≡ Refused 99 (codes "side, symbol or capacity"))
    × (of_request entered_and_accepted (codes "35=G|41=A1|11=B2|38=400|40=1|44=23.45|59=1")
    ≡ Refused 99 (codes "order type"))
    × (of_request entered_and_accepted (codes "35=G|41=A1|11=B2|38=400|40=2|44=23.45|59=1|18=5")
    ≡ Refused 99 (codes "time in force"))
    × (of_request entered_and_accepted (codes "35=G|41=A1|11=B2|38=0|40=2|44=23.45|18=5")
    ≡ Refused 99 (codes "execution instruction"))
    × (of_request entered_and_accepted (codes "35=G|41=A1|11=B2|38=0|40=2|44=23.45|110=0.5")
    ≡ Refused 99 (codes "quantity"))
    × (of_request entered_and_accepted (codes "35=G|41=A1|11=B2|38=400|40=2|110=401")
    ≡ Refused 99 (codes "minimum quantity"))
    × (of_named 400 0 0 (codes "35=G|41=A1|11=B2|38=400|40=2") ≡ Refused 99 (codes "price missing"))
    × (of_named 400 0 0 (codes "35=G|41=A1|11=B2|38=400|40=2|44=0") ≡ Refused 99 (codes "price out of range"))
    × (of_named 400 65535 0 (codes "35=G|41=A1|11=B2|38=400|40=2|44=23.45")
    ≡ Refused 99 (codes "total not above executed"))
    × (of_named 0 65535 9999999999999 (codes "35=G|41=A1|11=B2|38=400|40=2|44=23.45")
    ≡ Refused 2 (codes "replace limit"))
unfolding digits price quantity amount amount_of within scaled fraction worth worth_of last_digits
first_of_two_on_requests = (refl, refl, refl, refl, refl, refl, refl, refl, refl, refl, refl, refl, refl, refl)
