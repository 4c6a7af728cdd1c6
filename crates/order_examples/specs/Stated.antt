-- What the headline asks of each order beside what is told, computed on exchanges that are written down: its reports
-- state what is due, they and the market's messages give the same account of it, and its pending requests are
-- outstanding.
use Rattle.std.specs.Prelude.{◌≡◌, ◌&&◌, ℕ, Bool, true, List, [], ◌∷◌, filter, map, bytes_eq, refl, if◌then◌else◌}
use Rattle.std.specs.Fmt.{digits}
use Rattle.std.specs.List.{list_all, flat_map}
use Rattle.fixed_point.specs.Decimal.{price, quantity, amount, amount_of, within, scaled, fraction, worth, worth_of}
use Rattle.fixed_point.specs.Price.{price_text}
use Rattle.tokens.specs.TokenText.{last_digits}
use Rattle.order_law.specs.declared.account.Account.{Account}
use Rattle.order_machine.specs.fix_fields.Field.{Message, text}
use Rattle.order_law.specs.Life.{account_of}
use Rattle.order_law.specs.Reading.{account_read, is_report_on, reading}
use Rattle.order_law.specs.Chain.{Chain, Request, cancels, chain, replaces}
use Rattle.order_law.specs.History.{Asked, OrderHistory, Terms, terms_of, Entry, accepted, issued, is_cancel_said}
use Rattle.order_law.specs.History.{asked_of, is_new_order, is_replace_said, next_tokens, outstanding, pending_tokens}
use Rattle.order_law.specs.Headline.{ReportState, stated, due_after, is_reject_on, is_answer_to, has_due_ids, old_ids}
use Rattle.order_law.specs.Headline.{each_once, ids_asked, life_in}
use Rattle.order_examples.specs.Transcript.{fixed_terms}
use Rattle.order_examples.specs.Exchanges as exchanges
use Rattle.order_examples.specs.SeveralReplaces as several

-- ---- reports

abbrev pub new_orders : List Terms → OrderHistory → List Entry
new_orders terms h = filter (λ e. is_new_order e.message) (accepted terms h)

abbrev stated_on : List ℕ → List Message → List ReportState
stated_on order [] = []
stated_on order (r ∷ earlier) = if is_report_on order r then stated r ∷ stated_on order earlier
    else stated_on order earlier

abbrev due_on : List ℕ → Message → List Message → List ReportState
due_on order new [] = []
due_on order new (r ∷ earlier) =
    if is_report_on order r then due_after order new (r ∷ earlier) ∷ due_on order new earlier
    else due_on order new earlier

abbrev pub states : List Terms → OrderHistory → List ReportState
states terms h = flat_map (λ (e : Entry). stated_on e.order (issued e.client h)) (new_orders terms h)

abbrev pub due_states : List Terms → OrderHistory → List ReportState
due_states terms h = flat_map (λ (e : Entry). due_on e.order e.message (issued e.client h))
    (new_orders terms h)

-- each report on the order has the ids that are due, and each reject of a pending request the id that this named
abbrev ids_on : List ℕ → (List ℕ → List ℕ) → List Message → List Bool
ids_on order old_id [] = []
ids_on order old_id (r ∷ earlier) =
    if is_report_on order r then has_due_ids r (chain order earlier) (chain order (r ∷ earlier)) old_id
    ∷ ids_on order old_id earlier
    else if is_reject_on order r && is_answer_to (chain order earlier).pending r
    then bytes_eq (text 41 r) (old_id (text 11 r)) ∷ ids_on order old_id earlier
    else ids_on order old_id earlier

abbrev ids : List Terms → OrderHistory → List Bool
ids terms h = flat_map (λ (e : Entry). ids_on e.order (old_ids e.client (accepted terms h))
    (issued e.client h)) (new_orders terms h)

abbrev pub ids_are_due : OrderHistory → Bool
ids_are_due h = list_all (λ is_due. is_due) (ids fixed_terms h)

-- ---- accounts

abbrev read_of : OrderHistory → List Account
read_of h = map (λ (e : Entry). account_read (reading e.order (issued e.client h))) (new_orders fixed_terms h)

abbrev said_of : OrderHistory → List Account
said_of h = map (λ (e : Entry). account_of (life_in fixed_terms h e)) (new_orders fixed_terms h)

-- ---- requests

abbrev chain_of : OrderHistory → Entry → Chain
chain_of h e = chain e.order (issued e.client h)

abbrev asked_on : OrderHistory → Entry → List Asked
asked_on h e = outstanding fixed_terms (terms_of fixed_terms e.client).port h

abbrev each_order : (Entry → List (List ℕ)) → OrderHistory → List (List ℕ)
each_order of h = flat_map of (new_orders fixed_terms h)

abbrev ids_of : List Request → List (List ℕ)
ids_of requests = map (λ (q : Request). q.id) requests

-- ---- an exchange

record IsTrue (h : OrderHistory) : Type 0 where
  pub states : states fixed_terms h ≡ due_states fixed_terms h
  pub ids : ids_are_due h ≡ true
  pub accounts : read_of h ≡ said_of h
  pub replaces : each_order (λ e. ids_of (replaces (chain_of h e))) h
      ≡ each_order (λ e. ids_asked (asked_of is_replace_said e.order (asked_on h e))) h
  pub tokens :
      each_order (λ e. pending_tokens e.client (chain_of h e) (accepted fixed_terms h)) h
      ≡ each_order (λ e. next_tokens e.order (asked_on h e)) h
  pub cancels : each_order (λ e. ids_of (cancels (chain_of h e))) h
      ≡ each_order (λ e. each_once (ids_asked (asked_of is_cancel_said e.order (asked_on h e)))) h

cancel_after_a_fault : IsTrue exchanges.cancel_after_a_fault
unfolding digits price quantity amount amount_of within scaled fraction worth worth_of last_digits price_text
cancel_after_a_fault = record {
  states = refl;
  ids = refl;
  accounts = refl;
  replaces = refl;
  tokens = refl;
  cancels = refl;
}

filled_while_cancel_pending : IsTrue exchanges.filled_while_cancel_pending
unfolding digits price quantity amount amount_of within scaled fraction worth worth_of last_digits price_text
filled_while_cancel_pending = record {
  states = refl;
  ids = refl;
  accounts = refl;
  replaces = refl;
  tokens = refl;
  cancels = refl;
}

replaced_after_a_trade : IsTrue exchanges.replaced_after_a_trade
unfolding digits price quantity amount amount_of within scaled fraction worth worth_of last_digits price_text
replaced_after_a_trade = record {
  states = refl;
  ids = refl;
  accounts = refl;
  replaces = refl;
  tokens = refl;
  cancels = refl;
}

cancelled_across_a_replace : IsTrue exchanges.cancelled_across_a_replace
unfolding digits price quantity amount amount_of within scaled fraction worth worth_of last_digits price_text
cancelled_across_a_replace = record {
  states = refl;
  ids = refl;
  accounts = refl;
  replaces = refl;
  tokens = refl;
  cancels = refl;
}

cancelled_after_it_is_replaced : IsTrue exchanges.cancelled_after_it_is_replaced
unfolding digits price quantity amount amount_of within scaled fraction worth worth_of last_digits price_text
cancelled_after_it_is_replaced = record {
  states = refl;
  ids = refl;
  accounts = refl;
  replaces = refl;
  tokens = refl;
  cancels = refl;
}

filled_across_replace_and_cancel : IsTrue exchanges.filled_across_replace_and_cancel
unfolding digits price quantity amount amount_of within scaled fraction worth worth_of last_digits price_text
filled_across_replace_and_cancel = record {
  states = refl;
  ids = refl;
  accounts = refl;
  replaces = refl;
  tokens = refl;
  cancels = refl;
}

broken_after_it_is_filled : IsTrue exchanges.broken_after_it_is_filled
unfolding digits price quantity amount amount_of within scaled fraction worth worth_of last_digits price_text
broken_after_it_is_filled = record {
  states = refl;
  ids = refl;
  accounts = refl;
  replaces = refl;
  tokens = refl;
  cancels = refl;
}

dead_as_it_is_accepted : IsTrue exchanges.dead_as_it_is_accepted
unfolding digits price quantity amount amount_of within scaled fraction worth worth_of last_digits price_text
dead_as_it_is_accepted = record {
  states = refl;
  ids = refl;
  accounts = refl;
  replaces = refl;
  tokens = refl;
  cancels = refl;
}

dead_as_it_is_replaced : IsTrue exchanges.dead_as_it_is_replaced
unfolding digits price quantity amount amount_of within scaled fraction worth worth_of last_digits price_text
dead_as_it_is_replaced = record {
  states = refl;
  ids = refl;
  accounts = refl;
  replaces = refl;
  tokens = refl;
  cancels = refl;
}

rejected_while_cancel_pending : IsTrue exchanges.rejected_while_cancel_pending
unfolding digits price quantity amount amount_of within scaled fraction worth worth_of last_digits price_text
rejected_while_cancel_pending = record {
  states = refl;
  ids = refl;
  accounts = refl;
  replaces = refl;
  tokens = refl;
  cancels = refl;
}

asked_twice : IsTrue exchanges.asked_twice
unfolding digits price quantity amount amount_of within scaled fraction worth worth_of last_digits price_text
asked_twice = record { states = refl; ids = refl; accounts = refl; replaces = refl; tokens = refl; cancels = refl }

four_unanswered : IsTrue exchanges.four_unanswered
unfolding digits price quantity amount amount_of within scaled fraction worth worth_of last_digits price_text
four_unanswered = record { states = refl; ids = refl; accounts = refl; replaces = refl; tokens = refl; cancels = refl }

two_clients_with_the_same_ids : IsTrue exchanges.two_clients_with_the_same_ids
unfolding digits price quantity amount amount_of within scaled fraction worth worth_of last_digits price_text
two_clients_with_the_same_ids = record {
  states = refl;
  ids = refl;
  accounts = refl;
  replaces = refl;
  tokens = refl;
  cancels = refl;
}

cancelled_under_a_pending_id : IsTrue exchanges.cancelled_under_a_pending_id
unfolding digits price quantity amount amount_of within scaled fraction worth worth_of last_digits price_text
cancelled_under_a_pending_id = record {
  states = refl;
  ids = refl;
  accounts = refl;
  replaces = refl;
  tokens = refl;
  cancels = refl;
}

at_other_prices : IsTrue exchanges.at_other_prices
unfolding digits price quantity amount amount_of within scaled fraction worth worth_of last_digits price_text
at_other_prices = record { states = refl; ids = refl; accounts = refl; replaces = refl; tokens = refl; cancels = refl }

broken_among_equals : IsTrue exchanges.broken_among_equals
unfolding digits price quantity amount amount_of within scaled fraction worth worth_of last_digits price_text
broken_among_equals = record {
  states = refl;
  ids = refl;
  accounts = refl;
  replaces = refl;
  tokens = refl;
  cancels = refl;
}

-- ---- several replaces

fifth_replace_has_to_wait : IsTrue several.fifth_replace_has_to_wait
unfolding digits price quantity amount amount_of within scaled fraction worth worth_of last_digits price_text
fifth_replace_has_to_wait = record { states = refl; ids = refl; accounts = refl; replaces = refl; tokens = refl; cancels = refl }

second_of_four_rejected : IsTrue several.second_of_four_rejected
unfolding digits price quantity amount amount_of within scaled fraction worth worth_of last_digits price_text
second_of_four_rejected = record { states = refl; ids = refl; accounts = refl; replaces = refl; tokens = refl; cancels = refl }

all_fall_under_a_cancel : IsTrue several.all_fall_under_a_cancel
unfolding digits price quantity amount amount_of within scaled fraction worth worth_of last_digits price_text
all_fall_under_a_cancel = record { states = refl; ids = refl; accounts = refl; replaces = refl; tokens = refl; cancels = refl }

fall_answers_the_cancel : IsTrue several.fall_answers_the_cancel
unfolding digits price quantity amount amount_of within scaled fraction worth worth_of last_digits price_text
fall_answers_the_cancel = record { states = refl; ids = refl; accounts = refl; replaces = refl; tokens = refl; cancels = refl }

filled_with_four_and_a_cancel : IsTrue several.filled_with_four_and_a_cancel
unfolding digits price quantity amount amount_of within scaled fraction worth worth_of last_digits price_text
filled_with_four_and_a_cancel = record { states = refl; ids = refl; accounts = refl; replaces = refl; tokens = refl; cancels = refl }

dead_with_four_and_a_cancel : IsTrue several.dead_with_four_and_a_cancel
unfolding digits price quantity amount amount_of within scaled fraction worth worth_of last_digits price_text
dead_with_four_and_a_cancel = record { states = refl; ids = refl; accounts = refl; replaces = refl; tokens = refl; cancels = refl }

replaced_after_all_fell : IsTrue several.replaced_after_all_fell
unfolding digits price quantity amount amount_of within scaled fraction worth worth_of last_digits price_text
replaced_after_all_fell = record { states = refl; ids = refl; accounts = refl; replaces = refl; tokens = refl; cancels = refl }

fall_while_it_waits : IsTrue several.fall_while_it_waits
unfolding digits price quantity amount amount_of within scaled fraction worth worth_of last_digits price_text
fall_while_it_waits = record { states = refl; ids = refl; accounts = refl; replaces = refl; tokens = refl; cancels = refl }

trades_between_replaces : IsTrue several.trades_between_replaces
unfolding digits price quantity amount amount_of within scaled fraction worth worth_of last_digits price_text
trades_between_replaces = record { states = refl; ids = refl; accounts = refl; replaces = refl; tokens = refl; cancels = refl }

four_replaces_and_a_cancel : IsTrue several.four_replaces_and_a_cancel
unfolding digits price quantity amount amount_of within scaled fraction worth worth_of last_digits price_text
four_replaces_and_a_cancel = record { states = refl; ids = refl; accounts = refl; replaces = refl; tokens = refl; cancels = refl }
