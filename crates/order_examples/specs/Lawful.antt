-- Each exchange that is written down, computed.
use Rattle.std.specs.Prelude.{refl}
use Rattle.std.specs.Fmt.{digits}
use Rattle.fixed_point.specs.Decimal.{price, quantity, amount, amount_of, within, scaled, fraction, worth, worth_of}
use Rattle.fixed_point.specs.Price.{price_text}
use Rattle.tokens.specs.TokenText.{last_digits}
use Rattle.order_examples.specs.Computed.{IsLawful}
use Rattle.order_examples.specs.Exchanges as exchanges
use Rattle.order_examples.specs.SeveralReplaces as several

only_entered : IsLawful exchanges.only_entered
unfolding digits price quantity amount amount_of within scaled fraction worth worth_of last_digits price_text
only_entered = record { tells = refl; faults = refl; asks = refl; tokens = refl }

entered_and_accepted : IsLawful exchanges.entered_and_accepted
unfolding digits price quantity amount amount_of within scaled fraction worth worth_of last_digits price_text
entered_and_accepted = record { tells = refl; faults = refl; asks = refl; tokens = refl }

replace_pending : IsLawful exchanges.replace_pending
unfolding digits price quantity amount amount_of within scaled fraction worth worth_of last_digits price_text
replace_pending = record { tells = refl; faults = refl; asks = refl; tokens = refl }

filled : IsLawful exchanges.order_is_filled
unfolding digits price quantity amount amount_of within scaled fraction worth worth_of last_digits price_text
filled = record { tells = refl; faults = refl; asks = refl; tokens = refl }

filled_while_cancel_pending : IsLawful exchanges.filled_while_cancel_pending
unfolding digits price quantity amount amount_of within scaled fraction worth worth_of last_digits price_text
filled_while_cancel_pending = record { tells = refl; faults = refl; asks = refl; tokens = refl }

replaced_after_a_trade : IsLawful exchanges.replaced_after_a_trade
unfolding digits price quantity amount amount_of within scaled fraction worth worth_of last_digits price_text
replaced_after_a_trade = record { tells = refl; faults = refl; asks = refl; tokens = refl }

cancelled_across_a_replace : IsLawful exchanges.cancelled_across_a_replace
unfolding digits price quantity amount amount_of within scaled fraction worth worth_of last_digits price_text
cancelled_across_a_replace = record { tells = refl; faults = refl; asks = refl; tokens = refl }

cancelled_after_it_is_replaced : IsLawful exchanges.cancelled_after_it_is_replaced
unfolding digits price quantity amount amount_of within scaled fraction worth worth_of last_digits price_text
cancelled_after_it_is_replaced = record { tells = refl; faults = refl; asks = refl; tokens = refl }

filled_across_replace_and_cancel : IsLawful exchanges.filled_across_replace_and_cancel
unfolding digits price quantity amount amount_of within scaled fraction worth worth_of last_digits price_text
filled_across_replace_and_cancel = record { tells = refl; faults = refl; asks = refl; tokens = refl }

closed_by_the_market : IsLawful exchanges.closed_by_the_market
unfolding digits price quantity amount amount_of within scaled fraction worth worth_of last_digits price_text
closed_by_the_market = record { tells = refl; faults = refl; asks = refl; tokens = refl }

replace_rejected : IsLawful exchanges.replace_rejected
unfolding digits price quantity amount amount_of within scaled fraction worth worth_of last_digits price_text
replace_rejected = record { tells = refl; faults = refl; asks = refl; tokens = refl }

asked_twice : IsLawful exchanges.asked_twice
unfolding digits price quantity amount amount_of within scaled fraction worth worth_of last_digits price_text
asked_twice = record { tells = refl; faults = refl; asks = refl; tokens = refl }

broken_after_it_is_filled : IsLawful exchanges.broken_after_it_is_filled
unfolding digits price quantity amount amount_of within scaled fraction worth worth_of last_digits price_text
broken_after_it_is_filled = record { tells = refl; faults = refl; asks = refl; tokens = refl }

dead_as_it_is_accepted : IsLawful exchanges.dead_as_it_is_accepted
unfolding digits price quantity amount amount_of within scaled fraction worth worth_of last_digits price_text
dead_as_it_is_accepted = record { tells = refl; faults = refl; asks = refl; tokens = refl }

rejected_while_cancel_pending : IsLawful exchanges.rejected_while_cancel_pending
unfolding digits price quantity amount amount_of within scaled fraction worth worth_of last_digits price_text
rejected_while_cancel_pending = record { tells = refl; faults = refl; asks = refl; tokens = refl }

no_order_of_that_name : IsLawful exchanges.no_order_of_that_name
unfolding digits price quantity amount amount_of within scaled fraction worth worth_of last_digits price_text
no_order_of_that_name = record { tells = refl; faults = refl; asks = refl; tokens = refl }

accepted_again : IsLawful exchanges.accepted_again
unfolding digits price quantity amount amount_of within scaled fraction worth worth_of last_digits price_text
accepted_again = record { tells = refl; faults = refl; asks = refl; tokens = refl }

executed_too_much : IsLawful exchanges.executed_too_much
unfolding digits price quantity amount amount_of within scaled fraction worth worth_of last_digits price_text
executed_too_much = record { tells = refl; faults = refl; asks = refl; tokens = refl }

cancel_rejected : IsLawful exchanges.cancel_is_rejected
unfolding digits price quantity amount amount_of within scaled fraction worth worth_of last_digits price_text
cancel_rejected = record { tells = refl; faults = refl; asks = refl; tokens = refl }

replace_asked_while_waiting : IsLawful exchanges.replace_asked_while_waiting
unfolding digits price quantity amount amount_of within scaled fraction worth worth_of last_digits price_text
replace_asked_while_waiting = record { tells = refl; faults = refl; asks = refl; tokens = refl }

accepted_with_a_replace_pending : IsLawful exchanges.accepted_with_a_replace_pending
unfolding digits price quantity amount amount_of within scaled fraction worth worth_of last_digits price_text
accepted_with_a_replace_pending = record { tells = refl; faults = refl; asks = refl; tokens = refl }

four_unanswered : IsLawful exchanges.four_unanswered
unfolding digits price quantity amount amount_of within scaled fraction worth worth_of last_digits price_text
four_unanswered = record { tells = refl; faults = refl; asks = refl; tokens = refl }

cancelled_while_down : IsLawful exchanges.cancelled_while_down
unfolding digits price quantity amount amount_of within scaled fraction worth worth_of last_digits price_text
cancelled_while_down = record { tells = refl; faults = refl; asks = refl; tokens = refl }

ordered_after_the_end : IsLawful exchanges.ordered_after_the_end
unfolding digits price quantity amount amount_of within scaled fraction worth worth_of last_digits price_text
ordered_after_the_end = record { tells = refl; faults = refl; asks = refl; tokens = refl }

ordered_on_a_faulted_port : IsLawful exchanges.ordered_on_a_faulted_port
unfolding digits price quantity amount amount_of within scaled fraction worth worth_of last_digits price_text
ordered_on_a_faulted_port = record { tells = refl; faults = refl; asks = refl; tokens = refl }

cancel_after_a_fault : IsLawful exchanges.cancel_after_a_fault
unfolding digits price quantity amount amount_of within scaled fraction worth worth_of last_digits price_text
cancel_after_a_fault = record { tells = refl; faults = refl; asks = refl; tokens = refl }

filled_beside_a_faulted_port : IsLawful exchanges.filled_beside_a_faulted_port
unfolding digits price quantity amount amount_of within scaled fraction worth worth_of last_digits price_text
filled_beside_a_faulted_port = record { tells = refl; faults = refl; asks = refl; tokens = refl }

accepted_beside_a_faulted_port : IsLawful exchanges.accepted_beside_a_faulted_port
unfolding digits price quantity amount amount_of within scaled fraction worth worth_of last_digits price_text
accepted_beside_a_faulted_port = record { tells = refl; faults = refl; asks = refl; tokens = refl }

two_clients : IsLawful exchanges.two_clients
unfolding digits price quantity amount amount_of within scaled fraction worth worth_of last_digits price_text
two_clients = record { tells = refl; faults = refl; asks = refl; tokens = refl }

asked_under_a_pending_id : IsLawful exchanges.asked_under_a_pending_id
unfolding digits price quantity amount amount_of within scaled fraction worth worth_of last_digits price_text
asked_under_a_pending_id = record { tells = refl; faults = refl; asks = refl; tokens = refl }

sold_in_each_way : IsLawful exchanges.sold_in_each_way
unfolding digits price quantity amount amount_of within scaled fraction worth worth_of last_digits price_text
sold_in_each_way = record { tells = refl; faults = refl; asks = refl; tokens = refl }

broken_after_it_is_replaced : IsLawful exchanges.broken_after_it_is_replaced
unfolding digits price quantity amount amount_of within scaled fraction worth worth_of last_digits price_text
broken_after_it_is_replaced = record { tells = refl; faults = refl; asks = refl; tokens = refl }

dead_as_it_is_replaced : IsLawful exchanges.dead_as_it_is_replaced
unfolding digits price quantity amount amount_of within scaled fraction worth worth_of last_digits price_text
dead_as_it_is_replaced = record { tells = refl; faults = refl; asks = refl; tokens = refl }

ordered_after_a_cancel : IsLawful exchanges.ordered_after_a_cancel
unfolding digits price quantity amount amount_of within scaled fraction worth worth_of last_digits price_text
ordered_after_a_cancel = record { tells = refl; faults = refl; asks = refl; tokens = refl }

two_clients_with_the_same_ids : IsLawful exchanges.two_clients_with_the_same_ids
unfolding digits price quantity amount amount_of within scaled fraction worth worth_of last_digits price_text
two_clients_with_the_same_ids = record { tells = refl; faults = refl; asks = refl; tokens = refl }

cancelled_under_a_pending_id : IsLawful exchanges.cancelled_under_a_pending_id
unfolding digits price quantity amount amount_of within scaled fraction worth worth_of last_digits price_text
cancelled_under_a_pending_id = record { tells = refl; faults = refl; asks = refl; tokens = refl }

at_other_prices : IsLawful exchanges.at_other_prices
unfolding digits price quantity amount amount_of within scaled fraction worth worth_of last_digits price_text
at_other_prices = record { tells = refl; faults = refl; asks = refl; tokens = refl }

asked_after_it_is_refused : IsLawful exchanges.asked_after_it_is_refused
unfolding digits price quantity amount amount_of within scaled fraction worth worth_of last_digits price_text
asked_after_it_is_refused = record { tells = refl; faults = refl; asks = refl; tokens = refl }

broken_among_equals : IsLawful exchanges.broken_among_equals
unfolding digits price quantity amount amount_of within scaled fraction worth worth_of last_digits price_text
broken_among_equals = record { tells = refl; faults = refl; asks = refl; tokens = refl }

day_started : IsLawful exchanges.day_started
unfolding digits price quantity amount amount_of within scaled fraction worth worth_of last_digits price_text
day_started = record { tells = refl; faults = refl; asks = refl; tokens = refl }

day_ended : IsLawful exchanges.day_ended
unfolding digits price quantity amount amount_of within scaled fraction worth worth_of last_digits price_text
day_ended = record { tells = refl; faults = refl; asks = refl; tokens = refl }

priority_updated : IsLawful exchanges.priority_updated
unfolding digits price quantity amount amount_of within scaled fraction worth worth_of last_digits price_text
priority_updated = record { tells = refl; faults = refl; asks = refl; tokens = refl }

cancel_at_the_market : IsLawful exchanges.cancel_at_the_market
unfolding digits price quantity amount amount_of within scaled fraction worth worth_of last_digits price_text
cancel_at_the_market = record { tells = refl; faults = refl; asks = refl; tokens = refl }

cancelled : IsLawful exchanges.order_is_cancelled
unfolding digits price quantity amount amount_of within scaled fraction worth worth_of last_digits price_text
cancelled = record { tells = refl; faults = refl; asks = refl; tokens = refl }

replace_asked_twice : IsLawful exchanges.replace_asked_twice
unfolding digits price quantity amount amount_of within scaled fraction worth worth_of last_digits price_text
replace_asked_twice = record { tells = refl; faults = refl; asks = refl; tokens = refl }

fill_or_kill : IsLawful exchanges.fill_or_kill
unfolding digits price quantity amount amount_of within scaled fraction worth worth_of last_digits price_text
fill_or_kill = record { tells = refl; faults = refl; asks = refl; tokens = refl }

-- ---- several replaces

two_replaces_pending : IsLawful several.two_replaces_pending
unfolding digits price quantity amount amount_of within scaled fraction worth worth_of last_digits price_text
two_replaces_pending = record { tells = refl; faults = refl; asks = refl; tokens = refl }

three_replaces_pending : IsLawful several.three_replaces_pending
unfolding digits price quantity amount amount_of within scaled fraction worth worth_of last_digits price_text
three_replaces_pending = record { tells = refl; faults = refl; asks = refl; tokens = refl }

four_replaces_pending : IsLawful several.four_replaces_pending
unfolding digits price quantity amount amount_of within scaled fraction worth worth_of last_digits price_text
four_replaces_pending = record { tells = refl; faults = refl; asks = refl; tokens = refl }

four_replaces_and_a_cancel : IsLawful several.four_replaces_and_a_cancel
unfolding digits price quantity amount amount_of within scaled fraction worth worth_of last_digits price_text
four_replaces_and_a_cancel = record { tells = refl; faults = refl; asks = refl; tokens = refl }

two_replaces_and_a_cancel : IsLawful several.two_replaces_and_a_cancel
unfolding digits price quantity amount amount_of within scaled fraction worth worth_of last_digits price_text
two_replaces_and_a_cancel = record { tells = refl; faults = refl; asks = refl; tokens = refl }

fifth_replace_has_to_wait : IsLawful several.fifth_replace_has_to_wait
unfolding digits price quantity amount amount_of within scaled fraction worth worth_of last_digits price_text
fifth_replace_has_to_wait = record { tells = refl; faults = refl; asks = refl; tokens = refl }

four_replaces_done_in_order : IsLawful several.four_replaces_done_in_order
unfolding digits price quantity amount amount_of within scaled fraction worth worth_of last_digits price_text
four_replaces_done_in_order = record { tells = refl; faults = refl; asks = refl; tokens = refl }

four_rejected_at_once : IsLawful several.four_rejected_at_once
unfolding digits price quantity amount amount_of within scaled fraction worth worth_of last_digits price_text
four_rejected_at_once = record { tells = refl; faults = refl; asks = refl; tokens = refl }

second_of_four_rejected : IsLawful several.second_of_four_rejected
unfolding digits price quantity amount amount_of within scaled fraction worth worth_of last_digits price_text
second_of_four_rejected = record { tells = refl; faults = refl; asks = refl; tokens = refl }

all_fall_under_a_cancel : IsLawful several.all_fall_under_a_cancel
unfolding digits price quantity amount amount_of within scaled fraction worth worth_of last_digits price_text
all_fall_under_a_cancel = record { tells = refl; faults = refl; asks = refl; tokens = refl }

fall_answers_the_cancel : IsLawful several.fall_answers_the_cancel
unfolding digits price quantity amount amount_of within scaled fraction worth worth_of last_digits price_text
fall_answers_the_cancel = record { tells = refl; faults = refl; asks = refl; tokens = refl }

cancel_reject_after_a_fall : IsLawful several.cancel_reject_after_a_fall
unfolding digits price quantity amount amount_of within scaled fraction worth worth_of last_digits price_text
cancel_reject_after_a_fall = record { tells = refl; faults = refl; asks = refl; tokens = refl }

filled_with_four_and_a_cancel : IsLawful several.filled_with_four_and_a_cancel
unfolding digits price quantity amount amount_of within scaled fraction worth worth_of last_digits price_text
filled_with_four_and_a_cancel = record { tells = refl; faults = refl; asks = refl; tokens = refl }

cancelled_with_four_and_a_cancel : IsLawful several.cancelled_with_four_and_a_cancel
unfolding digits price quantity amount amount_of within scaled fraction worth worth_of last_digits price_text
cancelled_with_four_and_a_cancel = record { tells = refl; faults = refl; asks = refl; tokens = refl }

dead_with_four_and_a_cancel : IsLawful several.dead_with_four_and_a_cancel
unfolding digits price quantity amount amount_of within scaled fraction worth worth_of last_digits price_text
dead_with_four_and_a_cancel = record { tells = refl; faults = refl; asks = refl; tokens = refl }

replaced_after_all_fell : IsLawful several.replaced_after_all_fell
unfolding digits price quantity amount amount_of within scaled fraction worth worth_of last_digits price_text
replaced_after_all_fell = record { tells = refl; faults = refl; asks = refl; tokens = refl }

fall_while_it_waits : IsLawful several.fall_while_it_waits
unfolding digits price quantity amount amount_of within scaled fraction worth worth_of last_digits price_text
fall_while_it_waits = record { tells = refl; faults = refl; asks = refl; tokens = refl }

replaces_out_of_order : IsLawful several.replaces_out_of_order
unfolding digits price quantity amount amount_of within scaled fraction worth worth_of last_digits price_text
replaces_out_of_order = record { tells = refl; faults = refl; asks = refl; tokens = refl }

rejected_after_it_fell : IsLawful several.rejected_after_it_fell
unfolding digits price quantity amount amount_of within scaled fraction worth worth_of last_digits price_text
rejected_after_it_fell = record { tells = refl; faults = refl; asks = refl; tokens = refl }

trades_between_replaces : IsLawful several.trades_between_replaces
unfolding digits price quantity amount amount_of within scaled fraction worth worth_of last_digits price_text
trades_between_replaces = record { tells = refl; faults = refl; asks = refl; tokens = refl }

replaces_of_two_orders : IsLawful several.replaces_of_two_orders
unfolding digits price quantity amount amount_of within scaled fraction worth worth_of last_digits price_text
replaces_of_two_orders = record { tells = refl; faults = refl; asks = refl; tokens = refl }

fall_beside_another_order : IsLawful several.fall_beside_another_order
unfolding digits price quantity amount amount_of within scaled fraction worth worth_of last_digits price_text
fall_beside_another_order = record { tells = refl; faults = refl; asks = refl; tokens = refl }
