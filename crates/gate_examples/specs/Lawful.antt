-- Each history that is written down, computed.
use Rattle.std.specs.Prelude.{refl}
use Rattle.std.specs.Fmt.{digits}
use Rattle.order_examples.specs.fixed_point.Decimal.{price, quantity, amount, amount_of, within, scaled, fraction}
use Rattle.order_examples.specs.fixed_point.Decimal.{worth, worth_of}
use Rattle.gate_law.specs.fix_stamp.Stamp.{stamp_text, calendar_day, day_of_years, day_of_months}
use Rattle.order_examples.specs.tokens.TokenText.{last_digits}
use Rattle.order_examples.specs.Exchanges as exchanges
use Rattle.gate_law.specs.Sessions.{client_answer, port_answer, port_state, report_issued}
use Rattle.gate_examples.specs.Computed.{IsComputed, HasTurns}
use Rattle.gate_examples.specs.Histories as histories

entered_and_accepted : IsComputed histories.day_entered_and_accepted
unfolding client_answer port_answer port_state report_issued digits stamp_text calendar_day day_of_years day_of_months
    price quantity amount amount_of within scaled fraction worth worth_of last_digits
entered_and_accepted = record {
  client_out = refl;
  reports = refl;
  port_out = refl;
  fault = refl;
  client = refl;
  port = refl;
  again = refl;
  asks = refl;
}

four_unanswered : IsComputed histories.day_four_unanswered
unfolding client_answer port_answer port_state report_issued digits stamp_text calendar_day day_of_years day_of_months
    price quantity amount amount_of within scaled fraction worth worth_of last_digits
four_unanswered = record {
  client_out = refl;
  reports = refl;
  port_out = refl;
  fault = refl;
  client = refl;
  port = refl;
  again = refl;
  asks = refl;
}

four_asked_again : IsComputed histories.four_asked_again
unfolding client_answer port_answer port_state report_issued digits stamp_text calendar_day day_of_years day_of_months
    price quantity amount amount_of within scaled fraction worth worth_of last_digits
four_asked_again = record {
  client_out = refl;
  reports = refl;
  port_out = refl;
  fault = refl;
  client = refl;
  port = refl;
  again = refl;
  asks = refl;
}

repeat_is_dropped : IsComputed histories.repeat_is_dropped
unfolding client_answer port_answer port_state report_issued digits stamp_text calendar_day day_of_years day_of_months
    price quantity amount amount_of within scaled fraction worth worth_of last_digits
repeat_is_dropped = record {
  client_out = refl;
  reports = refl;
  port_out = refl;
  fault = refl;
  client = refl;
  port = refl;
  again = refl;
  asks = refl;
}

numbers_are_left_out : IsComputed histories.numbers_are_left_out
unfolding client_answer port_answer port_state report_issued digits stamp_text calendar_day day_of_years day_of_months
    price quantity amount amount_of within scaled fraction worth worth_of last_digits
numbers_are_left_out = record {
  client_out = refl;
  reports = refl;
  port_out = refl;
  fault = refl;
  client = refl;
  port = refl;
  again = refl;
  asks = refl;
}

session_is_another : IsComputed histories.session_is_another
unfolding client_answer port_answer port_state report_issued digits stamp_text calendar_day day_of_years day_of_months
    price quantity amount amount_of within scaled fraction worth worth_of last_digits
session_is_another = record {
  client_out = refl;
  reports = refl;
  port_out = refl;
  fault = refl;
  client = refl;
  port = refl;
  again = refl;
  asks = refl;
}

cancelled_while_down : IsComputed histories.day_cancelled_while_down
unfolding client_answer port_answer port_state report_issued digits stamp_text calendar_day day_of_years day_of_months
    price quantity amount amount_of within scaled fraction worth worth_of last_digits
cancelled_while_down = record {
  client_out = refl;
  reports = refl;
  port_out = refl;
  fault = refl;
  client = refl;
  port = refl;
  again = refl;
  asks = refl;
}

cancelled_while_logging_in : IsComputed histories.cancelled_while_logging_in
unfolding client_answer port_answer port_state report_issued digits stamp_text calendar_day day_of_years day_of_months
    price quantity amount amount_of within scaled fraction worth worth_of last_digits
cancelled_while_logging_in = record {
  client_out = refl;
  reports = refl;
  port_out = refl;
  fault = refl;
  client = refl;
  port = refl;
  again = refl;
  asks = refl;
}

cancel_asked_again : IsComputed histories.cancel_asked_again
unfolding client_answer port_answer port_state report_issued digits stamp_text calendar_day day_of_years day_of_months
    price quantity amount amount_of within scaled fraction worth worth_of last_digits
cancel_asked_again = record {
  client_out = refl;
  reports = refl;
  port_out = refl;
  fault = refl;
  client = refl;
  port = refl;
  again = refl;
  asks = refl;
}

ordered_on_a_faulted_port : IsComputed histories.day_ordered_on_a_faulted_port
unfolding client_answer port_answer port_state report_issued digits stamp_text calendar_day day_of_years day_of_months
    price quantity amount amount_of within scaled fraction worth worth_of last_digits
ordered_on_a_faulted_port = record {
  client_out = refl;
  reports = refl;
  port_out = refl;
  fault = refl;
  client = refl;
  port = refl;
  again = refl;
  asks = refl;
}

ordered_after_the_end : IsComputed histories.day_ordered_after_the_end
unfolding client_answer port_answer port_state report_issued digits stamp_text calendar_day day_of_years day_of_months
    price quantity amount amount_of within scaled fraction worth worth_of last_digits
ordered_after_the_end = record {
  client_out = refl;
  reports = refl;
  port_out = refl;
  fault = refl;
  client = refl;
  port = refl;
  again = refl;
  asks = refl;
}

other_links : IsComputed histories.other_links
unfolding client_answer port_answer port_state report_issued digits stamp_text calendar_day day_of_years day_of_months
    price quantity amount amount_of within scaled fraction worth worth_of last_digits
other_links = record {
  client_out = refl;
  reports = refl;
  port_out = refl;
  fault = refl;
  client = refl;
  port = refl;
  again = refl;
  asks = refl;
}

second_links : IsComputed histories.second_links
unfolding client_answer port_answer port_state report_issued digits stamp_text calendar_day day_of_years day_of_months
    price quantity amount amount_of within scaled fraction worth worth_of last_digits
second_links = record {
  client_out = refl;
  reports = refl;
  port_out = refl;
  fault = refl;
  client = refl;
  port = refl;
  again = refl;
  asks = refl;
}

client_is_away : IsComputed histories.client_is_away
unfolding client_answer port_answer port_state report_issued digits stamp_text calendar_day day_of_years day_of_months
    price quantity amount amount_of within scaled fraction worth worth_of last_digits
client_is_away = record {
  client_out = refl;
  reports = refl;
  port_out = refl;
  fault = refl;
  client = refl;
  port = refl;
  again = refl;
  asks = refl;
}

-- ---- the order level's turns are those of the exchange

turns_of_entered_and_accepted : HasTurns histories.day_entered_and_accepted exchanges.entered_and_accepted
unfolding client_answer port_answer port_state report_issued digits stamp_text calendar_day day_of_years day_of_months
    price quantity amount amount_of within scaled fraction worth worth_of last_digits
turns_of_entered_and_accepted = refl

turns_of_four_unanswered : HasTurns histories.day_four_unanswered exchanges.four_unanswered
unfolding client_answer port_answer port_state report_issued digits stamp_text calendar_day day_of_years day_of_months
    price quantity amount amount_of within scaled fraction worth worth_of last_digits
turns_of_four_unanswered = refl

turns_of_four_asked_again : HasTurns histories.four_asked_again exchanges.four_unanswered
unfolding client_answer port_answer port_state report_issued digits stamp_text calendar_day day_of_years day_of_months
    price quantity amount amount_of within scaled fraction worth worth_of last_digits
turns_of_four_asked_again = refl

turns_of_cancelled_while_down : HasTurns histories.day_cancelled_while_down exchanges.cancelled_while_down
unfolding client_answer port_answer port_state report_issued digits stamp_text calendar_day day_of_years day_of_months
    price quantity amount amount_of within scaled fraction worth worth_of last_digits
turns_of_cancelled_while_down = refl

turns_of_cancelled_while_logging_in : HasTurns histories.cancelled_while_logging_in exchanges.cancelled_while_down
unfolding client_answer port_answer port_state report_issued digits stamp_text calendar_day day_of_years day_of_months
    price quantity amount amount_of within scaled fraction worth worth_of last_digits
turns_of_cancelled_while_logging_in = refl

turns_of_cancel_asked_again : HasTurns histories.cancel_asked_again exchanges.cancelled_while_down
unfolding client_answer port_answer port_state report_issued digits stamp_text calendar_day day_of_years day_of_months
    price quantity amount amount_of within scaled fraction worth worth_of last_digits
turns_of_cancel_asked_again = refl

turns_of_ordered_on_a_faulted_port :
    HasTurns histories.day_ordered_on_a_faulted_port exchanges.ordered_on_a_faulted_port
unfolding client_answer port_answer port_state report_issued digits stamp_text calendar_day day_of_years day_of_months
    price quantity amount amount_of within scaled fraction worth worth_of last_digits
turns_of_ordered_on_a_faulted_port = refl

turns_of_ordered_after_the_end : HasTurns histories.day_ordered_after_the_end exchanges.ordered_after_the_end
unfolding client_answer port_answer port_state report_issued digits stamp_text calendar_day day_of_years day_of_months
    price quantity amount amount_of within scaled fraction worth worth_of last_digits
turns_of_ordered_after_the_end = refl

turns_of_other_links : HasTurns histories.other_links exchanges.entered_and_accepted
unfolding client_answer port_answer port_state report_issued digits stamp_text calendar_day day_of_years day_of_months
    price quantity amount amount_of within scaled fraction worth worth_of last_digits
turns_of_other_links = refl

turns_of_second_links : HasTurns histories.second_links exchanges.entered_and_accepted
unfolding client_answer port_answer port_state report_issued digits stamp_text calendar_day day_of_years day_of_months
    price quantity amount amount_of within scaled fraction worth worth_of last_digits
turns_of_second_links = refl

turns_of_client_is_away : HasTurns histories.client_is_away exchanges.entered_and_accepted
unfolding client_answer port_answer port_state report_issued digits stamp_text calendar_day day_of_years day_of_months
    price quantity amount amount_of within scaled fraction worth worth_of last_digits
turns_of_client_is_away = refl

turns_of_numbers_are_left_out : HasTurns histories.numbers_are_left_out exchanges.entered_and_accepted
unfolding client_answer port_answer port_state report_issued digits stamp_text calendar_day day_of_years day_of_months
    price quantity amount amount_of within scaled fraction worth worth_of last_digits
turns_of_numbers_are_left_out = refl

turns_of_session_is_another : HasTurns histories.session_is_another exchanges.entered_and_accepted
unfolding client_answer port_answer port_state report_issued digits stamp_text calendar_day day_of_years day_of_months
    price quantity amount amount_of within scaled fraction worth worth_of last_digits
turns_of_session_is_another = refl
