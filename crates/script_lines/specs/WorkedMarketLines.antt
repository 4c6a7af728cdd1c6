-- The market's lines that are understood, behind a port's name, and neighbours of them that aren't, computed.
use Rattle.std.specs.Prelude.{◌≡◌, ℕ, Bool, true, false, List, codes, refl}
use Rattle.script_lines.specs.Forms.{is_number64, is_number32, is_share_count, is_token_number, is_stock, is_side_word}
use Rattle.script_lines.specs.Forms.{is_state_word, is_printable_word}
use Rattle.script_lines.specs.MarketLines.{is_market_line}
use Rattle.script_lines.specs.Words.{words_of}

abbrev is_understood : List ℕ → Bool
is_understood line = is_market_line (words_of line)

an_accepted : is_understood (codes "A 1 B 300 INTC 234500 99998 L") ≡ true
unfolding is_market_line is_token_number is_side_word is_share_count is_stock is_number32 is_state_word
an_accepted = refl

of_another_side : is_understood (codes "A 1 X 300 INTC 234500 99998 L") ≡ false
unfolding is_market_line is_token_number is_side_word is_share_count is_stock is_number32 is_state_word
of_another_side = refl

of_no_shares : is_understood (codes "A 1 B 0 INTC 234500 99998 L") ≡ false
unfolding is_market_line is_token_number is_side_word is_share_count is_stock is_number32 is_state_word
of_no_shares = refl

with_a_word_more : is_understood (codes "A 1 B 300 INTC 234500 99998 L L") ≡ false
unfolding is_market_line is_token_number is_side_word is_share_count is_stock is_number32 is_state_word
with_a_word_more = refl

without_a_word : is_understood (codes "A 1 B 300 INTC 234500 99998") ≡ false
unfolding is_market_line is_token_number is_side_word is_share_count is_stock is_number32 is_state_word
without_a_word = refl

a_replaced : is_understood (codes "U 2 1 B 300 INTC 234500 99998 D") ≡ true
unfolding is_market_line is_token_number is_side_word is_share_count is_stock is_number32 is_state_word
a_replaced = refl

a_canceled : is_understood (codes "C 1 100 U") ≡ true
unfolding is_market_line is_token_number is_number32 is_printable_word
a_canceled = refl

of_token_0 : is_understood (codes "C 0 100 U") ≡ false
unfolding is_market_line is_token_number is_number32 is_printable_word
of_token_0 = refl

an_executed : is_understood (codes "E 1 300 234500 7") ≡ true
unfolding is_market_line is_token_number is_number32 is_number64
an_executed = refl

a_broken : is_understood (codes "B 1 7 E") ≡ true
unfolding is_market_line is_token_number is_number64 is_printable_word
a_broken = refl

a_rejected : is_understood (codes "J 9999999999999 Z") ≡ true
unfolding is_market_line is_token_number is_printable_word
a_rejected = refl

of_no_token : is_understood (codes "J 10000000000000 Z") ≡ false
unfolding is_market_line is_token_number is_printable_word
of_no_token = refl

a_cancel_pending : is_understood (codes "P 1") ≡ true
unfolding is_market_line is_token_number
a_cancel_pending = refl

a_cancel_reject : is_understood (codes "I 1") ≡ true
unfolding is_market_line is_token_number
a_cancel_reject = refl

a_system_event : is_understood (codes "S O") ≡ true
unfolding is_market_line is_printable_word
a_system_event = refl

of_no_type : is_understood (codes "T 1") ≡ false
unfolding is_market_line
of_no_type = refl
