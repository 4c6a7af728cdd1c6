-- The machine, computed: each answer to each message by each choice, each act, and runs that are written down. Moves
-- stand in the order in which they happen, what is said the newest first.
use Rattle.std.proofs.Common.{◌≡◌, ℕ, ◌<◌, ◌≤◌, ◌^◌, List, [], ◌∷◌, refl, arith}
use Rattle.std.specs.Prelude.{codes, map, reverse, ◌++◌, slice_index, Option, Some, None}
use Rattle.order_law.specs.ouch_codec.declared.inbound.Inbound.{Inbound}
use Rattle.order_law.specs.ouch_codec.declared.inbound.Inbound.TheVariants as asked
use Rattle.order_law.specs.ouch_codec.declared.inbound.enter_order.EnterOrder.{EnterOrder}
use Rattle.order_law.specs.ouch_codec.declared.outbound.Outbound.{Outbound}
use Rattle.order_law.specs.ouch_codec.declared.outbound.Outbound.TheVariants as market
use Rattle.order_law.specs.ouch_codec.declared.side.Side.{Side}
use Rattle.order_law.specs.ouch_codec.declared.side.Side.TheVariants.{Buy, Sell, SellShort, SellShortExempt}
use Rattle.order_law.specs.ouch_codec.Letters.{side_letter, order_state_letter}
use Rattle.order_law.specs.Life.{life}
use Rattle.market_law.specs.declared.choice.Choice.{Choice}
use Rattle.market_law.specs.declared.choice.Choice.TheVariants as choose
use Rattle.market_law.specs.Messages.{Token}
use Rattle.market_law.specs.declared.row.BookRow.{BookRow}
use Rattle.market_law.specs.Machine.{Machine, inbound, act, unopened}
use Rattle.market_law.specs.Run.{Move, Comes, Acts, ran}
use Rattle.market_law.specs.Rows.{row, row_of_order}

-- ---- numbers that fit

in_reach : (shares : ℕ) → (1 ≤ shares) × (shares ≤ 999_999) → shares < 2 ^ 32
in_reach shares set = omega (arith, set.1)

fits-200 : (1 ≤ 200) × (200 ≤ 999_999)
fits-200 = (omega arith, omega arith)

fits-100 : (1 ≤ 100) × (100 ≤ 999_999)
fits-100 = (omega arith, omega arith)

fits-300 : (1 ≤ 300) × (300 ≤ 999_999)
fits-300 = (omega arith, omega arith)

fits-1 : (1 ≤ 1) × (1 ≤ 999_999)
fits-1 = (omega arith, omega arith)

fits-101 : (1 ≤ 101) × (101 ≤ 999_999)
fits-101 = (omega arith, omega arith)

fits-199 : (1 ≤ 199) × (199 ≤ 999_999)
fits-199 = (omega arith, omega arith)

fits-249 : (1 ≤ 249) × (249 ≤ 999_999)
fits-249 = (omega arith, omega arith)

fits-250 : (1 ≤ 250) × (250 ≤ 999_999)
fits-250 = (omega arith, omega arith)

fits-299 : (1 ≤ 299) × (299 ≤ 999_999)
fits-299 = (omega arith, omega arith)

fits-301 : (1 ≤ 301) × (301 ≤ 999_999)
fits-301 = (omega arith, omega arith)

fits-500 : (1 ≤ 500) × (500 ≤ 999_999)
fits-500 = (omega arith, omega arith)

zero-fits : 0 < 2 ^ 32
zero-fits = omega arith

price-fits : 234_500 < 2 ^ 32
price-fits = omega arith

other-price-fits : 234_400 < 2 ^ 32
other-price-fits = omega arith

day-fits : 99_998 < 2 ^ 32
day-fits = omega arith

first-fits : 1 < 2 ^ 64
first-fits = omega arith

second-fits : 2 < 2 ^ 64
second-fits = omega arith

third-fits : 3 < 2 ^ 64
third-fits = omega arith

none-left : 0 ≤ 999_999
none-left = omega arith

-- ---- messages to the market

abbrev letter : List ℕ → ℕ
letter name = slice_index name 0

abbrev t1 : Token
t1 = record { bytes = codes "G0000000000001"; bytes_set = (refl, refl) }

abbrev t2 : Token
t2 = record { bytes = codes "G0000000000002"; bytes_set = (refl, refl) }

abbrev t3 : Token
t3 = record { bytes = codes "G0000000000003"; bytes_set = (refl, refl) }

abbrev t4 : Token
t4 = record { bytes = codes "G0000000000004"; bytes_set = (refl, refl) }

abbrev t5 : Token
t5 = record { bytes = codes "G0000000000005"; bytes_set = (refl, refl) }

abbrev t6 : Token
t6 = record { bytes = codes "G0000000000006"; bytes_set = (refl, refl) }

-- sells so many shares
abbrev order_of : Token → (shares : ℕ) → (1 ≤ shares) × (shares ≤ 999_999) → EnterOrder
order_of token shares shares_set = record {
  token = token.bytes;
  side = Sell;
  shares = shares;
  stock = codes "INTC    ";
  price = 234_500;
  time_in_force = 99_998;
  firm = codes "FIRM";
  display = letter (codes "Y");
  capacity = letter (codes "P");
  intermarket_sweep = letter (codes "N");
  minimum_quantity = 0;
  cross_type = letter (codes "C");
  customer_type = letter (codes "R");
  token_set = token.bytes_set;
  shares_set = shares_set;
  stock_set = (refl, refl);
  price_set = price-fits;
  time_in_force_set = day-fits;
  firm_set = (refl, refl);
  display_set = refl;
  capacity_set = refl;
  intermarket_sweep_set = refl;
  minimum_quantity_set = zero-fits;
  cross_type_set = refl;
  customer_type_set = refl;
}

abbrev enter_300 : Inbound
enter_300 = asked.Enter (order_of t1 300 fits-300)

abbrev enter_other : Inbound
enter_other = asked.Enter (order_of t3 100 fits-100)

abbrev replace_with : (least : ℕ) → (1 ≤ least) × (least ≤ 999_999) → Token → Token → (shares : ℕ)
    → (1 ≤ shares) × (shares ≤ 999_999) → Inbound
replace_with least least_set from to shares shares_set = asked.Replace (record {
  token = from.bytes;
  replacement_token = to.bytes;
  shares = shares;
  price = 234_400;
  time_in_force = 0;
  display = letter (codes "A");
  intermarket_sweep = letter (codes "Y");
  minimum_quantity = least;
  token_set = from.bytes_set;
  replacement_token_set = to.bytes_set;
  shares_set = shares_set;
  price_set = other-price-fits;
  time_in_force_set = zero-fits;
  display_set = refl;
  intermarket_sweep_set = refl;
  minimum_quantity_set = in_reach least least_set;
})

abbrev replace_to : Token → Token → (shares : ℕ) → (1 ≤ shares) × (shares ≤ 999_999) → Inbound
replace_to = replace_with 200 fits-200

abbrev cancel_all_of : Token → Inbound
cancel_all_of token = asked.Cancel (record {
  token = token.bytes;
  shares = 0;
  token_set = token.bytes_set;
  shares_set = none-left;
})

-- a part of it, which this machine doesn't do
abbrev cancel_down_to_100 : Token → Inbound
cancel_down_to_100 token = asked.Cancel (record {
  token = token.bytes;
  shares = 100;
  token_set = token.bytes_set;
  shares_set = fits-100.1;
})

-- ---- choices

abbrev refuse : Choice
refuse = choose.Refuse (record { byte = letter (codes "Z"); byte_set = refl })

abbrev say_event : Choice
say_event = choose.SystemEvent (record { byte = letter (codes "Q"); byte_set = refl })

abbrev trade : Token → (shares : ℕ) → (1 ≤ shares) × (shares ≤ 999_999) → Choice
trade token shares set = choose.Execute (record {
  token = token.bytes;
  shares = shares;
  price = 234_500;
  shares_set = in_reach shares set;
  price_set = price-fits;
})

abbrev trade_none : Token → Choice
trade_none token = choose.Execute (record {
  token = token.bytes;
  shares = 0;
  price = 234_500;
  shares_set = zero-fits;
  price_set = price-fits;
})

abbrev off : Token → (shares : ℕ) → (1 ≤ shares) × (shares ≤ 999_999) → Choice
off token shares set = choose.TakeOff (record {
  token = token.bytes;
  shares = shares;
  shares_set = in_reach shares set;
})

abbrev off_none : Token → Choice
off_none token = choose.TakeOff (record { token = token.bytes; shares = 0; shares_set = zero-fits })

abbrev break_first : Choice
break_first = choose.Break (record { match_number = 1; match_number_set = first-fits })

abbrev break_second : Choice
break_second = choose.Break (record { match_number = 2; match_number_set = second-fits })

abbrev break_third : Choice
break_third = choose.Break (record { match_number = 3; match_number_set = third-fits })

-- ---- what is said, as a line: the letter of its type, its tokens, its numbers and letters

record Line : Type 0 where
  type : List ℕ
  tokens : List (List ℕ)
  numbers : List ℕ

abbrev line : List ℕ → List (List ℕ) → List ℕ → Line
line type tokens numbers = record { type = type; tokens = tokens; numbers = numbers }

abbrev shown : Outbound → Line
shown (market.SystemEvent m) = line (codes "S") [] (m.event ∷ [])
shown (market.Accepted m) = line (codes "A") (m.token ∷ m.stock ∷ m.firm ∷ [])
    (side_letter m.side ∷ m.shares ∷ m.price ∷ m.time_in_force ∷ m.display ∷ m.capacity
    ∷ m.intermarket_sweep ∷ m.minimum_quantity ∷ m.cross_type ∷ order_state_letter m.order_state ∷ [])
shown (market.Replaced m) = line (codes "U") (m.previous_token ∷ m.token ∷ m.stock ∷ m.firm ∷ [])
    (side_letter m.side ∷ m.shares ∷ m.price ∷ m.time_in_force ∷ m.display ∷ m.capacity
    ∷ m.intermarket_sweep ∷ m.minimum_quantity ∷ m.cross_type ∷ order_state_letter m.order_state ∷ [])
shown (market.Canceled m) = line (codes "C") (m.token ∷ []) (m.decrement ∷ m.reason ∷ [])
shown (market.Executed m) = line (codes "E") (m.token ∷ []) (m.shares ∷ m.price ∷ m.match_number ∷ [])
shown (market.Broken m) = line (codes "B") (m.token ∷ []) (m.match_number ∷ m.reason ∷ [])
shown (market.Rejected m) = line (codes "J") (m.token ∷ []) (m.reason ∷ [])
shown (market.CancelPending m) = line (codes "P") (m.token ∷ []) []
shown (market.CancelReject m) = line (codes "I") (m.token ∷ []) []
shown market.Skipped = line (codes "T") [] []

-- Accepted: so many shares, live or dead
abbrev a_line : Token → ℕ → List ℕ → Line
a_line token shares state = line (codes "A") (token.bytes ∷ codes "INTC    " ∷ codes "FIRM" ∷ [])
    (83 ∷ shares ∷ 234_500 ∷ 99_998 ∷ 89 ∷ 80 ∷ 78 ∷ 0 ∷ 67 ∷ letter state ∷ [])

-- Replaced: so many shares open, live or dead
abbrev u_line : Token → Token → ℕ → List ℕ → Line
u_line from to shares state = line (codes "U") (from.bytes ∷ to.bytes ∷ codes "INTC    " ∷ codes "FIRM" ∷ [])
    (83 ∷ shares ∷ 234_400 ∷ 0 ∷ 65 ∷ 80 ∷ 89 ∷ 200 ∷ 67 ∷ letter state ∷ [])

abbrev c_line : Token → ℕ → Line
c_line token shares = line (codes "C") (token.bytes ∷ []) (shares ∷ letter (codes "U") ∷ [])

abbrev e_line : Token → ℕ → ℕ → Line
e_line token shares match_number = line (codes "E") (token.bytes ∷ []) (shares ∷ 234_500 ∷ match_number ∷ [])

abbrev b_line : Token → ℕ → Line
b_line token match_number = line (codes "B") (token.bytes ∷ []) (match_number ∷ letter (codes "E") ∷ [])

abbrev j_line : Token → Line
j_line token = line (codes "J") (token.bytes ∷ []) (letter (codes "Z") ∷ [])

abbrev p_line : Token → Line
p_line token = line (codes "P") (token.bytes ∷ []) []

abbrev i_line : Token → Line
i_line token = line (codes "I") (token.bytes ∷ []) []

abbrev machine_after : List Move → Machine
machine_after moves = (ran (reverse moves)).machine

abbrev answer : List Move → Inbound → Choice → List Line
answer moves message choice = map shown (inbound (machine_after moves) message choice).says

abbrev acted : List Move → Choice → List Line
acted moves choice = map shown (act (machine_after moves) choice).says

-- all that was said, the newest first
abbrev told : List Move → List Line
told moves = map shown (ran (reverse moves)).said

-- ---- to an Enter Order

to_a_new_order :
    (answer [] enter_300 choose.AcceptLive ≡ a_line t1 300 (codes "L") ∷ [])
    × (answer [] enter_300 choose.AcceptDead ≡ a_line t1 300 (codes "D") ∷ [])
    × (answer [] enter_300 refuse ≡ j_line t1 ∷ [])
    × (answer [] enter_300 (trade t1 100 fits-100) ≡ a_line t1 300 (codes "L") ∷ [])
    × (answer [] enter_300 (off t1 100 fits-100) ≡ a_line t1 300 (codes "L") ∷ [])
    × (answer [] enter_300 break_first ≡ a_line t1 300 (codes "L") ∷ [])
    × (answer [] enter_300 say_event ≡ a_line t1 300 (codes "L") ∷ [])
    × (answer [] enter_300 choose.Nothing ≡ a_line t1 300 (codes "L") ∷ [])
to_a_new_order = (refl, refl, refl, refl, refl, refl, refl, refl)

-- the order of 300 shares is in the book
abbrev entered : List Move
entered = Comes enter_300 choose.AcceptLive ∷ []

abbrev rejected : List Move
rejected = Comes enter_300 refuse ∷ []

-- a replace was rejected, or taken
abbrev replace_rejected : List Move
replace_rejected = entered ++ Comes (replace_to t1 t2 500 fits-500) refuse ∷ []

abbrev replaced_by_3 : List Move
replaced_by_3 = entered ++ Comes (replace_to t1 t3 500 fits-500) choose.AcceptLive ∷ []

-- a token that was named stays used
to_a_used_token :
    (answer entered enter_300 choose.AcceptLive ≡ [])
    × (answer entered enter_300 refuse ≡ [])
    × (answer rejected enter_300 choose.AcceptLive ≡ [])
    × (answer replace_rejected (replace_to t1 t2 500 fits-500) choose.AcceptLive ≡ [])
    × (answer replaced_by_3 enter_other choose.AcceptLive ≡ [])
to_a_used_token = (refl, refl, refl, refl, refl)

-- ---- to a Replace Order

abbrev replace_500 : Inbound
replace_500 = replace_to t1 t2 500 fits-500

to_a_replace :
    (answer entered replace_500 choose.AcceptLive ≡ u_line t1 t2 500 (codes "L") ∷ [])
    × (answer entered replace_500 choose.AcceptDead ≡ u_line t1 t2 500 (codes "D") ∷ [])
    × (answer entered replace_500 refuse ≡ j_line t2 ∷ [])
    × (answer entered replace_500 (off t1 100 fits-100) ≡ c_line t1 300 ∷ [])
    × (answer entered replace_500 (trade t1 100 fits-100) ≡ u_line t1 t2 500 (codes "L") ∷ [])
    × (answer entered replace_500 break_first ≡ u_line t1 t2 500 (codes "L") ∷ [])
    × (answer entered replace_500 say_event ≡ u_line t1 t2 500 (codes "L") ∷ [])
    × (answer entered replace_500 choose.Nothing ≡ u_line t1 t2 500 (codes "L") ∷ [])
to_a_replace = (refl, refl, refl, refl, refl, refl, refl, refl)

-- 200 of the 300 are executed
abbrev traded_200 : List Move
traded_200 = entered ++ Acts (trade t1 200 fits-200) ∷ []

-- what is executed counts: 500 leaves 300 open, 200 leaves none, and so does 100
to_a_replace_after_a_trade :
    (answer traded_200 replace_500 choose.AcceptLive ≡ u_line t1 t2 300 (codes "L") ∷ [])
    × (answer traded_200 (replace_to t1 t2 200 fits-200) choose.AcceptLive ≡ c_line t1 100 ∷ [])
    × (answer traded_200 (replace_to t1 t2 200 fits-200) choose.AcceptDead ≡ c_line t1 100 ∷ [])
    × (answer traded_200 (replace_to t1 t2 200 fits-200) refuse ≡ j_line t2 ∷ [])
    × (answer traded_200 (replace_to t1 t2 100 fits-100) choose.Nothing ≡ c_line t1 100 ∷ [])
    × (answer traded_200 (replace_to t1 t2 100 fits-100) (off t1 100 fits-100) ≡ c_line t1 100 ∷ [])
to_a_replace_after_a_trade = (refl, refl, refl, refl, refl, refl)

-- no order, an order that is over, and a token that it had before
to_a_replace_of_nothing_live :
    (answer [] replace_500 choose.AcceptLive ≡ [])
    × (answer (entered ++ Acts (trade t1 300 fits-300) ∷ []) replace_500 choose.AcceptLive ≡ [])
    × (answer (Comes enter_300 choose.AcceptDead ∷ []) replace_500 choose.AcceptLive ≡ [])
    × (answer replaced_by_3 replace_500 choose.AcceptLive ≡ [])
to_a_replace_of_nothing_live = (refl, refl, refl, refl)

-- ---- to a Cancel Order

to_a_cancel :
    (answer entered (cancel_all_of t1) choose.AcceptLive ≡ c_line t1 300 ∷ [])
    × (answer entered (cancel_all_of t1) choose.AcceptDead ≡ p_line t1 ∷ [])
    × (answer entered (cancel_all_of t1) refuse ≡ i_line t1 ∷ [])
    × (answer entered (cancel_all_of t1) (off t1 100 fits-100) ≡ c_line t1 300 ∷ [])
    × (answer entered (cancel_all_of t1) (trade t1 100 fits-100) ≡ c_line t1 300 ∷ [])
    × (answer entered (cancel_all_of t1) break_first ≡ c_line t1 300 ∷ [])
    × (answer entered (cancel_all_of t1) say_event ≡ c_line t1 300 ∷ [])
    × (answer entered (cancel_all_of t1) choose.Nothing ≡ c_line t1 300 ∷ [])
to_a_cancel = (refl, refl, refl, refl, refl, refl, refl, refl)

-- a part, no order, an order that is over, and a token that it had before
to_another_cancel :
    (answer entered (cancel_down_to_100 t1) choose.AcceptLive ≡ [])
    × (answer [] (cancel_all_of t1) choose.AcceptLive ≡ [])
    × (answer (entered ++ Comes (cancel_all_of t1) choose.AcceptLive ∷ []) (cancel_all_of t1) refuse ≡ [])
    × (answer (entered ++ Comes replace_500 choose.AcceptDead ∷ []) (cancel_all_of t2) refuse ≡ [])
    × (answer (entered ++ Comes replace_500 choose.AcceptLive ∷ []) (cancel_all_of t1) refuse ≡ [])
to_another_cancel = (refl, refl, refl, refl, refl)

-- ---- by itself

abbrev traded_twice : List Move
traded_twice = traded_200 ++ Acts (trade t1 100 fits-100) ∷ []

by_itself :
    (acted entered (trade t1 300 fits-300) ≡ e_line t1 300 1 ∷ [])
    × (acted entered (off t1 300 fits-300) ≡ c_line t1 300 ∷ [])
    × (acted entered say_event ≡ line (codes "S") [] (letter (codes "Q") ∷ []) ∷ [])
    × (acted [] say_event ≡ line (codes "S") [] (letter (codes "Q") ∷ []) ∷ [])
    × (acted traded_200 break_first ≡ b_line t1 1 ∷ [])
    × (acted traded_twice break_second ≡ b_line t1 2 ∷ [])  -- of an order that is over
by_itself = (refl, refl, refl, refl, refl, refl)

-- more than is open, none, no order, an order that is over; a trade that isn't there, or was broken; and answers
not_by_itself :
    (acted entered (trade t1 301 fits-301) ≡ [])
    × (acted entered (trade_none t1) ≡ [])
    × (acted entered (trade t2 100 fits-100) ≡ [])
    × (acted traded_twice (trade t1 100 fits-100) ≡ [])
    × (acted entered (off t1 301 fits-301) ≡ [])
    × (acted entered (off_none t1) ≡ [])
    × (acted entered (off t2 100 fits-100) ≡ [])
    × (acted entered break_first ≡ [])
    × (acted traded_twice break_third ≡ [])
    × (acted (traded_200 ++ Acts break_first ∷ []) break_first ≡ [])
    × (acted entered choose.AcceptLive ≡ [])
    × (acted entered choose.AcceptDead ≡ [])
    × (acted entered refuse ≡ [])
    × (acted entered choose.Nothing ≡ [])
not_by_itself = (refl, refl, refl, refl, refl, refl, refl, refl, refl, refl, refl, refl, refl, refl)

-- ---- minimum quantities

-- the order of 300 shares with a minimum quantity
abbrev entered_with : (least : ℕ) → (1 ≤ least) × (least ≤ 999_999) → List Move
entered_with least set = Comes (asked.Enter (record (order_of t1 300 fits-300) {
  minimum_quantity = least;
  minimum_quantity_set = in_reach least set;
})) choose.AcceptLive ∷ []

-- all of it, which is fill or kill
abbrev fill_or_kill : List Move
fill_or_kill = entered_with 300 fits-300

abbrev at_least_200 : List Move
at_least_200 = entered_with 200 fits-200

abbrev then_200 : List Move
then_200 = at_least_200 ++ Acts (trade t1 200 fits-200) ∷ []

-- the first trade is of the minimum at least, those behind it of any number
of_a_minimum :
    (acted fill_or_kill (trade t1 299 fits-299) ≡ [])
    × (acted fill_or_kill (trade t1 1 fits-1) ≡ [])
    × (acted fill_or_kill (trade t1 300 fits-300) ≡ e_line t1 300 1 ∷ [])
    × (acted at_least_200 (trade t1 199 fits-199) ≡ [])
    × (acted at_least_200 (trade t1 200 fits-200) ≡ e_line t1 200 1 ∷ [])
    × (acted then_200 (trade t1 1 fits-1) ≡ e_line t1 1 2 ∷ [])
of_a_minimum = (refl, refl, refl, refl, refl, refl)

-- a trade that was broken was the first one all the same
abbrev then_broken : List Move
then_broken = then_200 ++ Acts break_first ∷ []

-- with less than the minimum open there is no trade
abbrev then_199_left : List Move
then_199_left = at_least_200 ++ Acts (off t1 101 fits-101) ∷ []

abbrev then_200_left : List Move
then_200_left = at_least_200 ++ Acts (off t1 100 fits-100) ∷ []

of_a_minimum_later :
    (acted then_broken (trade t1 100 fits-100) ≡ e_line t1 100 2 ∷ [])
    × (acted then_199_left (trade t1 199 fits-199) ≡ [])
    × (acted then_200_left (trade t1 200 fits-200) ≡ e_line t1 200 1 ∷ [])
of_a_minimum_later = (refl, refl, refl)

-- A replace that is taken gives a minimum of its own, and the next trade is the first one; one that is rejected changes
-- nothing.
abbrev then_replaced : List Move
then_replaced = then_200 ++ Comes (replace_with 250 fits-250 t1 t2 500 fits-500) choose.AcceptLive ∷ []

of_a_minimum_of_a_replace :
    (acted then_replaced (trade t2 249 fits-249) ≡ [])
    × (acted then_replaced (trade t2 250 fits-250) ≡ e_line t2 250 2 ∷ [])
    × (acted (then_200 ++ Comes replace_500 refuse ∷ []) (trade t1 1 fits-1) ≡ e_line t1 1 2 ∷ [])
of_a_minimum_of_a_replace = (refl, refl, refl)

-- ---- runs

-- five replaces of one order with trades between, and the fourth rejected; 100 shares are less than the minimum of the
-- third
abbrev replaced_five_times : List Move
replaced_five_times =
    entered
    ++ Comes (replace_to t1 t2 500 fits-500) choose.AcceptLive
    ∷ Acts (trade t2 200 fits-200)
    ∷ Comes (replace_to t2 t3 500 fits-500) choose.AcceptLive
    ∷ Acts (trade t3 200 fits-200)
    ∷ Comes (replace_to t3 t4 500 fits-500) choose.AcceptLive
    ∷ Acts (trade t4 100 fits-100)
    ∷ Comes (replace_to t4 t5 500 fits-500) refuse
    ∷ Acts break_first
    ∷ Comes (replace_to t4 t6 500 fits-500) choose.AcceptDead
    ∷ Acts (trade t6 100 fits-100)
    ∷ []

replaced_five_times_is_told :
    told replaced_five_times
    ≡ u_line t4 t6 300 (codes "D")
    ∷ b_line t4 1
    ∷ j_line t5
    ∷ u_line t3 t4 100 (codes "L")
    ∷ e_line t3 200 2
    ∷ u_line t2 t3 300 (codes "L")
    ∷ e_line t2 200 1
    ∷ u_line t1 t2 500 (codes "L")
    ∷ a_line t1 300 (codes "L")
    ∷ []
replaced_five_times_is_told = refl

-- its book, as the gateway reads it
abbrev its_life : List Move → ℕ × ℕ × ℕ × ℕ
its_life moves =
    let l = life (codes "G0000000000001") 50 (ran (reverse moves)).said in
    (l.unfilled, l.executed, l.cancelled, l.value)

replaced_five_times_is_counted :
    (its_life replaced_five_times ≡ (0, 200, 300, 46_900_000))
    × (its_life traded_200 ≡ (100, 200, 0, 46_900_000))
    × (its_life (traded_200 ++ Acts (off t1 100 fits-100) ∷ []) ≡ (0, 200, 100, 46_900_000))
replaced_five_times_is_counted = (refl, refl, refl)

abbrev entered_two : List Move
entered_two = entered ++ Comes enter_other choose.AcceptLive ∷ []

-- two orders: each goes by its own token, and match numbers are of the market
two_orders :
    (told (entered_two ++ Acts (trade t3 100 fits-100) ∷ Acts (trade t1 100 fits-100) ∷ [])
    ≡ e_line t1 100 2 ∷ e_line t3 100 1 ∷ a_line t3 100 (codes "L") ∷ a_line t1 300 (codes "L") ∷ [])
    × (answer entered_two (replace_to t1 t3 500 fits-500) choose.AcceptLive ≡ [])
two_orders = (refl, refl)

-- ---- rows of the book

abbrev row_after : List Move → Token → BookRow
row_after moves token = row (machine_after moves).book token.bytes

abbrev no_row : BookRow
no_row = record { side = None; executed = 0; unfilled = 0; cancelled = 0; value = 0 }

-- of a sale
abbrev sale : ℕ → ℕ → ℕ → ℕ → BookRow
sale executed unfilled cancelled value = record {
  side = Some (letter (codes "2"));
  executed = executed;
  unfilled = unfilled;
  cancelled = cancelled;
  value = value;
}

-- an order that never came, or was rejected; one that is in the book, and one that is over as it is accepted; trades,
-- shares that are taken off, and a trade that is taken back
rows :
    (row_after [] t1 ≡ no_row)
    × (row_after rejected t1 ≡ no_row)
    × (row_after entered t2 ≡ no_row)
    × (row_after entered t1 ≡ sale 0 300 0 0)
    × (row_after (Comes enter_300 choose.AcceptDead ∷ []) t1 ≡ sale 0 0 300 0)
    × (row_after traded_200 t1 ≡ sale 200 100 0 46_900_000)
    × (row_after traded_twice t1 ≡ sale 300 0 0 70_350_000)
    × (row_after (traded_200 ++ Acts (off t1 100 fits-100) ∷ []) t1 ≡ sale 200 0 100 46_900_000)
    × (row_after (traded_200 ++ Acts break_first ∷ []) t1 ≡ sale 0 100 0 0)
rows = (refl, refl, refl, refl, refl, refl, refl, refl, refl)

-- an order that was replaced has its row by each token that it has had, and none by one that was rejected
rows_of_replaced :
    (row_after replace_rejected t1 ≡ sale 0 300 0 0)
    × (row_after replace_rejected t2 ≡ no_row)
    × (row_after replaced_by_3 t1 ≡ sale 0 500 0 0)
    × (row_after replaced_by_3 t3 ≡ sale 0 500 0 0)
    × (row_after replaced_by_3 t2 ≡ no_row)
    × (row_after replaced_five_times t1 ≡ sale 200 0 300 46_900_000)
    × (row_after replaced_five_times t3 ≡ sale 200 0 300 46_900_000)
    × (row_after replaced_five_times t6 ≡ sale 200 0 300 46_900_000)
    × (row_after replaced_five_times t5 ≡ no_row)
rows_of_replaced = (refl, refl, refl, refl, refl, refl, refl, refl, refl)

-- each of two orders has its own; and each side has its byte
abbrev side_after : Side → Option ℕ
side_after side = (row_of_order (Some (unopened (record (order_of t1 300 fits-300) { side = side })))).side

rows_of_each :
    (row_after entered_two t1 ≡ sale 0 300 0 0)
    × (row_after entered_two t3 ≡ sale 0 100 0 0)
    × (side_after Buy ≡ Some (letter (codes "1")))
    × (side_after Sell ≡ Some (letter (codes "2")))
    × (side_after SellShort ≡ Some (letter (codes "5")))
    × (side_after SellShortExempt ≡ Some (letter (codes "6")))
rows_of_each = (refl, refl, refl, refl, refl, refl)
