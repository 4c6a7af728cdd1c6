-- What a client reads in the reports of one order, FIX alone. (FIX 4.4 Volume 4, "Execution Report"; Appendix D,
-- "Order State Change Matrices".)
use Rattle.std.specs.Prelude.{ℕ, Bool, true, false, ◌&&◌, ◌||◌, ◌+◌, ◌-◌, ◌*◌, ◌/◌, ◌==◌, List, [], ◌∷◌, Option, Some}
use Rattle.std.specs.Prelude.{None, if◌then◌else◌, bytes_eq, codes, unwrap_or}
use Rattle.std.specs.List.{find, list_any}
use Rattle.fixed_point.specs.Decimal.{worth}
use Rattle.order_law.specs.declared.account.Account.{Account}
use Rattle.fix_fields.specs.Field.{Message, text, is, is_one_of, character}
use Rattle.order_law.specs.Messages.{number}

-- a fill by its ExecID (17), in shares and 1/10,000
pub record Fill : Type 0 where
  pub exec_id : List ℕ
  pub shares : ℕ
  pub price : ℕ

pub record Reading : Type 0 where
  pub side : ℕ
  -- the 38 of the last report before it closed
  pub total : ℕ
  pub unfilled : ℕ
  pub executed : ℕ
  pub cancelled : ℕ
  pub value : ℕ
  pub fills : List Fill
  -- the market has taken it, and it is over
  pub is_accepted : Bool
  pub is_closed : Bool

abbrev pub unread : Reading
unread = record {
  side = 0;
  total = 0;
  unfilled = 0;
  executed = 0;
  cancelled = 0;
  value = 0;
  fills = [];
  is_accepted = false;
  is_closed = false;
}

-- the 1/10,000 that a price in a report says. It has no range: a trade or an average may have any price.
abbrev pub price_in : ℕ → Message → ℕ
price_in tag r = unwrap_or (worth (text tag r)) 0

-- 0 New and 5 Replaced: what is open is 151
abbrev opened : Message → Reading → Reading
opened r x = record x { unfilled = number 151 r; is_accepted = true }

-- F Trade: 32 shares at 31 are executed
abbrev filled : Message → Reading → Reading
filled r x = record x {
  executed = x.executed + number 32 r;
  value = x.value + number 32 r * price_in 31 r;
  unfilled = x.unfilled - number 32 r;
  fills = record { exec_id = text 17 r; shares = number 32 r; price = price_in 31 r } ∷ x.fills;
  is_closed = x.is_closed || number 151 r == 0;
}

-- D Restated and 4 Canceled: what is open falls to 151, the rest is cancelled
abbrev cancelled_to : Message → Reading → Reading
cancelled_to r x = record x { cancelled = x.cancelled + (x.unfilled - number 151 r); unfilled = number 151 r }

abbrev closed : Reading → Reading
closed x = record x { is_closed = true }

-- H Trade Cancel: the fill whose 17 is 19 is taken back
abbrev taken_back : Message → Reading → Reading
taken_back r x = without (find (λ f. bytes_eq f.exec_id (text 19 r)) x.fills)
  where
    without : Option Fill → Reading
    without None = x
    without (Some f) = record x { executed = x.executed - f.shares; value = x.value - f.shares * f.price }

-- 8 Rejected closes. A, E and 6, which tell of what is asked, change no number.
abbrev by_exec_type : Message → Reading → Reading
by_exec_type r x =
    if is_one_of 150 (codes "0" ∷ codes "5" ∷ []) r then opened r x
    else if is 150 (codes "F") r then filled r x
    else if is 150 (codes "D") r then cancelled_to r x
    else if is 150 (codes "4") r then closed (cancelled_to r x)
    else if is 150 (codes "H") r then taken_back r x
    else if is 150 (codes "8") r then closed x else x

-- side and total as the report has them; the total stays once the order is closed
abbrev restated : Message → Reading → Reading
restated r x = record x { side = character 54 r; total = if x.is_closed then x.total else number 38 r }

-- what a report makes of what was read before
abbrev pub with_report : Reading → Message → Reading
with_report x r = restated r (by_exec_type r x)

abbrev pub is_report : Message → Bool
is_report r = is 35 (codes "8") r

-- it is a report on the order with this OrderID
abbrev pub is_report_on : List ℕ → Message → Bool
is_report_on order r = is_report r && is 37 order r

-- what the client has read of an order, by its OrderID (37), in these reports, the newest first
abbrev pub reading : List ℕ → List Message → Reading
reading order [] = unread
reading order (r ∷ earlier) = if is_report_on order r then with_report (reading order earlier) r
    else reading order earlier

-- the market rejected the order: a report on it has 150=8
abbrev pub is_refused_order : List ℕ → List Message → Bool
is_refused_order order sent = list_any (λ r. is_report_on order r && is 150 (codes "8") r) sent

-- AvgPx (6), in 1/10,000 and rounded down, of so much value in so many shares
abbrev pub average_of : ℕ → ℕ → ℕ
average_of value executed = if executed == 0 then 0 else value / executed

-- its side and its quantities
abbrev pub account_read : Reading → Account
account_read x = record {
  side = x.side;
  unfilled = x.unfilled;
  executed = x.executed;
  cancelled = x.cancelled;
  value = x.value;
  is_closed = x.is_closed;
}
