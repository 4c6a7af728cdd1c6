-- The market says at most one message at a time.
use Rattle.std.proofs.Common.{◌≡◌, ◌≤◌, ◌^◌, ℕ, zero, suc, Bool, true, false, length, arith, refl, Option, Some, None}
use Rattle.std.specs.Prelude.{if◌then◌else◌, nat_lt, ◌==◌}
use Rattle.std.specs.List.{find}
use Rattle.ouch_codec.specs.declared.inbound.Inbound.{Inbound}
use Rattle.ouch_codec.specs.declared.inbound.Inbound.TheVariants as asked
use Rattle.ouch_codec.specs.declared.inbound.enter_order.EnterOrder.{EnterOrder}
use Rattle.ouch_codec.specs.declared.inbound.replace.Replace.{Replace}
use Rattle.ouch_codec.specs.declared.inbound.cancel.Cancel.{Cancel}
use Rattle.ouch_codec.specs.declared.order_state.OrderState.{OrderState}
use Rattle.market_book.specs.market_law.declared.choice.Breaking.{Breaking}
use Rattle.market_book.specs.market_law.declared.choice.Choice.{Choice}
use Rattle.market_book.specs.market_law.declared.choice.Choice.TheVariants as choose
use Rattle.market_book.specs.market_law.declared.choice.Removal.{Removal}
use Rattle.market_book.specs.market_law.declared.choice.Trading.{Trading}
use Rattle.market_book.specs.market_law.Machine.{BookOrder, Machine, Step, ToCancel, ToEnter, ToReplace, Takes}
use Rattle.market_book.specs.market_law.Machine.{Rejects, Replaces, TakesOff, Keeps, Cancels, Waits, Denies}
use Rattle.market_book.specs.market_law.Machine.{act, break_on, cancel, cancel_on, enter, has_trade, inbound}
use Rattle.market_book.specs.market_law.Machine.{is_open_for, is_token_used, live_order, may_trade, move, replace}
use Rattle.market_book.specs.market_law.Machine.{replace_on}
use Rattle.market_book.specs.market_law.Machine.{says_nothing, take_off_on, to_cancel, to_enter, to_replace, trade_by}
use Rattle.market_book.specs.market_law.Machine.{trade_on}

abbrev pub IsFew : Step → Type 0
IsFew s = length s.says ≤ 1

few-if : (b : Bool) (s t : Step) → IsFew s → IsFew t → IsFew (if b then s else t)
few-if true s t p q = p
few-if false s t p q = q

few-enter : (m : Machine) (order : EnterOrder) (answer : ToEnter) → IsFew (enter m order answer)
few-enter m order (Takes state) = omega arith
few-enter m order (Rejects reason) = omega arith

few-move : (m : Machine) (request : Replace) (c : BookOrder) (state : OrderState) (shares : ℕ) (most : shares ≤ 999_999)
    → IsFew (move m request c state shares most)
few-move m request c state zero most = omega arith
few-move m request c state (suc shares) most = omega arith

few-replace : (m : Machine) (request : Replace) (c : BookOrder) (answer : ToReplace)
    → IsFew (replace m request c answer)
few-replace m request c (Replaces state) = few-move m request c state _ _
few-replace m request c TakesOff = omega arith
few-replace m request c (Keeps reason) = omega arith

few-replace_on : (m : Machine) (request : Replace) (choice : Choice) (live : Option BookOrder)
    → IsFew (replace_on m request choice live)
few-replace_on m request choice None = omega arith
few-replace_on m request choice (Some c) =
    few-if (is_token_used m request.replacement_token) (says_nothing m) (replace m request c (to_replace choice))
    (omega arith) (few-replace m request c (to_replace choice))

few-cancel : (m : Machine) (request : Cancel) (c : BookOrder) (answer : ToCancel)
    → IsFew (cancel m request.token c answer)
few-cancel m request c Cancels = omega arith
few-cancel m request c Waits = omega arith
few-cancel m request c Denies = omega arith

few-cancel_on : (m : Machine) (request : Cancel) (choice : Choice) (live : Option BookOrder)
    → IsFew (cancel_on m request choice live)
few-cancel_on m request choice None = omega arith
few-cancel_on m request choice (Some c) =
    few-if (request.shares == 0) (cancel m request.token c (to_cancel choice)) (says_nothing m)
    (few-cancel m request c (to_cancel choice)) (omega arith)

pub few-inbound : (m : Machine) (message : Inbound) (choice : Choice) → IsFew (inbound m message choice)
few-inbound m (asked.Enter order) choice =
    few-if (is_token_used m order.token) (says_nothing m) (enter m order (to_enter choice)) (omega arith)
    (few-enter m order (to_enter choice))
few-inbound m (asked.Replace request) choice = few-replace_on m request choice (live_order m request.token)
few-inbound m (asked.Cancel request) choice = few-cancel_on m request choice (live_order m request.token)

few-trade_by : (m : Machine) (trading : Trading) (c : BookOrder) (is_left : Bool)
    (e : nat_lt (suc m.matches) (2 ^ 64) ≡ is_left) → IsFew (trade_by m trading c is_left e)
few-trade_by m trading c true e = omega arith
few-trade_by m trading c false e = omega arith

few-trade_on : (m : Machine) (trading : Trading) (live : Option BookOrder) → IsFew (trade_on m trading live)
few-trade_on m trading None = omega arith
few-trade_on m trading (Some c) =
    few-if (may_trade trading.shares c) (trade_by m trading c (nat_lt (suc m.matches) (2 ^ 64)) refl) (says_nothing m)
    (few-trade_by m trading c (nat_lt (suc m.matches) (2 ^ 64)) refl) (omega arith)

few-take_off_on : (m : Machine) (removal : Removal) (live : Option BookOrder) → IsFew (take_off_on m removal live)
few-take_off_on m removal None = omega arith
few-take_off_on m removal (Some c) = few-if (is_open_for removal.shares c) _ (says_nothing m) (omega arith)
    (omega arith)

few-break_on : (m : Machine) (breaking : Breaking) (found : Option BookOrder) → IsFew (break_on m breaking found)
few-break_on m breaking None = omega arith
few-break_on m breaking (Some c) = omega arith

pub few-act : (m : Machine) (choice : Choice) → IsFew (act m choice)
few-act m (choose.Execute trading) = few-trade_on m trading (live_order m trading.token)
few-act m (choose.TakeOff removal) = few-take_off_on m removal (live_order m removal.token)
few-act m (choose.Break breaking) = few-break_on m breaking (find (has_trade breaking.match_number) m.book)
few-act m (choose.SystemEvent event) = omega arith
few-act m choose.AcceptLive = omega arith
few-act m choose.AcceptDead = omega arith
few-act m (choose.Refuse reason) = omega arith
few-act m choose.Nothing = omega arith
