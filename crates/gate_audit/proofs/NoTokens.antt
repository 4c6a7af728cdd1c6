-- What the market's messages lead to, and what is refused, gives no token: no body of it is a report with 150=A or
-- 150=E.
use Rattle.std.proofs.Common.{◌≡◌, ℕ, ◌+◌, Bool, true, false, List, [], ◌∷◌, refl, Option, Some, None}
use Rattle.std.specs.Prelude.{Result, Ok, Err, if◌then◌else◌, is_some}
use Rattle.order_accounts.specs.ouch_codec.declared.outbound.Outbound.{Outbound}
use Rattle.order_accounts.specs.ouch_codec.declared.refusal.DecodeRefusal.{DecodeRefusal}
use Rattle.gate_law.specs.fix_fields.Field.{Message, text}
use Rattle.order_law.specs.Verdicts.{Port, Refused}
use Rattle.order_law.specs.Chain.{named}
use Rattle.order_law.specs.Reading.{reading}
use Rattle.order_law.specs.History.{Entry, OrderHistory, Terms, accepted, handled, is_new_order, issued, life_of}
use Rattle.order_law.specs.History.{orders_numbered, outstanding}
use Rattle.order_law.specs.Lawful.{judgement, order_token}
use Rattle.order_law.specs.Headline.{Each}
use Rattle.order_law.specs.Told as told
use Rattle.order_law.specs.Told.{Shown, on_token, reports_in, shown, shown_in, told_by, told_by_market, told_on}
use Rattle.gate_core.proofs.order_machine.Addressed.{IsOn, told-on}
use Rattle.gate_audit.specs.Pairs.{gives_token}

abbrev pub GivesNone : Message → Type 0
GivesNone r = gives_token r ≡ false

-- ---- the market's messages

on-none : (order : List ℕ) (rs : List Message) → Each (IsOn order) rs → Each GivesNone rs
on-none order [] on = tt
on-none order (r ∷ rs) on = (on.0.gives_none, on-none order rs on.1)

pub market-none : (terms : List Terms) (p : ℕ) (heard : Result Outbound DecodeRefusal) (before : OrderHistory)
    → Each GivesNone (told_by_market terms p heard before).bodies
market-none terms p (Err refusal) before = tt
market-none terms p (Ok m) before = by_fault (is_some (judgement terms p (Ok m) before))
  where
    of_bodies : (new : Entry) (rs : List Message) → Each GivesNone rs
        → Each GivesNone (told.told_of_entry new rs).bodies
    of_bodies new [] none = tt
    of_bodies new (r ∷ rs) none = none

    by_order : (x : Option Entry) → Each GivesNone (told_on terms p m before x).bodies
    by_order None = tt
    by_order (Some new) =
        let s = shown terms before new in
        let l = life_of new.order (accepted terms before) (handled p before) in
        let is_last = told.answers_last_cancel new.order m (outstanding terms p before) in
        let fills = (reading new.order (issued new.client before)).fills in
        let rs = told_by (reports_in before) m l is_last fills s in
        of_bodies new rs (on-none s.order rs (told-on (reports_in before) m l is_last fills s))

    by_fault : (b : Bool) → Each GivesNone (if b then told.nobody else told_on terms p m before
        (on_token terms p before (order_token m))).bodies
    by_fault true = tt
    by_fault false = by_order (on_token terms p before (order_token m))

-- ---- a message that is refused

pub refused-none : (terms : List Terms) (client : ℕ) (m : Message) (port : Port) (before : OrderHistory) (code : ℕ)
    (why : List ℕ) → Each GivesNone (told.told_by_verdict terms client m port before (Refused code why))
refused-none terms client m port before code why = by_new (is_new_order m)
  where
    by_shown : (x : Option Shown) → Each GivesNone (told.refused_request m x code why)
    by_shown None = (refl, tt)
    by_shown (Some s) = (refl, tt)

    by_new : (b : Bool) → Each GivesNone (if b then told.refusing_report (reports_in before + 1)
        (orders_numbered before + 1) m code why ∷ [] else told.refused_request m
        (shown_in terms before (named (text 41 m) (issued client before))) code why)
    by_new true = (refl, tt)
    by_new false = by_shown (shown_in terms before (named (text 41 m) (issued client before)))
