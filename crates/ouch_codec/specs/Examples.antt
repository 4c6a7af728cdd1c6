-- Messages as bytes, and what the layouts say of them, computed. The Enter Order is one that was written elsewhere.
use Rattle.std.specs.Prelude.{◌≡◌, ℕ, ◌+◌, ◌-◌, ◌*◌, true, false, List, [], ◌∷◌, ◌++◌, take, nat_le, if◌then◌else◌}
use Rattle.std.specs.Prelude.{Option, Some, None, Result, Ok, codes, refl}
use Rattle.ouch_codec.specs.declared.layout.Kind.{Kind}
use Rattle.ouch_codec.specs.declared.order_state.OrderState.TheVariants.{Live, Dead}
use Rattle.ouch_codec.specs.declared.outbound.system_event.SystemEvent.{SystemEvent}
use Rattle.ouch_codec.specs.declared.outbound.accepted.Accepted.{Accepted}
use Rattle.ouch_codec.specs.declared.outbound.replaced.Replaced.{Replaced}
use Rattle.ouch_codec.specs.declared.outbound.canceled.Canceled.{Canceled}
use Rattle.ouch_codec.specs.declared.outbound.executed.Executed.{Executed}
use Rattle.ouch_codec.specs.declared.outbound.broken.Broken.{Broken}
use Rattle.ouch_codec.specs.declared.outbound.rejected.Rejected.{Rejected}
use Rattle.ouch_codec.specs.declared.outbound.cancel_pending.CancelPending.{CancelPending}
use Rattle.ouch_codec.specs.declared.outbound.cancel_reject.CancelReject.{CancelReject}
use Rattle.ouch_codec.specs.declared.outbound.Outbound.{Outbound}
use Rattle.ouch_codec.specs.declared.outbound.Outbound.TheVariants as market
use Rattle.ouch_codec.specs.declared.refusal.DecodeRefusal.{DecodeRefusal}
use Rattle.ouch_codec.specs.declared.side.Side.TheVariants.{Sell, SellShort}
use Rattle.ouch_codec.specs.Layout.{is_message, total}
use Rattle.ouch_codec.specs.Layouts.{enter_order_layout, replace_layout, cancel_layout, system_event_layout}
use Rattle.ouch_codec.specs.Layouts.{accepted_layout, replaced_layout, canceled_layout, executed_layout, broken_layout}
use Rattle.ouch_codec.specs.Layouts.{rejected_layout, cancel_pending_layout, cancel_reject_layout}
use Rattle.ouch_codec.specs.Parts.{type_of}
use Rattle.ouch_codec.specs.Decoding.{outbound_layout}
use Rattle.ouch_codec.specs.ToMarket as to_market
use Rattle.ouch_codec.specs.Values.{decoded}

abbrev digit : ℕ → ℕ
digit byte = if nat_le byte 57 then byte - 48 else byte - 87

-- the bytes that two hexadecimal digits each say
abbrev bytes : List ℕ → List ℕ
bytes [] = []
bytes (high ∷ []) = []
bytes (high ∷ low ∷ digits) = (16 * digit high + digit low) ∷ bytes digits

abbrev enter_order_bytes : List ℕ
enter_order_bytes = bytes
    (codes "4f4730303030303030303030303031420000012c494e544320202020000394040001869e4649524d59504e000000004e52")

abbrev replace_bytes : List ℕ
replace_bytes = bytes
    (codes "55473030303030303030303030303147303030303030303030303030320000012c000394040001869e594e00000000")

abbrev cancel_bytes : List ℕ
cancel_bytes = bytes (codes "58473030303030303030303030303100000000")

abbrev system_event_bytes : List ℕ
system_event_bytes = bytes (codes "5300001f1aced9f00051")

abbrev accepted_bytes : List ℕ
accepted_bytes = bytes
    (codes "4100001f1aced9f0014730303030303030303030303031530000012c494e544320202020000394040001869e4649524d590000000000000011504e00000064434c31")

abbrev replaced_bytes : List ℕ
replaced_bytes = bytes
    (codes "5500001f1aced9f002473030303030303030303030303254000000c84d53465420202020000f42400001869f5452494d4100000000000000125259000000324e44473030303030303030303030303132")

abbrev canceled_bytes : List ℕ
canceled_bytes = bytes (codes "4300001f1aced9f00347303030303030303030303030330000009655")

abbrev executed_bytes : List ℕ
executed_bytes = bytes (codes "4500001f1aced9f00447303030303030303030303030340000006400039404520000000000000007")

abbrev broken_bytes : List ℕ
broken_bytes = bytes (codes "4200001f1aced9f0054730303030303030303030303035000000000000000845")

abbrev rejected_bytes : List ℕ
rejected_bytes = bytes (codes "4a00001f1aced9f006473030303030303030303030303654")

abbrev cancel_pending_bytes : List ℕ
cancel_pending_bytes = bytes (codes "5000001f1aced9f0074730303030303030303030303037")

abbrev cancel_reject_bytes : List ℕ
cancel_reject_bytes = bytes (codes "4900001f1aced9f0084730303030303030303030303038")

-- a message of a layout, and none with one byte less or more
pub record FitsLayout (layout : List Kind) (message : List ℕ) : Type 0 where
  pub whole : is_message layout message ≡ true
  pub short : is_message layout (take (total layout - 1) message) ≡ false
  pub long : is_message layout (message ++ 32 ∷ []) ≡ false

enter_order_fits : FitsLayout enter_order_layout enter_order_bytes
enter_order_fits = record { whole = refl; short = refl; long = refl }

replace_fits : FitsLayout replace_layout replace_bytes
replace_fits = record { whole = refl; short = refl; long = refl }

cancel_fits : FitsLayout cancel_layout cancel_bytes
cancel_fits = record { whole = refl; short = refl; long = refl }

system_event_fits : FitsLayout system_event_layout system_event_bytes
system_event_fits = record { whole = refl; short = refl; long = refl }

accepted_fits : FitsLayout accepted_layout accepted_bytes
accepted_fits = record { whole = refl; short = refl; long = refl }

replaced_fits : FitsLayout replaced_layout replaced_bytes
replaced_fits = record { whole = refl; short = refl; long = refl }

canceled_fits : FitsLayout canceled_layout canceled_bytes
canceled_fits = record { whole = refl; short = refl; long = refl }

executed_fits : FitsLayout executed_layout executed_bytes
executed_fits = record { whole = refl; short = refl; long = refl }

broken_fits : FitsLayout broken_layout broken_bytes
broken_fits = record { whole = refl; short = refl; long = refl }

rejected_fits : FitsLayout rejected_layout rejected_bytes
rejected_fits = record { whole = refl; short = refl; long = refl }

cancel_pending_fits : FitsLayout cancel_pending_layout cancel_pending_bytes
cancel_pending_fits = record { whole = refl; short = refl; long = refl }

cancel_reject_fits : FitsLayout cancel_reject_layout cancel_reject_bytes
cancel_reject_fits = record { whole = refl; short = refl; long = refl }

-- the sets of the fields
sets :
    (is_message enter_order_layout
    -- side `X`
    (bytes (codes "4f4730303030303030303030303031580000012c494e544320202020000394040001869e4649524d59504e000000004e52"))
    ≡ false)
    × (is_message enter_order_layout
    -- side `E`
    (bytes (codes "4f4730303030303030303030303031450000012c494e544320202020000394040001869e4649524d59504e000000004e52"))
    ≡ true)
    × (is_message enter_order_layout
    -- side by its FIX digit
    (bytes (codes "4f4730303030303030303030303031310000012c494e544320202020000394040001869e4649524d59504e000000004e52"))
    ≡ false)
    × (is_message enter_order_layout
    -- no shares
    (bytes (codes "4f47303030303030303030303030314200000000494e544320202020000394040001869e4649524d59504e000000004e52"))
    ≡ false)
    × (is_message enter_order_layout
    -- 999,999 shares
    (bytes (codes "4f473030303030303030303030303142000f423f494e544320202020000394040001869e4649524d59504e000000004e52"))
    ≡ true)
    × (is_message enter_order_layout
    -- 1,000,000 shares
    (bytes (codes "4f473030303030303030303030303142000f4240494e544320202020000394040001869e4649524d59504e000000004e52"))
    ≡ false)
    × (is_message enter_order_layout
    -- a byte below 32 in a text
    (bytes (codes "4f4730303030303030303030303031420000012c1f4e544320202020000394040001869e4649524d59504e000000004e52"))
    ≡ false)
    × (is_message enter_order_layout
    -- a letter above 126
    (bytes (codes "4f4730303030303030303030303031420000012c494e544320202020000394040001869e4649524d7f504e000000004e52"))
    ≡ false)
    × (is_message accepted_layout
    -- state `D`
    (bytes (codes "4100000000000000004730303030303030303030303031420000012c494e544320202020000394040001869e4649524d590000000000000001504e000000004e444e")) ≡ true)
    × (is_message accepted_layout
    -- state `X`
    (bytes (codes "4100000000000000004730303030303030303030303031420000012c494e544320202020000394040001869e4649524d590000000000000001504e000000004e584e")) ≡ false)
    × (is_message accepted_layout
    -- no shares
    (bytes (codes "41000000000000000047303030303030303030303030314200000000494e544320202020000394040001869e4649524d590000000000000001504e000000004e4c4e")) ≡ false)
    × (is_message accepted_layout
    -- another type
    (bytes (codes "4f00000000000000004730303030303030303030303031420000012c494e544320202020000394040001869e4649524d590000000000000001504e000000004e4c4e")) ≡ false)
    × (is_message cancel_layout (bytes (codes "584730303030303030303030303031000f4240")) ≡ false)  -- 1,000,000 shares
    × (is_message canceled_layout (bytes (codes "4300000000000000004730303030303030303030303031ffffffff55"))
    ≡ true)  -- a decrement may be any number
sets = (refl, refl, refl, refl, refl, refl, refl, refl, refl, refl, refl, refl, refl, refl)

-- those from the market are listed by their types, and no others are
listed :
    (outbound_layout (type_of system_event_bytes) ≡ Some system_event_layout)
    × (outbound_layout (type_of accepted_bytes) ≡ Some accepted_layout)
    × (outbound_layout (type_of replaced_bytes) ≡ Some replaced_layout)
    × (outbound_layout (type_of canceled_bytes) ≡ Some canceled_layout)
    × (outbound_layout (type_of executed_bytes) ≡ Some executed_layout)
    × (outbound_layout (type_of broken_bytes) ≡ Some broken_layout)
    × (outbound_layout (type_of rejected_bytes) ≡ Some rejected_layout)
    × (outbound_layout (type_of cancel_pending_bytes) ≡ Some cancel_pending_layout)
    × (outbound_layout (type_of cancel_reject_bytes) ≡ Some cancel_reject_layout)
    × (outbound_layout (type_of enter_order_bytes) ≡ None)
    × (outbound_layout (type_of (codes "T")) ≡ None)
listed = (refl, refl, refl, refl, refl, refl, refl, refl, refl, refl, refl)

-- what those towards the market say
said :
    (to_market.token enter_order_bytes ≡ codes "G0000000000001")
    × (to_market.enter_side enter_order_bytes ≡ 66)
    × (to_market.enter_shares enter_order_bytes ≡ 300)
    × (to_market.enter_stock enter_order_bytes ≡ codes "INTC")
    × (to_market.enter_price enter_order_bytes ≡ 234_500)
    × (to_market.enter_time_in_force enter_order_bytes ≡ 99_998)
    × (to_market.replacement_token replace_bytes ≡ codes "G0000000000002")
    × (to_market.replace_shares replace_bytes ≡ 300)
    × (to_market.cancel_shares cancel_bytes ≡ 0)
said = (refl, refl, refl, refl, refl, refl, refl, refl, refl)

-- ---- what those from the market are decoded as, field by field. In each message all of them differ, so that none
-- stands for another.

abbrev system_event_says : {A : Type 0} → (SystemEvent → A) → Option A
system_event_says {A} field = of_message (decoded system_event_bytes)
  where
    of_message : Result Outbound DecodeRefusal → Option A
    of_message (Ok (market.SystemEvent m)) = Some (field m)
    of_message other = None

system_event_said :
    (system_event_says (λ m. m.timestamp) ≡ Some 34_200_000_000_000)
    × (system_event_says (λ m. m.event) ≡ Some 81)
system_event_said = (refl, refl)

abbrev accepted_says : {A : Type 0} → (Accepted → A) → Option A
accepted_says {A} field = of_message (decoded accepted_bytes)
  where
    of_message : Result Outbound DecodeRefusal → Option A
    of_message (Ok (market.Accepted m)) = Some (field m)
    of_message other = None

accepted_said :
    (accepted_says (λ m. m.timestamp) ≡ Some 34_200_000_000_001)
    × (accepted_says (λ m. m.token) ≡ Some (codes "G0000000000001"))
    × (accepted_says (λ m. m.side) ≡ Some Sell)
    × (accepted_says (λ m. m.shares) ≡ Some 300)
    × (accepted_says (λ m. m.stock) ≡ Some (codes "INTC    "))
    × (accepted_says (λ m. m.price) ≡ Some 234_500)
    × (accepted_says (λ m. m.time_in_force) ≡ Some 99_998)
    × (accepted_says (λ m. m.firm) ≡ Some (codes "FIRM"))
    × (accepted_says (λ m. m.display) ≡ Some 89)
    × (accepted_says (λ m. m.order_reference) ≡ Some 17)
    × (accepted_says (λ m. m.capacity) ≡ Some 80)
    × (accepted_says (λ m. m.intermarket_sweep) ≡ Some 78)
    × (accepted_says (λ m. m.minimum_quantity) ≡ Some 100)
    × (accepted_says (λ m. m.cross_type) ≡ Some 67)
    × (accepted_says (λ m. m.order_state) ≡ Some Live)
    × (accepted_says (λ m. m.bbo_weight) ≡ Some 49)
accepted_said = (refl, refl, refl, refl, refl, refl, refl, refl, refl, refl, refl, refl, refl, refl, refl, refl)

abbrev replaced_says : {A : Type 0} → (Replaced → A) → Option A
replaced_says {A} field = of_message (decoded replaced_bytes)
  where
    of_message : Result Outbound DecodeRefusal → Option A
    of_message (Ok (market.Replaced m)) = Some (field m)
    of_message other = None

replaced_said :
    (replaced_says (λ m. m.timestamp) ≡ Some 34_200_000_000_002)
    × (replaced_says (λ m. m.token) ≡ Some (codes "G0000000000002"))
    × (replaced_says (λ m. m.side) ≡ Some SellShort)
    × (replaced_says (λ m. m.shares) ≡ Some 200)
    × (replaced_says (λ m. m.stock) ≡ Some (codes "MSFT    "))
    × (replaced_says (λ m. m.price) ≡ Some 1_000_000)
    × (replaced_says (λ m. m.time_in_force) ≡ Some 99_999)
    × (replaced_says (λ m. m.firm) ≡ Some (codes "TRIM"))
    × (replaced_says (λ m. m.display) ≡ Some 65)
    × (replaced_says (λ m. m.order_reference) ≡ Some 18)
    × (replaced_says (λ m. m.capacity) ≡ Some 82)
    × (replaced_says (λ m. m.intermarket_sweep) ≡ Some 89)
    × (replaced_says (λ m. m.minimum_quantity) ≡ Some 50)
    × (replaced_says (λ m. m.cross_type) ≡ Some 78)
    × (replaced_says (λ m. m.order_state) ≡ Some Dead)
    × (replaced_says (λ m. m.previous_token) ≡ Some (codes "G0000000000001"))
    × (replaced_says (λ m. m.bbo_weight) ≡ Some 50)
replaced_said = (refl, refl, refl, refl, refl, refl, refl, refl, refl, refl, refl, refl, refl, refl, refl, refl, refl)

abbrev canceled_says : {A : Type 0} → (Canceled → A) → Option A
canceled_says {A} field = of_message (decoded canceled_bytes)
  where
    of_message : Result Outbound DecodeRefusal → Option A
    of_message (Ok (market.Canceled m)) = Some (field m)
    of_message other = None

canceled_said :
    (canceled_says (λ m. m.timestamp) ≡ Some 34_200_000_000_003)
    × (canceled_says (λ m. m.token) ≡ Some (codes "G0000000000003"))
    × (canceled_says (λ m. m.decrement) ≡ Some 150)
    × (canceled_says (λ m. m.reason) ≡ Some 85)
canceled_said = (refl, refl, refl, refl)

abbrev executed_says : {A : Type 0} → (Executed → A) → Option A
executed_says {A} field = of_message (decoded executed_bytes)
  where
    of_message : Result Outbound DecodeRefusal → Option A
    of_message (Ok (market.Executed m)) = Some (field m)
    of_message other = None

executed_said :
    (executed_says (λ m. m.timestamp) ≡ Some 34_200_000_000_004)
    × (executed_says (λ m. m.token) ≡ Some (codes "G0000000000004"))
    × (executed_says (λ m. m.shares) ≡ Some 100)
    × (executed_says (λ m. m.price) ≡ Some 234_500)
    × (executed_says (λ m. m.liquidity) ≡ Some 82)
    × (executed_says (λ m. m.match_number) ≡ Some 7)
executed_said = (refl, refl, refl, refl, refl, refl)

abbrev broken_says : {A : Type 0} → (Broken → A) → Option A
broken_says {A} field = of_message (decoded broken_bytes)
  where
    of_message : Result Outbound DecodeRefusal → Option A
    of_message (Ok (market.Broken m)) = Some (field m)
    of_message other = None

broken_said :
    (broken_says (λ m. m.timestamp) ≡ Some 34_200_000_000_005)
    × (broken_says (λ m. m.token) ≡ Some (codes "G0000000000005"))
    × (broken_says (λ m. m.match_number) ≡ Some 8)
    × (broken_says (λ m. m.reason) ≡ Some 69)
broken_said = (refl, refl, refl, refl)

abbrev rejected_says : {A : Type 0} → (Rejected → A) → Option A
rejected_says {A} field = of_message (decoded rejected_bytes)
  where
    of_message : Result Outbound DecodeRefusal → Option A
    of_message (Ok (market.Rejected m)) = Some (field m)
    of_message other = None

rejected_said :
    (rejected_says (λ m. m.timestamp) ≡ Some 34_200_000_000_006)
    × (rejected_says (λ m. m.token) ≡ Some (codes "G0000000000006"))
    × (rejected_says (λ m. m.reason) ≡ Some 84)
rejected_said = (refl, refl, refl)

abbrev cancel_pending_says : {A : Type 0} → (CancelPending → A) → Option A
cancel_pending_says {A} field = of_message (decoded cancel_pending_bytes)
  where
    of_message : Result Outbound DecodeRefusal → Option A
    of_message (Ok (market.CancelPending m)) = Some (field m)
    of_message other = None

cancel_pending_said :
    (cancel_pending_says (λ m. m.timestamp) ≡ Some 34_200_000_000_007)
    × (cancel_pending_says (λ m. m.token) ≡ Some (codes "G0000000000007"))
cancel_pending_said = (refl, refl)

abbrev cancel_reject_says : {A : Type 0} → (CancelReject → A) → Option A
cancel_reject_says {A} field = of_message (decoded cancel_reject_bytes)
  where
    of_message : Result Outbound DecodeRefusal → Option A
    of_message (Ok (market.CancelReject m)) = Some (field m)
    of_message other = None

cancel_reject_said :
    (cancel_reject_says (λ m. m.timestamp) ≡ Some 34_200_000_000_008)
    × (cancel_reject_says (λ m. m.token) ≡ Some (codes "G0000000000008"))
cancel_reject_said = (refl, refl)
