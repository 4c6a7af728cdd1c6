-- What is handed on of a packet to or from the market: of OUCH messages alone. A Login Request, which has user and
-- password, carries none.
--
-- Source: SoupBinTCP 3.00, "Logical Packets"; OUCH 4.2, "Outbound Messages".
use Rattle.std.specs.Prelude.{◌==◌, ℕ, List, [], ◌∷◌, ◌++◌, codes, decimal, Result, Ok, Err, if◌then◌else◌}
use Rattle.soup_packets.specs.declared.packet.Packet.{Packet}
use Rattle.ouch_codec.specs.Layout.{is_message}
use Rattle.ouch_codec.specs.Layouts.{enter_order_layout, replace_layout, cancel_layout}
use Rattle.ouch_codec.specs.ToMarket as asked
use Rattle.ouch_codec.specs.Values.{decoded}
use Rattle.ouch_codec.specs.declared.refusal.DecodeRefusal.{DecodeRefusal}
use Rattle.ouch_codec.specs.declared.outbound.Outbound.{Outbound}
use Rattle.ouch_codec.specs.declared.outbound.Outbound.TheVariants.{SystemEvent, Accepted, Replaced, Canceled, Executed}
use Rattle.ouch_codec.specs.declared.outbound.Outbound.TheVariants.{Broken, Rejected, CancelPending, CancelReject}
use Rattle.ouch_codec.specs.declared.outbound.Outbound.TheVariants.{Skipped}
use Rattle.day_export.specs.Said.{Said}

-- ---- values

abbrev pub said : List ℕ → List ℕ → Said
said name value = record { name = name; value = value }

abbrev pub counted : List ℕ → ℕ → Said
counted name number = record { name = name; value = decimal number }

-- the letter of a message, and whose it is
abbrev pub on : ℕ → List ℕ → List Said
on letter token = said (codes "ouch") (letter ∷ []) ∷ said (codes "token") token ∷ []

abbrev pub with_shares : ℕ → List ℕ → ℕ → List Said
with_shares letter token shares = on letter token ++ counted (codes "shares") shares ∷ []

abbrev pub with_price : ℕ → List ℕ → ℕ → ℕ → List Said
with_price letter token shares price = with_shares letter token shares ++ counted (codes "price") price ∷ []

-- of a replace, which has two tokens
abbrev pub with_previous : List ℕ → List ℕ → ℕ → ℕ → List Said
with_previous token previous shares price =
    with_price 85 token shares price ++ said (codes "previous") previous ∷ []

-- ---- from the market

abbrev pub outbound_said : Outbound → List Said
outbound_said (SystemEvent m) = []
outbound_said (Accepted m) = with_price 65 m.token m.shares m.price
outbound_said (Replaced m) = with_previous m.token m.previous_token m.shares m.price
outbound_said (Canceled m) = with_shares 67 m.token m.decrement
outbound_said (Executed m) = with_price 69 m.token m.shares m.price ++ counted (codes "match") m.match_number ∷ []
outbound_said (Broken m) = on 66 m.token ++ counted (codes "match") m.match_number ∷ []
outbound_said (Rejected m) = on 74 m.token
outbound_said (CancelPending m) = on 80 m.token
outbound_said (CancelReject m) = on 73 m.token
outbound_said Skipped = []

abbrev pub read_said : Result Outbound DecodeRefusal → List Said
read_said (Ok message) = outbound_said message
read_said (Err refusal) = []

-- of a Sequenced Data Packet (S) what its payload is, of any other nothing
abbrev pub packet_said : Packet → List Said
packet_said p = if p.kind == 83 then read_said (decoded p.payload) else []

-- ---- to the market

-- what a message says, by the offsets of its layout; of bytes that are none nothing (OUCH 4.2, "Inbound Messages")
unfoldable pub inbound_said : List ℕ → List Said
inbound_said bytes =
    if is_message enter_order_layout bytes then
    with_price 79 (asked.token bytes) (asked.enter_shares bytes) (asked.enter_price bytes)
    else if is_message replace_layout bytes then
    with_previous (asked.replacement_token bytes) (asked.token bytes) (asked.replace_shares bytes)
    (asked.replace_price bytes)
    else if is_message cancel_layout bytes then with_shares 88 (asked.token bytes) (asked.cancel_shares bytes)
    else []

-- of an Unsequenced Data Packet (U) what its payload is, of any other nothing
abbrev pub typed_said : ℕ → List ℕ → List Said
typed_said kind payload = if kind == 85 then inbound_said payload else []

-- of the bytes of a packet: two of its length, its type, its payload
unfoldable pub asked_said : List ℕ → List Said
asked_said [] = []
asked_said (high ∷ []) = []
asked_said (high ∷ low ∷ []) = []
asked_said (high ∷ low ∷ kind ∷ payload) = typed_said kind payload
