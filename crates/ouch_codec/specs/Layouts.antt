-- The layouts of the messages, field by field in the manual's order: name, offset from 0, kind.
-- How many bytes a field takes, and which, follows from its kind (`Layout.antt`). Below each table stands what is
-- checked of it: each offset is the sum of the widths before it, and all of them together are the message's length.
use Rattle.std.specs.Prelude.{◌≡◌, ℕ, ◌+◌, List, [], ◌∷◌, Bool, true, ◌&&◌, ◌==◌, slice_index, codes, refl}
use Rattle.ouch_codec.specs.declared.layout.Kind.{Kind}
use Rattle.ouch_codec.specs.declared.layout.Kind.TheVariants.{Constant, SideLetter, OrderStateLetter, Printable, Text}
use Rattle.ouch_codec.specs.declared.layout.Kind.TheVariants.{Shares, IntendedShares, Number, LongNumber}
use Rattle.ouch_codec.specs.Layout.{width}

-- a line of the manual's table
pub record Line : Type 0 where
  pub name : List ℕ
  pub offset : ℕ
  pub kind : Kind

abbrev pub line : List ℕ → ℕ → Kind → Line
line name offset kind = record { name = name; offset = offset; kind = kind }

-- a field that is this letter, as ASCII has it
abbrev letter : List ℕ → Kind
letter text = Constant (slice_index text 0)

-- the layout of a table
abbrev pub kinds_of : List Line → List Kind
kinds_of [] = []
kinds_of (l ∷ ls) = l.kind ∷ kinds_of ls

-- each line begins where the one before ends, and the last ends at `length`
abbrev is_gapless : ℕ → List Line → ℕ → Bool
is_gapless at [] length = at == length
is_gapless at (l ∷ ls) length = l.offset == at && is_gapless (at + width l.kind) ls length

-- Enter Order, `O`, towards the market. (OUCH 4.2, "Enter Order Message".)
abbrev pub enter_order_table : List Line
enter_order_table =
    line (codes "type") 0 (letter (codes "O"))
    ∷ line (codes "order token") 1 (Text 14)
    ∷ line (codes "buy/sell indicator") 15 SideLetter
    ∷ line (codes "shares") 16 Shares
    ∷ line (codes "stock") 20 (Text 8)
    ∷ line (codes "price") 28 Number
    ∷ line (codes "time in force") 32 Number
    ∷ line (codes "firm") 36 (Text 4)
    ∷ line (codes "display") 40 Printable
    ∷ line (codes "capacity") 41 Printable
    ∷ line (codes "intermarket sweep eligibility") 42 Printable
    ∷ line (codes "minimum quantity") 43 Number
    ∷ line (codes "cross type") 47 Printable
    ∷ line (codes "customer type") 48 Printable
    ∷ []

enter_order_lines_up : is_gapless 0 enter_order_table 49 ≡ true
enter_order_lines_up = refl

abbrev pub enter_order_layout : List Kind
enter_order_layout = kinds_of enter_order_table

-- Cancel Order, `X`, towards the market. (OUCH 4.2, "Cancel Order Message".)
abbrev pub cancel_table : List Line
cancel_table =
    line (codes "type") 0 (letter (codes "X"))
    ∷ line (codes "order token") 1 (Text 14)
    ∷ line (codes "shares") 15 IntendedShares
    ∷ []

cancel_lines_up : is_gapless 0 cancel_table 19 ≡ true
cancel_lines_up = refl

abbrev pub cancel_layout : List Kind
cancel_layout = kinds_of cancel_table

-- Accepted, `A`, from the market. (OUCH 4.2, "Accepted Message".)
abbrev pub accepted_table : List Line
accepted_table =
    line (codes "type") 0 (letter (codes "A"))
    ∷ line (codes "timestamp") 1 LongNumber
    ∷ line (codes "order token") 9 (Text 14)
    ∷ line (codes "buy/sell indicator") 23 SideLetter
    ∷ line (codes "shares") 24 Shares
    ∷ line (codes "stock") 28 (Text 8)
    ∷ line (codes "price") 36 Number
    ∷ line (codes "time in force") 40 Number
    ∷ line (codes "firm") 44 (Text 4)
    ∷ line (codes "display") 48 Printable
    ∷ line (codes "order reference number") 49 LongNumber
    ∷ line (codes "capacity") 57 Printable
    ∷ line (codes "intermarket sweep eligibility") 58 Printable
    ∷ line (codes "minimum quantity") 59 Number
    ∷ line (codes "cross type") 63 Printable
    ∷ line (codes "order state") 64 OrderStateLetter
    ∷ line (codes "BBO weight indicator") 65 Printable
    ∷ []

accepted_lines_up : is_gapless 0 accepted_table 66 ≡ true
accepted_lines_up = refl

abbrev pub accepted_layout : List Kind
accepted_layout = kinds_of accepted_table

-- Replace Order, `U`, towards the market. (OUCH 4.2, "Replace Order Message".)
abbrev pub replace_table : List Line
replace_table =
    line (codes "type") 0 (letter (codes "U"))
    ∷ line (codes "existing order token") 1 (Text 14)
    ∷ line (codes "replacement order token") 15 (Text 14)
    ∷ line (codes "shares") 29 Shares
    ∷ line (codes "price") 33 Number
    ∷ line (codes "time in force") 37 Number
    ∷ line (codes "display") 41 Printable
    ∷ line (codes "intermarket sweep eligibility") 42 Printable
    ∷ line (codes "minimum quantity") 43 Number
    ∷ []

replace_lines_up : is_gapless 0 replace_table 47 ≡ true
replace_lines_up = refl

abbrev pub replace_layout : List Kind
replace_layout = kinds_of replace_table

-- System Event, `S`, from the market. (OUCH 4.2, "System Event Message".)
abbrev pub system_event_table : List Line
system_event_table =
    line (codes "type") 0 (letter (codes "S"))
    ∷ line (codes "timestamp") 1 LongNumber
    ∷ line (codes "event code") 9 Printable
    ∷ []

system_event_lines_up : is_gapless 0 system_event_table 10 ≡ true
system_event_lines_up = refl

abbrev pub system_event_layout : List Kind
system_event_layout = kinds_of system_event_table

-- Replaced, `U`, from the market. (OUCH 4.2, "Replaced Message".)
abbrev pub replaced_table : List Line
replaced_table =
    line (codes "type") 0 (letter (codes "U"))
    ∷ line (codes "timestamp") 1 LongNumber
    ∷ line (codes "replacement order token") 9 (Text 14)
    ∷ line (codes "buy/sell indicator") 23 SideLetter
    ∷ line (codes "shares") 24 Shares
    ∷ line (codes "stock") 28 (Text 8)
    ∷ line (codes "price") 36 Number
    ∷ line (codes "time in force") 40 Number
    ∷ line (codes "firm") 44 (Text 4)
    ∷ line (codes "display") 48 Printable
    ∷ line (codes "order reference number") 49 LongNumber
    ∷ line (codes "capacity") 57 Printable
    ∷ line (codes "intermarket sweep eligibility") 58 Printable
    ∷ line (codes "minimum quantity") 59 Number
    ∷ line (codes "cross type") 63 Printable
    ∷ line (codes "order state") 64 OrderStateLetter
    ∷ line (codes "previous order token") 65 (Text 14)
    ∷ line (codes "BBO weight indicator") 79 Printable
    ∷ []

replaced_lines_up : is_gapless 0 replaced_table 80 ≡ true
replaced_lines_up = refl

abbrev pub replaced_layout : List Kind
replaced_layout = kinds_of replaced_table

-- Canceled, `C`, from the market. (OUCH 4.2, "Canceled Message".)
abbrev pub canceled_table : List Line
canceled_table =
    line (codes "type") 0 (letter (codes "C"))
    ∷ line (codes "timestamp") 1 LongNumber
    ∷ line (codes "order token") 9 (Text 14)
    ∷ line (codes "decrement shares") 23 Number
    ∷ line (codes "reason") 27 Printable
    ∷ []

canceled_lines_up : is_gapless 0 canceled_table 28 ≡ true
canceled_lines_up = refl

abbrev pub canceled_layout : List Kind
canceled_layout = kinds_of canceled_table

-- Executed, `E`, from the market. (OUCH 4.2, "Executed Order Message".)
abbrev pub executed_table : List Line
executed_table =
    line (codes "type") 0 (letter (codes "E"))
    ∷ line (codes "timestamp") 1 LongNumber
    ∷ line (codes "order token") 9 (Text 14)
    ∷ line (codes "executed shares") 23 Number
    ∷ line (codes "execution price") 27 Number
    ∷ line (codes "liquidity flag") 31 Printable
    ∷ line (codes "match number") 32 LongNumber
    ∷ []

executed_lines_up : is_gapless 0 executed_table 40 ≡ true
executed_lines_up = refl

abbrev pub executed_layout : List Kind
executed_layout = kinds_of executed_table

-- Broken Trade, `B`, from the market. (OUCH 4.2, "Broken Trade Message".)
abbrev pub broken_table : List Line
broken_table =
    line (codes "type") 0 (letter (codes "B"))
    ∷ line (codes "timestamp") 1 LongNumber
    ∷ line (codes "order token") 9 (Text 14)
    ∷ line (codes "match number") 23 LongNumber
    ∷ line (codes "reason") 31 Printable
    ∷ []

broken_lines_up : is_gapless 0 broken_table 32 ≡ true
broken_lines_up = refl

abbrev pub broken_layout : List Kind
broken_layout = kinds_of broken_table

-- Rejected, `J`, from the market. (OUCH 4.2, "Rejected Message".)
abbrev pub rejected_table : List Line
rejected_table =
    line (codes "type") 0 (letter (codes "J"))
    ∷ line (codes "timestamp") 1 LongNumber
    ∷ line (codes "order token") 9 (Text 14)
    ∷ line (codes "reason") 23 Printable
    ∷ []

rejected_lines_up : is_gapless 0 rejected_table 24 ≡ true
rejected_lines_up = refl

abbrev pub rejected_layout : List Kind
rejected_layout = kinds_of rejected_table

-- Cancel Pending, `P`, from the market. (OUCH 4.2, "Cancel Pending Message".)
abbrev pub cancel_pending_table : List Line
cancel_pending_table =
    line (codes "type") 0 (letter (codes "P"))
    ∷ line (codes "timestamp") 1 LongNumber
    ∷ line (codes "order token") 9 (Text 14)
    ∷ []

cancel_pending_lines_up : is_gapless 0 cancel_pending_table 23 ≡ true
cancel_pending_lines_up = refl

abbrev pub cancel_pending_layout : List Kind
cancel_pending_layout = kinds_of cancel_pending_table

-- Cancel Reject, `I`, from the market. (OUCH 4.2, "Cancel Reject Message".)
abbrev pub cancel_reject_table : List Line
cancel_reject_table =
    line (codes "type") 0 (letter (codes "I"))
    ∷ line (codes "timestamp") 1 LongNumber
    ∷ line (codes "order token") 9 (Text 14)
    ∷ []

cancel_reject_lines_up : is_gapless 0 cancel_reject_table 23 ≡ true
cancel_reject_lines_up = refl

abbrev pub cancel_reject_layout : List Kind
cancel_reject_layout = kinds_of cancel_reject_table
