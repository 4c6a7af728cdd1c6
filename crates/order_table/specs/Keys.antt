-- By what keys the indexes lead to orders and to tokens. A key says no more than where to look: what is found is
-- compared itself.
use Rattle.std.specs.Prelude.{ℕ, Bool, false, ◌||◌, List, Option, Some, None, bytes_eq, nat_eq}
use Rattle.std.specs.List.{list_any}
use Rattle.std.specs.Str.Parse.{digits_value}
use Rattle.order_machine.specs.fix_fields.Field.{text}
use Rattle.undo_index.specs.TextKeys.{same_key, text_key}
use Rattle.undo_orders.specs.orders.order_law.History.{Entry}
use Rattle.undo_orders.specs.orders.declared.requests.Replacing.{Replacing}
use Rattle.order_machine.specs.OrderRecord.{Cancelling, OrderRecord}
use Rattle.order_machine.specs.Table.{GivenToken}
use Rattle.order_table.specs.declared.keys.NameKey.{NameKey}
use Rattle.order_table.specs.declared.keys.NumberKey.{NumberKey}
use Rattle.tokens.specs.declared.token_key.TokenKey.{TokenKey}
use Rattle.tokens.specs.TokenKeys.{same_token_key, token_key}

abbrev pub same_number : NumberKey → NumberKey → Bool
same_number x y = nat_eq x.number y.number

abbrev pub same_name : NameKey → NameKey → Bool
same_name x y = same_key x.key y.key

-- of a client with an id
abbrev pub name_key : ℕ → List ℕ → NameKey
name_key client id = record { key = text_key client id }

-- the number that its OrderID writes
abbrev pub has_number_key : NumberKey → OrderRecord → Bool
has_number_key k o = nat_eq k.number (digits_value 10 o.new.order)

-- a replace has this ClOrdID
abbrev pub is_of_replacing : List ℕ → Replacing → Bool
is_of_replacing id r = bytes_eq r.message.cl_ord_id id

-- of a client with the id of a replace, as the order has it and as its record has it
abbrev pub is_key_of_replacing : NameKey → ℕ → Replacing → Bool
is_key_of_replacing k client r = same_name k (name_key client r.message.cl_ord_id)

abbrev pub is_key_of_replace : NameKey → ℕ → Entry → Bool
is_key_of_replace k client q = same_name k (name_key client (text 11 q.message))

-- of a client with the id of a pending request
abbrev pub is_key_of_replaces : NameKey → ℕ → List Entry → Bool
is_key_of_replaces k client qs = list_any (is_key_of_replace k client) qs

abbrev pub is_key_of_cancel : NameKey → ℕ → Option Cancelling → Bool
is_key_of_cancel k client None = false
is_key_of_cancel k client (Some c) = same_name k (name_key client (text 11 c.request.message))

-- its client with an id that it goes by
abbrev pub has_name_key : NameKey → OrderRecord → Bool
has_name_key k o = same_name k (name_key o.new.client o.id)
    || (is_key_of_replaces k o.new.client o.replaces || is_key_of_cancel k o.new.client o.cancel)

-- its port with its text
abbrev pub has_token_key : TokenKey → GivenToken → Bool
has_token_key k g = same_token_key k (token_key g.port g.text)
