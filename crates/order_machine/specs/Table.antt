-- The table of orders: what the gateway keeps so that it can answer, and how it looks things up.
use Rattle.std.specs.Prelude.{ℕ, Bool, ◌&&◌, ◌==◌, not, List, [], ◌∷◌, Option, bytes_eq, option_and_then}
use Rattle.std.specs.Prelude.{if◌then◌else◌, is_some}
use Rattle.std.specs.List.{list_any, count_by, find}
use Rattle.fix_fields.specs.Field.{Message, text}
use Rattle.order_law.specs.Asks.{capacity_of}
use Rattle.order_law.specs.Chain.{goes_by}
use Rattle.order_law.specs.Life.{is_closed}
use Rattle.order_law.specs.Verdicts.{Named, is_replace}
use Rattle.order_law.specs.History.{Entry, Terms, terms_of, token_of}
use Rattle.order_machine.specs.OrderRecord.{OrderRecord, chained, read}

-- a ClOrdID that a client has used
pub record UsedId : Type 0 where
  pub client : ℕ
  pub id : List ℕ

-- a token that was given
pub record GivenToken : Type 0 where
  -- the port that knows it
  pub port : ℕ
  pub text : List ℕ
  -- the OrderID (37) of its order
  pub order : List ℕ
  -- a replace asked for it
  pub is_replacement : Bool

pub record TableState : Type 0 where
  pub terms : List Terms
  -- the accepted orders, and the tokens: the newest first
  pub orders : List OrderRecord
  pub tokens : List GivenToken
  pub used : List UsedId
  -- how many OrderIDs and ExecIDs were given
  pub order_ids : ℕ
  pub exec_ids : ℕ

-- of these clients, before the first event
abbrev pub table_without_orders : List Terms → TableState
table_without_orders terms = record { terms = terms; orders = []; tokens = []; used = []; order_ids = 0; exec_ids = 0 }

-- ---- ids

-- it is the client's, and this id
abbrev pub is_same_id : ℕ → List ℕ → UsedId → Bool
is_same_id client id u = u.client == client && bytes_eq u.id id

-- the client has used the id
abbrev pub has_used : List UsedId → ℕ → List ℕ → Bool
has_used used client id = list_any (is_same_id client id) used

abbrev pub used_by : ℕ → Message → UsedId
used_by client m = record { client = client; id = text 11 m }

-- ---- orders

-- it is the client's, and not closed
abbrev pub is_open_of : ℕ → OrderRecord → Bool
is_open_of client o = o.new.client == client && not (is_closed o.stage)

-- how many orders of the client aren't closed
abbrev pub open_count : List OrderRecord → ℕ → ℕ
open_count orders client = count_by (is_open_of client) orders

-- it is the client's, and goes by this ClOrdID
abbrev pub is_named : ℕ → List ℕ → OrderRecord → Bool
is_named client id o = o.new.client == client && goes_by id (chained o)

-- the order that a client's 41 names
abbrev pub record_by_id : TableState → ℕ → List ℕ → Option OrderRecord
record_by_id s client id = find (is_named client id) s.orders

-- it has this OrderID
abbrev pub has_number : List ℕ → OrderRecord → Bool
has_number order o = bytes_eq o.new.order order

abbrev pub by_number : TableState → List ℕ → Option OrderRecord
by_number s order = find (has_number order) s.orders

-- the order with its OrderID is this one now
abbrev pub put : OrderRecord → List OrderRecord → List OrderRecord
put p [] = []
put p (o ∷ os) = if has_number p.new.order o then p ∷ os else o ∷ put p os

-- ---- tokens

-- the token that an accepted message is given
abbrev pub token_given : List Terms → Entry → GivenToken
token_given terms e = record {
  port = (terms_of terms e.client).port;
  text = token_of e;
  order = e.order;
  is_replacement = is_replace e.message;
}

-- with that of an accepted message, if it has one
abbrev pub with_token : List Terms → Entry → List GivenToken → List GivenToken
with_token terms e tokens = if is_some e.token then token_given terms e ∷ tokens else tokens

-- the port knows it by this text
abbrev pub is_token : ℕ → List ℕ → GivenToken → Bool
is_token port token g = g.port == port && bytes_eq g.text token

-- the order that a token of a port leads to
abbrev pub record_by_token : TableState → ℕ → List ℕ → Option OrderRecord
record_by_token s port token = option_and_then (λ (g : GivenToken). by_number s g.order)
    (find (is_token port token) s.tokens)

-- a replace of this order was given it
abbrev pub is_replacement_of : List ℕ → GivenToken → Bool
is_replacement_of order g = bytes_eq g.order order && g.is_replacement

-- ---- what a request's table reads of the order that it names

abbrev pub named_as : TableState → OrderRecord → Named
named_as s o = record {
  side = text 54 o.new.message;
  symbol = text 55 o.new.message;
  capacity = capacity_of (terms_of s.terms o.new.client).capacity o.new.message;
  reading = read o;
  chain = chained o;
  replaces = count_by (is_replacement_of o.new.order) s.tokens;
}
