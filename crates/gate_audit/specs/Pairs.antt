-- Orders by both of their accounts: by the reports of the batches and the messages that were handled, and as the
-- order level's turns have them. (FIX 4.4 Volume 4, "Execution Report"; OUCH 4.2, "Enter Order Message", order
-- token.)
use Rattle.std.specs.Prelude.{ℕ, ◌<◌, ◌≤◌, ◌==◌, Bool, true, not, ◌&&◌, ◌||◌, List, [], ◌∷◌, ◌++◌, Option, Some, None}
use Rattle.std.specs.Prelude.{map, filter, reverse, length, codes, if◌then◌else◌}
use Rattle.std.specs.List.{count_by}
use Rattle.std.specs.Str.Parse.{digits_value}
use Rattle.order_law.specs.tokens.TokenText.{token_text}
use Rattle.order_accounts.specs.ouch_codec.declared.outbound.Outbound.{Outbound}
use Rattle.order_law.specs.declared.account.Account.{Account}
use Rattle.gate_law.specs.fix_fields.Field.{Message, character, is, text}
use Rattle.order_law.specs.Reading.{account_read, is_report, reading}
use Rattle.order_law.specs.Life.{account_of, life}
use Rattle.order_law.specs.History as orders
use Rattle.order_law.specs.History.{Entry}
use Rattle.order_law.specs.Headline.{Each, life_in}
use Rattle.order_law.specs.Verdicts.{last_token}
use Rattle.order_accounts.specs.Held.{StaysHeld}
use Rattle.gate_law.specs.Settings.{Settings, port_of, port_terms, terms}
use Rattle.gate_law.specs.Events.{History}
use Rattle.gate_law.specs.Outcome.{bodies}
use Rattle.gate_law.specs.After.{order_turns}
use Rattle.gate_law.specs.Holds.{told_by_batches}
use Rattle.gate_audit.specs.Again.{called_again}
use Rattle.gate_audit.specs.Read.{for_clients, accepted_new_orders, opens_new_order}

-- a report or reject, and whom it was told
pub record SaidToClient : Type 0 where
  pub client : ℕ
  pub report : Message

abbrev pub said_to : ℕ → Message → SaidToClient
said_to client r = record { client = client; report = r }

abbrev pub told_anyone : Option ℕ → List Message → List SaidToClient
told_anyone None reports = []
told_anyone (Some client) reports = map (said_to client) reports

-- all that the batches of a history told, the newest first
abbrev pub said_to_clients : History → List SaidToClient
said_to_clients [] = []
said_to_clients (t ∷ before) = reverse (told_anyone t.batch.client (bodies t.batch)) ++ said_to_clients before

-- ---- first tokens

-- A token is given with each new order and each replace that is accepted, so with each report of one: A is Pending
-- New, E Pending Replace. (FIX 4.4 Volume 6, ExecType (150).)
abbrev pub gives_token : Message → Bool
gives_token r = is_report r && (is 150 (codes "A") r || is 150 (codes "E") r)

abbrev pub tokens_given : List SaidToClient → ℕ
tokens_given all = count_by (λ (x : SaidToClient). gives_token x.report) all

-- an order as the report that opened it has it: its client, OrderID (37), first ClOrdID (11) and side (54), and its
-- first token
pub record OpenedOrder : Type 0 where
  pub client : ℕ
  pub order : List ℕ
  pub id : List ℕ
  pub side : ℕ
  pub root : List ℕ

-- with the token of this number
abbrev pub opened_order_at : ℕ → SaidToClient → OpenedOrder
opened_order_at number x = record {
  client = x.client;
  order = text 37 x.report;
  id = text 11 x.report;
  side = character 54 x.report;
  root = token_text number;
}

-- the orders that these reports, the newest first, opened; each has the last token that was given by then
abbrev pub opened_orders : List SaidToClient → List OpenedOrder
opened_orders [] = []
opened_orders (x ∷ earlier) = if opens_new_order x.report
    then opened_order_at (tokens_given (x ∷ earlier)) x ∷ opened_orders earlier else opened_orders earlier

abbrev pub orders_of : ℕ → List OpenedOrder → List OpenedOrder
orders_of client os = filter (λ (o : OpenedOrder). o.client == client) os

-- ---- pairs

-- an order by both of its accounts: its client, its first ClOrdID, what its client read of it and what the market
-- said of it
pub record Pair : Type 0 where
  pub client : ℕ
  pub id : List ℕ
  pub fix : Account
  pub ouch : Account
  pub agree : Bool

abbrev same_answer : Bool → Bool → Bool
same_answer a b = if a then b else not b

-- all six values are equal
abbrev pub same_account : Account → Account → Bool
same_account a b =
    a.side == b.side
    && (a.unfilled == b.unfilled
    && (a.executed == b.executed
    && (a.cancelled == b.cancelled
    && (a.value == b.value && same_answer a.is_closed b.is_closed))))

abbrev pub paired : ℕ → List ℕ → Account → Account → Pair
paired client id fix ouch = record { client = client; id = id; fix = fix; ouch = ouch; agree = same_account fix ouch }

-- of an order whose client was told these, and whose port handled these, both the newest first
abbrev pub pair_in : List Message → List Outbound → OpenedOrder → Pair
pair_in sent handled o = paired o.client o.id (account_read (reading o.order sent))
    (account_of (life o.root o.side handled))

-- the messages of a client's port that were handled
abbrev pub handled_for : Settings → History → ℕ → List Outbound
handled_for s h client = (called_again (port_terms s (port_of s client)) (port_of s client) h).handled

-- those of a client, the oldest first
abbrev pub pairs_of : Settings → History → ℕ → List Pair
pairs_of s h client = map (pair_in (told_by_batches client h) (handled_for s h client))
    (reverse (orders_of client (opened_orders (said_to_clients h))))

-- by client, and of each client in the order in which they were opened
abbrev pub pairs : Settings → History → List Pair
pairs s h = for_clients (pairs_of s h) (length s.clients)

-- ---- numbers that integers hold

-- what a client that was told these, the newest first, read of these orders stays within integers
abbrev pub AreHeld : List Message → List OpenedOrder → Type 0
AreHeld sent os = Each (λ (o : OpenedOrder). StaysHeld o.order sent) os

-- and of all orders of all clients
abbrev pub AllHeld : Settings → History → Type 0
AllHeld s h = (client : ℕ) → 1 ≤ client → client ≤ length s.clients
    → AreHeld (told_by_batches client h) (reverse (orders_of client (opened_orders (said_to_clients h))))

-- there are so many tokens
abbrev pub HasTokenNumbers : List SaidToClient → Type 0
HasTokenNumbers all = tokens_given all ≤ last_token

-- ---- by the order level's turns

-- an accepted new order: what its client has read of it, and its life
abbrev pub accepted_pair : Settings → History → Entry → Pair
accepted_pair s h new = record {
  client = new.client;
  id = text 11 new.message;
  fix = account_read (reading new.order (orders.issued new.client (order_turns s h)));
  ouch = account_of (life_in (terms s) (order_turns s h) new);
  agree = true;
}

abbrev pub accepted_pairs_of : Settings → History → ℕ → List Pair
accepted_pairs_of s h client = map (accepted_pair s h)
    (reverse (filter (λ (e : Entry). e.client == client) (accepted_new_orders s h)))

-- by client, and of each client in the order in which they were accepted
abbrev pub accepted_pairs : Settings → History → List Pair
accepted_pairs s h = for_clients (accepted_pairs_of s h) (length s.clients)

-- new orders, the newest first, each with a greater OrderID (37) than all before it
abbrev pub AreByOrder : List Entry → Type 0
AreByOrder [] = Unit {0}
AreByOrder (new ∷ earlier) = Each (λ (e : Entry). digits_value 10 e.order < digits_value 10 new.order) earlier
    × AreByOrder earlier
