-- What a state has that stands as a table does.
use Rattle.std.proofs.Common.{◌≡◌, ℕ, Bool, List, length, ap, ◌∙◌, sym, decimal, Some, eqb-true}
use Rattle.std.specs.Prelude.{◌==◌, Option}
use Rattle.std.specs.List.{count_by, find}
use Rattle.std.proofs.lemmas.Bool.{and_parts}
use Rattle.order_law.specs.Chain.{goes_by}
use Rattle.order_law.specs.History.{Terms, terms_of}
use Rattle.order_machine.specs.OrderRecord.{OrderRecord, chained}
use Rattle.order_machine.specs.Table.{GivenToken, TableState, record_by_id, is_named, is_replacement_of, named_as}
use Rattle.order_machine.proofs.Lists.{found-passes}
use Rattle.order_table.specs.Held.{Held, found_by_id}
use Rattle.to_market.specs.declared.named_order.NamedOrder.{NamedOrder}
use Rattle.to_market.specs.Names.{HasRead}
use Rattle.to_market.specs.declared.sender.Sender.{Sender}
use Rattle.to_market.specs.Turns.{Stands}

-- the order that a client's id names is the client's
pub owner : (s : TableState) (client : ℕ) (key : List ℕ) (o : OrderRecord) → record_by_id s client key ≡ Some o
    → o.new.client ≡ client
owner s client key o found =
    eqb-true o.new.client client (and_parts (o.new.client == client) (goes_by key (chained o))
    (found-passes (is_named client key) s.orders o found)).0

pub named-in : (s : TableState) (issued : ℕ) (sender : Sender) (held : Held) (id : List ℕ) (used : Bool) (key : List ℕ)
    (found : Option OrderRecord)
    → Stands s issued sender held id used → found_by_id held sender.client key ≡ found
    → record_by_id s sender.client key ≡ found
named-in s issued sender held id used key found stands is =
    ap (λ (os : List OrderRecord). find (is_named sender.client key) os) stands.orders ∙ is

capacity-in : (s : TableState) (issued : ℕ) (sender : Sender) (held : Held) (id : List ℕ) (used : Bool) (key : List ℕ)
    (o : OrderRecord)
    → Stands s issued sender held id used → record_by_id s sender.client key ≡ Some o
    → (terms_of s.terms o.new.client).capacity ≡ sender.terms.capacity
capacity-in s issued sender held id used key o stands found =
    ap (λ (n : ℕ). (terms_of s.terms n).capacity) (owner s sender.client key o found)
    ∙ ap (λ (t : Terms). t.capacity) stands.terms

replaces-in : (s : TableState) (issued : ℕ) (sender : Sender) (held : Held) (id : List ℕ) (used : Bool)
    (o : OrderRecord) (order_id count : ℕ)
    → Stands s issued sender held id used → o.new.order ≡ decimal order_id
    → count ≡ count_by (is_replacement_of (decimal order_id)) held.tokens
    → count_by (is_replacement_of o.new.order) s.tokens ≡ count
replaces-in s issued sender held id used o order_id count stands of_order is =
    ap (λ (ts : List GivenToken). count_by (is_replacement_of o.new.order) ts) stands.tokens
    ∙ ap (λ (k : List ℕ). count_by (is_replacement_of k) held.tokens) of_order
    ∙ sym is

-- the table of requests reads of an order what the state has
pub read-in : (s : TableState) (issued : ℕ) (sender : Sender) (held : Held) (id : List ℕ) (used : Bool) (key : List ℕ)
    (o : OrderRecord) (order_id count : ℕ) (x : NamedOrder)
    → Stands s issued sender held id used → record_by_id s sender.client key ≡ Some o → o.new.order ≡ decimal order_id
    → count ≡ count_by (is_replacement_of (decimal order_id)) held.tokens
    → ((t : TableState) → (terms_of t.terms o.new.client).capacity ≡ sender.terms.capacity
    → count_by (is_replacement_of o.new.order) t.tokens ≡ count → HasRead (named_as t o) x)
    → HasRead (named_as s o) x
read-in s issued sender held id used key o order_id count x stands found of_order is reads =
    reads s (capacity-in s issued sender held id used key o stands found)
    (replaces-in s issued sender held id used o order_id count stands of_order is)

-- so many tokens were given
pub given-in : (s : TableState) (issued : ℕ) (sender : Sender) (held : Held) (id : List ℕ) (used : Bool) (count : ℕ)
    → Stands s issued sender held id used → count ≡ length held.tokens → length s.tokens ≡ count
given-in s issued sender held id used count stands is = ap (λ (ts : List GivenToken). length ts) stands.tokens ∙ sym is
