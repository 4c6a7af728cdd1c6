-- What comes of a client's message, put into the table, is what the table's step gives.
use Rattle.std.proofs.Common.{◌≡◌, ℕ, ◌+◌, ◌≤◌, ◌<◌, Bool, true, false, List, [], ◌∷◌, ◌++◌, length, map, refl, sym, ap}
use Rattle.std.proofs.Common.{◌∙◌, subst, arith, ltb-false, ltb-true, Option}
use Rattle.std.proofs.Common.{Some, None, decimal}
use Rattle.std.specs.Prelude.{Result, Ok, Err, IfOk, nat_lt}
use Rattle.fix_types.specs.declared.application.AppBody.{AppBody}
use Rattle.fix_types.specs.Application.{body_fields}
use Rattle.to_market.specs.ouch_codec.Inbound.{inbound_bytes}
use Rattle.to_market.specs.ouch_codec.declared.inbound.Inbound.{Inbound}
use Rattle.to_market.specs.order_law.Headline.{Each, EachWith, Says}
use Rattle.to_market.specs.order_law.History.{Asked, terms_of}
use Rattle.order_machine.specs.fix_fields.Field.{Message}
use Rattle.to_market.specs.order_law.Verdicts.{Port}
use Rattle.order_machine.specs.Machine.{GivenByEvent, client_step, tells, with_used}
use Rattle.order_machine.specs.OrderRecord.{OrderRecord, at}
use Rattle.order_machine.specs.Runs.{Finds}
use Rattle.order_machine.specs.Table.{GivenToken, TableState, UsedId, by_number, put, used_by}
use Rattle.to_market.specs.orders.Seen.{cancel_seen, replace_seen}
use Rattle.to_market.specs.orders.declared.requests.Cancelling.{Cancelling}
use Rattle.to_market.specs.orders.declared.requests.Replacing.{Replacing}
use Rattle.to_market.specs.order_table.Held.{Held, changed, with_number}
use Rattle.to_market.specs.PortsSeen.{port_seen}
use Rattle.to_market.specs.TermsSeen.{terms_seen}
use Rattle.to_market.specs.declared.client_terms.ClientTerms.{ClientTerms}
use Rattle.undo_index.specs.Undoing.{Undoable}
use Rattle.to_market.specs.Turns.{AreOf, IsCancelling, IsReplacing}
use Rattle.to_market.specs.declared.sender.Sender.{Sender}
use Rattle.to_market.specs.NewTurns.{IsEntering, numbered_on, with_order}
use Rattle.order_core.specs.declared.ledger_turns.ClientTurn.{ClientTurn}
use Rattle.order_core.specs.LedgerMeets.{GoByNumbers, MeetsFields}
use Rattle.order_core.specs.LedgerState.{LedgerState}

-- the table, by the parts of the ledger
abbrev pub table_of : List ClientTerms → Held → Undoable UsedId → ℕ → ℕ → TableState
table_of terms held used order_ids exec_ids = record {
  terms = map terms_seen terms;
  orders = held.orders;
  tokens = held.tokens;
  used = used.now;
  order_ids = order_ids;
  exec_ids = exec_ids;
}

pub now-is : {x y : LedgerState} → x ≡ y → x.now ≡ y.now
now-is same = ap (λ (s : LedgerState). s.now) same

-- what is asked of what a step gives
abbrev AsksOf : TableState → ℕ → ClientTurn → GivenByEvent → Type 0
AsksOf old client turn g =
    (order_of : List ℕ → Option ℕ) → Each (Finds order_of) g.asks
    → EachWith (Says (terms_of old.terms client).standing order_of) g.asks (map inbound_bytes turn.asks.items)

-- and of which order
abbrev OfOrder : ClientTurn → GivenByEvent → Type 0
OfOrder turn g = AreOf turn.order_id g.asks

-- these bodies are told, and this is asked of one order
given-meets : (old : TableState) (client : ℕ) (m : Message) (port : Port) (turn : ClientTurn) (new : TableState)
    (bodies : List AppBody) (asked : List Asked)
    → client_step old client m port ≡ tells new client (map body_fields bodies) asked → turn.bodies.items ≡ bodies
    → AreOf turn.order_id asked
    → ((order_of : List ℕ → Option ℕ) → Each (Finds order_of) asked
    → EachWith (Says (terms_of old.terms client).standing order_of) asked (map inbound_bytes turn.asks.items))
    → MeetsFields old client m port turn new
given-meets old client m port turn new bodies asked is told of_order says = record {
  state = ap (λ (g : GivenByEvent). g.state) (sym is);
  for_client = ap (λ (g : GivenByEvent). g.client) is;
  bodies = ap (map body_fields) told ∙ ap (λ (g : GivenByEvent). g.bodies) (sym is);
  no_fault = ap (λ (g : GivenByEvent). g.fault) is;
  of_order = subst (OfOrder turn) (sym is) of_order;
  asks = subst (AsksOf old client turn) (sym is) says;
}

-- refused: nothing is asked
ended-meets : (old : TableState) (client : ℕ) (m : Message) (port : Port) (turn : ClientTurn) (new left : TableState)
    (body : AppBody)
    → client_step old client m port ≡ tells left client (body_fields body ∷ []) [] → turn.bodies.items ≡ body ∷ []
    → turn.asks.items ≡ [] → new ≡ left
    → MeetsFields old client m port turn new
ended-meets old client m port turn new left body is told nothing state =
    given-meets old client m port turn new (body ∷ []) []
    (is ∙ ap (λ (s : TableState). tells s client (body_fields body ∷ []) []) (sym state)) told tt
    (λ order_of finds. subst (λ (asks : List Inbound). EachWith (Says (terms_of old.terms client).standing order_of) []
    (map inbound_bytes asks)) (sym nothing) tt)

-- a request: nothing changes but that its id is used
pub refused-meets : (old : TableState) (client : ℕ) (m : Message) (port : Port) (turn : ClientTurn) (new : TableState)
    (body : AppBody)
    → client_step old client m port ≡ tells (with_used client m old) client (body_fields body ∷ []) []
    → turn.bodies.items ≡ body ∷ [] → turn.asks.items ≡ [] → new ≡ with_used client m old
    → MeetsFields old client m port turn new
refused-meets old client m port turn new body is told nothing state =
    ended-meets old client m port turn new (with_used client m old) body is told nothing state

-- a new order: it takes two numbers, too
pub refused_new-meets : (old : TableState) (client : ℕ) (m : Message) (port : Port) (turn : ClientTurn)
    (new : TableState) (body : AppBody)
    → client_step old client m port ≡ tells (numbered_on client m old) client (body_fields body ∷ []) []
    → turn.bodies.items ≡ body ∷ [] → turn.asks.items ≡ [] → new ≡ numbered_on client m old
    → MeetsFields old client m port turn new
refused_new-meets old client m port turn new body is told nothing state =
    ended-meets old client m port turn new (numbered_on client m old) body is told nothing state

-- where there is memory for it
pub refused_new-ok : {E : Type 0} (old : TableState) (client : ℕ) (m : Message) (port : Port) (body : AppBody)
    (new : TableState) (r : Result ClientTurn E)
    → client_step old client m port ≡ tells (numbered_on client m old) client (body_fields body ∷ []) []
    → IfOk r (λ turn. turn.bodies.items ≡ body ∷ []) → IfOk r (λ turn. turn.asks.items ≡ [])
    → IfOk r (λ turn. new ≡ numbered_on client m old)
    → IfOk r (λ turn. MeetsFields old client m port turn new)
refused_new-ok old client m port body new (Ok turn) is told nothing state =
    refused_new-meets old client m port turn new body is told nothing state
refused_new-ok old client m port body new (Err e) is told nothing state = tt

-- a table with the id used, and one report more
abbrev with_table : TableState → ℕ → Message → Held → TableState
with_table old client m held = record (with_used client m old)
    { orders = held.orders; tokens = held.tokens; exec_ids = old.exec_ids + 1 }

-- the same, by its lists
with-lists : (old : TableState) (client : ℕ) (m : Message) (orders us : List OrderRecord) (tokens ts : List GivenToken)
    → orders ≡ us → tokens ≡ ts
    → record (with_used client m old) { orders = orders; tokens = tokens; exec_ids = old.exec_ids + 1 }
    ≡ record (with_used client m old) { orders = us; tokens = ts; exec_ids = old.exec_ids + 1 }
with-lists old client m orders us tokens ts same_orders same_tokens =
    ap (λ (os : List OrderRecord). record (with_used client m old)
    { orders = os; tokens = tokens; exec_ids = old.exec_ids + 1 }) same_orders
    ∙ ap (λ (gs : List GivenToken). record (with_used client m old)
    { orders = us; tokens = gs; exec_ids = old.exec_ids + 1 }) same_tokens

-- a new order waits
pub entering-meets : (old : TableState) (sender : Sender) (m : Message) (turn : ClientTurn) (new : TableState)
    (order_id : ℕ) (bodies : List AppBody)
    → turn.bodies.items ≡ bodies → turn.order_id ≡ order_id
    → (o : OrderRecord) (given : GivenToken) → IsEntering old sender m order_id o given bodies turn.asks.items
    → new ≡ with_order (used_by sender.client m) o given old
    → MeetsFields old sender.client m (port_seen sender.port) turn new
entering-meets old sender m turn new order_id bodies told numbered_as o given is state =
    given-meets old sender.client m (port_seen sender.port) turn new bodies is.asked
    (is.gives ∙ ap (λ (s : TableState). tells s sender.client (map body_fields bodies) is.asked) (sym state))
    told (subst (λ (k : ℕ). AreOf k is.asked) (sym numbered_as) is.of_asked) is.says

module _ (old : TableState) (sender : Sender) (m : Message) (turn : ClientTurn) (new : TableState) (order_id : ℕ) (body : AppBody) (told : turn.bodies.items ≡ body ∷ []) (numbered_as : turn.order_id ≡ order_id) where
  module _ (numbered : GoByNumbers old) (was held : Held) (same_orders : was.orders ≡ old.orders) (same_tokens : was.tokens ≡ old.tokens) (state : new ≡ with_table old sender.client m held) where
    pub cancelling-meets : (c : Cancelling) → IsCancelling old sender m order_id c body turn.asks.items
        → ((o : OrderRecord) → by_number old (decimal order_id) ≡ Some o
        → held ≡ changed (at o o.replaces (Some (cancel_seen o.new.client order_id c))) was)
        → MeetsFields old sender.client m (port_seen sender.port) turn new
    cancelling-meets c is is_changed =
        let found : by_number old (decimal order_id) ≡ Some is.order = ap (by_number old) (sym is.of_order)
        ∙ numbered sender.client _ is.order is.named in
        given-meets old sender.client m (port_seen sender.port) turn new (body ∷ []) is.asked
        (is.gives ∙ ap (λ (s : TableState). tells s sender.client (body_fields body ∷ []) is.asked)
        (sym (state ∙ ap (with_table old sender.client m) (is_changed is.order found)
        ∙ with-lists old sender.client m _ (put (at is.order is.order.replaces
        (Some (cancel_seen is.order.new.client order_id c))) old.orders) _ old.tokens
        (ap (put (at is.order is.order.replaces (Some (cancel_seen is.order.new.client order_id c)))) same_orders)
        same_tokens)))
        told (subst (λ (k : ℕ). AreOf k is.asked) (sym numbered_as) is.of_asked) is.says

    pub replacing-meets : (r : Replacing) (given : GivenToken)
        → IsReplacing old sender m order_id r given body turn.asks.items
        → ((o : OrderRecord) → by_number old (decimal order_id) ≡ Some o → length o.replaces < 4
        → held ≡ record was {
          orders = put (at o (o.replaces ++ replace_seen o.new.client order_id r ∷ []) o.cancel)
              was.orders;
          tokens = given ∷ was.tokens;
        })
        → MeetsFields old sender.client m (port_seen sender.port) turn new
    replacing-meets r given is is_changed =
        let found : by_number old (decimal order_id) ≡ Some is.order = ap (by_number old) (sym is.of_order)
        ∙ numbered sender.client _ is.order is.named in
        given-meets old sender.client m (port_seen sender.port) turn new (body ∷ []) is.asked
        (is.gives ∙ ap (λ (s : TableState). tells s sender.client (body_fields body ∷ []) is.asked)
        (sym (state ∙ ap (with_table old sender.client m) (is_changed is.order found is.few_pending)
        ∙ with-lists old sender.client m _ (put (at is.order
        (is.order.replaces ++ replace_seen is.order.new.client order_id r ∷ []) is.order.cancel) old.orders) _
        (given ∷ old.tokens) (ap (put (at is.order
        (is.order.replaces ++ replace_seen is.order.new.client order_id r ∷ []) is.order.cancel)) same_orders)
        (ap (λ (ts : List GivenToken). given ∷ ts) same_tokens))))
        told (subst (λ (k : ℕ). AreOf k is.asked) (sym numbered_as) is.of_asked) is.says

-- ---- tokens

-- a cancel takes no token
pub same-tokens : (h k : Held) (order_id : ℕ) (f : OrderRecord → OrderRecord)
    → ((o : OrderRecord) → with_number h order_id ≡ Some o → k ≡ changed (f o) h)
    → (with_number h order_id ≡ None → k ≡ h)
    → length k.tokens ≡ length h.tokens
same-tokens h k order_id f accepted unknown = by_order (with_number h order_id) refl
  where
    by_order : (x : Option OrderRecord) → with_number h order_id ≡ x → length k.tokens ≡ length h.tokens
    by_order None e = ap (λ (x : Held). length x.tokens) (unknown e)
    by_order (Some o) e = ap (λ (x : Held). length x.tokens) (accepted o e)

-- a replace takes one, where it is kept
pub one_token : (h k : Held) (order_id : ℕ) (given : GivenToken) (f : OrderRecord → OrderRecord)
    → ((o : OrderRecord) → with_number h order_id ≡ Some o → length o.replaces < 4
    → k ≡ record h { orders = put (f o) h.orders; tokens = given ∷ h.tokens })
    → ((o : OrderRecord) → with_number h order_id ≡ Some o → 4 ≤ length o.replaces → k ≡ h)
    → (with_number h order_id ≡ None → k ≡ h) → length k.tokens ≤ length h.tokens + 1
one_token h k order_id given f accepted full unknown = by_order (with_number h order_id) refl
  where
    as_before : k ≡ h → length k.tokens ≤ length h.tokens + 1
    as_before e = let same : length k.tokens ≡ length h.tokens = ap (λ (x : Held). length x.tokens) e in
        omega (arith, same)

    by_count : (o : OrderRecord) → with_number h order_id ≡ Some o → (b : Bool) → nat_lt (length o.replaces) 4 ≡ b
        → length k.tokens ≤ length h.tokens + 1
    by_count o e true few = let more : length k.tokens ≡ length (given ∷ h.tokens) =
        ap (λ (x : Held). length x.tokens) (accepted o e (ltb-true (length o.replaces) 4 few)) in omega (arith, more)
    by_count o e false many = as_before (full o e (ltb-false (length o.replaces) 4 many))

    by_order : (x : Option OrderRecord) → with_number h order_id ≡ x → length k.tokens ≤ length h.tokens + 1
    by_order None e = as_before (unknown e)
    by_order (Some o) e = by_count o e (nat_lt (length o.replaces) 4) refl
