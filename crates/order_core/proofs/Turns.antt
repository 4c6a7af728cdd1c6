-- A call that meets the ledger's leads on, as a turn, and keeps what is outstanding.
use Rattle.std.proofs.Common.{◌≡◌, ℕ, ◌<◌, ◌^◌, ◌++◌, List, [], ◌∷◌, length, map, refl, sym, ap, ◌∙◌, subst, subst₂}
use Rattle.std.proofs.Common.{arith, decimal, Option, None, Some, Result, Ok, Err}
use Rattle.std.specs.Prelude.{OnErr, Bool, option_and_then}
use Rattle.fix_types.specs.declared.application.AppMsg.{AppMsg}
use Rattle.fix_types.specs.Application.{body_fields, message_fields}
use Rattle.market_messages.specs.ouch_codec.declared.inbound.Inbound.{Inbound}
use Rattle.market_messages.specs.ouch_codec.Inbound.{inbound_bytes}
use Rattle.outstanding.specs.order_law.Headline.{Each, EachWith, Says, Sends}
use Rattle.outstanding.specs.order_law.History.{Asked, Heard, OrderHistory, Terms, OrderTurn, terms_of}
use Rattle.outstanding.specs.order_law.Lawful.{order_token}
use Rattle.market_messages.specs.ouch_codec.declared.outbound.Outbound.{Outbound}
use Rattle.market_messages.specs.ouch_codec.declared.refusal.DecodeRefusal.{DecodeRefusal}
use Rattle.outstanding.specs.order_law.Verdicts.{Port, Down, Up, Ended, Faulted}
use Rattle.order_machine.specs.OrderRecord.{replacements}
use Rattle.order_machine.specs.Table.{TableState, record_by_token, table_without_orders}
use Rattle.order_machine.specs.Machine.{GivenByEvent, client_step, faulty, market_step}
use Rattle.order_machine.specs.Runs.{Finds, Leads, LeadsTo, NumbersLeft, TurnsLeave}
use Rattle.outstanding.specs.Kept.{HeldMessages, KeptMessage, kept_from, left_by}
use Rattle.outstanding.specs.KeptInTurns.{ClientTurnsKeep, KeepsOutstanding, MarketTurnsKeep, NothingIsKept}
use Rattle.outstanding.specs.KeptInTurns.{QuietTurnsKeep, SaidOfOrder}
use Rattle.market_messages.specs.Turns.{market_fault_number}
use Rattle.market_messages.specs.declared.market_fault.MarketFault.{MarketFault}
use Rattle.to_market.specs.declared.port_state.PortState.{PortState}
use Rattle.to_market.specs.PortsSeen.{port_seen}
use Rattle.order_core.specs.declared.market_error.MarketError.{MarketError}
use Rattle.order_core.specs.declared.market_error.MarketError.TheVariants as errors
use Rattle.order_core.specs.declared.ledger_turns.ChangedOrder.{ChangedOrder}
use Rattle.order_core.specs.declared.ledger_turns.MarketTurn.{MarketTurn}
use Rattle.order_core.specs.LedgerMeets.{ChangesAny, ChangesOrder, GivesMarket, GoByNumbers}
use Rattle.order_core.specs.Seen.{client_seen}
use Rattle.order_core.specs.LedgerState.{LedgerState}
use Rattle.order_core.specs.declared.outcome.CoreOut.{CoreOut}
use Rattle.order_core.specs.declared.outcome.MarketOut.{MarketOut}
use Rattle.order_core.specs.Meets.{MeetsClient, MeetsHandled, MeetsPayload, left_after, sent_of}
use Rattle.order_core.specs.State.{OrderCoreState, IsAfterTurns}
use Rattle.order_core.specs.Turns.{OfCall, client_turn, fault_turn, told_turn}

-- the core, by its ledger and what is kept
abbrev pub seen_by : LedgerState → HeldMessages → OrderCoreState
seen_by ledger asked = record {
  table = ledger.now;
  kept = asked.messages;
  settled = record { table = ledger.settled; kept = asked.settled };
}

-- where the port is up, what goes out is all that is asked
sends-as : (port : Port) (P : Asked → List ℕ → Type 0) (asked : List Asked) (asks : List Inbound)
    → EachWith P asked (map inbound_bytes asks) → Sends port P asked (map inbound_bytes (sent_of port asks))
sends-as Up P asked asks says = says
sends-as Down P asked asks says = refl
sends-as Ended P asked asks says = refl
sends-as (Faulted n) P asked asks says = refl

-- one turn more
more : (terms : List Terms) (before : OrderHistory) (old : OrderCoreState) (t : OrderTurn) (new : OrderCoreState)
    → TurnsLeave terms before old.table → Leads old.table t new.table → KeepsOutstanding terms (t ∷ before) new.kept
    → IsAfterTurns terms (t ∷ before) new
unfolding IsAfterTurns TurnsLeave
more terms before old t new leaves leads keeps = ((old.table, leaves, leads), keeps)

-- the parts of what is known of a core
pub parts-of : (terms : List Terms) (h : OrderHistory) (c : OrderCoreState) → IsAfterTurns terms h c
    → TurnsLeave terms h c.table × KeepsOutstanding terms h c.kept
unfolding IsAfterTurns
parts-of terms h c after = after

-- ---- a client's call

module _ (terms : List Terms) (before : OrderHistory) (old : OrderCoreState) (client : ℕ) (message : AppMsg) (port : PortState) (out : CoreOut) (new : OrderCoreState) where
  -- in a table whose orders go by their numbers, and where each token that is asked about leads to its order
  pub client-leads : GoByNumbers old.table
      → ((order_of : List ℕ → Option ℕ) → LeadsTo
      (client_step old.table client (message_fields message) (port_seen port)).state
      (terms_of old.table.terms client).port order_of
      → Each (Finds order_of) (client_step old.table client (message_fields message) (port_seen port)).asks)
      → MeetsClient old client message (port_seen port) out new
      → Leads old.table (client_turn client message port out) new.table
  client-leads numbered known meets =
      let gives = meets.gives numbered in
      record {
        meets = record {
          state = gives.state;
          client = sym gives.for_client;
          bodies = ap (map body_fields) meets.bodies ∙ gives.bodies;
          fault = sym gives.no_fault;
          sends = λ order_of leads.
              let step = client_step old.table client (message_fields message) (port_seen port) in
              let P = Says (terms_of old.table.terms client).standing order_of in
              subst (λ (sends : List Inbound). Sends (port_seen port) P step.asks (map inbound_bytes sends))
              (sym meets.sends)
              (sends-as (port_seen port) P step.asks meets.turn.asks.items
              (gives.asks order_of (known order_of leads)));
        };
      }

  pub client-after : NumbersLeft before → ClientTurnsKeep → SaidOfOrder → GoByNumbers old.table
      → ((order_of : List ℕ → Option ℕ) → LeadsTo
      (client_step old.table client (message_fields message) (port_seen port)).state
      (terms_of old.table.terms client).port order_of
      → Each (Finds order_of) (client_step old.table client (message_fields message) (port_seen port)).asks)
      → MeetsClient old client message (port_seen port) out new → IsAfterTurns terms before old
      → IsAfterTurns terms (client_turn client message port out ∷ before) new
  client-after short keep said numbered known meets after =
      let parts = parts-of terms before old after in
      let gives = meets.gives numbered in
      let leads = client-leads numbered known meets in
      let step = client_step old.table client (message_fields message) (port_seen port) in
      let order = decimal meets.turn.order_id in
      let says = said (terms_of old.table.terms client).standing order step.asks
      (map inbound_bytes meets.turn.asks.items) gives.of_order gives.asks in
      more terms before old (client_turn client message port out) new parts.0 leads
      (subst (KeepsOutstanding terms (client_turn client message port out ∷ before)) (sym meets.kept)
      (keep terms before old.table short parts.0 old.kept parts.1 (client_turn client message port out) new.table client
      (message_fields message) (port_seen port) refl leads order meets.turn.asks.items gives.of_order says))

-- ---- a payload

module _ (terms : List Terms) (before : OrderHistory) (old : OrderCoreState) (port : ℕ) (short : NumbersLeft before) (market : MarketTurnsKeep) (quiet : QuietTurnsKeep) (leaves : TurnsLeave terms before old.table) (keeps : KeepsOutstanding terms before old.kept) (t : OrderTurn) (new : TableState) (leads : Leads old.table t new) where
  -- a message leaves what is outstanding of what is kept
  kept-by_token : (m : Outbound) → t.event ≡ Heard port (Ok m) → (market_step old.table port (Ok m)).fault ≡ None
      → (c : ChangedOrder) (is : ChangesOrder old.table port (Ok m) c)
      → (x : Option (List ℕ)) → order_token m ≡ x
      → KeepsOutstanding terms (t ∷ before) (left_by port m c.next (decimal c.order_id) c.is_closed old.kept)
  kept-by_token m is_event no_fault c is None has =
      let found : option_and_then (record_by_token old.table port) None ≡ Some is.order =
      ap (option_and_then (record_by_token old.table port)) (sym has) ∙ is.found in cc
  kept-by_token m is_event no_fault c is (Some token) has =
      subst (λ (next : List (List ℕ)). KeepsOutstanding terms (t ∷ before)
      (left_by port m next (decimal c.order_id) c.is_closed old.kept)) (sym is.next)
      (subst₂ (λ (order : List ℕ) (closed : Bool). KeepsOutstanding terms (t ∷ before)
      (left_by port m (replacements is.order.replaces) order closed old.kept)) is.of_order is.closed
      (market terms before old.table short leaves old.kept keeps t new port m is_event leads token is.order is.now
      (ap (option_and_then (record_by_token old.table port)) (sym has) ∙ is.found) is.same no_fault is.orders))

  -- and any payload does
  pub kept-after : (heard : Result Outbound DecodeRefusal) → t.event ≡ Heard port heard
      → (market_step old.table port heard).fault ≡ None → (changed : Option ChangedOrder)
      → ChangesAny old.table port heard changed
      → KeepsOutstanding terms (t ∷ before) (left_after port heard changed old.kept)
  kept-after heard is_event no_fault None same =
      quiet terms before old.table short leaves old.kept keeps t new port heard is_event leads same
  kept-after (Err refusal) is_event no_fault (Some c) is = absurd (let found : None ≡ Some is.order = is.found in cc)
  kept-after (Ok m) is_event no_fault (Some c) is = kept-by_token m is_event no_fault c is (order_token m) refl

module _ (terms : List Terms) (before : OrderHistory) (old : OrderCoreState) (port : ℕ) (heard : Result Outbound DecodeRefusal) (new : OrderCoreState) where
  -- one that was handled
  told-leads : (out : MarketOut) → MeetsHandled old port heard out new
      → Leads old.table (told_turn port heard out) new.table
  told-leads out meets = record {
    meets = record {
      state = meets.gives.state;
      client = ap client_seen meets.client ∙ meets.gives.client;
      bodies = ap (map body_fields) meets.bodies ∙ meets.gives.bodies;
      fault = sym meets.gives.fault;
      sends = refl;
    };
  }

  pub told-after : NumbersLeft before → MarketTurnsKeep → QuietTurnsKeep → (out : MarketOut)
      → MeetsHandled old port heard out new
      → IsAfterTurns terms before old → IsAfterTurns terms (told_turn port heard out ∷ before) new
  told-after short market quiet out meets after =
      let parts = parts-of terms before old after in
      let leads = told-leads out meets in
      more terms before old (told_turn port heard out) new parts.0 leads
      (subst (KeepsOutstanding terms (told_turn port heard out ∷ before)) (sym meets.kept)
      (kept-after terms before old port short market quiet parts.0 parts.1
      (told_turn port heard out) new.table leads heard refl meets.gives.fault meets.turn.changed meets.changes))

  -- and one that is a fault
  fault-leads : (fault : MarketFault) → market_step old.table port heard ≡ faulty old.table (market_fault_number fault)
      → new ≡ old → Leads old.table (fault_turn port heard fault) new.table
  fault-leads fault is same = record {
    meets = record {
      state = ap (λ (c : OrderCoreState). c.table) same ∙ ap (λ (g : GivenByEvent). g.state) (sym is);
      client = ap (λ (g : GivenByEvent). g.client) (sym is);
      bodies = ap (λ (g : GivenByEvent). g.bodies) (sym is);
      fault = ap (λ (g : GivenByEvent). g.fault) (sym is);
      sends = refl;
    };
  }

  pub fault-after : NumbersLeft before → QuietTurnsKeep → (fault : MarketFault)
      → market_step old.table port heard ≡ faulty old.table (market_fault_number fault) → new ≡ old
      → IsAfterTurns terms before old → IsAfterTurns terms (fault_turn port heard fault ∷ before) new
  fault-after short quiet fault is same after =
      let parts = parts-of terms before old after in
      let leads = fault-leads fault is same in
      more terms before old (fault_turn port heard fault) new parts.0 leads
      (subst (KeepsOutstanding terms (fault_turn port heard fault ∷ before))
      (ap (λ (c : OrderCoreState). c.kept) (sym same))
      (quiet terms before old.table short parts.0 old.kept parts.1
      (fault_turn port heard fault) new.table port heard refl leads (ap (λ (g : GivenByEvent). g.state) is)))

-- what holds of every turn that may come of it
pub OfTurn-weaker : (port : ℕ) (heard : Result Outbound DecodeRefusal) (result : Result MarketOut MarketError)
    (P Q : OrderTurn → Type 0) → ((t : OrderTurn) → P t → Q t) → OfCall port heard result P → OfCall port heard result Q
OfTurn-weaker port heard (Ok out) P Q weaker p = weaker (told_turn port heard out) p
OfTurn-weaker port heard (Err errors.NoMemory) P Q weaker p = tt
OfTurn-weaker port heard (Err (errors.Faulty fault)) P Q weaker p = weaker (fault_turn port heard fault) p

pub market-after : (old : OrderCoreState) (port : ℕ) (heard : Result Outbound DecodeRefusal)
    (result : Result MarketOut MarketError) (new : OrderCoreState)
    → MarketTurnsKeep → QuietTurnsKeep → MeetsPayload old port heard result new → OnErr result (new ≡ old)
    → OfCall port heard result (λ turn. (terms : List Terms) (before : OrderHistory) → NumbersLeft before
    → IsAfterTurns terms before old → IsAfterTurns terms (turn ∷ before) new)
market-after old port heard (Ok out) new market quiet meets same =
    λ terms before short after. told-after terms before old port heard new short market quiet out meets after
market-after old port heard (Err errors.NoMemory) new market quiet meets same = tt
market-after old port heard (Err (errors.Faulty fault)) new market quiet meets same =
    λ terms before short after. fault-after terms before old port heard new short quiet fault meets same after

-- ---- what the calls keep

pub kept-as : (a b : List KeptMessage) (p q : ℕ) (order : List ℕ) (xs ys : List Inbound) → a ≡ b → p ≡ q → xs ≡ ys
    → a ++ kept_from p order xs ≡ b ++ kept_from q order ys
kept-as a b p q order xs ys same_kept same_port same = rw (same_kept, same_port, same) refl

pub handled-as : (old new : OrderCoreState) (port : ℕ) (heard : Result Outbound DecodeRefusal) (turn : MarketTurn)
    (out : MarketOut) (table : TableState) (kept : List KeptMessage)
    → GivesMarket (market_step old.table port heard) turn table → ChangesAny old.table port heard turn.changed
    → out.client ≡ turn.client → out.bodies.items ≡ turn.bodies.items
    → new.table ≡ table → new.kept ≡ kept → kept ≡ left_after port heard turn.changed old.kept
    → MeetsHandled old port heard out new
handled-as old new port heard turn out table kept gives changes client bodies is_table is_kept leaves = record {
  turn = turn;
  gives = subst (λ (s : TableState). GivesMarket (market_step old.table port heard) turn s) (sym is_table) gives;
  changes = changes;
  client = client;
  bodies = bodies;
  kept = is_kept ∙ leaves;
}

-- before the first turn
pub empty-after : (terms : List Terms) (c : OrderCoreState) → c.table ≡ table_without_orders terms → c.kept ≡ []
    → NothingIsKept → IsAfterTurns terms [] c
unfolding IsAfterTurns TurnsLeave
empty-after terms c no_orders nothing first = (no_orders, subst (KeepsOutstanding terms []) (sym nothing) (first terms))
