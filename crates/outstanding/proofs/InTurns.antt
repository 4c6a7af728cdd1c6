-- Each turn keeps the messages that are asked and not answered, and no others.
use Rattle.std.proofs.Common.{◌≡◌, ℕ, ◌<◌, ◌^◌, Bool, true, false, List, [], ◌∷◌, ◌++◌, length, map, refl, sym, ap}
use Rattle.std.proofs.Common.{◌∙◌, subst, subst₂, arith, Option, Some, None, Result, Ok, Err, eq-eqb}
use Rattle.std.specs.Prelude.{◌==◌, filter, if◌then◌else◌, option_to_list}
use Rattle.order_law.specs.ouch_codec.declared.inbound.Inbound.{Inbound}
use Rattle.order_law.specs.ouch_codec.Inbound.{inbound_bytes}
use Rattle.order_law.specs.ouch_codec.declared.outbound.Outbound.{Outbound}
use Rattle.order_law.specs.ouch_codec.declared.refusal.DecodeRefusal.{DecodeRefusal}
use Rattle.order_law.specs.Asks.{Standing}
use Rattle.order_law.specs.Life.{is_closed}
use Rattle.order_machine.specs.fix_fields.Field.{Message}
use Rattle.order_law.specs.Verdicts.{Port}
use Rattle.order_law.specs.History.{Asked, Came, Entry, OrderEvent, Heard, OrderHistory, Terms, OrderTurn, accepted}
use Rattle.order_law.specs.History.{asks, asks_of, entry_at, handled, issued, next_tokens, orders_numbered, outstanding}
use Rattle.order_law.specs.History.{terms_of}
use Rattle.order_law.specs.Headline.{Each, EachWith, Says, SaysIn, client_by, order_number, standing_by, standing_in}
use Rattle.order_machine.specs.OrderRecord.{OrderRecord, replacements}
use Rattle.order_machine.specs.Table.{TableState, record_by_token, put}
use Rattle.order_machine.specs.Machine.{client_step, market_step, table_step}
use Rattle.order_machine.specs.Outstanding.{LeavesAsked, OnPort, asked_on, is_on, on_port, unanswered_by}
use Rattle.order_machine.specs.Runs.{Finds, Leads, TurnsLeave, TurnMeets}
use Rattle.order_machine.proofs.Lists.{Each-map}
use Rattle.order_machine.proofs.Holds.{FitsIn, IsEntry, port_of}
use Rattle.order_machine.proofs.Coming.{coming_turn}
use Rattle.order_machine.proofs.Hearing.{append-nothing, heard_turn}
use Rattle.order_machine.proofs.Linked.{IsTable, token-port}
use Rattle.order_machine.proofs.Running.{Holding, Leaves-Holding, client-goes, next-Holding, same-turn}
use Rattle.order_machine.proofs.Unanswered.{ArePlaced, Asking, IsPlaced, all-stay, next-pending, rest}
use Rattle.order_machine.proofs.NewlyAsked.{asks-own, came-Asking, known-still, taken-client}
use Rattle.order_machine.proofs.AllAsked.{LeavesAsked-Asking, LeavesAsked-some}
use Rattle.outstanding.specs.Kept.{KeptMessage, bytes_on, kept_from, left_by}
use Rattle.outstanding.specs.Keeping.{AreKept, SaysAsked, always}
use Rattle.outstanding.specs.KeptInTurns.{ClientTurnsKeep, KeepsOutstanding, MarketTurnsKeep, NothingIsKept}
use Rattle.outstanding.specs.KeptInTurns.{OutstandingIsKept, QuietTurnsKeep}
use Rattle.outstanding.proofs.Finding.{outstanding-found}
use Rattle.outstanding.proofs.Lists.{answering-keeps, ports-are-said, pushing-keeps, standings-grow}

-- ---- lists

-- what holds of what is asked of each port holds of all that is asked
each-port : (Q : Asked → Type 0) (asked : List OnPort) → ((p : ℕ) → Each Q (on_port p asked))
    → Each (λ (q : OnPort). Q q.asked) asked
each-port Q [] each = tt
each-port Q (q ∷ asked) each = (
  first (is_on q.port q) (eq-eqb q.port q.port refl) (each q.port),
  each-port Q asked
      (λ p. rest p (is_on p q) (each p)),
)
  where
    first : (b : Bool) → b ≡ true → Each Q (map (λ (x : OnPort). x.asked)
        (if b then q ∷ filter (is_on q.port) asked else filter (is_on q.port) asked)) → Q q.asked
    first true on each = each.0
    first false on each = absurd (cc)

    rest : (p : ℕ) (b : Bool) → Each Q (map (λ (x : OnPort). x.asked)
        (if b then q ∷ filter (is_on p) asked else filter (is_on p) asked)) → Each Q (on_port p asked)
    rest p true each = each.1
    rest p false each = each

-- messages that say what is asked of one order, for a client that stands so
newly-said : (standing_of : List ℕ → Standing) (standing : Standing) (order : List ℕ) (asks_now : List Asked)
    (messages : List (List ℕ))
    → Each (λ (a : Asked). a.order ≡ order) asks_now → Each (λ (a : Asked). standing_of a.order ≡ standing) asks_now
    → EachWith (Says standing (always order)) asks_now messages → EachWith (SaysAsked standing_of) asks_now messages
newly-said standing_of standing order [] [] of_order stands says = tt
newly-said standing_of standing order [] (m ∷ messages) of_order stands says = absurd says
newly-said standing_of standing order (a ∷ asks_now) [] of_order stands says = absurd says
newly-said standing_of standing order (a ∷ asks_now) (m ∷ messages) of_order stands says = (
  subst₂ (λ (st : Standing) (o : List ℕ). Says st (always o) a m) (sym stands.0) (sym of_order.0) says.0,
  newly-said standing_of standing order asks_now messages of_order.1 stands.1 says.1,
)

-- ---- a client's message

module _ (terms : List Terms) (before : OrderHistory) (s : TableState) (h : Holding terms before s) (short : length before < 2 ^ 59) (client : ℕ) (m : Message) (port : Port) where
  abbrev A : List Entry
  A = accepted terms before

  abbrev taken : Option Entry
  taken = entry_at terms (Came client m port) before

  abbrev later : List Entry
  later = option_to_list taken ++ A

  abbrev bodies : List Message
  bodies = (client_step s client m port).bodies

  after : IsTable terms (coming_turn client m port bodies [] ∷ before) (client_step s client m port).state
  after = (client-goes terms before s h.table short client m port []).0.0

  asks-are : (client_step s client m port).asks
      ≡ asks_of terms (terms_of terms client).port taken A (issued client before)
      (handled (terms_of terms client).port before)
  asks-are = (client-goes terms before s h.table short client m port []).0.2

  -- the client of an order that is asked of is whose it was
  stays : (p : ℕ) (a : Asked) → IsPlaced terms A p a → standing_by terms later a.order ≡ standing_by terms A a.order
  stays p a k =
      ap (λ (x : Option Entry). (terms_of terms (client_by x)).standing)
      (known-still terms before client m port bodies [] (client_step s client m port).state after a p taken refl k
      ∙ sym k.known)

  all-stay-as : (asked : List OnPort) → Asking terms before asked
      → Each (λ (q : OnPort). standing_by terms later q.asked.order ≡ standing_by terms A q.asked.order) asked
  all-stay-as asked was =
      each-port (λ (a : Asked). standing_by terms later a.order ≡ standing_by terms A a.order) asked
      (λ p. subst (Each (λ (a : Asked). standing_by terms later a.order ≡ standing_by terms A a.order))
      (sym (was.same p))
      (Each-map (IsPlaced terms A p) (λ (a : Asked). standing_by terms later a.order ≡ standing_by terms A a.order)
      (outstanding terms p before) (stays p) (was.placed p)))

  -- and that of what is asked now is whose message it is
  abbrev StandsSo : List Entry → Asked → Type 0
  StandsSo entries a = standing_by terms entries a.order ≡ (terms_of terms client).standing

  now-stands : (p : ℕ) (x : Option Entry) → taken ≡ x
      → Each (StandsSo (option_to_list x ++ A)) (asks_of terms p x A (issued client before) (handled p before))
  now-stands p None is = tt
  now-stands p (Some e) is = by_port (port_of terms e == p)
    where
      entry : IsEntry terms (e ∷ A) (orders_numbered (coming_turn client m port bodies [] ∷ before)) e
      entry = (subst (λ (y : Option Entry). Each
          (IsEntry terms (option_to_list y ++ A) (orders_numbered (coming_turn client m port bodies [] ∷ before)))
          (option_to_list y ++ A)) is after.held.entries).0

      by_port : (b : Bool) → Each (StandsSo (e ∷ A))
          (if b then asks terms e A (issued client before) (handled p before) else [])
      by_port true =
          Each-map (λ (a : Asked). a.order ≡ e.order) (StandsSo (e ∷ A))
          (asks terms e A (issued client before) (handled p before))
          (λ a mine.
          ap (λ (k : List ℕ). standing_by terms (e ∷ A) k) mine
          ∙ ap (λ (x : Option Entry). (terms_of terms (client_by x)).standing) entry.found
          ∙ ap (λ (c : ℕ). (terms_of terms c).standing)
          (entry.same_client ∙ taken-client terms before client m port bodies [] e is))
          (asks-own terms e A (issued client before) (handled p before))
      by_port false = tt

  asks-stand : Each (StandsSo later) (client_step s client m port).asks
  asks-stand = subst (Each (StandsSo later)) (sym asks-are) (now-stands (terms_of terms client).port taken refl)

  -- what is asked after it is kept
  came-keeps : (asked : List OnPort) (kept : List KeptMessage) → Asking terms before asked
      → AreKept (standing_by terms A) asked kept
      → (order : List ℕ) (messages : List Inbound)
      → Each (λ (a : Asked). a.order ≡ order) (client_step s client m port).asks
      → EachWith (Says (terms_of terms client).standing (always order)) (client_step s client m port).asks
      (map inbound_bytes messages)
      → (home : ℕ) → AreKept (standing_by terms later) (asked ++ asked_on home (client_step s client m port).asks)
      (kept ++ kept_from home order messages)
  came-keeps asked kept was along order messages of_order says home =
      pushing-keeps (standing_by terms later) asked kept
      (standings-grow (standing_by terms A) (standing_by terms later) asked kept along (all-stay-as asked was))
      home order (client_step s client m port).asks messages of_order
      (newly-said (standing_by terms later) (terms_of terms client).standing order (client_step s client m port).asks
      (map inbound_bytes messages) of_order asks-stand says)

  -- and it is what is outstanding then
  came-same : (sends : List (List ℕ)) (asked : List OnPort) → Asking terms before asked → (p : ℕ)
      → on_port p (asked ++ asked_on (terms_of terms client).port (client_step s client m port).asks)
      ≡ outstanding terms p (coming_turn client m port bodies sends ∷ before)
  came-same sends asked was =
      let goes = client-goes terms before s h.table short client m port sends in
      (came-Asking terms before client m port bodies sends (client_step s client m port).state goes.0.0 asked was
      (client_step s client m port).asks goes.0.2).same

-- ---- turns

-- what is asked in a run, by the list that it leaves
known-in : (terms : List Terms) (h : OrderHistory) (s : TableState) → length h < 2 ^ 59 → TurnsLeave terms h s
    → ArePlaced terms h
known-in terms h s short leaves =
    let some : (asked : List OnPort) × LeavesAsked terms h s asked = LeavesAsked-some terms h s leaves in
    (LeavesAsked-Asking terms h s some.0 short some.1).placed

pub nothing-is_kept : NothingIsKept
nothing-is_kept terms = ([], λ p. refl, tt)

-- of an event, whatever else its turn has
abbrev StandsBy : List Terms → OrderHistory → List OnPort → List KeptMessage → OrderEvent → Type 0
StandsBy terms before asked kept e = AreKept
    (standing_by terms (option_to_list (entry_at terms e before) ++ accepted terms before)) asked kept

pub client-turns : ClientTurnsKeep
client-turns terms before s short leaves kept
    (asked, same, along) t new client m port is_e leads order messages of_order says =
    let h = Leaves-Holding terms before s (omega (arith, short)) leaves in
    let long : length before < 2 ^ 59 = omega (arith, short) in
    let was : Asking terms before asked = record { placed = known-in terms before s long leaves; same = same } in
    let says_so : EachWith (Says (terms_of terms client).standing (always order)) (client_step s client m port).asks
    (map inbound_bytes messages) =
    subst (λ (ts : List Terms). EachWith (Says (terms_of ts client).standing (always order))
    (client_step s client m port).asks (map inbound_bytes messages)) h.table.same_terms says in
    subst (λ (ts : List Terms). KeepsOutstanding terms (t ∷ before)
    (kept ++ kept_from (terms_of ts client).port order messages)) (sym h.table.same_terms) (
      asked ++ asked_on (terms_of terms client).port (client_step s client m port).asks,
      λ p. came-same terms before s h long client m port t.sends asked was p
          ∙ ap (λ (x : OrderTurn). outstanding terms p (x ∷ before)) (turn-is h long),
      subst (StandsBy terms before (asked ++ asked_on (terms_of terms client).port (client_step s client m port).asks)
          (kept ++ kept_from (terms_of terms client).port order messages)) (sym is_e)
          (came-keeps terms before s h long client m port asked kept was along order messages of_order says_so
          (terms_of terms client).port),
    )
  where
    turn-is : Holding terms before s → length before < 2 ^ 59
        → coming_turn client m port (client_step s client m port).bodies t.sends ≡ t
    turn-is h long =
        let goes = client-goes terms before s h.table long client m port t.sends in
        let meets : TurnMeets s (Came client m port) (client_step s client m port) t new =
        subst (λ (e : OrderEvent). TurnMeets s e (table_step s e) t new) is_e leads.meets in
        same-turn terms before s h long t (Came client m port) client
        (client_step s client m port).bodies t.sends None is_e (meets.client ∙ goes.1) meets.bodies refl
        (meets.fault ∙ goes.2)

-- a payload's turn, by its fault
module _ (terms : List Terms) (before : OrderHistory) (s : TableState) (short : length before < 2 ^ 58) (leaves : TurnsLeave terms before s) (t : OrderTurn) (new : TableState) (port : ℕ) (heard : Result Outbound DecodeRefusal) (is_e : t.event ≡ Heard port heard) (leads : Leads s t new) where
  long : length before < 2 ^ 59
  long = omega (arith, short)

  h : Holding terms before s
  h = Leaves-Holding terms before s long leaves

  placed : ArePlaced terms before
  placed = known-in terms before s long leaves

  meets : TurnMeets s (Heard port heard) (market_step s port heard) t new
  meets = subst (λ (e : OrderEvent). TurnMeets s e (table_step s e) t new) is_e leads.meets

  turn-is : (fault : Option ℕ) → t.fault ≡ fault → heard_turn port heard t.client t.bodies t.sends fault ≡ t
  turn-is fault is_fault = same-turn terms before s h long t
      (Heard port heard) t.client t.bodies t.sends fault is_e refl refl refl is_fault

  -- the table then
  table-then : (fault : Option ℕ) → t.fault ≡ fault
      → IsTable terms (heard_turn port heard t.client t.bodies t.sends fault ∷ before) (market_step s port heard).state
  table-then fault is_fault =
      subst₂ (λ (x : OrderTurn) (y : TableState). IsTable terms (x ∷ before) y)
      (sym (turn-is fault is_fault)) meets.state (next-Holding terms before s h long t new leads).table

  -- nothing is asked in it
  stands : (asked : List OnPort) (kept : List KeptMessage) → AreKept (standing_in terms before) asked kept
      → AreKept (standing_in terms (t ∷ before)) asked kept
  stands asked kept along = subst (StandsBy terms before asked kept) (sym is_e) along

-- where no order is changed
module _ (terms : List Terms) (before : OrderHistory) (s : TableState) (short : length before < 2 ^ 58) (leaves : TurnsLeave terms before s) (t : OrderTurn) (new : TableState) (port : ℕ) where
  heard-quiet : (heard : Result Outbound DecodeRefusal) → t.event ≡ Heard port heard → Leads s t new
      → (market_step s port heard).state ≡ s → (p : ℕ) (fault : Option ℕ) → t.fault ≡ fault
      → outstanding terms p (t ∷ before) ≡ outstanding terms p before
  heard-quiet (Ok m) is_e leads quiet p None is_fault =
      ap (λ (x : OrderTurn). outstanding terms p (x ∷ before))
      (sym (turn-is terms before s short leaves t new port (Ok m) is_e leads None is_fault))
      ∙ all-stay terms before s (h terms before s short leaves t new port (Ok m) is_e leads).table port m t.client
      t.bodies t.sends (placed terms before s short leaves t new port (Ok m) is_e leads)
      (subst (IsTable terms (heard_turn port (Ok m) t.client t.bodies t.sends None ∷ before)) quiet
      (table-then terms before s short leaves t new port (Ok m) is_e leads None is_fault)) p
  heard-quiet (Ok m) is_e leads quiet p (Some n) is_fault =
      ap (λ (x : OrderTurn). outstanding terms p (x ∷ before))
      (sym (turn-is terms before s short leaves t new port (Ok m) is_e leads (Some n) is_fault))
      ∙ append-nothing (outstanding terms p before)
  heard-quiet (Err refusal) is_e leads quiet p fault is_fault =
      ap (λ (x : OrderTurn). outstanding terms p (x ∷ before))
      (sym (turn-is terms before s short leaves t new port (Err refusal) is_e leads fault is_fault))
      ∙ append-nothing (outstanding terms p before)

module _ (terms : List Terms) (before : OrderHistory) (s : TableState) (short : length before < 2 ^ 58) (leaves : TurnsLeave terms before s) (t : OrderTurn) (new : TableState) (port : ℕ) (m : Outbound) (is_e : t.event ≡ Heard port (Ok m)) (leads : Leads s t new) where
  told-same : (now : OrderRecord) (next : List (List ℕ))
      → next_tokens now.new.order (outstanding terms port before) ≡ next → port_of terms now.new ≡ port
      → (market_step s port (Ok m)).fault ≡ None → (market_step s port (Ok m)).state.orders ≡ put now s.orders
      → (asked : List OnPort) → ((p : ℕ) → on_port p asked ≡ outstanding terms p before) → (p : ℕ)
      → on_port p (unanswered_by port m next now asked) ≡ outstanding terms p (t ∷ before)
  told-same now next next_so home no_fault is_put asked same p =
      let is_fault : t.fault ≡ None = (meets terms before s short leaves t new port (Ok m) is_e leads).fault ∙ no_fault
      in
      rest terms before s (h terms before s short leaves t new port (Ok m) is_e leads).table port m t.client t.bodies
      t.sends (placed terms before s short leaves t new port (Ok m) is_e leads) now next next_so home
      (subst (Each (FitsIn terms (heard_turn port (Ok m) t.client t.bodies t.sends None ∷ before))) is_put
      (table-then terms before s short leaves t new port (Ok m) is_e leads None is_fault).fit) asked same p
      ∙ ap (λ (x : OrderTurn). outstanding terms p (x ∷ before))
      (turn-is terms before s short leaves t new port (Ok m) is_e leads None is_fault)

  next-of : (token : List ℕ) (order now : OrderRecord) → record_by_token s port token ≡ Some order → now.new ≡ order.new
      → next_tokens now.new.order (outstanding terms port before) ≡ replacements order.replaces
  next-of token order now found same =
      ap (λ (e : Entry). next_tokens e.order (outstanding terms port before)) same
      ∙ next-pending terms before s (h terms before s short leaves t new port (Ok m) is_e leads).table port m token
      order found

  home-of : (token : List ℕ) (order now : OrderRecord) → record_by_token s port token ≡ Some order → now.new ≡ order.new
      → port_of terms now.new ≡ port
  home-of token order now found same = ap (port_of terms) same
      ∙ token-port terms before s (h terms before s short leaves t new port (Ok m) is_e leads).table port m token order
      found

pub quiet-turns : QuietTurnsKeep
quiet-turns terms before s short leaves kept (asked, same, along) t new port heard is_e leads quiet = (
  asked,
  λ p. same p ∙ sym (heard-quiet terms before s short leaves t new port heard is_e leads quiet p t.fault refl),
  stands terms before s short leaves t new port heard is_e leads asked kept along,
)

pub market-turns : MarketTurnsKeep
market-turns terms before s short leaves kept
    (asked, same, along) t new port m is_e leads token order now found same_new no_fault is_put = (
      unanswered_by port m (replacements order.replaces) now asked,
      told-same terms before s short leaves t new port m is_e leads now (replacements order.replaces)
          (next-of terms before s short leaves t new port m is_e leads token order now found same_new)
          (home-of terms before s short leaves t new port m is_e leads token order now found same_new) no_fault is_put
          asked
          same,
      stands terms before s short leaves t new port (Ok m) is_e leads
          (unanswered_by port m (replacements order.replaces) now asked)
          (left_by port m (replacements order.replaces) now.new.order (is_closed now.stage) kept)
          (answering-keeps (standing_in terms before) asked kept along port m (replacements order.replaces) now),
    )

pub outstanding-is_kept : OutstandingIsKept
outstanding-is_kept terms h s few leaves kept (asked, same, along) port =
    let short : length h < 2 ^ 59 = omega (arith, few) in
    let table = (Leaves-Holding terms h s short leaves).table in
    let finds : Each (Finds (order_number terms port (accepted terms h))) (on_port port asked) =
    subst (Each (Finds (order_number terms port (accepted terms h)))) (sym (same port))
    (outstanding-found terms h table.held (known-in terms h s short leaves) port) in
    subst (λ (xs : List Asked). EachWith (SaysIn terms h port) xs (bytes_on port kept)) (same port)
    (ports-are-said (standing_in terms h) asked kept along port (order_number terms port (accepted terms h)) finds)
