-- What clients were told by the batches is what the order level told them: of every history whose batches are those
-- that are given.
use Rattle.std.proofs.Common.{◌≡◌, ◌==◌, ℕ, Bool, true, false, not, List, [], ◌∷◌, ◌++◌, Option, Some, None, refl, ap}
use Rattle.std.proofs.Common.{sym, ◌∙◌, length, map, reverse, inl, inr}
use Rattle.std.proofs.Math.Dec.{eqb-suc-zero}
use Rattle.std.specs.Prelude.{if◌then◌else◌, ◌&&◌, ◌⊎◌}
use Rattle.session_law.specs.fix_types.declared.application.AppMsg.{AppMsg}
use Rattle.soup_packets.specs.declared.packet.Packet.{Packet}
use Rattle.soup_session.specs.Table as port
use Rattle.session_law.specs.Runs.{Timed, OnMessage}
use Rattle.fix_fields.specs.Field.{Message}
use Rattle.order_law.specs.Messages.{body_of}
use Rattle.order_law.specs.History as history
use Rattle.gate_law.specs.Settings.{Settings}
use Rattle.gate_law.specs.Events.{Event, ClientUp, ClientMessage, ClientGone, ClientTick, PortUp, PortPacket, PortGone}
use Rattle.gate_law.specs.Events.{PortTick, Batch, History, Turn, is_the_number}
use Rattle.gate_law.specs.Lists.{Lists, client_called_all, port_called_all, client_called, port_called, turned}
use Rattle.gate_law.specs.Sessions.{report_issued, client_answer, port_answer}
use Rattle.gate_law.specs.Outcome.{LinkMove, Stays, Comes, Goes, Refused, Outcome, nothing, outcome, is_stepped, bodies}
use Rattle.gate_law.specs.Outcome.{by_app, by_payload, client_up, port_up, of_client, of_port}
use Rattle.gate_law.specs.After.{lists_after, links_closed, with_outcome, client_moved, port_moved, lists, order_turns}
use Rattle.gate_law.specs.After.{is_within_day}
use Rattle.gate_law.specs.Due.{Gives, client_named, reports_of}
use Rattle.gate_law.specs.Holds.{IsRun, OfTurn, told_by_batches}

-- ---- the turns after an event

client-calls-keep : (client : ℕ) (calls : List Timed) (v : Lists) → (client_called_all client calls v).turns ≡ v.turns
client-calls-keep client [] v = refl
client-calls-keep client (call ∷ calls) v = client-calls-keep client calls (client_called client call v)

port-calls-keep : (p : ℕ) (calls : List port.PortCall) (v : Lists) → (port_called_all p calls v).turns ≡ v.turns
port-calls-keep p [] v = refl
port-calls-keep p (call ∷ calls) v = port-calls-keep p calls (port_called p call v)

client-moves-keep : (client : ℕ) (move : LinkMove) (v : Lists) → (client_moved client move v).turns ≡ v.turns
client-moves-keep client Stays v = refl
client-moves-keep client (Comes link) v = refl
client-moves-keep client Goes v = refl
client-moves-keep client (Refused link) v = refl

port-moves-keep : (p : ℕ) (move : LinkMove) (v : Lists) → (port_moved p move v).turns ≡ v.turns
port-moves-keep p Stays v = refl
port-moves-keep p (Comes link) v = refl
port-moves-keep p Goes v = refl
port-moves-keep p (Refused link) v = refl

pub turns-after : (o : Outcome) (b : Batch) (v : Lists)
    → (links_closed b (with_outcome o v)).turns ≡ (turned o.turn v).turns
turns-after o b v =
    let v1 = turned o.turn v in
    let v2 = client_moved o.client o.client_link v1 in
    let v3 = client_called_all o.client o.client_calls v2 in
    let v4 = port_moved o.port o.port_link v3 in
    port-calls-keep o.port o.port_calls v4 ∙ port-moves-keep o.port o.port_link v3
    ∙ client-calls-keep o.client o.client_calls v2 ∙ client-moves-keep o.client o.client_link v1

-- ---- what an outcome tells

-- it issues nothing, or it has a turn whose bodies are the batch's, for the one whom the batch names
abbrev TellsNothing : Settings → Lists → Outcome → Type 0
TellsNothing s v o = (o.turn ≡ None) × (reports_of s o v ≡ [])

abbrev TellsTurn : Event → Batch → Outcome → Type 0
TellsTurn e b o = (t : history.OrderTurn) × (o.turn ≡ Some t) × (t.client ≡ client_named e b) × (t.bodies ≡ bodies b)

abbrev Tells : Settings → Event → Batch → Lists → Outcome → Type 0
Tells s e b v o = TellsNothing s v o ⊎ TellsTurn e b o

tells-if : (s : Settings) (e : Event) (b : Batch) (v : Lists) (c : Bool) (x y : Outcome) → Tells s e b v x
    → Tells s e b v y → Tells s e b v (if c then x else y)
tells-if s e b v true x y p q = p
tells-if s e b v false x y p q = q

tells-client-up : (s : Settings) (client link at : ℕ) (b : Batch) (v : Lists) (current : Option ℕ)
    → Tells s (ClientUp client link at) b v (client_up client link at current)
unfolding report_issued
tells-client-up s client link at b v None = inl (refl, refl)
tells-client-up s client link at b v (Some n) =
    tells-if s (ClientUp client link at) b v (n == link) nothing (of_client client (Refused link) []) (inl (refl, refl))
    (inl (refl, refl))

tells-port-up : (s : Settings) (p link at : ℕ) (b : Batch) (v : Lists) (current : Option ℕ)
    → Tells s (PortUp p link at) b v (port_up p link at current)
tells-port-up s p link at b v None = inl (refl, refl)
tells-port-up s p link at b v (Some n) = tells-if s (PortUp p link at) b v (n == link) nothing
    (of_port p (Refused link) []) (inl (refl, refl)) (inl (refl, refl))

tells-app : (s : Settings) (client link at : ℕ) (frame : Message) (b : Batch) (v : Lists) (app : Option AppMsg)
    → Tells s (ClientMessage client link at frame) b v (by_app s client at frame b v app)
unfolding report_issued
tells-app s client link at frame b v None = inl (refl, refl)
tells-app s client link at frame b v (Some app) = inr (_, refl, refl, refl)

tells-payload : (s : Settings) (p link at : ℕ) (packet : Packet) (b : Batch) (v : Lists) (a : port.PortAnswer)
    (payload : Option (List ℕ)) → Tells s (PortPacket p link at packet) b v (by_payload p at packet b a payload)
tells-payload s p link at packet b v a None = inl (refl, refl)
tells-payload s p link at packet b v a (Some payload) = inr (_, refl, refl, refl)

outcome-tells : (s : Settings) (e : Event) (b : Batch) (v : Lists) → Tells s e b v (outcome s e b v)
unfolding report_issued
outcome-tells s (ClientUp client link at) b v =
    tells-if s (ClientUp client link at) b v (is_stepped s (ClientUp client link at) v) _ _
    (tells-client-up s client link at b v (v.client_link client)) (inl (refl, refl))
outcome-tells s (ClientMessage client link at frame) b v =
    tells-if s (ClientMessage client link at frame) b v (is_stepped s (ClientMessage client link at frame) v) _ _
    (tells-app s client link at frame b v (client_answer s client (v.client_calls client) (at, OnMessage frame)).app)
    (inl (refl, refl))
outcome-tells s (ClientGone client link at) b v =
    tells-if s (ClientGone client link at) b v (is_stepped s (ClientGone client link at) v) _ _ (inl (refl, refl))
    (inl (refl, refl))
outcome-tells s (ClientTick client at) b v =
    tells-if s (ClientTick client at) b v (is_stepped s (ClientTick client at) v) _ _ (inl (refl, refl))
    (inl (refl, refl))
outcome-tells s (PortUp p link at) b v = tells-if s (PortUp p link at) b v (is_stepped s (PortUp p link at) v) _ _
    (tells-port-up s p link at b v (v.port_link p)) (inl (refl, refl))
outcome-tells s (PortPacket p link at packet) b v =
    tells-if s (PortPacket p link at packet) b v (is_stepped s (PortPacket p link at packet) v) _ _
    (tells-payload s p link at packet b v (port_answer s p (v.port_calls p) (port.OnPacket packet at))
    (port_answer s p (v.port_calls p) (port.OnPacket packet at)).payload) (inl (refl, refl))
outcome-tells s (PortGone p link at) b v =
    tells-if s (PortGone p link at) b v (is_stepped s (PortGone p link at) v) _ _ (inl (refl, refl)) (inl (refl, refl))
outcome-tells s (PortTick p at) b v = tells-if s (PortTick p at) b v (is_stepped s (PortTick p at) v) _ _
    (inl (refl, refl)) (inl (refl, refl))

-- ---- one event

-- what a client was told with one list of bodies more
abbrev told_more : Bool → List Message → List Message → List Message
told_more is_for more before = if is_for then reverse more ++ before else before

none-more : (is_for : Bool) (before : List Message) → told_more is_for [] before ≡ before
none-more true before = refl
none-more false before = refl

-- whom a batch names is told its bodies, and nobody is where there are none
named : (reports : List Message) (is_lines_empty : Bool) (n client : ℕ) (named_client : Option ℕ)
    (before : List Message)
    → named_client ≡ (if not ((length reports == 0) && is_lines_empty) then Some n else None)
    → told_more (is_the_number client named_client) (map body_of reports) before
    ≡ told_more (n == client) (map body_of reports) before
named [] is_lines_empty n client named_client before is = none-more (is_the_number client named_client) before
    ∙ sym (none-more (n == client) before)
named (r ∷ rs) is_lines_empty n client named_client before is =
    ap (λ (c : Option ℕ). told_more (is_the_number client c) (map body_of (r ∷ rs)) before)
    (is ∙ ap (λ (w : Bool). if not (w && is_lines_empty) then Some n else None) (eqb-suc-zero (length rs)))

event-told : (s : Settings) (e : Event) (b : Batch) (v : Lists) (client : ℕ) → Gives s e b v → (o : Outcome)
    → b.reports ≡ reports_of s o v → Tells s e b v o
    → told_more (is_the_number client b.client) (bodies b) (history.issued client v.turns)
    ≡ history.issued client (turned o.turn v).turns
event-told s e b v client g o reports (inl quiet) =
    ap (λ (rs : List Message). told_more (is_the_number client b.client) (map body_of rs)
    (history.issued client v.turns)) (reports ∙ quiet.1)
    ∙ none-more (is_the_number client b.client) (history.issued client v.turns)
    ∙ ap (λ (t : Option history.OrderTurn). history.issued client (turned t v).turns) (sym quiet.0)
event-told s e b v client g o reports (inr told) =
    named b.reports (length b.client_out == 0) (client_named e b) client b.client
    (history.issued client v.turns) g.client
    ∙ ap (λ (n : ℕ). told_more (n == client) (bodies b) (history.issued client v.turns)) (sym told.2)
    ∙ ap (λ (bs : List Message). told_more (told.0.client == client) bs (history.issued client v.turns)) (sym told.3)
    ∙ ap (λ (t : Option history.OrderTurn). history.issued client (turned t v).turns) (sym told.1)

-- ---- a history

one-event : (s : Settings) (client : ℕ) (t : Turn) (before : History) → Gives s t.event t.batch (lists s before)
    → told_by_batches client before ≡ history.issued client (order_turns s before)
    → told_by_batches client (t ∷ before) ≡ history.issued client (lists_after s t.event t.batch (lists s before)).turns
one-event s client t before g is =
    let v = lists s before in
    let o = outcome s t.event t.batch v in
    ap (λ (told : List Message). told_more (is_the_number client t.batch.client) (bodies t.batch) told) is
    ∙ event-told s t.event t.batch v client g o g.reports (outcome-tells s t.event t.batch v)
    ∙ ap (λ (turns : history.OrderHistory). history.issued client turns) (sym (turns-after o t.batch v))

pub runs-tell : (s : Settings) (h : History) → IsRun s h → (client : ℕ)
    → told_by_batches client h ≡ history.issued client (order_turns s h)
runs-tell s [] run client = refl
runs-tell s (t ∷ before) run client = by_limit (is_within_day before) run.0 (runs-tell s before run.1 client)
  where
    by_limit : (w : Bool) → OfTurn w (Gives s t.event t.batch (lists s before)) t.batch
        → told_by_batches client before ≡ history.issued client (order_turns s before)
        → told_by_batches client (t ∷ before) ≡ history.issued client
        (if w then lists_after s t.event t.batch (lists s before) else lists s before).turns
    by_limit true g is = one-event s client t before g is
    by_limit false none is = ap (λ (b : Batch). told_more (is_the_number client b.client) (bodies b)
        (told_by_batches client before)) none ∙ is
