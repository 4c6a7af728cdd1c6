-- Each part of the lists after an outcome.
use Rattle.std.proofs.Common.{◌≡◌, ◌==◌, ℕ, true, false, List, [], ◌∷◌, Option, Some, None, refl, ap, ◌∙◌}
use Rattle.std.proofs.lemmas.Bool.{cond-true, cond-false}
use Rattle.std.specs.Prelude.{if◌then◌else◌}
use Rattle.soup_session.specs.declared.port_fault.PortFault.{PortFault}
use Rattle.soup_session.specs.Table.{PortCall}
use Rattle.session_law.specs.Runs.{Timed}
use Rattle.order_law.specs.History as orders
use Rattle.gate_law.specs.Events.{Batch, is_the_number}
use Rattle.gate_law.specs.Lists.{Lists, client_called, client_called_all, port_called, port_called_all, turned}
use Rattle.gate_law.specs.Outcome.{LinkMove, Stays, Comes, Goes, Refused, Outcome, of_port}
use Rattle.gate_law.specs.After.{client_moved, port_moved, with_outcome, links_closed, unless_closed}

-- ---- calls of a port

-- these calls in order, behind those before them, the newest first
abbrev pub called : List PortCall → List PortCall → List PortCall
called [] before = before
called (c ∷ cs) before = called cs (c ∷ before)

pub calls-own : (p q : ℕ) (cs : List PortCall) (v : Lists) → (q == p) ≡ true
    → (port_called_all p cs v).port_calls q ≡ called cs (v.port_calls q)
calls-own p q [] v e = refl
calls-own p q (c ∷ cs) v e = calls-own p q cs (port_called p c v) e ∙ ap (called cs) (cond-true (q == p) _ _ e)

pub calls-other : (p q : ℕ) (cs : List PortCall) (v : Lists) → (q == p) ≡ false
    → (port_called_all p cs v).port_calls q ≡ v.port_calls q
calls-other p q [] v f = refl
calls-other p q (c ∷ cs) v f = calls-other p q cs (port_called p c v) f ∙ cond-false (q == p) _ _ f

calls-keep-links : (p : ℕ) (cs : List PortCall) (v : Lists) → (port_called_all p cs v).port_link ≡ v.port_link
calls-keep-links p [] v = refl
calls-keep-links p (c ∷ cs) v = calls-keep-links p cs (port_called p c v)

moves-keep-calls : (p : ℕ) (move : LinkMove) (v : Lists) → (port_moved p move v).port_calls ≡ v.port_calls
moves-keep-calls p Stays v = refl
moves-keep-calls p (Comes link) v = refl
moves-keep-calls p Goes v = refl
moves-keep-calls p (Refused link) v = refl

-- a link moves by what the links were
moved-links : (p : ℕ) (move : LinkMove) (v w : Lists) → v.port_link ≡ w.port_link
    → (port_moved p move v).port_link ≡ (port_moved p move w).port_link
moved-links p Stays v w e = e
moved-links p (Comes link) v w e = ap (λ (links : ℕ → Option ℕ). λ (q : ℕ). if q == p then Some link else links q) e
moved-links p Goes v w e = ap (λ (links : ℕ → Option ℕ). λ (q : ℕ). if q == p then None else links q) e
moved-links p (Refused link) v w e = e

-- ---- what is of clients and of the order level leaves ports as they are

turn-keeps-links : (t : Option orders.OrderTurn) (v : Lists) → (turned t v).port_link ≡ v.port_link
turn-keeps-links None v = refl
turn-keeps-links (Some t) v = refl

turn-keeps-calls : (t : Option orders.OrderTurn) (v : Lists) → (turned t v).port_calls ≡ v.port_calls
turn-keeps-calls None v = refl
turn-keeps-calls (Some t) v = refl

client-move-keeps-links : (c : ℕ) (move : LinkMove) (v : Lists) → (client_moved c move v).port_link ≡ v.port_link
client-move-keeps-links c Stays v = refl
client-move-keeps-links c (Comes link) v = refl
client-move-keeps-links c Goes v = refl
client-move-keeps-links c (Refused link) v = refl

client-move-keeps-calls : (c : ℕ) (move : LinkMove) (v : Lists) → (client_moved c move v).port_calls ≡ v.port_calls
client-move-keeps-calls c Stays v = refl
client-move-keeps-calls c (Comes link) v = refl
client-move-keeps-calls c Goes v = refl
client-move-keeps-calls c (Refused link) v = refl

client-calls-keep-links : (c : ℕ) (calls : List Timed) (v : Lists)
    → (client_called_all c calls v).port_link ≡ v.port_link
client-calls-keep-links c [] v = refl
client-calls-keep-links c (call ∷ calls) v = client-calls-keep-links c calls (client_called c call v)

client-calls-keep-calls : (c : ℕ) (calls : List Timed) (v : Lists)
    → (client_called_all c calls v).port_calls ≡ v.port_calls
client-calls-keep-calls c [] v = refl
client-calls-keep-calls c (call ∷ calls) v = client-calls-keep-calls c calls (client_called c call v)

-- the lists with all of an outcome but its port's part
abbrev with_client : Outcome → Lists → Lists
with_client o v = client_called_all o.client o.client_calls (client_moved o.client o.client_link (turned o.turn v))

client-keeps-links : (o : Outcome) (v : Lists) → (with_client o v).port_link ≡ v.port_link
client-keeps-links o v =
    client-calls-keep-links o.client o.client_calls (client_moved o.client o.client_link (turned o.turn v))
    ∙ client-move-keeps-links o.client o.client_link (turned o.turn v)
    ∙ turn-keeps-links o.turn v

client-keeps-calls : (o : Outcome) (v : Lists) → (with_client o v).port_calls ≡ v.port_calls
client-keeps-calls o v =
    client-calls-keep-calls o.client o.client_calls (client_moved o.client o.client_link (turned o.turn v))
    ∙ client-move-keeps-calls o.client o.client_link (turned o.turn v)
    ∙ turn-keeps-calls o.turn v

-- ---- the port of an outcome, and the others

front-calls : (o : Outcome) (v : Lists) → (port_moved o.port o.port_link (with_client o v)).port_calls ≡ v.port_calls
front-calls o v = moves-keep-calls o.port o.port_link (with_client o v) ∙ client-keeps-calls o v

pub own-calls : (o : Outcome) (b : Batch) (v : Lists) (q : ℕ) → (q == o.port) ≡ true
    → (links_closed b (with_outcome o v)).port_calls q ≡ called o.port_calls (v.port_calls q)
own-calls o b v q e =
    calls-own o.port q o.port_calls (port_moved o.port o.port_link (with_client o v)) e
    ∙ ap (λ (calls : ℕ → List PortCall). called o.port_calls (calls q)) (front-calls o v)

pub other-calls : (o : Outcome) (b : Batch) (v : Lists) (q : ℕ) → (q == o.port) ≡ false
    → (links_closed b (with_outcome o v)).port_calls q ≡ v.port_calls q
other-calls o b v q f =
    calls-other o.port q o.port_calls (port_moved o.port o.port_link (with_client o v)) f
    ∙ ap (λ (calls : ℕ → List PortCall). calls q) (front-calls o v)

-- a link is what became of it, unless the batch closes it
pub link-after : (o : Outcome) (b : Batch) (v : Lists) (q : ℕ)
    → (links_closed b (with_outcome o v)).port_link q
    ≡ (if is_the_number q b.port then unless_closed b.port_out ((port_moved o.port o.port_link v).port_link q) else
    (port_moved o.port o.port_link v).port_link q)
link-after o b v q =
    ap (λ (links : ℕ → Option ℕ). if is_the_number q b.port then unless_closed b.port_out (links q) else links q)
    (calls-keep-links o.port o.port_calls (port_moved o.port o.port_link (with_client o v))
    ∙ moved-links o.port o.port_link (with_client o v) v (client-keeps-links o v))

pub moved-other : (p q : ℕ) (move : LinkMove) (v : Lists) → (q == p) ≡ false
    → (port_moved p move v).port_link q ≡ v.port_link q
moved-other p q Stays v f = refl
moved-other p q (Comes link) v f = cond-false (q == p) _ _ f
moved-other p q Goes v f = cond-false (q == p) _ _ f
moved-other p q (Refused link) v f = refl

-- ---- what is of a port leaves clients as they are

calls-keep-client-calls : (p : ℕ) (cs : List PortCall) (v : Lists)
    → (port_called_all p cs v).client_calls ≡ v.client_calls
calls-keep-client-calls p [] v = refl
calls-keep-client-calls p (c ∷ cs) v = calls-keep-client-calls p cs (port_called p c v)

calls-keep-client-links : (p : ℕ) (cs : List PortCall) (v : Lists)
    → (port_called_all p cs v).client_link ≡ v.client_link
calls-keep-client-links p [] v = refl
calls-keep-client-links p (c ∷ cs) v = calls-keep-client-links p cs (port_called p c v)

turn-keeps-client-calls : (t : Option orders.OrderTurn) (v : Lists) → (turned t v).client_calls ≡ v.client_calls
turn-keeps-client-calls None v = refl
turn-keeps-client-calls (Some t) v = refl

turn-keeps-client-links : (t : Option orders.OrderTurn) (v : Lists) → (turned t v).client_link ≡ v.client_link
turn-keeps-client-links None v = refl
turn-keeps-client-links (Some t) v = refl

-- calls of one port, on a link that stays, with a turn or a fault, and nothing else
abbrev pub alone : ℕ → List PortCall → Option PortFault → Option orders.OrderTurn → Outcome
alone p cs fault turn = record (of_port p Stays cs) { fault = fault; turn = turn }

pub alone-keeps-calls : (p : ℕ) (cs : List PortCall) (fault : Option PortFault) (turn : Option orders.OrderTurn)
    (v : Lists) → (with_outcome (alone p cs fault turn) v).client_calls ≡ v.client_calls
alone-keeps-calls p cs fault turn v = calls-keep-client-calls p cs (turned turn v) ∙ turn-keeps-client-calls turn v

pub alone-keeps-links : (p : ℕ) (cs : List PortCall) (fault : Option PortFault) (turn : Option orders.OrderTurn)
    (v : Lists) → (with_outcome (alone p cs fault turn) v).client_link ≡ v.client_link
alone-keeps-links p cs fault turn v = calls-keep-client-links p cs (turned turn v) ∙ turn-keeps-client-links turn v
