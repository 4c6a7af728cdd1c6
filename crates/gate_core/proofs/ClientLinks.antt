-- Links of clients that come and go, and ticks.
use Rattle.std.proofs.Common.{◌≡◌, ◌+◌, ◌==◌, ℕ, Bool, true, false, List, [], ◌∷◌, ◌++◌, length, Option, Some, None}
use Rattle.std.proofs.Common.{refl, sym, ap, ◌∙◌, subst, eqb-true, eq-eqb}
use Rattle.std.specs.Prelude.{◌&&◌, if◌then◌else◌}
use Rattle.session_law.specs.Runs.{Timed, OnMessage, OnLink, OnTick}
use Rattle.session_law.specs.declared.frame.Out.{Out}
use Rattle.gate_law.specs.Settings.{Settings, has_client}
use Rattle.gate_law.specs.Events.{ClientUp, ClientMessage, ClientGone, ClientTick, LinkOut, Close, empty, is_the_number}
use Rattle.gate_law.specs.Lists.{Lists}
use Rattle.gate_law.specs.Sessions.{client_answer, report_issued, to_client}
use Rattle.gate_law.specs.Outcome.{Stays, Comes, Goes, Refused}
use Rattle.gate_law.specs.After.{unless_closed}
use Rattle.gate_sessions.specs.declared.client_line.ClientLine.{ClientLine}
use Rattle.gate_sessions.specs.Lines.{ClientsLeave, ClientLinks, called, link_set}
use Rattle.gate_core.specs.declared.parts.Parts.{Parts}
use Rattle.gate_sessions.specs.Links.{unlinked}
use Rattle.gate_sessions.specs.session_writing.declared.output.SessionOut.{SessionOut}
use Rattle.fix_fields.specs.Field.{Message}
use Rattle.gate_core.specs.Steps.{AfterFrame, Ready, Stepped}
use Rattle.gate_events.specs.Batches.{batch_of}
use Rattle.gate_core.proofs.Told.{same}
use Rattle.gate_core.proofs.ClientEvents.{client-event, nothing-done, asks-nothing}

-- a link that is told nothing stays
pub untold : (n : ℕ) (links : ℕ → Option ℕ) (lines : List ClientLine) → ClientLinks links lines
    → ClientLinks (unlinked n [] links) lines
untold n links lines are i line at = are i line at ∙ sym (same (i + 1 == n) (links (i + 1)))

no-lines : (s : Settings) (c : ℕ) (link : Option ℕ) → [] ≡ to_client s c link []
no-lines s c None = refl
no-lines s c (Some link) = refl

quiet-call : (s : Settings) (c at : ℕ) (is_up : Bool) (before : List Timed)
    → (client_answer s c before (at, OnLink is_up)).outs ≡ []
unfolding client_answer
quiet-call s c at is_up before = refl

no-report : (s : Settings) (c at : ℕ) (is_up : Bool) (before : List Timed)
    → [] ≡ report_issued s c before (at, OnLink is_up)
unfolding report_issued
no-report s c at is_up before = refl

no-tick-report : (s : Settings) (c at : ℕ) (before : List Timed) → [] ≡ report_issued s c before (at, OnTick)
unfolding report_issued
no-tick-report s c at before = refl

append-none : {X : Type 0} (xs : List X) → [] ≡ xs → [] ≡ xs ++ []
append-none xs is = rw (sym is) refl

-- where one number's link stays, all do
pub only-one : (n m : ℕ) (outs : List LinkOut) (links : ℕ → Option ℕ) → unless_closed outs (links n) ≡ links n
    → unlinked n outs links m ≡ links m
only-one n m outs links is = by_test (m == n) refl
  where
    by_test : (b : Bool) → (m == n) ≡ b → (if b then unless_closed outs (links m) else links m) ≡ links m
    by_test true e = subst (λ k. unless_closed outs (links k) ≡ links k) (sym (eqb-true m n e)) is
    by_test false e = refl

pub not-equal : (m n : ℕ) → (m ≡ n → ⊥) → (m == n) ≡ false
not-equal m n other = by_test (m == n) refl
  where
    by_test : (b : Bool) → (m == n) ≡ b → b ≡ false
    by_test true is = absurd (other (eqb-true m n is))
    by_test false is = refl

-- ---- a client's link is gone

pub client-gone : {S H : Type 0} (s : Settings) (v : Lists) (g new : Parts S H) (c link at : ℕ)
    → (has_client s c && is_the_number link (v.client_link c)) ≡ true → Ready s v g
    → ClientsLeave s (called c (at, OnLink false) v.client_calls) new.clients.lines.items
    → ClientLinks (link_set c None v.client_link) new.clients.lines.items
    → length new.clients.lines.items ≡ length g.clients.lines.items
    → new.ports ≡ g.ports → new.client_ports ≡ g.client_ports → new.orders ≡ g.orders
    → Stepped s (ClientGone c link at) empty v new
client-gone s v g new c link at on ready leave links count same_ports same_client_ports same_orders =
    let calls : List Timed = (at, OnLink false) ∷ [] in
    client-event s (ClientGone c link at) v g new c Goes calls [] (rw on refl)
    (no-lines s c (link_set c None v.client_link c)
    ∙ ap (λ (outs : List Out). to_client s c (link_set c None v.client_link c) (outs ++ []))
    (sym (quiet-call s c at false (v.client_calls c))))
    (append-none (report_issued s c (v.client_calls c) (at, OnLink false)) (no-report s c at false (v.client_calls c)))
    refl refl v.client_calls v.client_link ready.parts leave
    (untold c (link_set c None v.client_link) new.clients.lines.items links) count same_ports same_client_ports
    same_orders

-- ---- a client's link is up

pub client-comes : {S H : Type 0} (s : Settings) (v : Lists) (g new : Parts S H) (c link at : ℕ) → has_client s c ≡ true
    → v.client_link c ≡ None → Ready s v g
    → ClientsLeave s (called c (at, OnLink true) v.client_calls) new.clients.lines.items
    → ClientLinks (link_set c (Some link) v.client_link) new.clients.lines.items
    → length new.clients.lines.items ≡ length g.clients.lines.items
    → new.ports ≡ g.ports → new.client_ports ≡ g.client_ports → new.orders ≡ g.orders
    → Stepped s (ClientUp c link at) empty v new
client-comes s v g new c link at has none ready leave links count same_ports same_client_ports same_orders =
    let calls : List Timed = (at, OnLink true) ∷ [] in
    client-event s (ClientUp c link at) v g new c (Comes link) calls [] (rw (has, none) refl)
    (no-lines s c (link_set c (Some link) v.client_link c)
    ∙ ap (λ (outs : List Out). to_client s c (link_set c (Some link) v.client_link c) (outs ++ []))
    (sym (quiet-call s c at true (v.client_calls c))))
    (append-none (report_issued s c (v.client_calls c) (at, OnLink true)) (no-report s c at true (v.client_calls c)))
    refl refl v.client_calls v.client_link ready.parts leave
    (untold c (link_set c (Some link) v.client_link) new.clients.lines.items links) count same_ports
    same_client_ports same_orders

-- the current link's own number again
pub client-again : {S H : Type 0} (s : Settings) (v : Lists) (g : Parts S H) (c link at current : ℕ)
    → has_client s c ≡ true → v.client_link c ≡ Some current → current ≡ link → Ready s v g
    → Stepped s (ClientUp c link at) empty v g
client-again s v g c link at current has is alike ready =
    nothing-done s (ClientUp c link at) v g (rw (has, is, eq-eqb current link alike) refl)
    (asks-nothing s (ClientUp c link at) empty v refl refl) ready

-- another link
pub client-refused : {S H : Type 0} (s : Settings) (v : Lists) (g : Parts S H) (c link at current : ℕ)
    → has_client s c ≡ true → v.client_link c ≡ Some current → (current ≡ link → ⊥) → Ready s v g
    → Stepped s (ClientUp c link at) (batch_of c [] (Close link ∷ []) 0 [] None) v g
client-refused s v g c link at current has is other ready =
    client-event s (ClientUp c link at) v g g c (Refused link) [] (Close link ∷ [])
    (rw (has, is, not-equal current link other) refl)
    (ap (λ (outs : List LinkOut). Close link ∷ outs) (no-lines s c (v.client_link c))) refl refl refl v.client_calls
    v.client_link ready.parts ready.parts.clients
    (λ i line at_place. ready.parts.client_links i line at_place ∙ sym (stays (i + 1))) refl refl refl refl
  where
    -- the link that is closed isn't the current one
    open_still : unless_closed (Close link ∷ []) (v.client_link c) ≡ v.client_link c
    open_still = rw (is, not-equal current link other) refl

    stays : (m : ℕ) → unlinked c (Close link ∷ []) v.client_link m ≡ v.client_link m
    stays m = only-one c m (Close link ∷ []) v.client_link open_still

-- ---- time passes

pub client-tick : {S H : Type 0} (s : Settings) (v : Lists) (g new : Parts S H) (c at : ℕ) (outs : List LinkOut)
    → has_client s c ≡ true → Ready s v g
    → outs ≡ to_client s c (v.client_link c) ((client_answer s c (v.client_calls c) (at, OnTick)).outs ++ [])
    → ClientsLeave s (called c (at, OnTick) v.client_calls) new.clients.lines.items
    → ClientLinks (unlinked c outs v.client_link) new.clients.lines.items
    → length new.clients.lines.items ≡ length g.clients.lines.items
    → new.ports ≡ g.ports → new.client_ports ≡ g.client_ports → new.orders ≡ g.orders
    → Stepped s (ClientTick c at) (batch_of c [] outs 0 [] None) v new
client-tick s v g new c at outs has ready lines leave links count same_ports same_client_ports same_orders =
    client-event s (ClientTick c at) v g new c Stays ((at, OnTick) ∷ []) outs (rw has refl) lines
    (append-none (report_issued s c (v.client_calls c) (at, OnTick)) (no-tick-report s c at (v.client_calls c)))
    refl refl v.client_calls v.client_link ready.parts leave links count same_ports same_client_ports same_orders

-- ---- a frame of which nothing is delivered

no-frame-report : (s : Settings) (c at : ℕ) (frame : Message) (before : List Timed)
    → [] ≡ report_issued s c before (at, OnMessage frame)
unfolding report_issued
no-frame-report s c at frame before = refl

pub client-frame : {S H : Type 0} (s : Settings) (v : Lists) (g new : Parts S H) (c link at : ℕ) (frame : Message)
    (said : List SessionOut) (outs : List LinkOut)
    → AfterFrame s c link at frame None said v g
    → outs ≡ to_client s c (v.client_link c) ((client_answer s c (v.client_calls c) (at, OnMessage frame)).outs ++ [])
    → ClientsLeave s (called c (at, OnMessage frame) v.client_calls) new.clients.lines.items
    → ClientLinks (unlinked c outs v.client_link) new.clients.lines.items
    → length new.clients.lines.items ≡ length g.clients.lines.items
    → Stepped {S = S} {H = H} s (ClientMessage c link at frame) (batch_of c [] outs 0 [] None) v
    (record { clients = new.clients; ports = g.ports; client_ports = g.client_ports; orders = g.orders })
client-frame s v g new c link at frame said outs heard lines leave links count =
    client-event s (ClientMessage c link at frame) v g _ c Stays ((at, OnMessage frame) ∷ []) outs
    (rw (heard.on, heard.app_is) refl) lines
    (append-none (report_issued s c (v.client_calls c) (at, OnMessage frame))
    (no-frame-report s c at frame (v.client_calls c)))
    refl refl (called c (at, OnMessage frame) v.client_calls) v.client_link heard.parts leave links count refl refl refl
