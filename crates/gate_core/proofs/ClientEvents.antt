-- An event of a client that leaves the ports and the order level as they were.
use Rattle.std.proofs.Common.{◌≡◌, ◌+◌, ℕ, Bool, true, false, List, [], ◌∷◌, length, Option, Some, None, refl, sym, ap}
use Rattle.std.proofs.Common.{◌∙◌, subst}
use Rattle.std.specs.Prelude.{◌&&◌, if◌then◌else◌}
use Rattle.session_law.specs.Runs.{Timed}
use Rattle.gate_sessions.specs.order_law.Headline.{Headline}
use Rattle.gate_law.specs.Settings.{Settings, terms}
use Rattle.gate_law.specs.Events.{Event, LinkOut, Batch, empty, is_for_client}
use Rattle.gate_law.specs.Lists.{Lists, client_called_all, client_called}
use Rattle.gate_law.specs.Sessions.{to_client, to_port}
use Rattle.gate_law.specs.Outcome.{LinkMove, Stays, Comes, Goes, Refused, Outcome, nothing, outcome, of_client}
use Rattle.gate_law.specs.Outcome.{is_stepped, messages}
use Rattle.gate_law.specs.After.{lists_after, links_closed, with_outcome, client_moved}
use Rattle.gate_law.specs.Due.{to_client_of, to_port_of, reports_of, client_named}
use Rattle.gate_law.specs.Promises.{Asks, AsksAgain, AsksOnlyThen, comes_up, delivers_message, port_in}
use Rattle.gate_sessions.specs.Lines.{ClientsLeave, ClientLinks, called_all, link_set}
use Rattle.gate_core.specs.declared.parts.Parts.{Parts}
use Rattle.gate_sessions.specs.Links.{unlinked}
use Rattle.gate_core.specs.State.{ArePartsOf}
use Rattle.gate_core.specs.Steps.{Ready, Stepped}
use Rattle.gate_events.specs.Batches.{batch_of}
use Rattle.gate_core.proofs.Told.{named-client}

-- ---- the lists after it

abbrev pub moved_link : ℕ → LinkMove → (ℕ → Option ℕ) → ℕ → Option ℕ
moved_link n Stays links = links
moved_link n (Comes link) links = link_set n (Some link) links
moved_link n Goes links = link_set n None links
moved_link n (Refused link) links = links

client-moved-is : (c : ℕ) (move : LinkMove) (v : Lists)
    → client_moved c move v ≡ record v { client_link = moved_link c move v.client_link }
client-moved-is c Stays v = refl
client-moved-is c (Comes link) v = refl
client-moved-is c Goes v = refl
client-moved-is c (Refused link) v = refl

pub client-called-is : (c : ℕ) (calls : List Timed) (v : Lists)
    → client_called_all c calls v ≡ record v { client_calls = called_all c calls v.client_calls }
client-called-is c [] v = refl
client-called-is c (call ∷ calls) v = client-called-is c calls (client_called c call v)

-- the lists with a client's calls and its link as it is then
abbrev pub with_client : ℕ → LinkMove → List Timed → Lists → Lists
with_client c move calls v = record v {
  client_link = moved_link c move v.client_link;
  client_calls =
      called_all c calls v.client_calls;
}

with-client : (c : ℕ) (move : LinkMove) (calls : List Timed) (v : Lists)
    → with_outcome (of_client c move calls) v ≡ with_client c move calls v
with-client c move calls v =
    ap (client_called_all c calls) (client-moved-is c move v)
    ∙ client-called-is c calls (record v { client_link = moved_link c move v.client_link })

-- ---- what it asks

-- where no port comes up and no message is sent
pub asks-nothing : (s : Settings) (e : Event) (b : Batch) (v : Lists) → comes_up s e v ≡ false → messages b ≡ []
    → Asks s e b v
asks-nothing s e b v quiet none = by_stepped (is_stepped s e v) (comes_up s e v) quiet
  where
    only : (w : Bool) → AsksOnlyThen w b
    only true = tt
    only false = none

    by_stepped : (w up : Bool) → up ≡ false → AsksAgain (w && up) s (port_in e) (w && delivers_message s e v) b v
    by_stepped true false down = only (delivers_message s e v)
    by_stepped true true down = absurd (cc)
    by_stepped false up down = only false

-- ---- the step

pub no-port-lines : (link : Option ℕ) → [] ≡ to_port link []
no-port-lines None = refl
no-port-lines (Some link) = refl

pub client-event : {S H : Type 0} (s : Settings) (e : Event) (v : Lists) (g new : Parts S H) (c : ℕ) (move : LinkMove)
    (calls : List Timed) (outs : List LinkOut)
    → outcome s e (batch_of c [] outs 0 [] None) v ≡ of_client c move calls
    → outs ≡ to_client_of s (of_client c move calls) v
    → [] ≡ reports_of s (of_client c move calls) v
    → comes_up s e v ≡ false
    → client_named e (batch_of c [] outs 0 [] None) ≡ c
    → (calls_were : ℕ → List Timed) (links_were : ℕ → Option ℕ)
    → ArePartsOf s (record v { client_link = links_were; client_calls = calls_were }) g
    → ClientsLeave s (called_all c calls v.client_calls) new.clients.lines.items
    → ClientLinks (unlinked c outs (moved_link c move v.client_link)) new.clients.lines.items
    → length new.clients.lines.items ≡ length g.clients.lines.items
    → new.ports ≡ g.ports → new.client_ports ≡ g.client_ports → new.orders ≡ g.orders
    → Stepped s e (batch_of c [] outs 0 [] None) v new
client-event s e v g new c move calls outs is lines reports quiet named calls_were links_were parts leave links count
    same_ports same_client_ports same_orders =
    let b : Batch = batch_of c [] outs 0 [] None in
    let left : lists_after s e b v ≡ links_closed b (with_client c move calls v) =
    ap (λ (o : Outcome). links_closed b (with_outcome o v)) is ∙ ap (links_closed b) (with-client c move calls v) in
    record {
      gives = record {
        client_out = lines ∙ ap (λ (o : Outcome). to_client_of s o v) (sym is);
        reports = reports ∙ ap (λ (o : Outcome). reports_of s o v) (sym is);
        port_out = no-port-lines (v.port_link 0) ∙ ap (λ (o : Outcome). to_port_of s o v) (sym is);
        fault = ap (λ (o : Outcome). o.fault) (sym is);
        client = ap (λ (n : ℕ). if is_for_client b then Some n else None) (sym named);
        port = refl;
      };
      asks = asks-nothing s e b v quiet refl;
      orders = λ holds. subst (λ (w : Lists). Headline (terms s) w.turns) (sym left) holds;
      parts = subst (λ (w : Lists). ArePartsOf s w new) (sym left) (record {
        clients = leave;
        client_links = λ i line at. links i line at
            ∙ sym (named-client c (i + 1) [] outs (moved_link c move v.client_link));
        ports = rw same_ports parts.ports;
        port_links = rw same_ports parts.port_links;
        orders = rw same_orders parts.orders;
        client_ports = rw same_client_ports parts.client_ports;
        client_count = count ∙ parts.client_count;
        port_count = rw same_ports parts.port_count;
        known = parts.known;
      });
    }

-- ---- an event that does nothing

pub not-stepped-outcome : (s : Settings) (e : Event) (b : Batch) (v : Lists) → is_stepped s e v ≡ false
    → outcome s e b v ≡ nothing
not-stepped-outcome s e b v none = rw none refl

pub no-client-lines : (s : Settings) (link : Option ℕ) → [] ≡ to_client s 0 link []
no-client-lines s None = refl
no-client-lines s (Some link) = refl

-- nothing is given, and nothing changes, where the outcome is nothing
pub nothing-done : {S H : Type 0} (s : Settings) (e : Event) (v : Lists) (g : Parts S H) → outcome s e empty v ≡ nothing
    → Asks s e empty v → Ready s v g → Stepped s e empty v g
nothing-done s e v g is asks ready =
    let left : lists_after s e empty v ≡ v = ap (λ (o : Outcome). links_closed empty (with_outcome o v)) is in
    record {
      gives = record {
        client_out = no-client-lines s (v.client_link 0) ∙ ap (λ (o : Outcome). to_client_of s o v) (sym is);
        reports = ap (λ (o : Outcome). reports_of s o v) (sym is);
        port_out = no-port-lines (v.port_link 0) ∙ ap (λ (o : Outcome). to_port_of s o v) (sym is);
        fault = ap (λ (o : Outcome). o.fault) (sym is);
        client = refl;
        port = refl;
      };
      asks = asks;
      orders = λ holds. subst (λ (w : Lists). Headline (terms s) w.turns) (sym left) holds;
      parts = subst (λ (w : Lists). ArePartsOf s w g) (sym left) ready.parts;
    }

-- an event that isn't stepped
pub not-stepped : {S H : Type 0} (s : Settings) (e : Event) (v : Lists) (g : Parts S H) → is_stepped s e v ≡ false
    → Ready s v g → Stepped s e empty v g
not-stepped s e v g none ready = nothing-done s e v g (not-stepped-outcome s e empty v none)
    (by_stepped (is_stepped s e v) none) ready
  where
    by_stepped : (w : Bool) → w ≡ false → AsksAgain (w && comes_up s e v) s (port_in e)
        (w && delivers_message s e v) empty v
    by_stepped true is = absurd (cc)
    by_stepped false is = refl
