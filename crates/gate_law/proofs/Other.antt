-- Events that do nothing, and links that come up beside a current one.
use Rattle.std.proofs.Common.{◌≡◌, ◌==◌, ℕ, Bool, true, false, List, [], ◌∷◌, Option, Some, None, refl, ap, ◌∙◌}
use Rattle.std.proofs.lemmas.Bool.{cond-false}
use Rattle.std.specs.Prelude.{if◌then◌else◌}
use Rattle.soup_session.specs.declared.port_fault.PortFault.{PortFault}
use Rattle.fix_fields.specs.Field.{Message}
use Rattle.gate_law.specs.Settings.{Settings, has_client, has_port}
use Rattle.gate_law.specs.Events.{Event, ClientUp, PortUp, LinkOut, Close, Batch, empty, is_for_client, is_for_port}
use Rattle.gate_law.specs.Lists.{Lists}
use Rattle.gate_law.specs.Sessions.{to_client, to_port}
use Rattle.gate_law.specs.Outcome.{Outcome, nothing, outcome, is_stepped, of_client, of_port, Refused}
use Rattle.gate_law.specs.After.{lists_after, links_closed, with_outcome}
use Rattle.gate_law.specs.Due.{Gives, client_named, port_named, to_client_of, to_port_of, reports_of}

pub no-outcome : (s : Settings) (e : Event) (b : Batch) (v : Lists) → is_stepped s e v ≡ false
    → outcome s e b v ≡ nothing
no-outcome s e b v none = cond-false (is_stepped s e v) _ _ none

-- a batch by its parts
all-empty : (client : Option ℕ) (reports : List Message) (client_out : List LinkOut) (port : Option ℕ)
    (port_out : List LinkOut) (fault : Option PortFault)
    → client ≡ None → reports ≡ [] → client_out ≡ [] → port ≡ None → port_out ≡ [] → fault ≡ None
    → (let b : Batch = record {
      client = client;
      reports = reports;
      client_out = client_out;
      port = port;
      port_out =
          port_out;
      fault = fault;
    } in b ≡ empty)
all-empty client reports client_out port port_out fault no_client no_reports no_lines no_port no_packets no_fault = cc

pub no-client-lines : (s : Settings) (c : ℕ) (link : Option ℕ) → to_client s c link [] ≡ []
no-client-lines s c None = refl
no-client-lines s c (Some link) = refl

pub no-port-lines : (link : Option ℕ) → to_port link [] ≡ []
no-port-lines None = refl
no-port-lines (Some link) = refl

pub nothing-given : (s : Settings) (e : Event) (b : Batch) (v : Lists) → outcome s e b v ≡ nothing → Gives s e b v
    → b ≡ empty
nothing-given s e b v none g =
    let client_out : b.client_out ≡ [] = g.client_out ∙ ap (λ (o : Outcome). to_client_of s o v) none
    ∙ no-client-lines s 0 (v.client_link 0) in
    let reports : b.reports ≡ [] = g.reports ∙ ap (λ (o : Outcome). reports_of s o v) none in
    let port_out : b.port_out ≡ [] = g.port_out ∙ ap (λ (o : Outcome). to_port_of s o v) none
    ∙ no-port-lines (v.port_link 0) in
    let fault : b.fault ≡ None = g.fault ∙ ap (λ (o : Outcome). o.fault) none in
    let client : b.client ≡ None = g.client ∙ named-client b (client_named e b) reports client_out in
    let port : b.port ≡ None = g.port ∙ named-port b (port_named s e) port_out fault in
    all-empty b.client b.reports b.client_out b.port b.port_out b.fault client reports client_out port port_out fault
  where
    named-client : (b : Batch) (n : ℕ) → b.reports ≡ [] → b.client_out ≡ []
        → (if is_for_client b then Some n else None) ≡ None
    named-client b n reports outs = rw (reports, outs) refl

    named-port : (b : Batch) (n : ℕ) → b.port_out ≡ [] → b.fault ≡ None
        → (if is_for_port b then Some n else None) ≡ None
    named-port b n outs fault = rw (outs, fault) refl

pub other-batch : (s : Settings) (e : Event) (b : Batch) (v : Lists) → is_stepped s e v ≡ false → Gives s e b v
    → b ≡ empty
other-batch s e b v none g = nothing-given s e b v (no-outcome s e b v none) g

pub other-lists : (s : Settings) (e : Event) (v : Lists) → is_stepped s e v ≡ false → lists_after s e empty v ≡ v
other-lists s e v none = ap (λ (o : Outcome). links_closed empty (with_outcome o v)) (no-outcome s e empty v none)

-- ---- a link beside a current one

all-refused : (c link : ℕ) (client : Option ℕ) (reports : List Message) (client_out : List LinkOut) (port : Option ℕ)
    (port_out : List LinkOut) (fault : Option PortFault)
    → client ≡ Some c → reports ≡ [] → client_out ≡ Close link ∷ [] → port ≡ None → port_out ≡ [] → fault ≡ None
    → (let b : Batch = record {
      client = client;
      reports = reports;
      client_out = client_out;
      port = port;
      port_out =
          port_out;
      fault = fault;
    } in b ≡ record empty { client = Some c; client_out = Close link ∷ [] })
all-refused c link client reports client_out port port_out fault is_client no_reports lines no_port no_packets no_fault
    = cc

all-refused-port : (p link : ℕ) (client : Option ℕ) (reports : List Message) (client_out : List LinkOut)
    (port : Option ℕ) (port_out : List LinkOut) (fault : Option PortFault)
    → client ≡ None → reports ≡ [] → client_out ≡ [] → port ≡ Some p → port_out ≡ Close link ∷ [] → fault ≡ None
    → (let b : Batch = record {
      client = client;
      reports = reports;
      client_out = client_out;
      port = port;
      port_out =
          port_out;
      fault = fault;
    } in b ≡ record empty { port = Some p; port_out = Close link ∷ [] })
all-refused-port p link client reports client_out port port_out fault no_client no_reports no_lines is_port lines
    no_fault = cc

refused-client : (s : Settings) (client link at : ℕ) (b : Batch) (v : Lists)
    → outcome s (ClientUp client link at) b v ≡ of_client client (Refused link) []
    → Gives s (ClientUp client link at) b v → b ≡ record empty { client = Some client; client_out = Close link ∷ [] }
refused-client s c link at b v is g =
    let client_out : b.client_out ≡ Close link ∷ [] = g.client_out ∙ ap (λ (o : Outcome). to_client_of s o v) is
    ∙ ap (λ (outs : List LinkOut). Close link ∷ outs) (no-client-lines s c (v.client_link c)) in
    let reports : b.reports ≡ [] = g.reports ∙ ap (λ (o : Outcome). reports_of s o v) is in
    let port_out : b.port_out ≡ [] = g.port_out ∙ ap (λ (o : Outcome). to_port_of s o v) is
    ∙ no-port-lines (v.port_link 0) in
    let fault : b.fault ≡ None = g.fault ∙ ap (λ (o : Outcome). o.fault) is in
    let client : b.client ≡ Some c = g.client ∙ named-client client_out reports in
    let port : b.port ≡ None = g.port ∙ named-port port_out fault in
    all-refused c link b.client b.reports b.client_out b.port b.port_out b.fault client reports client_out port port_out
    fault
  where
    named-client : b.client_out ≡ Close link ∷ [] → b.reports ≡ [] → (if is_for_client b then Some c else None) ≡ Some c
    named-client outs reports = rw (reports, outs) refl

    named-port : b.port_out ≡ [] → b.fault ≡ None
        → (if is_for_port b then Some (port_named s (ClientUp c link at)) else None) ≡ None
    named-port outs fault = rw (outs, fault) refl

refused-port : (s : Settings) (p link at : ℕ) (b : Batch) (v : Lists)
    → outcome s (PortUp p link at) b v ≡ of_port p (Refused link) []
    → Gives s (PortUp p link at) b v → b ≡ record empty { port = Some p; port_out = Close link ∷ [] }
refused-port s p link at b v is g =
    let client_out : b.client_out ≡ [] = g.client_out ∙ ap (λ (o : Outcome). to_client_of s o v) is
    ∙ no-client-lines s 0 (v.client_link 0) in
    let reports : b.reports ≡ [] = g.reports ∙ ap (λ (o : Outcome). reports_of s o v) is in
    let port_out : b.port_out ≡ Close link ∷ [] = g.port_out ∙ ap (λ (o : Outcome). to_port_of s o v) is
    ∙ ap (λ (outs : List LinkOut). Close link ∷ outs) (no-port-lines (v.port_link p)) in
    let fault : b.fault ≡ None = g.fault ∙ ap (λ (o : Outcome). o.fault) is in
    let client : b.client ≡ None = g.client ∙ named-client client_out reports in
    let port : b.port ≡ Some p = g.port ∙ named-port port_out in
    all-refused-port p link b.client b.reports b.client_out b.port b.port_out b.fault client reports client_out port
    port_out fault
  where
    named-client : b.client_out ≡ [] → b.reports ≡ []
        → (if is_for_client b then Some (client_named (PortUp p link at) b) else None) ≡ None
    named-client outs reports = rw (reports, outs) refl

    named-port : b.port_out ≡ Close link ∷ [] → (if is_for_port b then Some p else None) ≡ Some p
    named-port outs = rw outs refl

pub second-client : (s : Settings) (client link at current : ℕ) (b : Batch) (v : Lists) → has_client s client ≡ true
    → v.client_link client ≡ Some current
    → Gives s (ClientUp client link at) b v → b
    ≡ (if current == link then empty else record empty { client = Some client; client_out = Close link ∷ [] })
second-client s client link at current b v has is_current g = by_number (current == link) (rw (has, is_current) refl)
  where
    by_number : (is_same : Bool) → outcome s (ClientUp client link at) b v
        ≡ (if is_same then nothing else of_client client (Refused link) [])
        → b ≡ (if is_same then empty else record empty { client = Some client; client_out = Close link ∷ [] })
    by_number true is = nothing-given s (ClientUp client link at) b v is g
    by_number false is = refused-client s client link at b v is g

pub second-port : (s : Settings) (p link at current : ℕ) (b : Batch) (v : Lists) → has_port s p ≡ true
    → v.port_link p ≡ Some current
    → Gives s (PortUp p link at) b v → b ≡ (if current == link then empty else record empty
    { port = Some p; port_out = Close link ∷ [] })
second-port s p link at current b v has is_current g = by_number (current == link) (rw (has, is_current) refl)
  where
    by_number : (is_same : Bool) → outcome s (PortUp p link at) b v
        ≡ (if is_same then nothing else of_port p (Refused link) [])
        → b ≡ (if is_same then empty else record empty { port = Some p; port_out = Close link ∷ [] })
    by_number true is = nothing-given s (PortUp p link at) b v is g
    by_number false is = refused-port s p link at b v is g
