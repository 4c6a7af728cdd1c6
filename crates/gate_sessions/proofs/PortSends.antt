-- One more message after several, on the port's line of one number, as its link is told it.
use Rattle.std.proofs.Common.{◌≡◌, ℕ, ◌<◌, ◌+◌, List, [], ◌∷◌, ◌++◌, length, take, get_or, map, Option, Some, None}
use Rattle.std.proofs.Common.{refl, sym, ap, ◌∙◌}
use Rattle.std.proofs.Common.{append-nil, append_assoc}
use Rattle.std.proofs.lemmas.List.{map-append, take_more}
use Rattle.gate_law.specs.order_law.ouch_codec.declared.inbound.Inbound.{Inbound}
use Rattle.gate_law.specs.order_law.ouch_codec.Inbound.{inbound_bytes}
use Rattle.gate_law.specs.soup_session.declared.port_turn.PortOut.{PortOut}
use Rattle.gate_law.specs.soup_session.Table.{PortCall, Send}
use Rattle.gate_law.specs.Events.{LinkOut}
use Rattle.gate_law.specs.Settings.{Settings}
use Rattle.gate_law.specs.Sessions.{port_answer, port_line, port_outs, sends, to_port}
use Rattle.gate_sessions.specs.Lines.{called_all}
use Rattle.gate_sessions.proofs.Several.{called-all-here, onto}

pub port-on-append : (link : Option ℕ) (xs ys : List PortOut)
    → to_port link (xs ++ ys) ≡ to_port link xs ++ to_port link ys
port-on-append None xs ys = refl
port-on-append (Some link) xs ys = map-append (port_line link) xs ys

pub port-on-nothing : (link : Option ℕ) → to_port link [] ≡ []
port-on-nothing None = refl
port-on-nothing (Some link) = refl

port-outs-more : (s : Settings) (n : ℕ) (before calls : List PortCall) (call : PortCall)
    → port_outs s n before (calls ++ call ∷ [])
    ≡ port_outs s n before calls ++ (port_answer s n (onto calls before) call).outs
port-outs-more s n before [] call = append-nil (port_answer s n before call).outs
port-outs-more s n before (c ∷ calls) call =
    ap (λ (outs : List PortOut). (port_answer s n before c).outs ++ outs) (port-outs-more s n (c ∷ before) calls call)
    ∙ sym (append_assoc (port_answer s n before c).outs (port_outs s n (c ∷ before) calls)
    (port_answer s n (onto calls (c ∷ before)) call).outs)

-- what the link is told, with one call more
pub outs-more : (s : Settings) (n : ℕ) (link : Option ℕ) (before : ℕ → List PortCall) (calls : List PortCall)
    (call : PortCall) (old new : List LinkOut)
    → old ≡ to_port link (port_outs s n (before n) calls)
    → new ≡ old ++ to_port link (port_answer s n (called_all n calls before n) call).outs
    → new ≡ to_port link (port_outs s n (before n) (calls ++ call ∷ []))
outs-more s n link before calls call old new old_is new_is =
    new_is
    ∙ ap (λ (is : List LinkOut). is ++ to_port link (port_answer s n (called_all n calls before n) call).outs) old_is
    ∙ ap (λ (so_far : List PortCall). to_port link (port_outs s n (before n) calls)
    ++ to_port link (port_answer s n so_far call).outs) (called-all-here n calls before)
    ∙ sym (port-on-append link (port_outs s n (before n) calls) (port_answer s n (onto calls (before n)) call).outs)
    ∙ ap (to_port link) (sym (port-outs-more s n (before n) calls call))

-- the calls that send messages, up to one more
pub sends-more : (at : ℕ) (messages : List Inbound) (i : ℕ) (message : Inbound) → i < length messages
    → message ≡ get_or messages i message
    → sends at (map inbound_bytes (take (i + 1) messages))
    ≡ sends at (map inbound_bytes (take i messages)) ++ Send (inbound_bytes message) at ∷ []
sends-more at messages i message lt is =
    let before = take i messages in
    ap (λ (ms : List Inbound). sends at (map inbound_bytes ms)) (take_more messages i message lt)
    ∙ ap (λ (m : Inbound). sends at (map inbound_bytes (before ++ m ∷ []))) (sym is)
    ∙ ap (sends at) (map-append inbound_bytes before (message ∷ []))
    ∙ map-append (λ (m : List ℕ). Send m at) (map inbound_bytes before) (inbound_bytes message ∷ [])
