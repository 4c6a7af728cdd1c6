-- A packet that a port's session hears once more: the message that it delivers is the newest that was handled.
use Rattle.std.proofs.Common.{◌≡◌, ℕ, List, ◌++◌, reverse, Option, Some, None, refl, sym, ap, ◌∙◌}
use Rattle.std.specs.Prelude.{if◌then◌else◌, option_to_list}
use Rattle.std.proofs.lemmas.List.{reverse-append}
use Rattle.order_accounts.specs.ouch_codec.declared.outbound.Outbound.{Outbound}
use Rattle.soup_packets.specs.declared.packet.Packet.{Packet}
use Rattle.gate_core.specs.soup_session.declared.port_fault.PortFault.{PortFault}
use Rattle.gate_core.specs.soup_session.declared.port_turn.PortTurn.{PortTurn}
use Rattle.gate_core.specs.soup_session.Table.{LoginTerms, PortCall, OnPacket, answer}
use Rattle.gate_core.specs.soup_session.Calls.{IsAnswer}
use Rattle.gate_core.proofs.soup_session.Brought.{delivered-is}
use Rattle.gate_audit.specs.Again.{and_handled, message_of}

one-reversed : (m : Option Outbound) → option_to_list m ≡ reverse (option_to_list m)
one-reversed None = refl
one-reversed (Some message) = refl

pub heard-more : (terms : LoginTerms) (calls : List PortCall) (packet : Packet) (fault : Option PortFault)
    (turn : PortTurn) (m : Option Outbound) (earlier before after : List Outbound)
    → IsAnswer (answer terms calls (OnPacket packet 0)) turn
    → m ≡ message_of (if turn.is_delivered then Some packet.payload else None) fault
    → before ≡ reverse earlier → after ≡ before ++ option_to_list m
    → after ≡ reverse (and_handled (answer terms calls (OnPacket packet 0)).payload fault earlier)
heard-more terms calls packet fault turn m earlier before after is m_is before_is after_is =
    after_is
    ∙ ap (λ (ms : List Outbound). ms ++ option_to_list m) before_is
    ∙ ap (λ (ms : List Outbound). reverse earlier ++ ms) (one-reversed m)
    ∙ sym (reverse-append (option_to_list m) earlier)
    ∙ ap (λ (x : Option Outbound). reverse (option_to_list x ++ earlier)) m_is
    ∙ ap (λ (p : Option (List ℕ)). reverse (and_handled p fault earlier))
    (sym (delivered-is terms calls packet 0 turn is))
