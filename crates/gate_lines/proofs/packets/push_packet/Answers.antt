use Rattle.std.proofs.Common.{sym, ap, ◌∙◌, ◌++◌, append-nil}
use Rattle.gate_lines.proofs.Whole.{shown-read, shown-unread}
use Rattle.gate_lines.proofs.packets.push_packet.Goals as goal

pub returns-in-Some : goal.returns-in-Some
returns-in-Some c = rw (shown-read c.in_ok-packet.field-0 c.in-Some.packet c.args.bytes.now c.in_ok-packet.ensures.same
    c.in-Some.is) c.push_said.ensures

pub returns-in-None : goal.returns-in-None
returns-in-None c =
    sym (ap (λ text. c.args.text.now.items ++ text)
    (shown-unread c.in_ok-packet.field-0 c.args.bytes.now c.in_ok-packet.ensures.spelled c.in-None.is)
    ∙ append-nil c.args.text.now.items)
