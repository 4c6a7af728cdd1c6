use Rattle.std.proofs.Common.{◌≤◌, ◌+◌, ◌∷◌, subst, sym}
use Rattle.soup_session.specs.Table.{OnPacket}
use Rattle.soup_session.specs.Calls.{CallsLeave, PortHeld}
use Rattle.soup_session.proofs.Kept.{leaves_more, answers_call}
use Rattle.soup_session.proofs.Delivers.{delivers_each_once}
use Rattle.soup_session.proofs.Grows.{next_grows}
use Rattle.soup_session.proofs.session.PortSession.on_packet.Goals as goal

pub returns-clause-leaves : goal.returns-clause-leaves
returns-clause-leaves c = λ terms before l.
    rw c.take.ensures.port (leaves_more terms before c.self.inside.port
    (OnPacket c.args.packet.now c.args.at) c.on_packet-answered.result c.on_packet-answered.ensures
    (subst (λ (h : PortHeld). CallsLeave terms before h.port) (sym c.self.view_is) l))

pub returns-clause-answers : goal.returns-clause-answers
returns-clause-answers c = λ terms before l.
    answers_call terms before c.self.inside.port
    (OnPacket c.args.packet.now c.args.at) c.on_packet-answered.result c.take.result c.on_packet-answered.ensures
    c.take.ensures.out c.take.ensures.delivered
    (subst (λ (h : PortHeld). CallsLeave terms before h.port) (sym c.self.view_is) l)

pub returns-clause-delivered : goal.returns-clause-delivered
returns-clause-delivered c = λ terms before l.
    delivers_each_once terms (OnPacket c.args.packet.now c.args.at ∷ before) c.on_packet-answered.result.port
    (leaves_more terms before c.self.inside.port
    (OnPacket c.args.packet.now c.args.at) c.on_packet-answered.result c.on_packet-answered.ensures
    (subst (λ (h : PortHeld). CallsLeave terms before h.port) (sym c.self.view_is) l))

pub returns-clause-next : goal.returns-clause-next
returns-clause-next c =
    let grown = next_grows c.self.inside.port c.args.packet.now c.args.at c.on_packet-answered.result
    c.on_packet-answered.ensures in
    rw c.take.ensures.port (subst (λ (h : PortHeld). c.on_packet-answered.result.port.next ≤ h.port.next + 1)
    c.self.view_is grown)
