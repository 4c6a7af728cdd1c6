use Rattle.std.proofs.Common.{sym}
use Rattle.link_decoders.proofs.Packeting.{makes_packet}
use Rattle.link_decoders.proofs.port_packets.PortPacketsDecoder.make.Goals as goal

pub returns-clause-makes : goal.returns-clause-makes
returns-clause-makes c =
    makes_packet c.args.self.now (record {
      port = c.self.inside.port;
      link = c.self.inside.link;
      packets =
          c.self.inside.packets;
    }) c.args.at c.next_packet.new.packets
    c.in-Some.packet (rw c.in-Some.is at c.in_ok-packet.ensures) (sym c.self.view_is)
