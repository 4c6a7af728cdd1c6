use Rattle.link_decoders.proofs.port_packets.has_no_packet.Goals as goal

pub returns : goal.returns
returns c = λ idle stream passed fed. (fed, c.is_idle.ensures.all idle stream passed fed)
