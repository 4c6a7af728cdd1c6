-- The faults of a port, by their numbers. (They are this gateway's own.)
use Rattle.std.specs.Prelude.{ℕ}
use Rattle.soup_session.specs.declared.port_fault.PortFault.{PortFault}
use Rattle.soup_session.specs.declared.port_fault.PortFault.TheVariants.{StrangePacket, UnknownToken, NotLawful}
use Rattle.soup_session.specs.declared.port_fault.PortFault.TheVariants.{OutsideProfile, SequenceGap, OtherSession}

abbrev pub fault_number : PortFault → ℕ
fault_number StrangePacket = 1
fault_number UnknownToken = 2
fault_number NotLawful = 3
fault_number OutsideProfile = 4
fault_number SequenceGap = 5
fault_number OtherSession = 6
