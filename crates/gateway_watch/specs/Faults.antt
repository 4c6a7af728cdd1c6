-- Why a port is faulted, for an operator.
use Rattle.std.specs.Prelude.{ℕ, List, codes}
use Rattle.desk_steps.specs.gate_core.soup_session.declared.port_fault.PortFault.{PortFault}
use Rattle.desk_steps.specs.gate_core.soup_session.declared.port_fault.PortFault.TheVariants.{StrangePacket}
use Rattle.desk_steps.specs.gate_core.soup_session.declared.port_fault.PortFault.TheVariants.{UnknownToken}
use Rattle.desk_steps.specs.gate_core.soup_session.declared.port_fault.PortFault.TheVariants.{NotLawful, OutsideProfile}
use Rattle.desk_steps.specs.gate_core.soup_session.declared.port_fault.PortFault.TheVariants.{SequenceGap, OtherSession}

abbrev pub fault_name : PortFault → List ℕ
fault_name StrangePacket = codes "a packet or payload that can't be read"
fault_name UnknownToken = codes "a token that no order of this port has"
fault_name NotLawful = codes "a message that its order doesn't allow"
fault_name OutsideProfile = codes "a message outside the profile"
fault_name SequenceGap = codes "a login with a number above the next one"
fault_name OtherSession = codes "a login of another session"
