-- The clients and ports of a script: how a line names them, and their numbers.
use Rattle.std.specs.Prelude.{ℕ, List, codes}
use Rattle.script_lines.specs.declared.client.Client.{Client}
use Rattle.script_lines.specs.declared.client.Client.TheVariants as client
use Rattle.script_lines.specs.declared.port.Port.{Port}
use Rattle.script_lines.specs.declared.port.Port.TheVariants as port

abbrev pub name_of_client : Client → List ℕ
name_of_client client.First = codes "C1"
name_of_client client.Second = codes "C2"
name_of_client client.Third = codes "C3"

-- by which the core knows a client
abbrev pub client_number : Client → ℕ
client_number client.First = 1
client_number client.Second = 2
client_number client.Third = 3

-- its place among all three
abbrev pub client_index : Client → ℕ
client_index client.First = 0
client_index client.Second = 1
client_index client.Third = 2

abbrev pub port_name : Port → List ℕ
port_name port.First = codes "P1"
port_name port.Second = codes "P2"

-- by which the core knows a port
abbrev pub port_number : Port → ℕ
port_number port.First = 1
port_number port.Second = 2

-- its place among both
abbrev pub port_index : Port → ℕ
port_index port.First = 0
port_index port.Second = 1

-- whose orders go where: the first two clients' by the first port, the third's by the second
abbrev pub port_of_client : Client → Port
port_of_client client.First = port.First
port_of_client client.Second = port.First
port_of_client client.Third = port.Second
