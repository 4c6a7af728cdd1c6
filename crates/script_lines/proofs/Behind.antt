-- What stands behind a name, as a whole line.
use Rattle.std.proofs.Common.{◌≡◌, ◌∙◌, ℕ, List, ◌∷◌, ◌++◌, drop, ap, Result, Ok, Err}
use Rattle.std.specs.Prelude.{IfOk}
use Rattle.script_lines.specs.declared.client.Client.{Client}
use Rattle.script_lines.specs.declared.port.Port.{Port}
use Rattle.script_lines.specs.declared.fault.LineFault.{LineFault}
use Rattle.script_lines.specs.Names.{name_of_client, port_name}
use Rattle.script_lines.specs.declared.line.Line.{Line}
use Rattle.script_lines.specs.declared.line.Line.TheVariants as line
use Rattle.script_lines.specs.Lines.{SaysLine, SaysClient, SaysPort, OfClient, OfPort}

of_client :
    (client by : Client) (text rest : List ℕ) (said : Line) → text ≡ name_of_client client ++ 32 ∷ rest
    → rest ≡ drop 3 text → by ≡ client → SaysClient client rest said → OfClient by text said
of_client client by text rest said whole behind whose says =
    rw whose ((whole ∙ ap (λ back. name_of_client client ++ 32 ∷ back) behind), rw behind at says)

-- a client's line
pub client_said :
    (client : Client) (text rest : List ℕ) (r : Result Line LineFault) → text ≡ name_of_client client ++ 32 ∷ rest
    → rest ≡ drop 3 text → IfOk r (SaysClient client rest) → IfOk r (SaysLine text)
client_said client text rest (Err fault) whole behind said = tt
client_said client text rest (Ok line.Empty) whole behind said = absurd said
client_said client text rest (Ok (line.At moment)) whole behind said = absurd said
client_said client text rest (Ok (line.ClientUp by)) whole behind said =
    of_client client by text rest (line.ClientUp by) whole behind said.0 said
client_said client text rest (Ok (line.ClientGone by)) whole behind said =
    of_client client by text rest (line.ClientGone by) whole behind said.0 said
client_said client text rest (Ok (line.ClientTick by)) whole behind said =
    of_client client by text rest (line.ClientTick by) whole behind said.0 said
client_said client text rest (Ok (line.ClientMessage by fields)) whole behind said =
    of_client client by text rest (line.ClientMessage by fields) whole behind said.0 said
client_said client text rest (Ok (line.ClientBytes by bytes)) whole behind said =
    of_client client by text rest (line.ClientBytes by bytes) whole behind said.0 said
client_said client text rest (Ok (line.PortUp port)) whole behind said = absurd said
client_said client text rest (Ok (line.PortGone port)) whole behind said = absurd said
client_said client text rest (Ok (line.PortTick port)) whole behind said = absurd said
client_said client text rest (Ok (line.PortEnd port)) whole behind said = absurd said
client_said client text rest (Ok (line.PortLogin port session number)) whole behind said = absurd said
client_said client text rest (Ok (line.PortBytes port bytes)) whole behind said = absurd said
client_said client text rest (Ok (line.Market port m)) whole behind said = absurd said

of_port :
    (port by : Port) (text rest : List ℕ) (said : Line) → text ≡ port_name port ++ 32 ∷ rest → rest ≡ drop 3 text
    → by ≡ port → SaysPort port rest said → OfPort by text said
of_port port by text rest said whole behind whose says =
    rw whose ((whole ∙ ap (λ back. port_name port ++ 32 ∷ back) behind), rw behind at says)

-- a port's line
pub port_said :
    (port : Port) (text rest : List ℕ) (r : Result Line LineFault) → text ≡ port_name port ++ 32 ∷ rest
    → rest ≡ drop 3 text → IfOk r (SaysPort port rest) → IfOk r (SaysLine text)
port_said port text rest (Err fault) whole behind said = tt
port_said port text rest (Ok line.Empty) whole behind said = absurd said
port_said port text rest (Ok (line.At moment)) whole behind said = absurd said
port_said port text rest (Ok (line.ClientUp client)) whole behind said = absurd said
port_said port text rest (Ok (line.ClientGone client)) whole behind said = absurd said
port_said port text rest (Ok (line.ClientTick client)) whole behind said = absurd said
port_said port text rest (Ok (line.ClientMessage client fields)) whole behind said = absurd said
port_said port text rest (Ok (line.ClientBytes client bytes)) whole behind said = absurd said
port_said port text rest (Ok (line.PortUp by)) whole behind said =
    of_port port by text rest (line.PortUp by) whole behind said.0 said
port_said port text rest (Ok (line.PortGone by)) whole behind said =
    of_port port by text rest (line.PortGone by) whole behind said.0 said
port_said port text rest (Ok (line.PortTick by)) whole behind said =
    of_port port by text rest (line.PortTick by) whole behind said.0 said
port_said port text rest (Ok (line.PortEnd by)) whole behind said =
    of_port port by text rest (line.PortEnd by) whole behind said.0 said
port_said port text rest (Ok (line.PortLogin by session number)) whole behind said =
    of_port port by text rest (line.PortLogin by session number) whole behind said.0 said
port_said port text rest (Ok (line.PortBytes by bytes)) whole behind said =
    of_port port by text rest (line.PortBytes by bytes) whole behind said.0 said
port_said port text rest (Ok (line.Market by m)) whole behind said =
    of_port port by text rest (line.Market by m) whole behind said.0 said
