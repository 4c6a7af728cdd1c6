-- What a line of a script says.
use Rattle.std.specs.Prelude.{◌≡◌, ℕ, List, [], ◌∷◌, ◌++◌, drop, codes, Some}
use Rattle.fix_fields.specs.Field.{Field}
use Rattle.fix_fields.specs.Reading.{fields_of}
use Rattle.script_lines.specs.declared.client.Client.{Client}
use Rattle.script_lines.specs.declared.port.Port.{Port}
use Rattle.script_lines.specs.Words.{number_in, words_of}
use Rattle.script_lines.specs.Names.{name_of_client, port_name}
use Rattle.script_lines.specs.Bars.{soh_for_bars, with_soh}
use Rattle.script_lines.specs.Market.{SaysMarket}
use Rattle.script_lines.specs.declared.line.Line.{Line}
use Rattle.script_lines.specs.declared.line.Line.TheVariants as line
use Rattle.script_lines.specs.Hexadecimal.{bytes_in}
use Rattle.script_lines.specs.Login.{SaysLogin}

-- `N` of `at N`
abbrev pub SaysMoment : List ℕ → Line → Type 0
SaysMoment rest (line.At moment) = moment ≡ number_in rest
SaysMoment rest other = ⊥

-- ---- a client's lines, behind its name

-- what stands behind `msg `: all fields as they are given
abbrev pub SaysFields : List ℕ → List Field → Type 0
SaysFields text fields = fields_of (with_soh text) ≡ Some fields

abbrev pub SaysClient : Client → List ℕ → Line → Type 0
SaysClient client rest (line.ClientUp by) = (by ≡ client) × (rest ≡ codes "up")
SaysClient client rest (line.ClientGone by) = (by ≡ client) × (rest ≡ codes "gone")
SaysClient client rest (line.ClientTick by) = (by ≡ client) × (rest ≡ codes "tick")
SaysClient client rest (line.ClientMessage by fields) =
    (by ≡ client) × (rest ≡ codes "msg " ++ drop 4 rest) × SaysFields (drop 4 rest) fields
SaysClient client rest (line.ClientBytes by bytes) =
    (by ≡ client) × (rest ≡ codes "raw " ++ drop 4 rest) × (bytes.items ≡ soh_for_bars (drop 4 rest))
SaysClient client rest other = ⊥

-- ---- a port's lines, behind its name

abbrev pub SaysPort : Port → List ℕ → Line → Type 0
SaysPort port rest (line.PortUp at) = (at ≡ port) × (rest ≡ codes "up")
SaysPort port rest (line.PortGone at) = (at ≡ port) × (rest ≡ codes "gone")
SaysPort port rest (line.PortTick at) = (at ≡ port) × (rest ≡ codes "tick")
SaysPort port rest (line.PortEnd at) = (at ≡ port) × (rest ≡ codes "end")
SaysPort port rest (line.PortLogin at session number) =
    (at ≡ port) × (rest ≡ codes "login " ++ drop 6 rest) × SaysLogin (words_of (drop 6 rest)) session number
SaysPort port rest (line.PortBytes at bytes) =
    (at ≡ port) × (rest ≡ codes "pkt " ++ drop 4 rest) × (bytes.items ≡ bytes_in (drop 4 rest))
SaysPort port rest (line.Market at m) = (at ≡ port) × SaysMarket (words_of rest) m
SaysPort port rest other = ⊥

-- ---- all lines

-- a client's name, a space, and what is said behind it
abbrev pub OfClient : Client → List ℕ → Line → Type 0
OfClient client text said = (text ≡ name_of_client client ++ 32 ∷ drop 3 text) × SaysClient client (drop 3 text) said

-- a port's name, a space, and what is said behind it
abbrev pub OfPort : Port → List ℕ → Line → Type 0
OfPort port text said = (text ≡ port_name port ++ 32 ∷ drop 3 text) × SaysPort port (drop 3 text) said

abbrev pub SaysLine : List ℕ → Line → Type 0
SaysLine text line.Empty = text ≡ []
SaysLine text (line.At moment) = (text ≡ codes "at " ++ drop 3 text) × SaysMoment (drop 3 text) (line.At moment)
SaysLine text (line.ClientUp client) = OfClient client text (line.ClientUp client)
SaysLine text (line.ClientGone client) = OfClient client text (line.ClientGone client)
SaysLine text (line.ClientTick client) = OfClient client text (line.ClientTick client)
SaysLine text (line.ClientMessage client fields) = OfClient client text (line.ClientMessage client fields)
SaysLine text (line.ClientBytes client bytes) = OfClient client text (line.ClientBytes client bytes)
SaysLine text (line.PortUp port) = OfPort port text (line.PortUp port)
SaysLine text (line.PortGone port) = OfPort port text (line.PortGone port)
SaysLine text (line.PortTick port) = OfPort port text (line.PortTick port)
SaysLine text (line.PortEnd port) = OfPort port text (line.PortEnd port)
SaysLine text (line.PortLogin port session number) = OfPort port text (line.PortLogin port session number)
SaysLine text (line.PortBytes port bytes) = OfPort port text (line.PortBytes port bytes)
SaysLine text (line.Market port m) = OfPort port text (line.Market port m)
