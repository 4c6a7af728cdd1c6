-- How a port's state is seen by the law.
use Rattle.order_law.specs.Verdicts.{Port, Down, Up, Ended, Faulted}
use Rattle.to_market.specs.declared.port_state.PortState.{PortState}
use Rattle.to_market.specs.declared.port_state.PortState.TheVariants as states

abbrev pub port_seen : PortState → Port
port_seen states.Waiting = Down
port_seen states.Up = Up
port_seen states.Ended = Ended
port_seen (states.Faulted n) = Faulted n
