use Rattle.std.proofs.Common.{refl, ap, sym}
use Rattle.std.specs.Prelude.{option_map}
use Rattle.closed_world.specs.Lines.{way_seen}
use Rattle.closed_world.proofs.port_line.PortLine.lose.Goals as goal

pub returns : goal.returns
returns c = (way_seen c.in-Some.connection, ap (option_map way_seen) c.in-Some.is, refl, c.in_ok-leave.ensures)
