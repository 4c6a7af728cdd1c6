use Rattle.std.proofs.Common.{arith}
use Rattle.closed_world.proofs.Bytes.{all-bytes}
use Rattle.closed_world.proofs.port_line.are_bytes.Goals as goal

pub returns : goal.returns
returns c = all-bytes c.args.bytes.now (λ i. omega (arith, c.type_inv.bytes i))
