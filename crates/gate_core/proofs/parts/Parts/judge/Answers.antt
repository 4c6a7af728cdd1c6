use Rattle.std.proofs.Common.{◌≡◌, ◌+◌, ℕ, true, map, refl}
use Rattle.fix_types.specs.Application.{body_fields}
use Rattle.order_core.specs.Seen.{client_seen}
use Rattle.gate_law.specs.Settings.{terms}
use Rattle.gate_core.proofs.Judging.{judged}
use Rattle.gate_law.proofs.Clients.{told-none, told-some}
use Rattle.gate_core.proofs.parts.Parts.judge.Goals as goal

pub returns-in-Ok-clause-turn : goal.returns-in-Ok-clause-turn
returns-in-Ok-clause-turn g c s v few parts =
    judged s (c.args.place + 1) (client_seen c.in-Ok.out.client) c.args.payload.now
    (map body_fields c.in-Ok.out.bodies.items) v c.args.self.now _
    told-none (λ ts is_ours. told-some ts (λ (client : ℕ). is_ours client ≡ true)) parts
    (c.in-Ok.ensures.after (terms s) v.turns few parts.orders)
    (c.in-Ok.ensures.headline (terms s) v.turns few parts.orders)
    refl refl refl c.addressee.result c.addressee.ensures.known c.addressee.ensures.place
