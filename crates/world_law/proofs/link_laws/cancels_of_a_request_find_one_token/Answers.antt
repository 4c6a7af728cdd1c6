use Rattle.world_law.proofs.Finding.{find-one}
use Rattle.world_law.proofs.link_laws.cancels_of_a_request_find_one_token.Goals as goal

pub returns : goal.returns
returns c s steps w served leads holds run p =
    find-one s served steps w leads (record { run = holds.run; asks = holds.asks; orders = holds.orders; table = run })
    p
