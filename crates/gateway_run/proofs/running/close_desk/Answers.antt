use Rattle.std.proofs.Common.{◌≡◌, Some, slice_get, subst, sym}
use Rattle.gateway_run.proofs.running.close_desk.Goals as goal

pub returns-in-Ok-clause-settled : goal.returns-in-Ok-clause-settled
returns-in-Ok-clause-settled g c i f at =
    c.in-Ok.ensures.settled i f (subst (λ ends. slice_get ends i ≡ Some f) (sym c.loop.invariant) at)
