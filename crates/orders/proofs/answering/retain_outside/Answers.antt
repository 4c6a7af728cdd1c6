use Rattle.std.proofs.Common.{rules}
use Rattle.std.specs.Prelude.{not}
use Rattle.std.proofs.lemmas.Fn.{filter_same}
use Rattle.orders.specs.Seen.{has_token}
use Rattle.orders.proofs.answering.retain_outside.Goals as goal

pub returns : goal.returns
returns c = filter_same _ (λ token. not (has_token c.args.replaces.now token)) _
    (λ x b f k. search rules) _ _ c.retain.ensures.filtered
