use Rattle.std.proofs.Common.{rules}
use Rattle.std.specs.Prelude.{bytes_eq, not}
use Rattle.std.proofs.lemmas.Fn.{filter_same}
use Rattle.orders.proofs.answering.retain_other.Goals as goal

pub returns : goal.returns
returns c = filter_same _ (λ other. not (bytes_eq c.args.token.now other)) _
    (λ x b f k. search rules) _ _ c.retain.ensures.filtered
