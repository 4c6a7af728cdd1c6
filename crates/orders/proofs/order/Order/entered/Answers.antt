use Rattle.std.proofs.Common.{rules}
use Rattle.order_machine.proofs.tokens.Digits.{printable-token}
use Rattle.orders.proofs.order.Order.entered.Goals as goal

pub invariant_of-result : goal.invariant_of-result
invariant_of-result c = (
  printable-token c.args.token c.args.token_number c.requires.token,
  (
    search rules,
    (
      search rules,
      (
        search rules,
        (search rules, (search rules, (search rules, (search rules, (search rules, (search rules, tt)))))),
      ),
    ),
  ),
)
