use Rattle.std.proofs.Common.{◌≡◌, suc, length, rules, arith, ap}
use Rattle.std.proofs.lemmas.Grind.{common_steps}
use Rattle.order_machine.proofs.tokens.Digits.{printable-token}
use Rattle.orders.proofs.order.Order.replace_by.Goals as goal

pub invariant_of-self-inside-in-Some : goal.invariant_of-self-inside-in-Some
invariant_of-self-inside-in-Some c =
    let r = c.in-Some.replacing in
    let shorter : length c.self.inside.replaces ≡ suc (length c.take_first.new.self) = ap length c.in-Some.ensures in
    let few = c.self.inside.few in
    let within = c.self.inside.replaces_set in
    let tokens = c.replaced-self-inside.ensures.tokens in (
      printable-token r.token r.token_number r.text_set,
      (
        search rules,
        (
          grind (arith, common_steps),
          (
            search rules,
            (
              search rules,
              (
                search rules,
                (
                  search rules,
                  (
                    search rules,
                    (
                      omega (arith, shorter, within, tokens),
                      (omega (arith, shorter, few), tt),
                    ),
                  ),
                ),
              ),
            ),
          ),
        ),
      ),
    )
