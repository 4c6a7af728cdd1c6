use Rattle.std.proofs.Common.{rules, ◌≡◌, ◌≤◌, Bool, true, ap, ◌∙◌}
use Rattle.orders.specs.Changes.{changed_by}
use Rattle.orders.specs.declared.change.Change.{Change}
use Rattle.orders.specs.declared.change.Change.TheVariants as changes
use Rattle.ouch_codec.specs.declared.outbound.Outbound.TheVariants as market
use Rattle.market_messages.specs.Meets.{is_lawful}
use Rattle.market_messages.proofs.ReplacedRow.{replace-works, replaced-is}
use Rattle.market_messages.proofs.replaced.on_replaced.Goals as goal

pub returns-then-not-may_replace : goal.returns-then-not-may_replace
returns-then-not-may_replace c =
    (search rules)

pub returns : goal.returns
returns c =
    let may : is_lawful (market.Replaced c.args.message.now) c.args.order.now ≡ true = (search rules) in
    let few : c.args.message.now.shares ≤ 999_999 = (search rules) in
    record {
      lawful = may;
      told = c.in_ok-tell_replaced.ensures.told;
      now = ap (λ (x : Change). changed_by x c.args.order.now) c.replaced_by.ensures
          ∙ ap (λ (x : Bool). changed_by (changes.Replaced c.args.message.now.shares c.args.message.now.price x)
          c.args.order.now) c.is_dead.ensures
          ∙ replaced-is c.args.issued c.args.message.now c.args.order.now may;
      fits = rw c.replaced_by.ensures (replace-works c.args.message.now c.args.order.now may, few);
    }
