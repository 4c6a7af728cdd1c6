use Rattle.std.proofs.Common.{◌∷◌, sym, ap, ◌∙◌}
use Rattle.std.specs.Prelude.{not, option_to_list}
use Rattle.to_client.proofs.Answered.{before-shows, rest-shows}
use Rattle.to_client.proofs.Rejects.{some-behind}
use Rattle.market_messages.proofs.replaced.renamed.Goals as goal

pub returns : goal.returns
returns c = λ pending q qs cancel s shows is same asks.
    let some = some-behind c.args.others.now qs same is.are_replaces.1 ∙ ap not (sym c.is_empty.ensures) in
    let r = before-shows c.args.shown.now s qs (option_to_list cancel) (not c.is_empty.result) is.are_replaces.1 some
    (rest-shows c.args.shown.now pending (q ∷ qs) cancel s shows is) in
    record {
      order = r.order;
      id = asks.id;
      symbol = r.symbol;
      side = r.side;
      total = r.total;
      price = r.price;
      leaves = r.leaves;
      executed = r.executed;
      value = r.value;
      stage = r.stage;
      is_refused = r.is_refused;
      cancel = r.cancel;
      replace = r.replace;
    }
