use Rattle.std.proofs.Common.{rules, refl}
use Rattle.ouch_codec.specs.declared.inbound.cancel.Cancel.{Cancel}
use Rattle.to_market.proofs.RequestBytes.{says_cancel}
use Rattle.to_market.proofs.requests.say_cancel.Goals as goal

pub returns-clause-says : goal.returns-clause-says
returns-clause-says c =
    let message : Cancel = record {
      token = c.args.token.now;
      shares = 0;
      token_set = search rules;
      shares_set = search rules;
    } in
    λ m kind order standing order_of leads. says_cancel message m order standing order_of refl kind leads
