use Rattle.undo_index.proofs.Standing.{covered-settled}
use Rattle.order_table.specs.Keys.{has_token_key}
use Rattle.tokens.specs.TokenKeys.{same_token_key}
use Rattle.order_table.proofs.Replaces.{replaces-same}
use Rattle.order_table.proofs.token_list.TokenList.settle.Goals as goal

pub invariant_of-self : goal.invariant_of-self
invariant_of-self c = (
  covered-settled same_token_key has_token_key c.self.inside.texts c.self.inside.tokens c.settle.new.self
      c.settle.ensures.now c.settle.ensures.settled c.self.invariant.0,
  replaces-same c.settle-2.ensures.now c.settle.ensures.now c.self.invariant.1,
  replaces-same c.settle-2.ensures.settled c.settle.ensures.settled c.self.invariant.1,
)
