use Rattle.undo_index.proofs.Standing.{covered-undone}
use Rattle.order_table.specs.Keys.{has_token_key}
use Rattle.tokens.specs.TokenKeys.{same_token_key}
use Rattle.order_table.proofs.Replaces.{replaces-same}
use Rattle.order_table.proofs.token_list.TokenList.undo.Goals as goal

pub invariant_of-self : goal.invariant_of-self
invariant_of-self c = (
  covered-undone same_token_key has_token_key c.self.inside.texts c.self.inside.tokens c.undo.new.self
      c.undo.ensures.now c.undo.ensures.settled c.self.invariant.0,
  replaces-same c.undo-2.ensures.now c.undo.ensures.now c.self.invariant.2,
  replaces-same c.undo-2.ensures.settled c.undo.ensures.settled c.self.invariant.2,
)
