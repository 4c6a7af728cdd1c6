use Rattle.std.proofs.Common.{◌≡◌, List, reverse, sym, subst}
use Rattle.std.specs.Prelude.{None, MatchOption}
use Rattle.std.specs.List.{find}
use Rattle.undo_index.specs.Newest.{IsNewest}
use Rattle.undo_index.specs.Undoing.{Undoable}
use Rattle.undo_index.proofs.Standing.{led-by}
use Rattle.undo_index.specs.Hints.{LedBy, hint_of}
use Rattle.order_machine.specs.Table.{GivenToken, is_token}
use Rattle.tokens.specs.declared.token_key.TokenKey.{TokenKey}
use Rattle.order_table.specs.Keys.{has_token_key}
use Rattle.tokens.specs.TokenKeys.{same_token_key, token_key}
use Rattle.order_table.proofs.Named.{token-key}
use Rattle.order_table.proofs.token_list.TokenList.token_place.Goals as goal

pub place_of-requires : goal.place_of-requires
place_of-requires c =
    subst (λ (xs : List GivenToken). LedBy (hint_of same_token_key c.self.inside.texts c.of-key.result)
    (is_token c.args.port c.args.token.now) xs) (sym c.as_slice.ensures)
    (subst (λ (k : TokenKey). LedBy (hint_of same_token_key c.self.inside.texts k)
    (is_token c.args.port c.args.token.now) c.self.inside.tokens.now) (sym c.of-key.ensures)
    (led-by same_token_key has_token_key c.self.inside.texts c.self.inside.tokens.now
    (token_key c.args.port c.args.token.now) (is_token c.args.port c.args.token.now) c.self.invariant.0.now
    (token-key c.args.port c.args.token.now)))

pub returns : goal.returns
returns c =
    subst (λ (u : Undoable GivenToken). MatchOption c.place_of.result
    (find (is_token c.args.port c.args.token.now) (reverse u.now) ≡ None)
    (λ place. IsNewest (is_token c.args.port c.args.token.now) u.now place)) c.self.view_is
    (subst (λ (xs : List GivenToken). MatchOption c.place_of.result
    (find (is_token c.args.port c.args.token.now) (reverse xs) ≡ None)
    (λ place. IsNewest (is_token c.args.port c.args.token.now) xs place)) c.as_slice.ensures c.place_of.ensures)
