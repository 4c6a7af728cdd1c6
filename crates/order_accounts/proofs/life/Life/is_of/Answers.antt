use Rattle.std.proofs.Common.{sym, ap, ◌∙◌, bytes_eq}
use Rattle.order_law.specs.Life.{Life, is_of}
use Rattle.order_accounts.proofs.Lists.{list_any_map}
use Rattle.order_accounts.proofs.life.Life.is_of.Goals as goal

pub returns : goal.returns
returns c =
    c.is_one_of.ensures
    ∙ sym (list_any_map (bytes_eq c.args.token.now) (λ known. known.items) c.self.inside.tokens.items)
    ∙ ap (λ (l : Life). is_of l c.args.token.now) c.self.view_is
