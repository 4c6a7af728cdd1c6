-- The tokens that an order has had: those that its replaces asked for, and its own.
use Rattle.std.proofs.Common.{◌≡◌, ℕ, Bool, true, false, List, [], ◌∷◌, refl, ap, ◌∙◌, bytes_eq}
use Rattle.std.specs.Prelude.{◌||◌}
use Rattle.std.specs.List.{list_any}
use Rattle.ouch_codec.specs.declared.inbound.enter_order.EnterOrder.{EnterOrder}
use Rattle.ouch_codec.specs.declared.inbound.replace.Replace.{Replace}
use Rattle.market_law.specs.Machine.{tokens_by}
use Rattle.market_book.specs.Tokens.{asks_for}

or-false : (b : Bool) → (b || false) ≡ b
or-false true = refl
or-false false = refl

or-or : (a b c : Bool) → (a || (b || c)) ≡ ((a || b) || c)
or-or true b c = refl
or-or false b c = refl

pub had-any : (token : List ℕ) (order : EnterOrder) (rs : List Replace)
    → list_any (bytes_eq token) (tokens_by order rs) ≡ (list_any (asks_for token) rs || bytes_eq token order.token)
had-any token order [] = or-false (bytes_eq token order.token)
had-any token order (r ∷ rs) =
    ap (λ (b : Bool). asks_for token r || b) (had-any token order rs)
    ∙ or-or (asks_for token r) (list_any (asks_for token) rs) (bytes_eq token order.token)
