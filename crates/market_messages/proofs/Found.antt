-- What is looked up in a table, and what is put back.
use Rattle.std.proofs.Common.{◌≡◌, ℕ, Bool, true, false, List, [], ◌∷◌, sym, ap, ◌∙◌, subst, Option, Some, None}
use Rattle.std.specs.Prelude.{if◌then◌else◌, option_and_then}
use Rattle.std.specs.List.{find}
use Rattle.order_machine.specs.OrderRecord.{OrderRecord}
use Rattle.order_machine.specs.Table.{GivenToken, TableState, by_number, record_by_token, has_number, is_token, put}
use Rattle.order_machine.proofs.Lists.{found-passes}
use Rattle.order_machine.proofs.Texts.{eq-is}
use Rattle.order_table.specs.Held.{Held, found}

-- a state looks tokens up in its table
pub by_token-held : (s : TableState) (h : Held) (port : ℕ) (token : List ℕ) → s.orders ≡ h.orders → s.tokens ≡ h.tokens
    → record_by_token s port token ≡ found h port token
by_token-held s h port token same_orders same_tokens =
    ap (λ (os : List OrderRecord). option_and_then (λ (g : GivenToken). find (has_number g.order) os)
    (find (is_token port token) s.tokens)) same_orders
    ∙ ap (λ (gs : List GivenToken). option_and_then (λ (g : GivenToken). find (has_number g.order) h.orders)
    (find (is_token port token) gs)) same_tokens

-- what a token leads to is found by its OrderID
pub found-by_number : (s : TableState) (port : ℕ) (token : List ℕ) (o : OrderRecord)
    → record_by_token s port token ≡ Some o → by_number s o.new.order ≡ Some o
found-by_number s port token o e = by_given (find (is_token port token) s.tokens) e
  where
    by_given : (x : Option GivenToken) → option_and_then (λ (g : GivenToken). by_number s g.order) x ≡ Some o
        → by_number s o.new.order ≡ Some o
    by_given None e = absurd (cc)
    by_given (Some g) e =
        let same : o.new.order ≡ g.order = eq-is o.new.order g.order (found-passes (has_number g.order) s.orders o e) in
        subst (λ (order : List ℕ). by_number s order ≡ Some o) (sym same) e

-- an order that was found, put where it is
pub put-same : (o : OrderRecord) (os : List OrderRecord) → find (has_number o.new.order) os ≡ Some o → put o os ≡ os
put-same o [] e = absurd (cc)
put-same o (x ∷ os) e = by_test (has_number o.new.order x) e (λ f. put-same o os f)
  where
    by_test : (b : Bool) → (if b then Some x else find (has_number o.new.order) os) ≡ Some o
        → (find (has_number o.new.order) os ≡ Some o → put o os ≡ os) → (if b then o ∷ os else x ∷ put o os) ≡ x ∷ os
    by_test true e later = let same : x ≡ o = cc in ap (λ (y : OrderRecord). y ∷ os) (sym same)
    by_test false e later = ap (λ (ys : List OrderRecord). x ∷ ys) (later e)
