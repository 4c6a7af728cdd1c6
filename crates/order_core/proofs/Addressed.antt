-- The client whose order a token leads to.
use Rattle.std.proofs.Common.{◌≡◌, ℕ, ◌<◌, ◌^◌, List, length, Option, Some, None, refl, ap, ◌∙◌}
use Rattle.std.specs.Prelude.{option_and_then, option_map}
use Rattle.outstanding.specs.order_law.History.{Entry, OrderHistory, Terms, accepted}
use Rattle.outstanding.specs.order_law.Lawful.{order_of_token}
use Rattle.order_machine.specs.OrderRecord.{OrderRecord}
use Rattle.order_machine.specs.Table.{TableState, record_by_token}
use Rattle.order_machine.specs.Runs.{NumbersLeft, TurnsLeave}
use Rattle.order_core.specs.State.{OrderCoreState, IsAfterTurns}

-- in every run, a token leads in the table to the order that it leads to in the law
abbrev pub TokensLead : Type 0
TokensLead = (terms : List Terms) (before : OrderHistory) (s : TableState) → NumbersLeft before
    → TurnsLeave terms before s
    → (port : ℕ) (token : List ℕ) → option_map (λ (o : OrderRecord). o.new) (record_by_token s port token)
    ≡ order_of_token terms port (accepted terms before) token

of-new : (x : Option OrderRecord) → option_map (λ (o : OrderRecord). o.new.client) x
    ≡ option_map (λ (new : Entry). new.client) (option_map (λ (o : OrderRecord). o.new) x)
of-new None = refl
of-new (Some o) = refl

pub client-by-token : TokensLead → (terms : List Terms) (before : OrderHistory) (c : OrderCoreState) (port : ℕ)
    (token : List ℕ) → NumbersLeft before → IsAfterTurns terms before c
    → option_map (λ (o : OrderRecord). o.new.client) (record_by_token c.table port token)
    ≡ option_map (λ (new : Entry). new.client) (order_of_token terms port (accepted terms before) token)
unfolding IsAfterTurns
client-by-token lead terms before c port token short is =
    of-new (record_by_token c.table port token)
    ∙ ap (option_map (λ (new : Entry). new.client)) (lead terms before c.table short is.0 port token)

-- and that of a payload's token, where it has one
pub client-by-heard : TokensLead → (terms : List Terms) (before : OrderHistory) (c : OrderCoreState) (port : ℕ)
    (token : Option (List ℕ)) → NumbersLeft before → IsAfterTurns terms before c
    → option_map (λ (o : OrderRecord). o.new.client) (option_and_then (record_by_token c.table port) token)
    ≡ option_map (λ (new : Entry). new.client)
    (option_and_then (order_of_token terms port (accepted terms before)) token)
client-by-heard lead terms before c port None short is = refl
client-by-heard lead terms before c port (Some token) short is = client-by-token lead terms before c port token short is
