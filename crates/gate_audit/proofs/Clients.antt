-- What the market said of orders, and what their clients read of them, one client more.
use Rattle.std.proofs.Common.{◌≡◌, ◌∙◌, ◌+◌, ◌++◌, ℕ, List, map, sym, ap}
use Rattle.order_accounts.specs.ouch_codec.declared.outbound.Outbound.{Outbound}
use Rattle.order_law.specs.declared.account.Account.{Account}
use Rattle.gate_law.specs.Settings.{Settings}
use Rattle.gate_law.specs.Events.{History}
use Rattle.gate_audit.specs.Pairs.{OpenedOrder, SaidToClient, handled_for, orders_of}
use Rattle.gate_audit.specs.Read.{for_clients}
use Rattle.gate_audit.specs.Passes.{fix_in, said_of}
use Rattle.gate_audit.proofs.Batches.{for-more}

pub said-more : (s : Settings) (h : History) (n : ℕ) (os : List OpenedOrder) (kept now : List Account)
    (ms : List Outbound) → ms ≡ handled_for s h (n + 1)
    → kept ≡ for_clients (λ c. map (said_of (handled_for s h c)) (orders_of c os)) n
    → now ≡ kept ++ map (said_of ms) (orders_of (n + 1) os)
    → now ≡ for_clients (λ c. map (said_of (handled_for s h c)) (orders_of c os)) (n + 1)
said-more s h n os kept now ms own is_kept is_now =
    is_now
    ∙ (ap (λ (xs : List Account). xs ++ map (said_of ms) (orders_of (n + 1) os)) is_kept
    ∙ (ap (λ (x : List Outbound). for_clients (λ c. map (said_of (handled_for s h c)) (orders_of c os)) n
    ++ map (said_of x) (orders_of (n + 1) os)) own
    ∙ sym (for-more (λ c. map (said_of (handled_for s h c)) (orders_of c os)) n)))

pub fix-more : (all : List SaidToClient) (n : ℕ) (os : List OpenedOrder) (kept now : List Account)
    → kept ≡ for_clients (λ c. map (fix_in all) (orders_of c os)) n
    → now ≡ kept ++ map (fix_in all) (orders_of (n + 1) os)
    → now ≡ for_clients (λ c. map (fix_in all) (orders_of c os)) (n + 1)
fix-more all n os kept now is_kept is_now =
    is_now
    ∙ (ap (λ (xs : List Account). xs ++ map (fix_in all) (orders_of (n + 1) os)) is_kept
    ∙ sym (for-more (λ c. map (fix_in all) (orders_of c os)) n))
