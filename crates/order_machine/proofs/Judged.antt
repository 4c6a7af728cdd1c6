-- What is known of a message that is no fault.
use Rattle.std.proofs.Common.{◌≡◌, ℕ, Bool, true, false, List, refl, subst, Option, Some, None}
use Rattle.std.specs.Prelude.{if◌then◌else◌, is_some, option_map}
use Rattle.order_law.specs.ouch_codec.declared.outbound.Outbound.{Outbound}
use Rattle.order_law.specs.ouch_codec.declared.outbound.Outbound.TheVariants as market
use Rattle.order_law.specs.Chain.{chain}
use Rattle.order_law.specs.History.{Entry, OrderHistory, Terms, accepted, handled, issued, life_of, pending_tokens}
use Rattle.order_law.specs.Lawful.{is_lawful_on, judged, judged_on, order_of_token, order_token, row_fault, row_holds}
use Rattle.order_law.specs.Lawful.{token_fault}

-- a message that is no fault, on an order: its row holds
pub record IsLawful (terms : List Terms) (port : ℕ) (m : Outbound) (token : List ℕ) (before : OrderHistory) : Type 0 where
  pub new : Entry
  pub on : order_of_token terms port (accepted terms before) token ≡ Some new
  pub row : row_holds m (life_of new.order (accepted terms before) (handled port before)) new
      (pending_tokens new.client (chain new.order (issued new.client before)) (accepted terms before)) ≡ true

module _ (terms : List Terms) (port : ℕ) (before : OrderHistory) where
  not-some : (n : ℕ) → ◌≡◌ {A = Option ℕ} (Some n) None → ⊥
  not-some n e = cc

  abbrev Row : Outbound → Entry → Bool
  Row m new = row_holds m (life_of new.order (accepted terms before) (handled port before)) new
      (pending_tokens new.client (chain new.order (issued new.client before)) (accepted terms before))

  lawful-on : (m : Outbound) (token : List ℕ) (x : Option Entry)
      → order_of_token terms port (accepted terms before) token ≡ x → judged_on (option_map (Row m) x) ≡ None
      → IsLawful terms port m token before
  lawful-on m token None on e = absurd (not-some token_fault e)
  lawful-on m token (Some new) on e = by_row (Row m new) refl e
    where
      by_row : (b : Bool) → Row m new ≡ b → (if b then None else Some row_fault) ≡ None
          → IsLawful terms port m token before
      by_row true row e = record { new = new; on = on; row = row }
      by_row false row e = absurd (not-some row_fault e)

  on-token : (m : Outbound) (own token : List ℕ) → own ≡ token → judged_on (is_lawful_on terms port before m own) ≡ None
      → IsLawful terms port m token before
  on-token m own token same e = subst (λ (x : List ℕ). IsLawful terms port m x before) same
      (lawful-on m own (order_of_token terms port (accepted terms before) own) refl e)

  pub lawful : (m : Outbound) (token : List ℕ) → order_token m ≡ Some token
      → judged (is_lawful_on terms port before m) m ≡ None → IsLawful terms port m token before
  lawful (market.Replaced m) token on e = by_new
      (is_some (is_lawful_on terms port before (market.Replaced m) m.token)) e
    where
      by_new : (b : Bool) → (if b then judged_on
          (is_lawful_on terms port before (market.Replaced m) m.previous_token) else Some token_fault) ≡ None
          → IsLawful terms port (market.Replaced m) token before
      by_new true e = on-token (market.Replaced m) m.previous_token token (cc) e
      by_new false e = absurd (not-some token_fault e)
  lawful (market.Accepted m) token on e = on-token (market.Accepted m) m.token token (cc) e
  lawful (market.Canceled m) token on e = on-token (market.Canceled m) m.token token (cc) e
  lawful (market.Executed m) token on e = on-token (market.Executed m) m.token token (cc) e
  lawful (market.Broken m) token on e = on-token (market.Broken m) m.token token (cc) e
  lawful (market.Rejected m) token on e = on-token (market.Rejected m) m.token token (cc) e
  lawful (market.CancelReject m) token on e = on-token (market.CancelReject m) m.token token (cc) e
  lawful (market.CancelPending m) token on e = on-token (market.CancelPending m) m.token token (cc) e
  lawful (market.SystemEvent m) token on e = absurd (cc)
  lawful market.Skipped token on e = absurd (cc)
