-- What is known of a message that is no fault, on the order that its token leads to: its row holds.
use Rattle.std.proofs.Common.{◌≡◌, ℕ, Bool, true, false, List, refl, Option, Some, None, Ok}
use Rattle.std.specs.Prelude.{if◌then◌else◌, is_some}
use Rattle.order_law.specs.ouch_codec.declared.outbound.Outbound.{Outbound}
use Rattle.order_law.specs.ouch_codec.declared.outbound.Outbound.TheVariants as market
use Rattle.order_law.specs.ouch_codec.declared.outbound.rejected.Rejected.{Rejected}
use Rattle.order_law.specs.ouch_codec.declared.outbound.replaced.Replaced.{Replaced}
use Rattle.order_law.specs.Chain.{chain}
use Rattle.order_law.specs.History.{Entry, OrderHistory, Terms, accepted, handled, issued, life_of, pending_tokens}
use Rattle.order_law.specs.Lawful.{is_lawful_on, judged_on, judgement, order_of_token, row_fault, row_holds}
use Rattle.order_law.specs.Lawful.{token_fault}

not-some : (n : ℕ) → ◌≡◌ {A = Option ℕ} (Some n) None → ⊥
not-some n e = cc

module _ (terms : List Terms) (port : ℕ) (before : OrderHistory) where
  abbrev pub Row : Outbound → Entry → Bool
  Row m new = row_holds m (life_of new.order (accepted terms before) (handled port before)) new
      (pending_tokens new.client (chain new.order (issued new.client before)) (accepted terms before))

  holds-on : (m : Outbound) (token : List ℕ) (new : Entry)
      → order_of_token terms port (accepted terms before) token ≡ Some new
      → judged_on (is_lawful_on terms port before m token) ≡ None → Row m new ≡ true
  holds-on m token new on e = by_row (Row m new) refl (rw on at e)
    where
      by_row : (b : Bool) → Row m new ≡ b → (if Row m new then None else Some row_fault) ≡ None → Row m new ≡ true
      by_row true row f = row
      by_row false row f = absurd (not-some row_fault (rw row at f))

  pub replaced-holds : (m : Replaced) (new : Entry)
      → order_of_token terms port (accepted terms before) m.previous_token ≡ Some new
      → judgement terms port (Ok (market.Replaced m)) before ≡ None → Row (market.Replaced m) new ≡ true
  replaced-holds m new on e = by_new (is_some (is_lawful_on terms port before (market.Replaced m) m.token)) e
    where
      by_new : (b : Bool) → (if b then judged_on
          (is_lawful_on terms port before (market.Replaced m) m.previous_token) else Some token_fault) ≡ None
          → Row (market.Replaced m) new ≡ true
      by_new true f = holds-on (market.Replaced m) m.previous_token new on f
      by_new false f = absurd (not-some token_fault f)

  pub rejected-holds : (m : Rejected) (new : Entry)
      → order_of_token terms port (accepted terms before) m.token ≡ Some new
      → judgement terms port (Ok (market.Rejected m)) before ≡ None → Row (market.Rejected m) new ≡ true
  rejected-holds m new on e = holds-on (market.Rejected m) m.token new on e
