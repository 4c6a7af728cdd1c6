-- What is sent to a market was asked of its port: all that is outstanding, and what a turn asks.
use Rattle.std.proofs.Common.{◌≡◌, ℕ, List, [], ◌∷◌, ◌++◌, refl, Option, inl, inr, subst, sym}
use Rattle.order_law.specs.ouch_codec.declared.inbound.Inbound.{Inbound}
use Rattle.order_law.specs.ouch_codec.Inbound.{inbound_bytes}
use Rattle.order_law.specs.Asks.{Standing}
use Rattle.order_law.specs.Verdicts.{Port, Up, Down, Ended, Faulted}
use Rattle.fix_fields.specs.Field.{Message}
use Rattle.order_law.specs.History.{Terms, terms_of, OrderEvent, Came, OrderHistory, OrderTurn, Asked, accepted, issued}
use Rattle.order_law.specs.History.{handled, entry_at, asks_of, outstanding}
use Rattle.order_law.specs.Headline.{Each, EachWith, Says, SaysIn, Sends, TurnHolds, TurnOf, standing_in, order_number}
use Rattle.world_law.specs.Asked.{sender, asked, IsIn, WasAsked, BytesAsked}
use Rattle.world_law.proofs.Members.{in-right}
use Rattle.world_law.proofs.Outstanding.{outstanding-asked}

-- messages that say, one by one, what was asked
pub says-asked : (terms : List Terms) (port : ℕ) (h : OrderHistory) (standing : Asked → Standing)
    (order_of : List ℕ → Option ℕ) (asks : List Asked) (messages : List (List ℕ))
    → ((a : Asked) → IsIn a asks → IsIn a (asked terms port h))
    → EachWith (λ a m. Says (standing a) order_of a m) asks messages → Each (BytesAsked terms port h) messages
says-asked terms port h standing order_of [] [] there says = tt
says-asked terms port h standing order_of [] (m ∷ ms) there says = absurd says
says-asked terms port h standing order_of (a ∷ asks) [] there says = absurd says
says-asked terms port h standing order_of (a ∷ asks) (m ∷ ms) there says = (
  record { asks = a; there = there a (inl refl); standing = standing a; order_of = order_of; says = says.0 },
  says-asked terms port h standing order_of asks ms (λ b i. there b (inr i)) says.1,
)

-- all that a port is sent as it comes up was asked
pub again-asked : (terms : List Terms) (port : ℕ) (h : OrderHistory) (messages : List (List ℕ))
    → EachWith (SaysIn terms h port) (outstanding terms port h) messages → Each (BytesAsked terms port h) messages
again-asked terms port h messages says = says-asked terms port h (λ a. standing_in terms h a.order)
    (order_number terms port (accepted terms h)) (outstanding terms port h) messages
    (λ a i. outstanding-asked terms port h a i) says

-- a packet whose payload was asked brings a message that was asked
pub read-asked : (terms : List Terms) (port : ℕ) (h : OrderHistory) (message : Inbound)
    → BytesAsked terms port h (inbound_bytes message) → WasAsked terms port h message
read-asked terms port h message b = record
    { asks = b.asks; there = b.there; standing = b.standing; order_of = b.order_of; says = b.says }

-- all that a turn of a client's message sends was asked of the client's port
pub turn-asked : (terms : List Terms) (before : OrderHistory) (t : OrderTurn) (client : ℕ) (m : Message) (port : Port)
    → t.event ≡ Came client m port → TurnHolds terms t before
    → Each (BytesAsked terms (terms_of terms client).port (t ∷ before)) t.sends
turn-asked terms before t client m port is holds =
    by_port port (subst (λ (e : OrderEvent). TurnOf terms e t before) is holds.answers).sends
  where
    there : (a : Asked) → IsIn a (asks_of terms (terms_of terms client).port
        (entry_at terms (Came client m port) before) (accepted terms before) (issued client before)
        (handled (terms_of terms client).port before)) → IsIn a (asked terms (terms_of terms client).port (t ∷ before))
    there a i = subst (λ (e : OrderEvent). IsIn a
        (asked terms (terms_of terms client).port before
        ++ asks_of terms (terms_of terms client).port (entry_at terms e before) (accepted terms before)
        (issued (sender e) before) (handled (terms_of terms client).port before))) (sym is)
        (in-right a (asked terms (terms_of terms client).port before) _ i)

    by_port : (p : Port) → Sends p (Says (terms_of terms client).standing
        (order_number terms (terms_of terms client).port (accepted terms (t ∷ before))))
        (asks_of terms (terms_of terms client).port (entry_at terms (Came client m port) before) (accepted terms before)
        (issued client before) (handled (terms_of terms client).port before)) t.sends
        → Each (BytesAsked terms (terms_of terms client).port (t ∷ before)) t.sends
    by_port Up says = says-asked terms (terms_of terms client).port (t ∷ before) (λ a. (terms_of terms client).standing)
        (order_number terms (terms_of terms client).port (accepted terms (t ∷ before))) _ t.sends there says
    by_port Down none = subst (Each (BytesAsked terms (terms_of terms client).port (t ∷ before))) (sym none) tt
    by_port Ended none = subst (Each (BytesAsked terms (terms_of terms client).port (t ∷ before))) (sym none) tt
    by_port (Faulted n) none = subst (Each (BytesAsked terms (terms_of terms client).port (t ∷ before))) (sym none) tt
