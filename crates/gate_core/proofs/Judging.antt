-- The order level's turn of a payload.
use Rattle.std.proofs.Common.{◌≡◌, ◌+◌, ◌<◌, ℕ, Bool, true, false, List, [], ◌∷◌, length, Option, Some, None, Result}
use Rattle.std.proofs.Common.{refl, sym, ap, ◌∙◌, subst, arith}
use Rattle.std.specs.Prelude.{◌&&◌, nat_le, is_some, IfSome}
use Rattle.ouch_codec.specs.declared.outbound.Outbound.{Outbound}
use Rattle.ouch_codec.specs.declared.refusal.DecodeRefusal.{DecodeRefusal}
use Rattle.ouch_codec.specs.Values.{decoded}
use Rattle.gate_sessions.specs.order_law.Headline.{Headline, said_in}
use Rattle.gate_sessions.specs.order_law.History as orders
use Rattle.gate_sessions.specs.order_law.History.{Heard, OrderTurn}
use Rattle.fix_fields.specs.Field.{Message}
use Rattle.gate_sessions.specs.order_law.Told.{told}
use Rattle.order_core.specs.State.{IsAfterTurns}
use Rattle.gate_law.specs.Clients.{AreFrom}
use Rattle.gate_law.specs.Settings.{Settings, has_client, terms}
use Rattle.gate_law.specs.Lists.{Lists, turned}
use Rattle.gate_core.specs.declared.parts.Parts.{Parts}
use Rattle.gate_core.specs.State.{ArePartsOf}
use Rattle.gate_core.specs.Steps.{PayloadIsTold, heard_turn}

-- the laws of gate_law on whom a payload is told to, as they are cited
abbrev pub ToldNone : Type 0
ToldNone = (ts : List orders.Terms) (before : orders.OrderHistory) (p : ℕ) (m : Result Outbound DecodeRefusal)
    (t : OrderTurn) → told ts (Heard p m) before ≡ said_in t → t.bodies ≡ [] → t.client ≡ 0

abbrev pub ToldSome : Type 0
ToldSome = (ts : List orders.Terms) (is_ours : ℕ → Bool) (before : orders.OrderHistory) (p : ℕ)
    (m : Result Outbound DecodeRefusal) (t : OrderTurn)
    → AreFrom (λ (client : ℕ). is_ours client ≡ true) before → told ts (Heard p m) before ≡ said_in t
    → (t.bodies ≡ [] → ⊥) → is_ours t.client ≡ true

-- a turn of which it is known how it came about
module _ {S H : Type 0} (s : Settings) (p n : ℕ) (payload : List ℕ) (bodies : List Message) (v : Lists)
    (g new : Parts S H)
    (none : ToldNone) (some : ToldSome) (parts : ArePartsOf s v g)
    (after : IsAfterTurns (terms s) (heard_turn p payload n bodies None ∷ v.turns) new.orders)
    (headline : Headline (terms s) (heard_turn p payload n bodies None ∷ v.turns))
    (same_clients : new.clients ≡ g.clients) (same_ports : new.ports ≡ g.ports) (same_client_ports : new.client_ports ≡ g.client_ports) where
  abbrev t : OrderTurn
  t = heard_turn p payload n bodies None

  no-client : bodies ≡ [] → n ≡ 0
  no-client is = none (terms s) v.turns p (decoded payload) t headline.0.tells is

  has-client : (bodies ≡ [] → ⊥) → has_client s n ≡ true
  has-client is = some (terms s) (has_client s) v.turns p (decoded payload) t parts.known headline.0.tells is

  -- where nobody has the number there are no bodies
  none-told : (nat_le 1 n && nat_le n (length g.clients.lines.items)) ≡ false → bodies ≡ []
  none-told unknown = by_bodies bodies refl
    where
      by_bodies : (xs : List Message) → bodies ≡ xs → xs ≡ []
      by_bodies [] is = refl
      by_bodies (x ∷ xs) is =
          let has : has_client s n ≡ true = has-client (λ e. (let wrong : x ∷ xs ≡ [] = sym is ∙ e in cc)) in
          let hasnt : has_client s n ≡ false = ap (λ (k : ℕ). nat_le 1 n && nat_le n k) (sym parts.client_count)
          ∙ unknown in
          absurd (let clash : true ≡ false = sym has ∙ hasnt in cc)

  told-parts : (m : ℕ) → n ≡ m → ArePartsOf s (turned (Some (heard_turn p payload m bodies None)) v) new
  told-parts m is = record {
    clients = rw same_clients parts.clients;
    client_links = rw same_clients parts.client_links;
    ports = rw same_ports parts.ports;
    port_links = rw same_ports parts.port_links;
    orders = subst (λ (k : ℕ). IsAfterTurns (terms s) (heard_turn p payload k bodies None ∷ v.turns) new.orders) is
        after;
    client_ports = rw same_client_ports parts.client_ports;
    client_count = rw same_clients parts.client_count;
    port_count = rw same_ports parts.port_count;
    known = (tt, parts.known);
  }

  pub judged : (place : Option ℕ) → is_some place ≡ (nat_le 1 n && nat_le n (length g.clients.lines.items))
      → IfSome place (λ (q : ℕ). (n ≡ q + 1) × (q < length g.clients.lines.items))
      → PayloadIsTold s p payload place bodies v new
  judged None known at_place =
      let is : bodies ≡ [] = none-told (sym known) in
      record {
        parts = told-parts 0 (no-client is);
        headline = subst (λ (k : ℕ). Headline (terms s) (heard_turn p payload k bodies None ∷ v.turns))
            (no-client is) headline;
        nobody = λ e. is;
        nothing = λ e. refl;
      }
  judged (Some q) known at_place = record {
    parts = told-parts (q + 1) at_place.0;
    headline = subst (λ (k : ℕ). Headline (terms s) (heard_turn p payload k bodies None ∷ v.turns)) at_place.0 headline;
    nobody = λ e. cc;
    nothing = λ e. absurd (omega (arith, no-client e, at_place.0));
  }
