-- Of the history of a run, what is read by the batches is what is read of the accepted new orders, and what the market
-- said.
use Rattle.std.proofs.Common.{◌≡◌, ℕ, suc, List, [], ◌∷◌, map, reverse, length, refl, sym, ap, ◌∙◌}
use Rattle.std.specs.Prelude.{◌==◌, filter}
use Rattle.order_law.specs.History as orders
use Rattle.order_law.specs.History.{Entry, Terms, accepted, is_new_order}
use Rattle.order_law.specs.Headline.{Agree, Each, Headline, IsTrueToMarket, life_in}
use Rattle.order_law.specs.Reading.{reading}
use Rattle.gate_law.specs.Settings.{Settings, terms}
use Rattle.gate_law.specs.Events.{History}
use Rattle.gate_law.specs.After.{order_turns}
use Rattle.gate_law.specs.Holds.{Holds, told_by_batches}
use Rattle.gate_audit.specs.Read.{AgreesIn, accepted_orders_of, accepted_readings, for_clients, accepted_new_orders}
use Rattle.gate_audit.specs.Read.{opened_as, read_by, read_in, readings}
use Rattle.gate_audit.proofs.Lists.{map-map, map-reverse}
use Rattle.gate_audit.proofs.OwnOrders.{opened-same}

pub for-same : {X : Type 0} (f g : ℕ → List X) → ((c : ℕ) → f c ≡ g c) → (n : ℕ) → for_clients f n ≡ for_clients g n
for-same f g same ℕ.zero = refl
for-same f g same (suc n) = rw (for-same f g same n, same (suc n)) refl

client-same : (s : Settings) (h : History) → Holds s h → (c : ℕ)
    → read_by c (told_by_batches c h) ≡ accepted_orders_of s h c
client-same s h holds c =
    let T = order_turns s h in
    let sent = orders.issued c T in
    let own = filter (λ (e : Entry). e.client == c) (accepted_new_orders s h) in
    ap (read_by c) (holds.reads c)
    ∙ (ap (λ os. map (read_in c sent) (reverse os)) (opened-same (terms s) T holds.orders c)
    ∙ (ap (map (read_in c sent)) (sym (map-reverse opened_as own)) ∙ map-map (read_in c sent) opened_as (reverse own)))

pub readings-same : (s : Settings) (h : History) → Holds s h → readings (length s.clients) h ≡ accepted_readings s h
readings-same s h holds = for-same (λ c. read_by c (told_by_batches c h)) (accepted_orders_of s h)
    (client-same s h holds) (length s.clients)

-- ---- what the market said

each-agree : (ts : List Terms) (t : orders.OrderTurn) (before : orders.OrderHistory) (es : List Entry)
    → Each (IsTrueToMarket ts t before) es
    → Each (λ (new : Entry). Agree (reading new.order (orders.issued new.client (t ∷ before)))
    (life_in ts (t ∷ before) new)) es
each-agree ts t before [] each = tt
each-agree ts t before (e ∷ es) each = (each.0.agree, each-agree ts t before es each.1)

turns-agree : (ts : List Terms) (h : orders.OrderHistory) → Headline ts h
    → Each (λ (new : Entry). Agree (reading new.order (orders.issued new.client h)) (life_in ts h new))
    (filter (λ (e : Entry). is_new_order e.message) (accepted ts h))
turns-agree ts [] headline = tt
turns-agree ts (t ∷ before) headline = each-agree ts t before
    (filter (λ (e : Entry). is_new_order e.message) (accepted ts (t ∷ before))) headline.0.orders

pub run-agrees : (s : Settings) (h : History) → Holds s h → Each (AgreesIn s h) (accepted_new_orders s h)
run-agrees s h holds = turns-agree (terms s) (order_turns s h) holds.orders
