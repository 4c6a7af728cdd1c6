-- What is on its way to the gateway behind a login: sequenced packets, one for each message, with any number of
-- heartbeats between.
use Rattle.std.proofs.Common.{◌≡◌, List, [], ◌∷◌, ◌++◌, map, refl, ◌⊎◌, inl, inr, ⊎_elim}
use Rattle.order_law.specs.ouch_codec.declared.outbound.Outbound.{Outbound}
use Rattle.soup_packets.specs.declared.packet.Packet.{Packet}
use Rattle.market_sim.specs.Outbound.{outbound_bytes}
use Rattle.market_sim.specs.Sim.{sequenced_packet, server_heartbeat}

-- these packets have these messages, the oldest first
abbrev pub AreBehind : List Packet → List Outbound → Type 0
AreBehind [] [] = Unit {0}
AreBehind [] (m ∷ ms) = ⊥
AreBehind (x ∷ xs) [] = (x ≡ server_heartbeat) × AreBehind xs []
AreBehind (x ∷ xs) (m ∷ ms) = ((x ≡ server_heartbeat) × AreBehind xs (m ∷ ms)) ⊎
    ((x ≡ sequenced_packet (outbound_bytes m)) × AreBehind xs ms)

-- what is sent of messages
pub sequenced-behind : (ms : List Outbound) → AreBehind (map sequenced_packet (map outbound_bytes ms)) ms
sequenced-behind [] = tt
sequenced-behind (m ∷ ms) = inr (refl, sequenced-behind ms)

-- more messages behind them
pub more-behind : (xs : List Packet) (ms ns : List Outbound) → AreBehind xs ms
    → AreBehind (xs ++ map sequenced_packet (map outbound_bytes ns)) (ms ++ ns)
more-behind [] [] ns k = sequenced-behind ns
more-behind [] (m ∷ ms) ns k = absurd k
more-behind (x ∷ xs) [] [] k = (k.0, more-behind xs [] [] k.1)
more-behind (x ∷ xs) [] (n ∷ ns) k = inl (k.0, more-behind xs [] (n ∷ ns) k.1)
more-behind (x ∷ xs) (m ∷ ms) ns k = ⊎_elim (λ h. inl (h.0, more-behind xs (m ∷ ms) ns h.1))
    (λ h. inr (h.0, more-behind xs ms ns h.1)) k

-- a heartbeat behind them
pub beat-behind : (xs : List Packet) (ms : List Outbound) → AreBehind xs ms → AreBehind (xs ++ server_heartbeat ∷ []) ms
beat-behind [] [] k = (refl, tt)
beat-behind [] (m ∷ ms) k = absurd k
beat-behind (x ∷ xs) [] k = (k.0, beat-behind xs [] k.1)
beat-behind (x ∷ xs) (m ∷ ms) k = ⊎_elim (λ h. inl (h.0, beat-behind xs (m ∷ ms) h.1))
    (λ h. inr (h.0, beat-behind xs ms h.1)) k

-- the first of them is a heartbeat, or has the first message
pub data FirstBehind (x : Packet) (xs : List Packet) (ms : List Outbound) : Type 0 where
  Beats : x ≡ server_heartbeat → AreBehind xs ms → FirstBehind x xs ms
  Says : (m : Outbound) (rest : List Outbound) → ms ≡ m ∷ rest → x ≡ sequenced_packet (outbound_bytes m)
      → AreBehind xs rest → FirstBehind x xs ms

pub first-behind : (x : Packet) (xs : List Packet) (ms : List Outbound) → AreBehind (x ∷ xs) ms → FirstBehind x xs ms
first-behind x xs [] k = Beats k.0 k.1
first-behind x xs (m ∷ ms) k = ⊎_elim (λ h. Beats h.0 h.1) (λ h. Says m ms refl h.0 h.1) k
