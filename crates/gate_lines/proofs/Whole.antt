-- What is shown of the bytes that a packet is written as, and of bytes that are none.
use Rattle.std.proofs.Common.{◌≡◌, ℕ, ◌+◌, ◌*◌, ◌/◌, ◌%◌, List, [], ◌∷◌, length, true, false, refl, sym, ap, ◌∙◌, arith}
use Rattle.std.proofs.Common.{◌==◌}
use Rattle.std.specs.Prelude.{Option, Some, None, IsSome, IfSome, ◌↔◌}
use Rattle.std.proofs.lemmas.Bool.Decides.{nat_tests}
use Rattle.soup_packets.specs.declared.packet.Packet.{Packet}
use Rattle.soup_packets.specs.Spelling.{size, packet_bytes, IsWhole}
use Rattle.gate_lines.specs.Packets.{shown_packet, shown_bytes}

same_size : (n : ℕ) → (n / 256 * 256 + n % 256 == n) ≡ true
same_size n = grind (arith, nat_tests)

pub shown-packet : (packet : Packet) → shown_bytes (packet_bytes packet) ≡ shown_packet packet.kind packet.payload
shown-packet packet = rw (same_size (size packet)) refl

no_size : (m n : ℕ) → (m ≡ n → ⊥) → (m == n) ≡ false
no_size m n other = grind (arith, nat_tests, other)

pub shown-none : (bytes : List ℕ) → (IsWhole bytes → ⊥) → shown_bytes bytes ≡ []
shown-none [] none = refl
shown-none (high ∷ []) none = refl
shown-none (high ∷ low ∷ []) none = refl
shown-none (high ∷ low ∷ kind ∷ payload) none = rw (no_size (high * 256 + low) (length payload + 1) none) refl

-- what a reader of packets answers
pub shown-read : (read : Option Packet) (packet : Packet) (bytes : List ℕ)
    → IfSome read (λ value. packet_bytes value ≡ bytes) → read ≡ Some packet
    → shown_bytes bytes ≡ shown_packet packet.kind packet.payload
shown-read None packet bytes same e = absurd cc
shown-read (Some p) packet bytes same e =
    let p_is : p ≡ packet = cc in
    ap shown_bytes (sym same) ∙ shown-packet p ∙ ap (λ (q : Packet). shown_packet q.kind q.payload) p_is

pub shown-unread : (read : Option Packet) (bytes : List ℕ) → (IsSome read ↔ IsWhole bytes) → read ≡ None
    → shown_bytes bytes ≡ []
shown-unread None bytes spelled e = shown-none bytes (λ whole. let said : false ≡ true = spelled.1 whole in absurd cc)
shown-unread (Some p) bytes spelled e = absurd cc
