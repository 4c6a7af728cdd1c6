-- What is shown of a packet to the market.
--
-- Source: SoupBinTCP 3.00, "Logical Packets", "Unsequenced Data Packet", "Login Request Packet", "Client Heartbeat
-- Packet".
use Rattle.std.specs.Prelude.{ℕ, ◌+◌, ◌*◌, ◌==◌, List, [], ◌∷◌, ◌++◌, length, take, drop, codes, if◌then◌else◌}
use Rattle.gate_lines.specs.Words.{bare}
use Rattle.gate_lines.specs.Layouts.{shown_message}

-- the name of a session, `-` where it has none
abbrev pub shown_session : List ℕ → List ℕ
shown_session session = if length session == 0 then codes "-" else session

-- a login request: 6 bytes of user, 10 of password, 10 of session, 20 of number. The first two aren't shown
abbrev pub shown_login : List ℕ → List ℕ
shown_login payload =
    if length payload == 46
    then codes " login " ++ (shown_session (bare (take 10 (drop 16 payload))) ++ 32 ∷ bare (drop 10 (drop 16 payload)))
    else []

-- by the type: U, L and R. Of any other nothing
abbrev pub shown_packet : ℕ → List ℕ → List ℕ
shown_packet kind payload =
    if kind == 85 then shown_message payload
    else if kind == 76 then shown_login payload
    else if kind == 82 then codes " R"
    else []

-- the bytes of a whole packet, which its length counts; of any other bytes nothing is shown
abbrev pub shown_bytes : List ℕ → List ℕ
shown_bytes [] = []
shown_bytes (high ∷ []) = []
shown_bytes (high ∷ low ∷ []) = []
shown_bytes (high ∷ low ∷ kind ∷ payload) = if high * 256 + low == length payload + 1 then shown_packet kind payload
    else []
