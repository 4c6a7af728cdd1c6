-- The payloads that a session delivers: of each number the first, in order.
--
-- Source: SoupBinTCP 3.00, "Sequenced Data Packet": each sequenced packet has the next number, from that of Login
-- Accepted on; it isn't sent.
use Rattle.std.specs.Prelude.{◌≡◌, ℕ, ◌+◌, ◌==◌, List, [], ◌∷◌, length, Option, Some, None, if◌then◌else◌}

-- a sequenced packet that came while the port was up, with its number
pub record Arrival : Type 0 where
  pub number : ℕ
  pub payload : List ℕ

-- the payloads that are delivered, the newest first: the next of them is the first that has the next number
abbrev pub delivered : List Arrival → List (List ℕ)
delivered [] = []
delivered (a ∷ before) = if a.number == length (delivered before) + 1 then (a.payload ∷ delivered before)
    else delivered before

-- the i-th of a list of which the newest stands first, from 1
abbrev pub member : ℕ → List (List ℕ) → Option (List ℕ)
member i [] = None
member i (p ∷ before) = if i == length before + 1 then Some p else member i before

abbrev pub or_else : Option (List ℕ) → Option (List ℕ) → Option (List ℕ)
or_else (Some x) y = Some x
or_else None y = y

-- the payload of the first arrival that had this number
abbrev pub first_of : ℕ → List Arrival → Option (List ℕ)
first_of i [] = None
first_of i (a ∷ before) = or_else (first_of i before) (if a.number == i then Some a.payload else None)

-- the i-th payload given is the first that came with number i, for each i, and nothing else is given
abbrev pub IsFirstOfEach : List Arrival → List (List ℕ) → Type 0
IsFirstOfEach arrived payloads = (i : ℕ) → member i payloads ≡ first_of i arrived
