-- Whose ring stands at which place: the clients' by their numbers, then the ports' by theirs, and behind the inlets of
-- both that of the clock. (Own.)
use Rattle.std.specs.Prelude.{ℕ, ◌+◌, ◌-◌, Bool, nat_lt, nat_le, ◌&&◌, Option, Some, None, if◌then◌else◌}
use Rattle.gate_law.specs.Events.{is_the_number}
use Rattle.gate_events.specs.declared.source.Source.{Source}
use Rattle.gate_events.specs.declared.source.Source.TheVariants as sources
use Rattle.gate_events.specs.declared.source.Recipient.{Recipient}
use Rattle.gate_events.specs.declared.source.Recipient.TheVariants as recipients

abbrev pub source_at : ℕ → ℕ → ℕ → Source
source_at clients ports k = if nat_lt k clients then sources.Client (k + 1)
    else if nat_lt k (clients + ports) then sources.Port ((k - clients) + 1) else sources.Clock

abbrev pub recipient_at : ℕ → ℕ → Recipient
recipient_at clients d = if nat_lt d clients then recipients.Client (d + 1) else recipients.Port ((d - clients) + 1)

-- the place of the producer for a client, and of that to a port
abbrev pub client_place : ℕ → Option ℕ → Option ℕ
client_place clients None = None
client_place clients (Some n) = if nat_le 1 n && nat_le n clients then Some (n - 1) else None

abbrev pub port_place : ℕ → ℕ → Option ℕ → Option ℕ
port_place clients ports None = None
port_place clients ports (Some n) = if nat_le 1 n && nat_le n ports then Some (clients + (n - 1)) else None

-- this is the client, or this is the port
abbrev pub is_aimed : Option ℕ → Option ℕ → Recipient → Bool
is_aimed client port (recipients.Client n) = is_the_number n client
is_aimed client port (recipients.Port n) = is_the_number n port
