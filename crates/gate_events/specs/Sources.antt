-- Whom events come from, and whom batches are for. (Own: one party for each link, and the clock.)
use Rattle.std.specs.Prelude.{◌==◌, Bool, true, false, List, [], ◌∷◌, ◌++◌, filter, if◌then◌else◌}
use Rattle.gate_law.specs.Events.{Batch, LinkOut, is_the_number}
use Rattle.gate_events.specs.declared.event.Event.{Event}
use Rattle.gate_events.specs.declared.event.Event.TheVariants as events
use Rattle.gate_events.specs.declared.source.Source.{Source}
use Rattle.gate_events.specs.declared.source.Source.TheVariants as sources
use Rattle.gate_events.specs.declared.source.Recipient.{Recipient}
use Rattle.gate_events.specs.declared.source.Recipient.TheVariants as recipients

-- a client's link, a port's link, or the clock, of which all ticks are
abbrev pub source_of : Event → Source
source_of (events.ClientUp client link at) = sources.Client client
source_of (events.ClientMessage client link at frame) = sources.Client client
source_of (events.ClientGone client link at) = sources.Client client
source_of (events.ClientTick client at) = sources.Clock
source_of (events.PortUp port link at) = sources.Port port
source_of (events.PortPacket port link at packet) = sources.Port port
source_of (events.PortGone port link at) = sources.Port port
source_of (events.PortTick port at) = sources.Clock

abbrev pub is_same_source : Source → Source → Bool
is_same_source (sources.Client m) (sources.Client n) = m == n
is_same_source (sources.Client m) (sources.Port n) = false
is_same_source (sources.Client m) sources.Clock = false
is_same_source (sources.Port m) (sources.Client n) = false
is_same_source (sources.Port m) (sources.Port n) = m == n
is_same_source (sources.Port m) sources.Clock = false
is_same_source sources.Clock (sources.Client n) = false
is_same_source sources.Clock (sources.Port n) = false
is_same_source sources.Clock sources.Clock = true

abbrev pub is_from : Source → Event → Bool
is_from source event = is_same_source (source_of event) source

-- those of one source, in order
abbrev pub events_from : Source → List Event → List Event
events_from source events = filter (is_from source) events

-- what a batch tells one link
abbrev pub output_to : Recipient → Batch → List LinkOut
output_to (recipients.Client n) batch = if is_the_number n batch.client then batch.client_out else []
output_to (recipients.Port n) batch = if is_the_number n batch.port then batch.port_out else []

-- a list, where something is in it
abbrev pub unless_empty : {A : Type 0} → List A → List (List A)
unless_empty [] = []
unless_empty (x ∷ xs) = (x ∷ xs) ∷ []

-- what batches tell one link, a list for each batch that tells it something, in order
abbrev pub lists_to : Recipient → List Batch → List (List LinkOut)
lists_to to [] = []
lists_to to (batch ∷ batches) = unless_empty (output_to to batch) ++ lists_to to batches
