-- The links that were up when a day stopped.
use Rattle.std.specs.Prelude.{ℕ, ◌==◌, Bool, false, not, ◌&&◌, List, [], ◌∷◌, ◌++◌, filter}
use Rattle.gate_events.specs.declared.event.Event.{Event}
use Rattle.gate_events.specs.declared.event.Event.TheVariants as events
use Rattle.gate_journal.specs.declared.links.OpenLink.{OpenLink}
use Rattle.gate_journal.specs.declared.links.OpenLink.TheVariants.{Client, Port}

abbrev pub is_same_link : OpenLink → OpenLink → Bool
is_same_link (Client c l) (Client d k) = (c == d) && (l == k)
is_same_link (Client c l) (Port q k) = false
is_same_link (Port p l) (Client d k) = false
is_same_link (Port p l) (Port q k) = (p == q) && (l == k)

abbrev pub without : OpenLink → List OpenLink → List OpenLink
without gone links = filter (λ link. not (is_same_link gone link)) links

-- one that comes stands last
abbrev pub with_link : OpenLink → List OpenLink → List OpenLink
with_link link links = without link links ++ link ∷ []

-- the open links behind an event
abbrev pub open_after : List OpenLink → Event → List OpenLink
open_after links (events.ClientUp c l at) = with_link (Client c l) links
open_after links (events.ClientMessage c l at frame) = links
open_after links (events.ClientGone c l at) = without (Client c l) links
open_after links (events.ClientTick c at) = links
open_after links (events.PortUp p l at) = with_link (Port p l) links
open_after links (events.PortPacket p l at packet) = links
open_after links (events.PortGone p l at) = without (Port p l) links
open_after links (events.PortTick p at) = links

-- behind events
abbrev pub open_behind : List OpenLink → List Event → List OpenLink
open_behind links [] = links
open_behind links (e ∷ es) = open_behind (open_after links e) es

-- the links that came up in these events and haven't gone
abbrev pub open_in : List Event → List OpenLink
open_in es = open_behind [] es

-- that a link is gone at a moment
abbrev pub gone_at : ℕ → OpenLink → Event
gone_at at (Client c l) = events.ClientGone c l at
gone_at at (Port p l) = events.PortGone p l at
