-- What makes events of bytes: `made` and `are_all` say what was made of which bytes.
use Rattle.std.specs.Prelude.{ℕ, ◌<◌, ◌++◌, Bool, true, false, List, [], ◌∷◌, Option, Some, None, Result, Ok, Err}
use Rattle.gate_law.specs.Events as law
use Rattle.gate_events.specs.declared.event.Event.{Event}
use Rattle.gate_events.specs.Seen.{event_seen}
use Rattle.link_decoders.specs.declared.decode_fault.DecodeFault.{DecodeFault}
use Rattle.link_decoders.specs.declared.decode_fault.DecodeFault.TheVariants.{Malformed, NoMemory}

-- what was made stays so, and no more was
abbrev pub Stays : {D : Type 0} → (D → List ℕ → List law.Event → Type 0) → D → D → Type 0
Stays made old new = (taken : List ℕ) (events : List law.Event) → made old taken events → made new taken events

-- bytes are taken
abbrev pub Feeds : {D : Type 0} → (D → List ℕ → List law.Event → Type 0) → List ℕ → D → D → Type 0
Feeds made piece old new =
    (taken : List ℕ) (events : List law.Event) → made old taken events → made new (taken ++ piece) events

-- no further event is made: those that were are all
abbrev pub MadeAll : {D : Type 0} → (D → List ℕ → List law.Event → Type 0) → (D → Bool → List ℕ → List law.Event
    → Type 0)
    → Bool → D → D → Type 0
MadeAll made are_all over old new =
    (taken : List ℕ) (events : List law.Event) → made old taken events → made new taken events
    × are_all new over taken events

-- the next event is made, where there is one
abbrev pub Makes : {D : Type 0} → (D → List ℕ → List law.Event → Type 0) → (D → Bool → List ℕ → List law.Event → Type 0)
    → (D → ℕ) → Result (Option Event) DecodeFault → D → D → Type 0
Makes made are_all to_make (Ok (Some event)) old new =
    ((taken : List ℕ) (events : List law.Event) → made old taken events
    → made new taken (events ++ event_seen event ∷ []))
    × (to_make new < to_make old)
Makes made are_all to_make (Ok None) old new = MadeAll made are_all false old new
Makes made are_all to_make (Err Malformed) old new = MadeAll made are_all true old new
Makes made are_all to_make (Err NoMemory) old new = Stays made old new

-- the moment of an event, in milliseconds
abbrev pub event_moment : law.Event → ℕ
event_moment (law.ClientUp client link at) = at
event_moment (law.ClientMessage client link at frame) = at
event_moment (law.ClientGone client link at) = at
event_moment (law.ClientTick client at) = at
event_moment (law.PortUp port link at) = at
event_moment (law.PortPacket port link at packet) = at
event_moment (law.PortGone port link at) = at
event_moment (law.PortTick port at) = at
