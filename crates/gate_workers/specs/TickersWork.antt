-- What a ticker puts.
use Rattle.std.specs.Prelude.{◌≡◌, ◌⊎◌, ℕ, suc, ◌++◌, List, [], ◌∷◌, Option}
use Rattle.link_io.specs.Events.{Event, ClientTick, PortTick}
use Rattle.gate_workers.specs.Moments.{Tells}

-- a tick at this moment for each of so many clients, numbered from 1
unfoldable pub client_ticks : (at clients : ℕ) → List Event
client_ticks at ℕ.zero = []
client_ticks at (suc n) = client_ticks at n ++ ClientTick (suc n) at ∷ []

-- and for each of so many ports
unfoldable pub port_ticks : (at ports : ℕ) → List Event
port_ticks at ℕ.zero = []
port_ticks at (suc n) = port_ticks at n ++ PortTick (suc n) at ∷ []

-- a round of ticks for each moment, in order: first the clients', then the ports'
unfoldable pub rounds : (clients ports : ℕ) → (moments : List ℕ) → List Event
rounds clients ports [] = []
rounds clients ports (at ∷ later) = (client_ticks at clients ++ port_ticks at ports) ++ rounds clients ports later

-- these events were put in order, but for those that were given back
abbrev pub PutsUnless : (gave_back : Event → Type 0) → (events put : List Event) → Type 0
PutsUnless gave_back [] put = put ≡ []
PutsUnless gave_back (event ∷ events) put =
    ((more : List Event) × (put ≡ event ∷ more) × PutsUnless gave_back events more)
    ⊎ (gave_back event × PutsUnless gave_back events put)

-- behind what was put before
abbrev pub PutsBehind : (gave_back : Event → Type 0) → (events put_old put_new : List Event) → Type 0
PutsBehind gave_back events put_old put_new =
    (put : List Event) × (put_new ≡ put_old ++ put) × PutsUnless gave_back events put

-- a round of ticks was put for each moment that the clock reported, in order, and nothing else
abbrev pub PutsTicks : (gave_back : Event → Type 0) → (clients ports : ℕ)
    → (reported_old reported_new : Option (List ℕ))
    → (put_old put_new : List Event) → Type 0
PutsTicks gave_back clients ports reported_old reported_new put_old put_new =
    (moments : List ℕ) × Tells reported_old reported_new moments
    × PutsBehind gave_back (rounds clients ports moments) put_old put_new
