-- How a port stands, in words, and what is late.
use Rattle.std.specs.Prelude.{ℕ, ◌-◌, nat_lt, Bool, List, [], codes, Option, Some, None}
use Rattle.gateway_watch.specs.Rows.{PortState, Down, LoggingIn, Up, Ended, Faulted}
use Rattle.gateway_watch.specs.Faults.{fault_name}
use Rattle.gateway_watch.specs.declared.board.Shown.{Shown}
use Rattle.status_page.specs.declared.day.DayNames.{DayNames}

abbrev pub state_name : PortState → List ℕ
state_name Down = codes "down"
state_name LoggingIn = codes "logging in"
state_name Up = codes "up"
state_name Ended = codes "ended by the market"
state_name (Faulted fault) = codes "faulted"

-- why it stands so, where that is known
abbrev pub reason_of : PortState → List ℕ
reason_of Down = []
reason_of LoggingIn = []
reason_of Up = []
reason_of Ended = []
reason_of (Faulted fault) = fault_name fault

-- since when all is as it is shown, in milliseconds since 1970: since the day began where nothing was ever shown
abbrev pub since : DayNames → Option Shown → ℕ
since names None = names.begun
since names (Some shown) = shown.at

-- five seconds old, and more: it is put anew each second
abbrev pub is_late : DayNames → Option Shown → ℕ → Bool
is_late names shown now = nat_lt 5000 (now - since names shown)
