-- Computed: when a wait is told, and of which orders.
use Rattle.std.specs.Prelude.{◌≡◌, refl, ℕ, ◌+◌, Bool, true, false, List, [], ◌∷◌, ◌++◌, Option, Some, None}
use Rattle.std.specs.Prelude.{zero, suc}
use Rattle.gateway_watch.specs.Rows.{ClientRow, PortRow, Down, LoggingIn, Up}
use Rattle.gateway_watch.specs.declared.wait.PortWait.{PortWait}
use Rattle.gateway_watch.specs.Waits.{due_since, orders_at, orders_wait, passes, wait_after}

-- ---- looks, one after the other

-- a look: when, and whether orders wait then
pub record Look : Type 0 where
  pub at : ℕ
  pub waits : Bool

abbrev told_by : Option ℕ → ℕ → List ℕ
told_by None now = []
told_by (Some since) now = now ∷ []

-- the moments at which it is told
abbrev told : Option PortWait → List Look → List ℕ
told before [] = []
told before (look ∷ looks) =
    told_by (due_since before look.waits look.at) look.at ++ told (wait_after before look.waits look.at) looks

-- so many looks from a moment on, each of them a second behind the one before it
abbrev each_second : ℕ → ℕ → Bool → List Look
each_second zero at waits = []
each_second (suc more) at waits = record { at = at; waits = waits } ∷ each_second more (at + 1000) waits

at_ten_seconds_and_each_doubling : told None (each_second 100 5000 true)
    ≡ 15000 ∷ 25000 ∷ 45000 ∷ 85000 ∷ []
at_ten_seconds_and_each_doubling = refl

never_where_none_waits : told None (each_second 100 5000 false) ≡ []
never_where_none_waits = refl

-- nine seconds of waiting, a second without, and then eleven of it: ten seconds behind the second beginning
a_wait_that_ends_begins_anew :
    told None (each_second 9 0 true ++ (each_second 1 9000 false ++ each_second 11 10000 true)) ≡ 20000 ∷ []
a_wait_that_ends_begins_anew = refl

-- where it wasn't looked for long, one line is told of all marks that were passed
a_late_look :
    told None (record { at = 0; waits = true } ∷ record { at = 45000; waits = true }
    ∷ record { at = 46000; waits = true } ∷ record { at = 80000; waits = true } ∷ []) ≡ 45000 ∷ 80000 ∷ []
a_late_look = refl

-- ---- marks

just_before_a_mark : passes 9000 9999 ≡ false
just_before_a_mark = refl

on_a_mark : passes 9999 10000 ≡ true
on_a_mark = refl

behind_a_mark : passes 10000 19999 ≡ false
behind_a_mark = refl

-- ---- orders

abbrev client : ℕ → ClientRow
client orders = record {
  link = None;
  is_logged_on = false;
  next_in = 1;
  next_out = 1;
  open_orders = orders;
  executed_shares = 900;
  value = 21_105_000;
}

-- clients on the ports 1, 2, 1, 2
abbrev rows : List ClientRow
rows = client 3 ∷ client 5 ∷ client 4 ∷ client 0 ∷ []

orders_of_the_first_port : orders_at 1 (1 ∷ 2 ∷ 1 ∷ 2 ∷ []) rows ≡ 7
orders_of_the_first_port = refl

orders_of_the_second_port : orders_at 2 (1 ∷ 2 ∷ 1 ∷ 2 ∷ []) rows ≡ 5
orders_of_the_second_port = refl

orders_of_a_port_without_clients : orders_at 3 (1 ∷ 2 ∷ 1 ∷ 2 ∷ []) rows ≡ 0
orders_of_a_port_without_clients = refl

abbrev down : PortRow
down = record { link = None; state = Down; next = 1 }

abbrev logging_in : PortRow
logging_in = record { link = Some 2; state = LoggingIn; next = 1 }

abbrev up : PortRow
up = record { link = Some 2; state = Up; next = 1 }

they_wait_at_a_port_that_is_down : orders_wait down 1 ≡ true
they_wait_at_a_port_that_is_down = refl

they_wait_at_a_port_that_logs_in : orders_wait logging_in 1 ≡ true
they_wait_at_a_port_that_logs_in = refl

none_waits_at_a_port_that_is_up : orders_wait up 1 ≡ false
none_waits_at_a_port_that_is_up = refl

none_waits_where_there_is_none : orders_wait down 0 ≡ false
none_waits_where_there_is_none = refl
