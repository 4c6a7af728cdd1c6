-- Computed: the metrics of clients and ports.
use Rattle.std.specs.Prelude.{◌≡◌, refl, ℕ, true, false, List, [], ◌∷◌, ◌++◌, codes, decimal, Some, None}
use Rattle.gateway_watch.specs.Rows.{ClientRow, PortRow, Down, LoggingIn, Up}
use Rattle.status_metrics.specs.declared.client_metric.ClientMetric.TheVariants as client
use Rattle.status_metrics.specs.declared.port_metric.PortMetric.TheVariants as port
use Rattle.status_metrics.specs.Metrics.{client_lines, port_lines}

abbrev bank : ClientRow
bank = record {
  link = Some 17;
  is_logged_on = true;
  next_in = 912;
  next_out = 907;
  open_orders = 3;
  executed_shares = 12_600;
  value = 295_470_500;
}

abbrev fund : ClientRow
fund = record {
  link = None;
  is_logged_on = false;
  next_in = 1;
  next_out = 1;
  open_orders = 0;
  executed_shares = 0;
  value = 0;
}

abbrev names : List (List ℕ)
names = codes "BANK" ∷ codes "R&D" ∷ []

-- a line's value and its end
abbrev value : ℕ → List ℕ
value number = decimal number ++ 10 ∷ []

open_orders_of_clients : client_lines client.OpenOrders names (bank ∷ fund ∷ [])
    ≡ (codes "gateway_open_orders{client=\"BANK\"} " ++ value 3)
    ++ ((codes "gateway_open_orders{client=\"R&D\"} " ++ value 0) ++ [])
open_orders_of_clients = refl

executed_shares_of_clients : client_lines client.ExecutedShares names (bank ∷ fund ∷ [])
    ≡ (codes "gateway_executed_shares{client=\"BANK\"} " ++ value 12_600)
    ++ ((codes "gateway_executed_shares{client=\"R&D\"} " ++ value 0) ++ [])
executed_shares_of_clients = refl

executed_value_of_clients : client_lines client.ExecutedValue names (bank ∷ fund ∷ [])
    ≡ (codes "gateway_executed_value{client=\"BANK\"} " ++ value 295_470_500)
    ++ ((codes "gateway_executed_value{client=\"R&D\"} " ++ value 0) ++ [])
executed_value_of_clients = refl

-- a quote and a backslash in a name
a_name_that_is_quoted : client_lines client.Up ((34 ∷ 92 ∷ []) ∷ []) (bank ∷ [])
    ≡ (codes "gateway_client_up{client=\"\\\"\\\\\"} " ++ value 1) ++ []
a_name_that_is_quoted = refl

abbrev first_port : PortRow
first_port = record { link = Some 2; state = LoggingIn; next = 1 }

abbrev second_port : PortRow
second_port = record { link = Some 4; state = Up; next = 88 }

abbrev third_port : PortRow
third_port = record { link = None; state = Down; next = 5 }

abbrev addresses : List (List ℕ)
addresses = codes "10.1.1.5:1" ∷ codes "10.1.1.6:2" ∷ codes "10.1.1.7:3" ∷ []

-- a port that logs in isn't up
one_port_of_three_is_up : port_lines port.Up addresses (first_port ∷ second_port ∷ third_port ∷ [])
    ≡ (codes "gateway_port_up{port=\"10.1.1.5:1\"} " ++ value 0)
    ++ ((codes "gateway_port_up{port=\"10.1.1.6:2\"} " ++ value 1)
    ++ ((codes "gateway_port_up{port=\"10.1.1.7:3\"} " ++ value 0) ++ []))
one_port_of_three_is_up = refl
