-- The metrics of a day.
--
-- Source: Prometheus text format 0.0.4.
use Rattle.std.specs.Prelude.{ℕ, ◌-◌, ◌/◌, ◌==◌, List, [], ◌∷◌, ◌++◌, map, drop, codes, decimal, Option, Some, None}
use Rattle.std.specs.Prelude.{if◌then◌else◌}
use Rattle.std.specs.List.{flat_map}
use Rattle.gateway_watch.specs.Rows.{ClientRow, PortRow}
use Rattle.gateway_watch.specs.declared.board.Shown.{Shown}
use Rattle.status_page.specs.declared.day.DayNames.{DayNames}
use Rattle.status_metrics.specs.declared.client_metric.ClientMetric.{ClientMetric}
use Rattle.status_metrics.specs.declared.client_metric.ClientMetric.TheVariants as client
use Rattle.status_metrics.specs.declared.port_metric.PortMetric.{PortMetric}
use Rattle.status_metrics.specs.declared.port_metric.PortMetric.TheVariants as port
use Rattle.status_page.specs.Page.{first_name}
use Rattle.status_metrics.specs.Numbers.{client_metric_help, client_metric_name, client_number}
use Rattle.status_metrics.specs.Numbers.{port_metric_help, port_metric_name, port_number}

-- ---- lines

-- a word, a number and the end of the line
abbrev pub counted : List ℕ → ℕ → List ℕ
counted word number = word ++ decimal number ++ 10 ∷ []

-- a line that says something of a metric
unfoldable pub comment : List ℕ → List ℕ → List ℕ → List ℕ
comment word metric said = word ++ metric ++ 32 ∷ said ++ 10 ∷ []

-- what a metric is and says
abbrev pub head : List ℕ → List ℕ → List ℕ → List ℕ
head metric kind help = comment (codes "# HELP ") metric help ++ comment (codes "# TYPE ") metric kind

-- in a label's value a backslash, a quote and the end of a line stand behind a backslash
abbrev pub quoted_byte : ℕ → List ℕ
quoted_byte byte =
    if byte == 92 then 92 ∷ 92 ∷ []
    else if byte == 34 then 92 ∷ 34 ∷ []
    else if byte == 10 then 92 ∷ 110 ∷ []
    else byte ∷ []

abbrev pub quoted : List ℕ → List ℕ
quoted name = flat_map quoted_byte name

-- `gateway_client_up{client="BANK"} 1`
abbrev pub line : List ℕ → List ℕ → List ℕ → ℕ → List ℕ
line metric label name value =
    metric ++ 123 ∷ label ++ 61 ∷ 34 ∷ quoted name ++ counted (34 ∷ 125 ∷ 32 ∷ []) value

-- ---- clients and ports

-- a line for each client, by its name
abbrev pub client_lines : ClientMetric → List (List ℕ) → List ClientRow → List ℕ
client_lines metric names [] = []
client_lines metric names (row ∷ rows) =
    line (client_metric_name metric) (codes "client") (first_name names) (client_number metric row)
    ++ client_lines metric (drop 1 names) rows

unfoldable pub client_metric : ClientMetric → List (List ℕ) → List ClientRow → List ℕ
client_metric metric names rows =
    head (client_metric_name metric) (codes "gauge") (client_metric_help metric) ++ client_lines metric names rows

-- what clients executed
abbrev pub executed : List (List ℕ) → List ClientRow → List ℕ
executed names rows =
    client_metric client.ExecutedShares names rows ++ client_metric client.ExecutedValue names rows

unfoldable pub clients : List (List ℕ) → List ClientRow → List ℕ
clients names rows =
    client_metric client.Up names rows ++ client_metric client.OpenOrders names rows ++ executed names rows
    ++ client_metric client.NextIn names rows ++ client_metric client.NextOut names rows

-- a line for each port, by its address
abbrev pub port_lines : PortMetric → List (List ℕ) → List PortRow → List ℕ
port_lines metric addresses [] = []
port_lines metric addresses (row ∷ rows) =
    line (port_metric_name metric) (codes "port") (first_name addresses) (port_number metric row)
    ++ port_lines metric (drop 1 addresses) rows

unfoldable pub port_metric : PortMetric → List (List ℕ) → List PortRow → List ℕ
port_metric metric names rows =
    head (port_metric_name metric) (codes "gauge") (port_metric_help metric) ++ port_lines metric names rows

unfoldable pub ports : List (List ℕ) → List PortRow → List ℕ
ports names rows =
    port_metric port.Up names rows ++ port_metric port.Faulted names rows ++ port_metric port.Next names rows

-- ---- the whole

-- when the day began
unfoldable pub start : ℕ → List ℕ
start begun =
    head (codes "gateway_start_time_seconds") (codes "gauge") (codes "When the day began, in seconds since 1970.")
    ++ counted (codes "gateway_start_time_seconds ") (begun / 1000)

-- how old the board is
unfoldable pub age_of : ℕ → List ℕ
age_of age =
    head (codes "gateway_board_age_seconds") (codes "gauge")
    (codes "How old what is said here of clients and ports is.")
    ++ counted (codes "gateway_board_age_seconds ") (age / 1000)

-- how many events were stepped
unfoldable pub events_of : ℕ → List ℕ
events_of events =
    head (codes "gateway_events_total") (codes "counter") (codes "Events that were stepped since the day began.")
    ++ counted (codes "gateway_events_total ") events

-- how all stood
abbrev pub board : DayNames → Shown → ℕ → List ℕ
board names shown now =
    age_of (now - shown.at)
    ++ events_of shown.status.events
    ++ clients (map (λ v. v.items) names.clients.items) shown.status.clients.items
    ++ ports (map (λ v. v.items) names.ports.items) shown.status.ports.items

-- before anything is shown there is the start alone
abbrev pub metrics : DayNames → Option Shown → ℕ → List ℕ
metrics names None now = start names.begun
metrics names (Some shown) now = start names.begun ++ board names shown now
