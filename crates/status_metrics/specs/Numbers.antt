-- The numbers of clients and ports that metrics have.
use Rattle.std.specs.Prelude.{ℕ, Bool, true, false, List, codes, if◌then◌else◌}
use Rattle.gateway_watch.specs.Rows.{ClientRow, PortRow, PortState, Faulted, is_up}
use Rattle.status_metrics.specs.declared.client_metric.ClientMetric.{ClientMetric}
use Rattle.status_metrics.specs.declared.client_metric.ClientMetric.TheVariants as client
use Rattle.status_metrics.specs.declared.port_metric.PortMetric.{PortMetric}
use Rattle.status_metrics.specs.declared.port_metric.PortMetric.TheVariants as port

abbrev pub one_where : Bool → ℕ
one_where is_so = if is_so then 1 else 0

-- ---- clients

abbrev pub client_metric_name : ClientMetric → List ℕ
client_metric_name client.Up = codes "gateway_client_up"
client_metric_name client.NextIn = codes "gateway_client_next_in"
client_metric_name client.NextOut = codes "gateway_client_next_out"
client_metric_name client.OpenOrders = codes "gateway_open_orders"
client_metric_name client.ExecutedShares = codes "gateway_executed_shares"
client_metric_name client.ExecutedValue = codes "gateway_executed_value"

abbrev pub client_metric_help : ClientMetric → List ℕ
client_metric_help client.Up = codes "1 where a client is logged on."
client_metric_help client.NextIn = codes "The number that is expected of a client's next frame."
client_metric_help client.NextOut = codes "The number of the next frame that a client is sent."
client_metric_help client.OpenOrders = codes "Orders of a client that aren't closed, by its own reports."
client_metric_help client.ExecutedShares = codes "Executed shares of a client, without broken trades."
client_metric_help client.ExecutedValue =
    codes "Their value in 1/10,000: shares times price of each trade that stands."

abbrev pub client_number : ClientMetric → ClientRow → ℕ
client_number client.Up row = one_where row.is_logged_on
client_number client.NextIn row = row.next_in
client_number client.NextOut row = row.next_out
client_number client.OpenOrders row = row.open_orders
client_number client.ExecutedShares row = row.executed_shares
client_number client.ExecutedValue row = row.value

-- ---- ports

abbrev pub port_metric_name : PortMetric → List ℕ
port_metric_name port.Up = codes "gateway_port_up"
port_metric_name port.Faulted = codes "gateway_port_faulted"
port_metric_name port.Next = codes "gateway_port_next"

abbrev pub port_metric_help : PortMetric → List ℕ
port_metric_help port.Up = codes "1 where a port is logged in at the market."
port_metric_help port.Faulted = codes "1 where a port is faulted: new orders are refused."
port_metric_help port.Next = codes "The number of the next payload that is wanted of the market."

abbrev pub is_faulted : PortState → Bool
is_faulted (Faulted fault) = true
is_faulted other = false

abbrev pub port_number : PortMetric → PortRow → ℕ
port_number port.Up row = one_where (is_up row.state)
port_number port.Faulted row = one_where (is_faulted row.state)
port_number port.Next row = row.next
