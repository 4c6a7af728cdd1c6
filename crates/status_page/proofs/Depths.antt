-- How deep the objects of a status nest: few enough for whoever reads it.
use Rattle.std.proofs.Common.{◌≡◌, ◌≤◌, ℕ, List, [], ◌∷◌, refl, arith}
use Rattle.std.specs.Prelude.{Option, None, Some, drop, map}
use Rattle.serde_json.specs.Data.{depth, items_depth}
use Rattle.serde_json.specs.View.{items_of}
use Rattle.gateway_watch.specs.Rows.{ClientRow, PortRow}
use Rattle.gateway_watch.specs.declared.board.Shown.{Shown}
use Rattle.status_page.specs.declared.day.DayNames.{DayNames}
use Rattle.status_page.specs.Page.{first_name, next_number}
use Rattle.status_page.specs.Json.{bare_data, client_data, client_items, client_members, end_data, link_data}
use Rattle.status_page.specs.Json.{port_data, port_items}
use Rattle.status_page.specs.Json.{shown_data, status}

link-depth : (link : Option ℕ) → depth (link_data link) ≡ 0
link-depth None = refl
link-depth (Some link) = refl

end-depth : (ends : Option ℕ) → depth (end_data ends) ≡ 0
end-depth None = refl
end-depth (Some ends) = refl

client-depth : (n : ℕ) (name : List ℕ) (row : ClientRow) → depth (client_data n name row) ≡ 1
unfolding client_members
client-depth n name row = rw (link-depth row.link) refl

port-depth : (n : ℕ) (address : List ℕ) (row : PortRow) → depth (port_data n address row) ≡ 1
unfolding port_data
port-depth n address row = rw (link-depth row.link) refl

clients-depth : (n : ℕ) (names : List (List ℕ)) (rows : List ClientRow)
    → items_depth (items_of (client_items n names rows)) ≤ 1
clients-depth n names [] = omega arith
clients-depth n names (row ∷ rows) =
    let rest = clients-depth (next_number n) (drop 1 names) rows in
    rw (client-depth n (first_name names) row) (omega (arith, rest))

ports-depth : (n : ℕ) (names : List (List ℕ)) (rows : List PortRow)
    → items_depth (items_of (port_items n names rows)) ≤ 1
ports-depth n names [] = omega arith
ports-depth n names (row ∷ rows) =
    let rest = ports-depth (next_number n) (drop 1 names) rows in
    rw (port-depth n (first_name names) row) (omega (arith, rest))

bare-depth : (names : DayNames) → depth (bare_data names) ≤ 127
unfolding bare_data
bare-depth names = rw (end-depth names.ends) (omega arith)

shown-depth : (names : DayNames) (shown : Shown) (now : ℕ) → depth (shown_data names shown now) ≤ 127
unfolding shown_data
shown-depth names shown now =
    let clients = clients-depth 1 (map (λ v. v.items) names.clients.items) shown.status.clients.items in
    let ports = ports-depth 1 (map (λ v. v.items) names.ports.items) shown.status.ports.items in
    rw (end-depth names.ends) (omega (arith, clients, ports))

pub status-depth : (names : DayNames) (shown : Option Shown) (now : ℕ) → depth (status names shown now) ≤ 127
status-depth names None now = bare-depth names
status-depth names (Some shown) now = shown-depth names shown now
