-- Computed: texts of a peer as a page has them, and rows of clients and ports as each form has them.
use Rattle.std.specs.Prelude.{◌≡◌, refl, ℕ, true, false, List, [], ◌∷◌, ◌++◌, codes, decimal, Some, None}
use Rattle.std.specs.Fmt.{digits}
use Rattle.fixed_point.specs.Price.{price_text}
use Rattle.gateway_watch.specs.Rows.{ClientRow, PortRow, Down, LoggingIn, Up}
use Rattle.status_page.specs.Html.{escaped}
use Rattle.status_page.specs.Page.{alarm, alarms, client_numbers, client_row, client_rows, numbered, standing}

-- ---- texts

a_name_is_itself : escaped (codes "BANK-1 (10.4.1.17:51544)") ≡ codes "BANK-1 (10.4.1.17:51544)"
a_name_is_itself = refl

a_script_is_text : escaped (codes "<script>alert(1)</script>") ≡ codes "&lt;script&gt;alert(1)&lt;/script&gt;"
a_script_is_text = refl

an_attribute_goes_on : escaped (34 ∷ codes " onload=" ++ 39 ∷ []) ≡ codes "&quot; onload=&#39;"
an_attribute_goes_on = refl

an_entity_is_text : escaped (codes "&lt;") ≡ codes "&amp;lt;"
an_entity_is_text = refl

-- a line's end, SOH, DEL and a byte of UTF-8
others_are_dots : escaped (10 ∷ 1 ∷ 127 ∷ 195 ∷ []) ≡ codes "...."
others_are_dots = refl

-- ---- rows

abbrev bank : ClientRow
bank = record {
  link = Some 17;
  is_logged_on = true;
  next_in = 912;
  next_out = 907;
  open_orders = 3;
  executed_shares = 12_600;
  value = 295_470_500;
}

abbrev fund : ClientRow
fund = record {
  link = None;
  is_logged_on = false;
  next_in = 1;
  next_out = 1;
  open_orders = 0;
  executed_shares = 0;
  value = 0;
}

abbrev names : List (List ℕ)
names = codes "BANK" ∷ codes "R&D" ∷ []

-- a cell with a number
abbrev cell : ℕ → List ℕ
cell number = codes "<td class=\"n\">" ++ decimal number

a_client_that_is_logged_on : client_row 1 (codes "BANK") bank
    ≡ (codes "<tr><td><b>C" ++ decimal 1 ++ codes "</b><td>BANK") ++ codes "<td class=\"g\">logged on" ++ cell 17
    ++ (cell 3 ++ (cell 12_600 ++ codes "<td class=\"n\">29547.05") ++ cell 912 ++ cell 907 ++ codes "</tr>\n")
unfolding client_row client_numbers numbered price_text digits
a_client_that_is_logged_on = refl

a_client_without_a_link : client_row 2 (codes "R&D") fund
    ≡ (codes "<tr><td><b>C" ++ decimal 2 ++ codes "</b><td>R&amp;D") ++ codes "<td class=\"d\">&ndash;"
    ++ codes "<td class=\"n d\">&ndash;" ++ (cell 0 ++ (cell 0 ++ cell 0) ++ cell 1 ++ cell 1 ++ codes "</tr>\n")
unfolding client_row client_numbers numbered price_text digits
a_client_without_a_link = refl

rows_are_numbered : client_rows 1 names (bank ∷ fund ∷ [])
    ≡ client_row 1 (codes "BANK") bank ++ (client_row 2 (codes "R&D") fund ++ [])
rows_are_numbered = refl

abbrev first_port : PortRow
first_port = record { link = Some 2; state = LoggingIn; next = 1 }

abbrev second_port : PortRow
second_port = record { link = Some 4; state = Up; next = 88 }

abbrev third_port : PortRow
third_port = record { link = None; state = Down; next = 5 }

abbrev addresses : List (List ℕ)
addresses = codes "10.1.1.5:1" ∷ codes "10.1.1.6:2" ∷ codes "10.1.1.7:3" ∷ []

two_ports_of_three_are_alarms : alarms 1 addresses (first_port ∷ second_port ∷ third_port ∷ [])
    ≡ (codes "<div class=\"alarm\"><b>P" ++ decimal 1 ++ codes "</b> at 10.1.1.5:1" ++ codes " is <b>logging in</b>"
    ++ codes "</div>\n")
    ++ ((codes "<div class=\"alarm\"><b>P" ++ decimal 3 ++ codes "</b> at 10.1.1.7:3" ++ codes " is <b>down</b>"
    ++ codes "</div>\n") ++ [])
unfolding alarm numbered standing
two_ports_of_three_are_alarms = refl
