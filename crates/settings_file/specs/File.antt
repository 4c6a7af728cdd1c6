-- What a settings file says, where nothing of it is refused.
use Rattle.std.specs.Prelude.{◌≡◌, true, None, ℕ, ◌+◌, ◌-◌, List, [], ◌∷◌, ◌++◌, map, length, replicate, codes}
use Rattle.std.specs.Prelude.{if◌then◌else◌, unwrap_or}
use Rattle.gate_settings.specs.soup_session.Table as port
use Rattle.gate_law.specs.order_law.History.{Terms}
use Rattle.gate_law.specs.Settings.{ClientSettings, Settings}
use Rattle.gate_law.specs.Limits.{is_served}
use Rattle.toml.specs.Data.{Data}
use Rattle.settings_file.specs.Rules.{is_this, refused, tables_at, text_in}

-- the core's settings; the address of each port and where each client is listened for, in their order
pub record FileSettings : Type 0 where
  pub settings : Settings
  pub addresses : List (List ℕ)
  pub listens : List (List ℕ)

-- the text of a key, empty where there is none
abbrev pub text_at : List ℕ → Data → List ℕ
text_at key t = unwrap_or (text_in key t) []

-- with what a port is logged in
abbrev pub login_of : List ℕ → List ℕ → port.LoginTerms
login_of user password = record { user = user; password = password }

abbrev pub login_at : Data → port.LoginTerms
login_at t = login_of (text_at (codes "user") t) (text_at (codes "password") t)

-- the number, from 1, of the first of these ports that has a name; one more than there are where none has
abbrev pub number_of_name : List Data → List ℕ → ℕ
number_of_name [] name = 1
number_of_name (t ∷ ts) name = if is_this name (text_in (codes "name") t) then 1 else number_of_name ts name + 1

-- a firm is padded right with spaces to 4 bytes
abbrev pub padded_firm : List ℕ → List ℕ
padded_firm firm = firm ++ replicate (4 - length firm) 32

-- the first byte of a text
abbrev pub first_byte : List ℕ → ℕ
first_byte [] = 0
first_byte (byte ∷ rest) = byte

-- what a client's orders are entered with: on this port, by this firm, in this capacity, for this kind of customer
abbrev pub terms_at : ℕ → List ℕ → List ℕ → List ℕ → Terms
terms_at port firm capacity customer = record {
  port = port;
  capacity = first_byte capacity;
  standing = record { firm = padded_firm firm; customer = first_byte customer };
}

-- a client of this name
abbrev pub client_of : List ℕ → Terms → ClientSettings
client_of comp terms = record { comp = comp; terms = terms }

-- a client's name and terms, beside these ports
abbrev pub client_at : List Data → Data → ClientSettings
client_at ports t =
    client_of (text_at (codes "comp") t)
    (terms_at (number_of_name ports (text_at (codes "port") t)) (text_at (codes "firm") t)
    (text_at (codes "capacity") t) (text_at (codes "customer") t))

abbrev pub file_settings : Data → FileSettings
file_settings file =
    let ports = tables_at (codes "port") file in
    let clients = tables_at (codes "client") file in
    record {
      settings = record {
        comp = text_at (codes "comp") file;
        ports = map login_at ports;
        clients = map (client_at ports) clients;
      };
      addresses = map (text_at (codes "address")) ports;
      listens = map (text_at (codes "listen")) clients;
    }

-- what isn't refused is served by the core
abbrev pub WhatIsNotRefusedIsServed : Type 0
WhatIsNotRefusedIsServed = (file : Data) → refused file ≡ None → is_served (file_settings file).settings ≡ true
