-- What each port and each client of settings that are served has.
use Rattle.std.specs.Prelude.{ℕ, ◌≤◌, length}
use Rattle.gate_law.specs.fix_fields.Field.{IsValue}
use Rattle.soup_session.specs.Table as port
use Rattle.gate_law.specs.Settings.{ClientSettings}

-- a session can log in so: a user of 1 to 6 bytes, a password of at most 10 (SoupBinTCP 3.00, "Login Request Packet")
abbrev pub CanLogIn : port.LoginTerms → Type 0
CanLogIn terms = (1 ≤ length terms.user) × (length terms.user ≤ 6) × (length terms.password ≤ 10)

-- its port is one of so many, numbered from 1
abbrev pub IsOnPort : ℕ → ClientSettings → Type 0
IsOnPort ports client = (1 ≤ client.terms.port) × (client.terms.port ≤ ports)

-- its name may be a field's value: it has no SOH (FIX 4.4 Volume 1, "FIX Tag=Value Syntax")
abbrev pub IsNamed : ClientSettings → Type 0
IsNamed client = IsValue client.comp
