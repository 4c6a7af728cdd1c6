-- When what is read is what a file says.
use Rattle.std.specs.Prelude.{◌≡◌, ⊤, ℕ, List, take, codes, Option, None, Some}
use Rattle.std.specs.Prelude.{Result, Ok, Err, option_map, string_bytes}
use Rattle.toml.specs.Data.{Data, get}
use Rattle.operator_settings.specs.declared.fault.OperatorFault.{OperatorFault}
use Rattle.operator_settings.specs.declared.fault.OperatorFault.TheVariants as faults
use Rattle.operator_settings.specs.declared.settings.ControlSettings.{ControlSettings}
use Rattle.operator_settings.specs.declared.settings.DaySettings.{DaySettings}
use Rattle.operator_settings.specs.Rules.{any_text_in, ends_in, inside, is_address, linger_in, text_in, token_for}

-- The first key of the tables that is wrong is named. Where none is, only `from` of a client may be.
abbrev pub JudgesTables : {T : Type 0} → Option (List ℕ) → Result T OperatorFault → Type 0
JudgesTables None (Ok given) = ⊤
JudgesTables (Some key) (Ok given) = ⊥
JudgesTables None (Err (faults.Refused k)) = take 7 (string_bytes k) ≡ codes "client["
JudgesTables (Some key) (Err (faults.Refused k)) = string_bytes k ≡ key
JudgesTables key (Err faults.NoMemory) = ⊤

-- only `from` of a client is refused
abbrev pub OnlyFrom : OperatorFault → Type 0
OnlyFrom (faults.Refused k) = take 7 (string_bytes k) ≡ codes "client["
OnlyFrom faults.NoMemory = ⊤

-- what `day` says
pub record IsDay (file : Data) (d : DaySettings) : Type 0 where
  pub ends : Some d.ends ≡ ends_in (inside (codes "day") (codes "ends") file)
  pub linger : Some d.linger ≡ linger_in (inside (codes "day") (codes "linger") file)

-- what `control` says
pub record IsControlOf (t : Data) (c : ControlSettings) : Type 0 where
  pub listen : Some (string_bytes c.listen) ≡ text_in is_address (get (codes "listen") t)
  pub token : Some (option_map string_bytes c.token) ≡ token_for (string_bytes c.listen) (get (codes "token") t)
  pub host : Some (option_map string_bytes c.host) ≡ any_text_in is_address (get (codes "host") t)

-- where it is there
abbrev pub IsControl : Option Data → Option ControlSettings → Type 0
IsControl None None = ⊤
IsControl None (Some c) = ⊥
IsControl (Some t) None = ⊥
IsControl (Some t) (Some c) = IsControlOf t c
