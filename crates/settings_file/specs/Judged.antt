-- How a reading meets what is refused.
use Rattle.std.specs.Prelude.{◌≡◌, ◌≤◌, ⊤, ℕ, List, length, Option, None, Some, Result, Ok, Err, string_bytes}
use Rattle.settings_file.specs.declared.fault.Refusal.{Refusal}
use Rattle.settings_file.specs.declared.fault.SettingsFault.{SettingsFault}
use Rattle.settings_file.specs.declared.fault.SettingsFault.TheVariants as faults
use Rattle.settings_file.specs.declared.fault.SettingsTable.{SettingsTable}
use Rattle.settings_file.specs.Rules.{Refused, line_at}

-- a refusal, as the rules name it
abbrev pub seen : Refusal → Refused
seen r = record { table = r.table; key = string_bytes r.key }

-- it answers something where nothing is refused, and a refusal just where this is refused; want of memory says nothing
abbrev pub Judges : {T : Type 0} → Option Refused → Result T SettingsFault → Type 0
Judges refused (Ok given) = refused ≡ None
Judges refused (Err (faults.Refused r)) = refused ≡ Some (seen r)
Judges refused (Err (faults.NotToml line)) = ⊥
Judges refused (Err faults.NoMemory) = ⊤

-- it names this key of this table, unless memory ran out
abbrev pub IsRefusalOf : SettingsTable → List ℕ → SettingsFault → Type 0
IsRefusalOf of key (faults.Refused r) = seen r ≡ record { table = of; key = key }
IsRefusalOf of key (faults.NotToml line) = ⊥
IsRefusalOf of key faults.NoMemory = ⊤

-- it says that the text isn't TOML, and names the line of some place of it, unless memory ran out
abbrev pub IsNoToml : {T : Type 0} → List ℕ → Result T SettingsFault → Type 0
IsNoToml text (Ok given) = ⊥
IsNoToml text (Err (faults.Refused r)) = ⊥
IsNoToml text (Err (faults.NotToml line)) = (place : ℕ) × (place ≤ length text) × (line ≡ line_at place text)
IsNoToml text (Err faults.NoMemory) = ⊤
